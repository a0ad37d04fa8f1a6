use Rattle.pivot_tree.proofs.Rows.{HasRow-from, IsApart-from}
use Rattle.pivot_tree.proofs.laws.keys_tell_rows.Goals as goal

pub returns : goal.returns
returns c = record { found = HasRow-from; missing = IsApart-from }
