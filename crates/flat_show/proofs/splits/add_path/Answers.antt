use Rattle.std.proofs.Common.{List, Ordering, ap, ◌∙◌}
use Rattle.std.specs.BTreeSet.{insert_key}
use Rattle.cell_core.specs.declared.cell.Cell.{Cell}
use Rattle.flat_show.proofs.SplitLaws.{derived}
use Rattle.flat_show.proofs.splits.add_path.Goals as goal

pub returns : goal.returns
returns c = c.in_ok-insert.ensures.keys ∙ ap (λ (R : List Cell → List Cell → Ordering). insert_key R c.args.paths.now.keys c.args.path) derived
