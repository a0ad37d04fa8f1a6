use Rattle.std.proofs.Common.{rules, not}
use Rattle.std.proofs.lemmas.Fn.{filter_same}
use Rattle.std.specs.List.{list_any}
use Rattle.cell_core.specs.Cells.{same_cell}
use Rattle.row_batch.specs.declared.batch.Pair.{Pair}
use Rattle.row_batch.proofs.rows.drop_keys.Goals as goal

pub returns : goal.returns
returns c = filter_same _ (λ (p : Pair). not (list_any (same_cell p.key) c.args.keys.now)) _ (λ x b f' k. search rules) _ _ c.retain.ensures.filtered
