use Rattle.std.proofs.Common.{rules, not}
use Rattle.std.proofs.lemmas.Fn.{filter_same}
use Rattle.cell_core.specs.Cells.{same_cell}
use Rattle.row_batch.specs.declared.batch.Pair.{Pair}
use Rattle.row_batch.proofs.rows.drop_key.Goals as goal

pub returns : goal.returns
returns c = filter_same _ (λ (p : Pair). not (same_cell c.args.key.now p.key)) _ (λ x b f' k. search rules) _ _ c.retain.ensures.filtered
