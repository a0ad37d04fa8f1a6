use Rattle.std.proofs.Common.{◌-◌, map, ap, ◌∙◌}
use Rattle.std.proofs.lemmas.List.{take_all}
use Rattle.view_spec.specs.declared.placed.PlacedRow.{PlacedRow}
use Rattle.plain_kept.proofs.PlainLaws.{part_rows}
use Rattle.plain_kept.proofs.plain.rows_between.Goals as goal

pub returns : goal.returns
returns c =
    c.loop-row.invariant
    ∙ ap (map (λ (p : PlacedRow). p.row)) (take_all c.loop-row.row-index c.rows_at-part.result.now c.loop-row-test.false ∙ c.rows_at-part.ensures)
    ∙ part_rows (c.args.to - c.args.from) c.args.from c.args.rows.now
