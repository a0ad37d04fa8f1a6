use Rattle.std.proofs.Common.{◌∙◌, sym, ap}
use Rattle.std.specs.BTreeMap.{insert_entry}
use Rattle.std.specs.Ordering.{nat_cmp}
use Rattle.delta_core.proofs.PutRows.{placed_absent, placed_under, row_or_none}
use Rattle.delta_core.proofs.making.place_row.Goals as goal

pub returns-in_default-clause-rows : goal.returns-in_default-clause-rows
returns-in_default-clause-rows g c keys so_far =
    so_far ∙ sym (placed_absent keys c.args.key.now 0 (g.V.ShownNow.shown c.args.view.now).rows (sym c.position.ensures.position ∙ c.in_default.is))

pub returns-in_ok-insert-clause-rows : goal.returns-in_ok-insert-clause-rows
returns-in_ok-insert-clause-rows g c keys so_far =
    let rows = (g.V.ShownNow.shown c.args.view.now).rows in
    c.in_ok-insert.ensures.entries
    ∙ ap (λ es. insert_entry nat_cmp es c.in-Some.position c.in-Some-2.row) so_far
    ∙ placed_under keys c.args.key.now rows c.in-Some.position c.in-Some-2.row c.position.ensures.rows
    (sym c.position.ensures.position ∙ c.in-Some.is) (sym c.in_ok-row.ensures ∙ c.in-Some-2.is)

pub returns-in_default-2-clause-rows : goal.returns-in_default-2-clause-rows
returns-in_default-2-clause-rows g c keys so_far =
    absurd (row_or_none c.args.key.now (g.V.ShownNow.shown c.args.view.now).rows c.in-Some.position (sym c.position.ensures.position ∙ c.in-Some.is) (sym c.in_ok-row.ensures ∙ c.in_default-2.is))
