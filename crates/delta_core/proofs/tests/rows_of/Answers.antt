use Rattle.std.proofs.Common.{◌≡◌, ◌∙◌, sym, ap, false}
use Rattle.view_types.specs.Rows.{IsMarked}
use Rattle.delta_core.specs.Rows.{has_row}
use Rattle.delta_core.proofs.FoldRows.{pushed_shown}
use Rattle.delta_core.proofs.tests.rows_of.Goals as goal

pub loop-key-preserved : goal.loop-key-preserved
loop-key-preserved c =
    let row = c.in_ok-row.row in
    let mark : IsMarked row.key row.mark = rw c.in_ok-row.ensures.key c.in_ok-row.ensures.mark in
    let none : has_row row.key c.loop-key.rows.items ≡ false = ap (has_row row.key) (sym c.deref.ensures.value) ∙ sym c.holds.ensures ∙ c.if-holds.false in
    rw c.in_ok-push.ensures.items (pushed_shown c.loop-key.rows.items row c.loop-key.invariant none mark)
