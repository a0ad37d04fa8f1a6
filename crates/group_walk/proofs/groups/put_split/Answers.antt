use Rattle.std.proofs.Common.{◌≡◌, Some, None, is_some, length, refl, sym, ap, ◌∙◌}
use Rattle.std.specs.List.{slice_get}
use Rattle.std.proofs.lemmas.Option.{slice_get_past, slice_get_read}
use borrow.Author.Tests.{ltb-false, ltb-true}
use Rattle.view_spec.specs.Members.{members, within}
use Rattle.view_spec.specs.Places.{rows_value}
use Rattle.group_walk.proofs.ShownGroups.{cells_end, cells_more, head_text, no_head, uses_shown}
use Rattle.group_walk.proofs.groups.put_split.Goals as goal
use Rattle.group_walk.proofs.groups.put_split.Goals.{in-Some+in_ok-value+in_ok-put_value, in_default}

pub loop-i-preserved : goal.loop-i-preserved
loop-i-preserved c columns path rows is head =
    let plan = c.args.plan.now in
    let split = c.args.one.now.split in
    let header = c.as_slice-header.result.now in
    let heads = c.as_slice-header.ensures ∙ head in
    let items = c.as_slice-column-items.result.now in
    let i = c.loop-i.i in
    let value_at = rows_value columns plan (within plan split (members plan rows path)) in
    elim c.match-get.branch [
      | in-Some+in_ok-value+in_ok-put_value w ↦
          let found : slice_get header i ≡ Some w.in-Some.head.now =
          slice_get_read header (length header) i w.in-Some.head.now refl (ltb-true i (length header) (sym w.in-Some.ensures.lookup.0)) w.in-Some.ensures.lookup.1 in
          cells_more columns plan split value_at items i c.loop-i.cells c.match-get.cells w.in-Some.head.now.text w.in_ok-value.value c.loop-i-test.true
          (head_text columns plan split header items i w.in-Some.head.now heads c.as_slice-column-items.ensures c.loop-i-test.true found)
          (w.in_ok-value.ensures columns plan path rows is (uses_shown plan items i c.as_slice-column-items.ensures c.loop-i-test.true))
          (w.cells-is ∙ w.in_ok-put_value.ensures) ∙ c.loop-i.invariant columns path rows is head
      | in_default w ↦
          let past : slice_get header i ≡ None = slice_get_past header i (ltb-false i (length header) (sym c.get.ensures.lookup.0 ∙ ap is_some w.in_default.is)) in
          absurd (no_head columns plan split header items i heads c.as_slice-column-items.ensures c.loop-i-test.true past)
    ]

pub returns : goal.returns
returns c columns path rows is head =
    let plan = c.args.plan.now in
    let items = c.as_slice-column-items.result.now in
    let split = c.args.one.now.split in
    cells_end columns plan split (rows_value columns plan (within plan split (members plan rows path))) items c.loop-i.i c.args.cells.now c.loop-i.cells c.as_slice-column-items.ensures c.loop-i-test.false (c.loop-i.invariant columns path rows is head)
