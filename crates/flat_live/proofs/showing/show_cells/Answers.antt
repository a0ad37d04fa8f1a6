use Rattle.std.proofs.Common.{sym, ◌∙◌, ap, add-one, get_or}
use Rattle.std.specs.Option.{option_copied}
use Rattle.std.proofs.lemmas.Option.{slice_get-get_or}
use Rattle.view_columns.specs.Headers.{under}
use Rattle.view_spec.specs.Cells.{head_at}
use Rattle.flat_live.proofs.Shows.{cells_end, cells_more, head_there}
use Rattle.flat_live.proofs.showing.show_cells.Goals.{in-Some+in_ok-text+in_ok-value+in_ok-put_value, in_default}
use Rattle.flat_live.proofs.showing.show_cells.Goals as goal

pub loop-i-preserved : goal.loop-i-preserved
loop-i-preserved c = elim c.match-get.branch [
  | in-Some+in_ok-text+in_ok-value+in_ok-put_value w ↦
      let items = c.as_slice-column-items.result.now in
      let column = get_or items c.loop-i.i 0 in
      rw (w.shown-is, w.in_ok-put_value.ensures, w.in_ok-value.ensures, w.in_ok-text.ensures, w.as_slice.ensures, w.column_name-name.ensures, add-one)
      (cells_more (under c.args.columns.now c.args.plan.now c.args.row.now.split) c.args.row.now.cells c.loop-i.i (head_at c.args.columns.now c.args.plan.now c.args.row.now.split column) w.in-Some.cell.now c.loop-i.shown
      (head_there c.args.columns.now c.args.plan.now c.args.row.now.split items c.loop-i.i column c.as_slice-column-items.ensures (slice_get-get_or items c.loop-i.i 0 c.loop-i-test.true))
      (sym w.in-Some.ensures.value) ∙ c.loop-i.invariant)
  | in_default w ↦
      rw (w.shown-is, add-one)
      (cells_end (under c.args.columns.now c.args.plan.now c.args.row.now.split) c.args.row.now.cells c.loop-i.i c.loop-i.shown (sym c.get.ensures.value ∙ ap option_copied w.in_default.is) ∙ c.loop-i.invariant)
]
