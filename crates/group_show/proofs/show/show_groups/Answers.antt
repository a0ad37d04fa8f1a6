use Rattle.std.proofs.Common.{◌≡◌, List, [], fold, map, sym, ap, ◌∙◌, subst}
use Rattle.cell_core.specs.declared.cell.Cell.{Cell}
use Rattle.cell_core.specs.declared.schema.Column.{Column}
use Rattle.row_batch.specs.declared.batch.Pair.{Pair}
use Rattle.plan_types.specs.declared.plan.Plan.{Plan}
use Rattle.view_types.specs.Rows.{AreShownRows}
use Rattle.view_spec.specs.Kept.{kept}
use Rattle.view_spec.specs.Members.{splits}
use Rattle.view_spec.specs.Views.{placed}
use Rattle.view_spec.specs.declared.placed.PlacedRow.{PlacedRow}
use Rattle.view_spec.proofs.LiveLaws.{shown_rows}
use Rattle.view_columns.specs.Headers.{each_under}
use Rattle.view_columns.specs.declared.headers.SplitColumns.{SplitColumns}
use Rattle.view_kept.specs.Steps.{side_of}
use Rattle.group_walk.specs.Levels.{IsShape}
use Rattle.group_show.specs.Entries.{put_entry}
use Rattle.group_show.proofs.MetGroups.{met_entries}
use Rattle.group_show.proofs.ShownEntries.{entries_placed}
use Rattle.group_show.proofs.show.show_groups.Goals as goal

-- the columns under the split paths of the kept rows
under_splits : (columns asked : List Column) (plan : Plan) (rows : List Pair) (paths : List (List Cell)) (lent made : List SplitColumns) → asked ≡ columns → paths ≡ splits plan rows → lent ≡ made
    → made ≡ each_under asked plan paths → lent ≡ each_under columns plan (splits plan rows)
under_splits columns asked plan rows paths lent made same are is put = is ∙ put ∙ (λ i. each_under (same i) plan (are i))

pub from_listed-requires : goal.from_listed-requires
from_listed-requires g c =
    let table = c.args.table.now in
    let plan = c.args.plan.now in
    let s = side_of plan c.args.opening.now table in
    let columns = table.schema.columns in
    let kept_rows = kept plan table.store.pairs in
    let asked : c.columns.result.now ≡ columns = c.columns.ensures ∙ ap (λ t. t.columns) c.schema.ensures in
    let shape : IsShape columns plan c.deref.result.now c.in_ok-tree.tree kept_rows = record {
      splits_are = under_splits columns c.columns.result.now plan kept_rows c.in_ok-splits.splits.items c.deref.result.now c.in_ok-columns.columns.items asked
          (c.in_ok-splits.ensures columns plan kept_rows c.in_ok-tree.ensures) c.deref.ensures.value c.in_ok-columns.ensures;
      tree_is = c.in_ok-tree.ensures;
    } in
    let rows : c.from_vec.result ≡ placed s =
    c.from_vec.ensures ∙ c.in_ok-rows.ensures ∙ entries_placed s (fold put_entry [] c.in_ok-met.met.items) c.requires.grouped
    (met_entries columns plan s.opening kept_rows c.new-told.result c.new-was.result c.in_ok-met.met.items c.new-told.ensures c.new-was.ensures (c.in_ok-met.ensures.met columns kept_rows shape)) in
    subst (λ (rs : List PlacedRow). AreShownRows (map (λ (p : PlacedRow). p.row) rs)) (sym rows) (shown_rows s c.len-count.ensures.table.distinct)

pub returns-clause-header : goal.returns-clause-header
returns-clause-header g c =
    let table = c.args.table.now in
    let plan = c.args.plan.now in
    let columns = table.schema.columns in
    let kept_rows = kept plan table.store.pairs in
    let asked : c.columns.result.now ≡ columns = c.columns.ensures ∙ ap (λ t. t.columns) c.schema.ensures in
    c.in_ok-header_of.ensures columns plan (splits plan kept_rows)
    (under_splits columns c.columns.result.now plan kept_rows c.in_ok-splits.splits.items c.deref-2.result.now c.in_ok-columns.columns.items asked
    (c.in_ok-splits.ensures columns plan kept_rows c.in_ok-tree.ensures) c.deref-2.ensures.value c.in_ok-columns.ensures)

pub returns-clause-rows : goal.returns-clause-rows
returns-clause-rows g c =
    let table = c.args.table.now in
    let plan = c.args.plan.now in
    let s = side_of plan c.args.opening.now table in
    let columns = table.schema.columns in
    let kept_rows = kept plan table.store.pairs in
    let asked : c.columns.result.now ≡ columns = c.columns.ensures ∙ ap (λ t. t.columns) c.schema.ensures in
    let shape : IsShape columns plan c.deref.result.now c.in_ok-tree.tree kept_rows = record {
      splits_are = under_splits columns c.columns.result.now plan kept_rows c.in_ok-splits.splits.items c.deref.result.now c.in_ok-columns.columns.items asked
          (c.in_ok-splits.ensures columns plan kept_rows c.in_ok-tree.ensures) c.deref.ensures.value c.in_ok-columns.ensures;
      tree_is = c.in_ok-tree.ensures;
    } in
    c.from_listed.ensures ∙ c.from_vec.ensures ∙ c.in_ok-rows.ensures
    ∙ entries_placed s (fold put_entry [] c.in_ok-met.met.items) c.requires.grouped
    (met_entries columns plan s.opening kept_rows c.new-told.result c.new-was.result c.in_ok-met.met.items c.new-told.ensures c.new-was.ensures (c.in_ok-met.ensures.met columns kept_rows shape))
