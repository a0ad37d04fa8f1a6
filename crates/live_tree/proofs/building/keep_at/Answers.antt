use Rattle.std.proofs.Common.{List, refl, sym, ap, subst, ◌∙◌}
use Rattle.row_batch.specs.Batches.{pair_of}
use Rattle.row_batch.specs.declared.batch.Pair.{Pair}
use Rattle.view_spec.specs.Kept.{full_pair, full_row}
use Rattle.pivot_tree.specs.Trees.{CanAddRow}
use Rattle.flat_show.proofs.RowLaws.{no_place}
use Rattle.group_show.proofs.KeptRows.{can_add}
use Rattle.live_tree.specs.Rows.{kept_of, with_kept}
use Rattle.std.proofs.Common.{Some}
use Rattle.live_tree.proofs.KeptChanges.{kept_next, ok_map}
use Rattle.live_tree.proofs.building.keep_at.Goals as goal

pub keep-requires : goal.keep-requires
keep-requires g c =
    let table = c.args.table.now in
    let plan = c.args.plan.now in
    let p = pair_of c.in-Some.key.now c.in-Some.row.now in (
      table.schema.columns,
      c.requires.tree,
      subst (λ (rs : List Pair). CanAddRow table.schema.columns plan rs (full_pair plan p)) (sym c.requires.rows)
          (can_add table.schema plan table.store c.args.i p p.key (full_row plan p.row) c.requires.fits c.len-count.ensures.table (sym c.in-Some.ensures.pair) refl refl),
    )

pub returns-in-Some-clause-tree : goal.returns-in-Some-clause-tree
returns-in-Some-clause-tree g c =
    let table = c.args.table.now in
    let plan = c.args.plan.now in
    let p = pair_of c.in-Some.key.now c.in-Some.row.now in
    c.keep.ensures.tree table.schema.columns c.requires.tree
    (subst (λ (rs : List Pair). CanAddRow table.schema.columns plan rs (full_pair plan p)) (sym c.requires.rows)
    (can_add table.schema plan table.store c.args.i p p.key (full_row plan p.row) c.requires.fits c.len-count.ensures.table (sym c.in-Some.ensures.pair) refl refl))

pub returns-in-Some-clause-rows : goal.returns-in-Some-clause-rows
returns-in-Some-clause-rows g c =
    let plan = c.args.plan.now in
    let p = pair_of c.in-Some.key.now c.in-Some.row.now in
    ok_map c.keep.result
    (λ h. h ∙ ap (λ (rs : List Pair). with_kept rs p.key (kept_of plan (Some p.row))) c.requires.rows ∙ kept_next plan c.args.table.now.store.pairs c.args.i p (sym c.in-Some.ensures.pair))
    c.keep.ensures.rows

pub returns-in-None-clause-rows : goal.returns-in-None-clause-rows
returns-in-None-clause-rows g c = absurd (no_place c.args.table.now.store.pairs c.args.i (sym c.in-None.ensures.pair) c.requires.within)
