use Rattle.std.proofs.Common.{◌<◌, length, refl, subst, rules}
use Rattle.cell_core.specs.Limits.{max_rows}
use Rattle.row_batch.specs.Batches.{pair_of}
use Rattle.row_batch.specs.Changes.{FitsColumns}
use Rattle.table_core.specs.Lookups.{pairs_of}
use Rattle.pivot_tree.specs.Trees.{CanAddRow}
use Rattle.live_tree.proofs.MapRows.{may_put}
use Rattle.live_tree.proofs.settling.put_in.Goals as goal

pub put-requires : goal.put-requires
put-requires g c =
    let columns = c.args.columns.now in
    let old = c.args.rows.now.entries in
    let room : length old < max_rows = search rules in
    let typed : FitsColumns columns c.args.row.now = subst (FitsColumns columns) c.as_slice-else-len.ensures (c.if-not-fits_columns.ensures refl) in (
      columns,
      c.args.plan.now,
      c.requires.tree,
      may_put columns c.args.plan.now old c.args.key.now c.in_ok-copy.field-0 c.args.row.now c.in_ok-full.full c.requires.fits c.requires.absent room typed c.in_ok-copy.ensures c.in_ok-full.ensures,
    )

pub returns-clause-tree : goal.returns-clause-tree
returns-clause-tree g c =
    let columns = c.args.columns.now in
    let old = c.args.rows.now.entries in
    let room : length old < max_rows = search rules in
    let typed : FitsColumns columns c.args.row.now = subst (FitsColumns columns) c.as_slice-else-len.ensures (c.if-not-fits_columns.ensures refl) in
    let can : CanAddRow columns c.args.plan.now (pairs_of old) (pair_of c.in_ok-copy.field-0 c.in_ok-full.full) =
    may_put columns c.args.plan.now old c.args.key.now c.in_ok-copy.field-0 c.args.row.now c.in_ok-full.full c.requires.fits c.requires.absent room typed c.in_ok-copy.ensures c.in_ok-full.ensures in
    c.put.ensures.tree columns c.args.plan.now c.requires.tree can

pub returns-clause-steps : goal.returns-clause-steps
returns-clause-steps g c = c.put.ensures.steps c.args.columns.now c.args.plan.now c.requires.tree
