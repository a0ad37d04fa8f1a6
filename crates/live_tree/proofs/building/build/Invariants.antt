use Rattle.std.proofs.Common.{◌≡◌, take}
use Rattle.table_core.specs.Lookups.{pairs_of}
use Rattle.view_spec.specs.Kept.{kept}
use Rattle.pivot_tree.specs.Trees.{IsTreeOf}
use Rattle.live_tree.proofs.building.build.Given as goal

abbrev pub invariant-loop-i : goal.invariant-loop-i
invariant-loop-i g l = record {
  tree : IsTreeOf l.table.schema.columns l.plan l.tree (pairs_of l.rows.entries);
  rows : pairs_of l.rows.entries ≡ kept l.plan (take l.i l.table.store.pairs);
}
