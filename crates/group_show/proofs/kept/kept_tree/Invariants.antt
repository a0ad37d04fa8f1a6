use Rattle.std.proofs.Common.{take}
use Rattle.view_spec.specs.Kept.{kept}
use Rattle.pivot_tree.specs.Trees.{IsTreeOf}
use Rattle.group_show.proofs.kept.kept_tree.Given as goal

abbrev pub invariant-loop-i : goal.invariant-loop-i
invariant-loop-i g l = IsTreeOf l.table.schema.columns l.plan l.tree (kept l.plan (take l.i l.table.store.pairs))
