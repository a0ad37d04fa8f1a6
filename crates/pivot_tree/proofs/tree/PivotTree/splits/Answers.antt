use Rattle.std.proofs.Common.{sym, ◌∙◌, arith}
use Rattle.std.proofs.lemmas.Result.{IfOk-weaker}
use Rattle.pivot_tree.proofs.SplitPaths.{none_split, some_split, splits_found, splits_unsplit}
use Rattle.pivot_tree.proofs.tree.PivotTree.splits.Goals as goal

pub returns-then-not-is_empty : goal.returns-then-not-is_empty
returns-then-not-is_empty c =
    let tree = c.args.self.now in
    IfOk-weaker c.split_paths.result _ _
    (λ paths is columns plan rows h.
    splits_found columns plan tree rows paths.items (some_split tree.split_by.items plan.split_by tree.split_by.len (omega arith) h.split_by (sym c.is_empty.ensures ∙ c.if-not-is_empty.true)) is c.split_paths.ensures.ascend h)
    c.split_paths.ensures.paths

pub returns : goal.returns
returns c columns plan rows h =
    let tree = c.args.self.now in
    splits_unsplit plan rows c.new.result c.new-paths.result.items c.push.new.self.items
    (none_split tree.split_by.items plan.split_by tree.split_by.len (omega arith) h.split_by (sym c.is_empty.ensures ∙ c.if-not-is_empty.false)) c.new.ensures c.new-paths.ensures.items c.in_ok-push.ensures.items
