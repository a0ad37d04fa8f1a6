use Rattle.std.proofs.Common.{◌≡◌, [], ◌∙◌}
use Rattle.std.proofs.lemmas.Result.{IfOk-weaker}
use Rattle.view_spec.specs.Kept.{kept}
use Rattle.flat_live.proofs.Splits.{found_ok, splits_unsplit}
use Rattle.flat_live.proofs.header.paths_of.Goals as goal

pub returns-then-is_empty : goal.returns-then-is_empty
returns-then-is_empty c = λ pairs h keys.
    IfOk-weaker c.splits_of.result _ _ (λ paths is. is ∙ splits_unsplit c.args.plan.now c.deref.result.now (kept c.args.plan.now pairs) (c.is_empty.ensures.0 c.if-is_empty.true)) c.splits_of.ensures

pub returns : goal.returns
returns c = λ pairs h keys.
    found_ok c.split_paths.result (λ paths. paths.items) c.args.plan.now pairs c.args.rows.now
    (λ (e : c.args.plan.now.split_by ≡ []). let t = c.is_empty.ensures.1 e in let f = c.if-is_empty.false in absurd (cc)) (record { keys = keys; differ = c.len-count.ensures.live.differ; kept = h })
    c.split_paths.ensures.ascend c.split_paths.ensures.told
