use Rattle.std.proofs.Common.{◌≡◌, ap, ◌∙◌, subst, ◌<◌, Ok}
use Rattle.std.proofs.lemmas.Result.{err_from_is_err_and}
use Rattle.view_shape.specs.Singles.{other_singles}
use Rattle.view_shape.proofs.Refusals.{done_is_no_refusal, few_others, wants_memory}
use Rattle.view_shape.proofs.open_state.OpenState.set_single.Goals as goal

pub returns-in_err-key-clause-too_many : goal.returns-in_err-key-clause-too_many
returns-in_err-key-clause-too_many c =
    let made = err_from_is_err_and c.from_residual.result c.from_residual.ensures.1 in
    let count : c.others.result ≡ other_singles c.args.self.now c.args.path.now = c.others.ensures ∙ ap (other_singles c.args.self.now) c.as_slice.ensures in
    few_others c.from_residual.result (other_singles c.args.self.now c.args.path.now) 4096 (subst (λ n. n < 4096) count c.if-others-ge-MAX_SINGLES.false)
    (wants_memory c.from_residual.result made.0 made.1 made.2)

pub returns-in_err-put-clause-too_many : goal.returns-in_err-put-clause-too_many
returns-in_err-put-clause-too_many c =
    let made = err_from_is_err_and c.from_residual-in_err-put.result c.from_residual-in_err-put.ensures.1 in
    let count : c.others.result ≡ other_singles c.args.self.now c.args.path.now = c.others.ensures ∙ ap (other_singles c.args.self.now) c.as_slice.ensures in
    few_others c.from_residual-in_err-put.result (other_singles c.args.self.now c.args.path.now) 4096 (subst (λ n. n < 4096) count c.if-others-ge-MAX_SINGLES.false)
    (wants_memory c.from_residual-in_err-put.result made.0 made.1 made.2)

pub returns-clause-too_many : goal.returns-clause-too_many
returns-clause-too_many c =
    let count : c.others.result ≡ other_singles c.args.self.now c.args.path.now = c.others.ensures ∙ ap (other_singles c.args.self.now) c.as_slice.ensures in
    few_others (Ok tt) (other_singles c.args.self.now c.args.path.now) 4096 (subst (λ n. n < 4096) count c.if-others-ge-MAX_SINGLES.false) done_is_no_refusal
