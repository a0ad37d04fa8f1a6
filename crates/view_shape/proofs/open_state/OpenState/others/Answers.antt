use Rattle.std.proofs.Common.{ap, ◌∙◌}
use Rattle.view_shape.specs.Singles.{other_singles}
use Rattle.view_shape.proofs.SingleLaws.{others_alone, others_beside}
use Rattle.view_shape.proofs.open_state.OpenState.others.Goals as goal

pub returns-then-contains_key : goal.returns-then-contains_key
returns-then-contains_key c =
    others_beside c.self.inside.singles.entries c.args.path.now c.len-count.result c.contains_key.result c.len-count.ensures.ordered c.len-count.ensures.len c.contains_key.ensures c.if-contains_key.true
    ∙ ap (λ o. other_singles o c.args.path.now) c.self.view_is

pub returns-else-contains_key : goal.returns-else-contains_key
returns-else-contains_key c =
    others_alone c.self.inside.singles.entries c.args.path.now c.len-count.result c.contains_key.result c.len-count.ensures.ordered c.len-count.ensures.len c.contains_key.ensures c.if-contains_key.false
    ∙ ap (λ o. other_singles o c.args.path.now) c.self.view_is
