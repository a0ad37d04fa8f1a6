use Rattle.std.proofs.Common.{Some, None, ap, ◌∙◌}
use Rattle.view_spec.specs.Openings.{is_open}
use Rattle.view_shape.proofs.SingleLaws.{open_found}
use Rattle.view_shape.proofs.open_state.OpenState.is_open_at.Goals as goal

pub returns-in-Some : goal.returns-in-Some
returns-in-Some c =
    open_found c.self.inside.depth c.self.inside.singles.entries c.args.path.now (Some c.in-Some.opened.now) c.in-Some.ensures.value ∙ ap (λ o. is_open o c.args.path.now) c.self.view_is

pub returns-in-None : goal.returns-in-None
returns-in-None c =
    open_found c.self.inside.depth c.self.inside.singles.entries c.args.path.now None c.in-None.ensures.value ∙ ap (λ o. is_open o c.args.path.now) c.self.view_is
