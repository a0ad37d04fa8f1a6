use Rattle.std.proofs.Common.{refl, sym, ap, ◌∙◌, find}
use Rattle.std.specs.Option.{option_copied}
use Rattle.hub_views.specs.Keeping.{is_kept}
use Rattle.hub_views.proofs.Told.{closed_gives, view_is_missing}
use Rattle.hub_views.proofs.views.Views.close.Goals as goal

pub returns-in_default-clause-gives : goal.returns-in_default-clause-gives
returns-in_default-clause-gives c = λ t past h few.
    let a = c.args in
    let found = sym (ap (find (is_kept a.session a.view)) c.as_slice.ensures.value) ∙ sym c.find_view.ensures ∙ ap option_copied c.in_default.is in
    rw c.no_view.ensures (view_is_missing a.self.now t past a.session a.view h found)

pub returns-clause-gives : goal.returns-clause-gives
returns-clause-gives c = λ t past h few.
    let a = c.args in
    let found = sym (ap (find (is_kept a.session a.view)) c.as_slice.ensures.value) ∙ sym c.find_view.ensures ∙ ap option_copied c.in-Some.is in
    closed_gives a.self.now _ t past a.session a.view _ h found refl c.drop_view.ensures
