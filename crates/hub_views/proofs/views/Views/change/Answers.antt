use Rattle.std.proofs.Common.{refl, sym, ap, ◌∙◌, position}
use Rattle.hub_spec.proofs.Giving.{err_body}
use Rattle.hub_views.specs.Keeping.{is_kept}
use Rattle.hub_views.proofs.Asked.{asks_change, change_finds_none}
use Rattle.hub_views.proofs.Changes.{placed_change_gives, views_made}
use Rattle.hub_views.proofs.views.Views.change.Goals as goal

pub returns-in_default-clause-gives : goal.returns-in_default-clause-gives
returns-in_default-clause-gives g c = λ version past h few.
    let a = c.args in
    rw c.no_view.ensures
    (change_finds_none a.self.now a.table.now past a.session a.view a.change.now h.0
    (ap (position (is_kept a.session a.view)) (sym c.as_slice.ensures.value) ∙ sym c.place_of.ensures ∙ c.in_default.is))

pub returns-in_err-edit-clause-gives : goal.returns-in_err-edit-clause-gives
returns-in_err-edit-clause-gives g c = λ version past h few.
    let a = c.args in
    rw (err_body _ _ c.from_residual.ensures)
    (placed_change_gives a.self.now _ past a.session a.view c.in-Some.place version _ _ a.table.now c.index_mut.result.now c.change.new.self _ h.0 h.1 few
    (asks_change past a.session a.view version a.change.now a.table.now h.1 (views_made a.self.now a.table.now past h.0))
    (ap (position (is_kept a.session a.view)) (sym c.as_slice.ensures.value) ∙ sym c.place_of.ensures ∙ c.in-Some.is)
    c.index_mut.ensures.value c.in_err-edit.ensures refl refl)

pub returns-clause-gives : goal.returns-clause-gives
returns-clause-gives g c = λ version past h few.
    let a = c.args in
    placed_change_gives a.self.now _ past a.session a.view c.in-Some.place version _ _ a.table.now c.index_mut.result.now c.change.new.self _ h.0 h.1 few
    (asks_change past a.session a.view version a.change.now a.table.now h.1 (views_made a.self.now a.table.now past h.0))
    (ap (position (is_kept a.session a.view)) (sym c.as_slice.ensures.value) ∙ sym c.place_of.ensures ∙ c.in-Some.is)
    c.index_mut.ensures.value c.in_ok-edit.ensures refl refl
