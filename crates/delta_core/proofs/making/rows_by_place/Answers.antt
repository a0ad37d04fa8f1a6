use Rattle.std.proofs.Common.{◌∙◌, sym, ap, refl, subst, ◌∷◌, [], ◌++◌}
use Rattle.std.proofs.lemmas.List.{append_assoc}
use Rattle.std.specs.Map.{values_of}
use Rattle.view_types.specs.Rows.{AreShownRows}
use Rattle.delta_core.proofs.PutRows.{none_shown, placed_none, placed_shown}
use Rattle.delta_core.proofs.making.rows_by_place.Goals as goal

pub loop-key-init : goal.loop-key-init
loop-key-init g c =
    let empty = c.new-by_place.ensures.empty in
    (([], refl, empty ∙ sym (placed_none (g.V.ShownNow.shown c.args.view.now).rows)), none_shown c.new-by_place.result.entries empty)

pub loop-key-preserved : goal.loop-key-preserved
loop-key-preserved g c =
    let before = c.loop-key.invariant.0 in
    let key = c.in-Some.key.now in
    let put = c.in_ok-place_row.ensures.rows before.0 before.2 in (
      (
        before.0 ++ key ∷ [],
        append_assoc before.0 (key ∷ []) c.next.new.self ∙ ap (λ z. before.0 ++ z) (sym c.in-Some.ensures.steps) ∙ before.1,
        put,
      ),
      subst (λ es. AreShownRows (values_of es)) (sym put) (placed_shown (before.0 ++ key ∷ []) (g.V.ShownNow.shown c.args.view.now).rows c.in_ok-place_row.ensures.shown),
    )
