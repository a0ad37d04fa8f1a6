-- Where a caller speaks for every session, nothing comes between its calls.
use Rattle.std.proofs.Common.{◌≡◌, ℕ, List, [], ◌∷◌, ◌++◌, Bool, true, true≢false, refl, sym, ap, ◌∙◌, subst}
use Rattle.std.specs.Prelude.{not, ◌&&◌}
use Rattle.frame_types.specs.Asks.{Ask}
use Rattle.frame_types.specs.ReplyData.{ReplyData}
use Rattle.hub_spec.specs.Histories.{Entry}
use Rattle.hub_spec.specs.Runs.{AnswersOneStep}
use Rattle.hub_spec.specs.Callers.{Calls, SpeaksForAll, is_foreign_to}

pub nothing_between : (speaks : ℕ → Bool) (others : List Entry) → SpeaksForAll speaks → is_foreign_to speaks others ≡ true → others ≡ []
nothing_between speaks [] all h = refl
nothing_between speaks (e ∷ others) all h = absurd (true≢false (sym h ∙ ap (λ b. not b && is_foreign_to speaks others) (all e.session)))

pub steps_alone : (limit : ℕ) (speaks : ℕ → Bool) (h : List Entry) (session : ℕ) (request : Ask) (reply : ReplyData) (Stands : List Entry → Type 0)
    → SpeaksForAll speaks → Calls limit speaks h session request reply Stands → AnswersOneStep limit h session request reply Stands
steps_alone limit speaks h session request reply Stands all c = subst (λ l. AnswersOneStep limit (l ++ h) session request reply Stands) (nothing_between speaks c.others all c.foreign) c.step
