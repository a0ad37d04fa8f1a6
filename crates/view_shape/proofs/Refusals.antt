-- Which refusal is answered.
use Rattle.std.proofs.Common.{◌≡◌, ℕ, ◌<◌, ◌≤◌, Result, Ok, Err, sym, ◌∙◌, arith}
use Rattle.std.specs.Prelude.{◌↔◌}
use Rattle.view_shape.specs.declared.open_state.OpenRefused.{OpenRefused}
use Rattle.view_shape.specs.declared.open_state.OpenRefused.TheVariants as refused

-- fewer than the bound: another refusal than that there are too many, or none
pub few_others : (result : Result (Unit {0}) OpenRefused) (count bound : ℕ) → count < bound → (result ≡ Err refused.TooManyOpen → ⊥)
    → (result ≡ Err refused.TooManyOpen) ↔ (bound ≤ count)
few_others result count bound few another = ((λ is. absurd (another is)), (λ many. absurd (omega arith)))

pub wants_memory : (result : Result (Unit {0}) OpenRefused) (error : OpenRefused) → result ≡ Err error → error ≡ refused.Memory → result ≡ Err refused.TooManyOpen → ⊥
wants_memory result error is memory many = let wrong : ◌≡◌ {A = Result (Unit {0}) OpenRefused} (Err refused.Memory) (Err refused.TooManyOpen) = (λ i. Err (sym memory i)) ∙ sym is ∙ many in cc

pub done_is_no_refusal : ◌≡◌ {A = Result (Unit {0}) OpenRefused} (Ok tt) (Err refused.TooManyOpen) → ⊥
done_is_no_refusal is = cc
