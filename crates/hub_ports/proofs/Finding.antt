-- What a search for a port tells where it finds none, and where it finds one.
use Rattle.std.proofs.Common.{◌≡◌, ℕ, ◌<◌, eqb, ltb, Bool, true, false, cond, List, length, Option, Some, None, position, refl, sym, ap, ◌∙◌, arith, subst}
use Rattle.std.specs.Prelude.{IfSome}
use Rattle.std.specs.List.{list_any, position_or_len}
use Rattle.std.proofs.lemmas.Bool.{eqb-true}
use Rattle.std.proofs.lemmas.Bool.Decides.{nat_tests}
use Rattle.std.proofs.lemmas.List.Elements.{All-from_get_or}
use Rattle.std.proofs.lemmas.List.Folds.{list_any_none}
use Rattle.std.proofs.lemmas.List.Quantifiers.{position-Some}
use Rattle.std.proofs.lemmas.List.Sums.{fails_before_first}
use Rattle.port_queue.specs.Queues.{empty_queue}
use Rattle.hub_ports.specs.Ports.{port_at, port_of}
use Rattle.hub_ports.specs.declared.ports.Port.{Port}

past_end : (b : Bool) (n : ℕ) → cond b (Some n) None ≡ None → b ≡ false
past_end true n h = absurd (let wrong : Some n ≡ None = h in cc)
past_end false n h = refl

none_found : (test : Port → Bool) (ps : List Port) → position test ps ≡ None → list_any test ps ≡ false
none_found test ps h =
    let any = port_of 0 empty_queue in
    let past : ltb (position_or_len test ps) (length ps) ≡ false = past_end _ _ h in
    let fails = λ (k : ℕ) (lt : k < length ps). fails_before_first test ps k any (grind (arith, nat_tests, past, lt)) in
    list_any_none test ps (All-from_get_or (λ p. test p ≡ false) ps any fails)

one_found : (number : ℕ) (ps : List Port) (place : ℕ) → position (λ p. eqb p.number number) ps ≡ Some place
    → (place < length ps) × ((port_at ps place).number ≡ number)
one_found number ps place h =
    let found = position-Some (λ p. eqb p.number number) ps place (port_of 0 empty_queue) h in
    (found.0, eqb-true (port_at ps place).number number found.1)

pub found_in : (number : ℕ) (ps live : List Port) (r : Option ℕ) → r ≡ position (λ p. eqb p.number number) ps → ps ≡ live
    → IfSome r (λ place. (port_at live place).number ≡ number)
found_in number ps live None e same = tt
found_in number ps live (Some place) e same =
    let Is : List Port → Type 0 = λ xs. (port_at xs place).number ≡ number in
    subst Is same (one_found number ps place (sym e)).1

pub missing_in : (number : ℕ) (ps live : List Port) (r : Option ℕ) → r ≡ position (λ p. eqb p.number number) ps → ps ≡ live → r ≡ None
    → list_any (λ p. eqb p.number number) live ≡ false
missing_in number ps live r e same none =
    ap (list_any (λ p. eqb p.number number)) (sym same) ∙ none_found (λ p. eqb p.number number) ps (sym e ∙ none)
