-- Comparisons that tie a value with itself alone, as the order of a `Placed` does.
use Rattle.std.specs.Prelude.{◌≡◌, [], ◌∷◌, refl}
use Rattle.std.specs.declared.cmp.Ordering.{Ordering}
use Rattle.std.specs.declared.cmp.Ordering.TheVariants.{Less, Equal, Greater}
use Rattle.std.specs.Ordering.{nat_cmp, ordering_then, on}
use Rattle.std.specs.Cmp.Lexicographic.{slice_cmp}
use Rattle.std.proofs.lemmas.Cmp.{ranked, by_ranked}

abbrev pub IsExact : {T : Type 0} → (T → T → Ordering) → Type 0
IsExact {T} order = (x y : T) → order x y ≡ Equal → x ≡ y

pub IsExact-nat_cmp : IsExact nat_cmp
IsExact-nat_cmp x y tie =
    by_ranked _ _ _ (nat_cmp x y) (ranked x y (nat_cmp x y) refl) (λ less _. cc) (λ _ same. same) (λ greater _. cc)

-- two comparisons in turn tie where both do
pub Equal-from_then : (first second : Ordering) → ordering_then first second ≡ Equal → (first ≡ Equal) × (second ≡ Equal)
Equal-from_then Less second tie = absurd (cc)
Equal-from_then Equal second tie = (refl, tie)
Equal-from_then Greater second tie = absurd (cc)

-- a comparison by a key that tells all values apart
pub IsExact-on : {T K : Type 0} (key : T → K) (order : K → K → Ordering) → IsExact order → ((x y : T) → key x ≡ key y → x ≡ y) → IsExact (on key order)
IsExact-on key order exact apart x y tie = apart x y (exact (key x) (key y) tie)

-- lists compared item by item
pub IsExact-slice_cmp : {T : Type 0} (order : T → T → Ordering) → IsExact order → IsExact (slice_cmp order)
IsExact-slice_cmp order exact [] [] tie = refl
IsExact-slice_cmp order exact [] (y ∷ ys) tie = absurd (cc)
IsExact-slice_cmp order exact (x ∷ xs) [] tie = absurd (cc)
IsExact-slice_cmp order exact (x ∷ xs) (y ∷ ys) tie =
    let both = Equal-from_then (order x y) (slice_cmp order xs ys) tie in
    let first = exact x y both.0 in
    let rest = IsExact-slice_cmp order exact xs ys both.1 in
    cc
