-- Windows of shown rows.
use Rattle.std.proofs.Common.{◌≡◌, ◌≢◌, ℕ, zero, suc, List, [], ◌∷◌, take, drop, map, ◌∙◌, ap, subst}
use Rattle.std.specs.List.{drop-map}
use Rattle.std.proofs.lemmas.List.{take-map}
use Rattle.std.proofs.lemmas.List.Elements.{All-drop, All-take}
use Rattle.plain_data.specs.Distinct.{AreDistinct}
use Rattle.view_types.specs.Rows.{AreShownRows, IsMarked}
use Rattle.view_types.specs.declared.shown.ShownRow.{ShownRow}

AreDistinct-take : {X : Type 0} (n : ℕ) (xs : List X) → AreDistinct xs → AreDistinct (take n xs)
AreDistinct-take zero xs h = tt
AreDistinct-take (suc n) [] h = tt
AreDistinct-take (suc n) (x ∷ xs) h = (All-take (λ y. y ≢ x) n xs h.0, AreDistinct-take n xs h.1)

AreDistinct-drop : {X : Type 0} (n : ℕ) (xs : List X) → AreDistinct xs → AreDistinct (drop n xs)
AreDistinct-drop zero xs h = h
AreDistinct-drop (suc n) [] h = tt
AreDistinct-drop (suc n) (x ∷ xs) h = AreDistinct-drop n xs h.1

-- at n positions behind the first k
AreDistinct-map-part : {X K : Type 0} (key : X → K) (n k : ℕ) (xs : List X) → AreDistinct (map key xs) → AreDistinct (map key (take n (drop k xs)))
AreDistinct-map-part key n k xs h =
    let same : take n (drop k (map key xs)) ≡ map key (take n (drop k xs)) = ap (λ part. take n part) (drop-map key k xs) ∙ take-map key n (drop k xs) in
    subst (λ ks. AreDistinct ks) same (AreDistinct-take n (drop k (map key xs)) (AreDistinct-drop k (map key xs) h))

pub shown_part : (rows : List ShownRow) (n k : ℕ) → AreShownRows rows → AreShownRows (take n (drop k rows))
shown_part rows n k h = record {
  distinct = AreDistinct-map-part (λ (r : ShownRow). r.key) n k rows h.distinct;
  marked = All-take (λ (r : ShownRow). IsMarked r.key r.mark) n (drop k rows) (All-drop (λ (r : ShownRow). IsMarked r.key r.mark) k rows h.marked);
}
