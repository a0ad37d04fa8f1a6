-- Lists in which nothing stands twice: parts of them, what ascends, and one item more.
use Rattle.std.proofs.Common.{◌≡◌, ◌≢◌, Bool, true, false, cond, List, [], ◌∷◌, ◌++◌, map, filter, Ordering, Less, Equal, sym, ◌∙◌, ap}
use Rattle.std.specs.Cmp.{IsTotalOrder}
use Rattle.std.specs.List.{All}
use Rattle.std.specs.List.Sorted.{IsStrictlySortedBy}
use Rattle.std.proofs.lemmas.Cmp.{tied_itself}
use Rattle.std.proofs.lemmas.List.Elements.{All-nil, All-cons, All-head, All-tail, All-map, All-weaker, All-filter, All-from_recursion}
use Rattle.std.proofs.lemmas.Map.Keys.{sorted_head, sorted_tail}
use Rattle.plain_data.specs.Distinct.{AreDistinct}
use Rattle.view_types.specs.Rows.{AreShownRows, IsMarked}
use Rattle.view_types.specs.declared.shown.ShownRow.{ShownRow}

pub All-unmap : {X Y : Type 0} (P : Y → Type 0) (f : X → Y) (xs : List X) → All P (map f xs) → All (λ x. P (f x)) xs
All-unmap P f [] h = All-nil (λ x. P (f x))
All-unmap P f (x ∷ xs) h =
    All-cons (λ x. P (f x)) x xs (All-head P (f x) (map f xs) h) (All-unmap P f xs (All-tail P (f x) (map f xs) h))

pub All-insert : {X : Type 0} (P : X → Type 0) (before after : List X) (x : X) → All P (before ++ after) → P x → All P (before ++ x ∷ after)
All-insert P [] after x h p = All-cons P x after p h
All-insert P (y ∷ before) after x h p =
    All-cons P y (before ++ x ∷ after) (All-head P y (before ++ after) h)
    (All-insert P before after x (All-tail P y (before ++ after) h) p)

pub AreDistinct-filter : {X K : Type 0} (key : X → K) (p : X → Bool) (xs : List X) → AreDistinct (map key xs) → AreDistinct (map key (filter p xs))
AreDistinct-filter key p [] h = tt
AreDistinct-filter key p (x ∷ xs) h =
    elim (p x) as (λ b. AreDistinct (map key (cond b (x ∷ filter p xs) (filter p xs)))) [
      | true ↦ (All-map (λ y. y ≢ key x) key (filter p xs) (All-filter p (λ y. key y ≢ key x) xs (All-unmap (λ y. y ≢ key x) key xs h.0)), AreDistinct-filter key p xs h.1)
      | false ↦ AreDistinct-filter key p xs h.1
    ]

-- what ascends strictly has nothing twice
pub AreDistinct-from_ascending : {K : Type 0} (R : K → K → Ordering) → IsTotalOrder R → (ks : List K) → IsStrictlySortedBy R ks → AreDistinct ks
AreDistinct-from_ascending R o [] h = tt
AreDistinct-from_ascending R o (k ∷ ks) h = (
  All-weaker (λ y. R k y ≡ Less) (λ y. y ≢ k)
      (λ y less same. let wrong : Less ≡ Equal = sym less ∙ ap (λ z. R k z) same ∙ tied_itself o k in cc)
      ks (All-from_recursion (λ y. R k y ≡ Less) ks (sorted_head R k ks h)),
  AreDistinct-from_ascending R o ks (sorted_tail R k ks h),
)

pub AreDistinct-insert : {X : Type 0} (before after : List X) (x : X) → AreDistinct (before ++ after) → All (λ y. y ≢ x) (before ++ after) → AreDistinct (before ++ x ∷ after)
AreDistinct-insert [] after x h apart = (apart, h)
AreDistinct-insert (y ∷ before) after x h apart =
    let other : x ≢ y = λ same. All-head (λ z. z ≢ x) y (before ++ after) apart (sym same) in
    (All-insert (λ z. z ≢ y) before after x h.0 other, AreDistinct-insert before after x h.1 (All-tail (λ z. z ≢ x) y (before ++ after) apart))

-- some of the rows that may be shown together
pub AreShownRows-filter : (p : ShownRow → Bool) (rows : List ShownRow) → AreShownRows rows → AreShownRows (filter p rows)
AreShownRows-filter p rows h = record {
  distinct = AreDistinct-filter (λ r. r.key) p rows h.distinct;
  marked = All-filter p (λ (r : ShownRow). IsMarked r.key r.mark) rows h.marked;
}
