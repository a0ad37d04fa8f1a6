-- What a value put into an ascending list of entries makes of it, by the place that a search for its key gives; and
-- that the list still ascends.
use Rattle.std.proofs.Common.{◌≡◌, ℕ, zero, suc, ◌+◌, ◌<◌, ◌≤◌, List, [], ◌∷◌, length, get_or, Ordering, Less, Equal, Greater, refl, sym, ap, ◌∙◌, subst, arith}
use Rattle.std.proofs.lemmas.List.{get_or-map, length-map}
use Rattle.std.proofs.lemmas.List.Sorted.{searchable_from_sorted}
use Rattle.std.proofs.lemmas.Map.Keys.{Less-from_sorted}
use Rattle.std.proofs.Math.ListN.{set}
use Rattle.std.specs.BTreeMap.{insert_entry}
use Rattle.std.specs.Cmp.{IsTotalOrder}
use Rattle.std.specs.List.{AllByRecursion, AllWithin, HoldsAt, insert}
use Rattle.std.specs.List.Sorted.{IsNonDecreasingBy, IsSortedBy, IsStrictlySortedBy}
use Rattle.std.specs.Map.{keys_of}
use Rattle.std.specs.Ordering.{is_lt, match_ordering, ordering_index, ordering_reverse}

all_behind : {K : Type 0} {R : K → K → Ordering} → IsTotalOrder R → (k x : K) (xs : List K) → R k x ≡ Less → AllByRecursion (λ y. R x y ≡ Less) xs → AllByRecursion (λ y. R k y ≡ Less) xs
all_behind o k x [] less all = tt
all_behind o k x (y ∷ ys) less all = (o.trans k x y less all.0, all_behind o k x ys less all.1)

-- where nothing stands, keys ascend
pub none_ascend : {K X : Type 0} (R : K → K → Ordering) (es : List (K × X)) → es ≡ [] → IsStrictlySortedBy R (keys_of es)
unfolding IsStrictlySortedBy
none_ascend R es none = subst (λ z. IsStrictlySortedBy R (keys_of z)) (sym none) tt

module _ {K X : Type 0} {R : K → K → Ordering} (o : IsTotalOrder R) where
  -- ---- at its place

  -- an entry more between those below and those above it
  pub put_at_gap : (es : List (K × X)) (k : K) (v : X) (i : ℕ) → i ≤ length es → AllWithin (λ e. R e.0 k ≡ Less) es 0 i → AllWithin (λ e. R e.0 k ≡ Greater) es i (length es)
      → insert es i (k, v) ≡ insert_entry R es k v
  put_at_gap [] k v zero within below above = refl
  put_at_gap [] k v (suc i) within below above = absurd (omega arith)
  put_at_gap (e ∷ es) k v zero within below above =
      let first : R k e.0 ≡ Less = o.antisymm k e.0 ∙ ap ordering_reverse (above 0 e (omega arith) (omega arith)) in
      rw first refl
  put_at_gap (e ∷ es) k v (suc i) within below above =
      let first : R k e.0 ≡ Greater = o.antisymm k e.0 ∙ ap ordering_reverse (below 0 e (omega arith) (omega arith)) in
      let later : insert es i (k, v) ≡ insert_entry R es k v =
      put_at_gap es k v i (omega arith) (λ j d low high. below (suc j) d (omega arith) (omega arith)) (λ j d low high. above (suc j) d (omega arith) (omega arith)) in
      rw first (ap (λ z. e ∷ z) later)

  key_at : (P : K → Type 0) (es : List (K × X)) (i : ℕ) (d : K × X) → i < length es → AllByRecursion P (keys_of es) → P (get_or es i d).0
  key_at P [] i d within all = absurd (omega arith)
  key_at P (e ∷ es) zero d within all = all.0
  key_at P (e ∷ es) (suc i) d within all = key_at P es i d (omega arith) all.1

  -- a value in place of that of an entry under the same key
  pub put_at_place : (es : List (K × X)) (k : K) (v : X) (i : ℕ) (d : K × X) → i < length es → IsStrictlySortedBy R (keys_of es) → HoldsAt (λ e. R e.0 k ≡ Equal) es i
      → set es i ((get_or es i d).0, v) ≡ insert_entry R es k v
  unfolding IsStrictlySortedBy
  put_at_place [] k v i d within up here = absurd (omega arith)
  put_at_place (e ∷ es) k v zero d within up here =
      let first : R k e.0 ≡ Equal = o.antisymm k e.0 ∙ ap ordering_reverse (here d) in
      rw first refl
  put_at_place (e ∷ es) k v (suc i) d within up here =
      let found : K = (get_or es i d).0 in
      let less : R e.0 found ≡ Less = key_at (λ y. R e.0 y ≡ Less) es i d (omega arith) up.0 in
      let first : R k e.0 ≡ Greater = sym (o.congr found k e.0 (here d)) ∙ o.antisymm found e.0 ∙ ap ordering_reverse less in
      let later : set es i (found, v) ≡ insert_entry R es k v = put_at_place es k v i d (omega arith) up.1 here in
      rw first (ap (λ z. e ∷ z) later)

  -- ---- a search may be made

  at_map : (es : List (K × X)) (i : ℕ) (d : K × X) → i < length es → get_or (keys_of es) i d.0 ≡ (get_or es i d).0
  at_map es i d within = get_or-map (λ (e : K × X). e.0) es i d d.0 within

  pub keys_rise : (es : List (K × X)) → IsStrictlySortedBy R (keys_of es) → IsSortedBy (λ a b. is_lt (R a.0 b.0)) es
  keys_rise es up i d low high =
      let less : R (get_or (keys_of es) i d.0) (get_or (keys_of es) (i + 1) d.0) ≡ Less =
      Less-from_sorted R (keys_of es) i (i + 1) d.0 up (omega arith) (omega (arith, length-map es (λ (e : K × X). e.0))) in
      let by_entries : R (get_or es i d).0 (get_or es (i + 1) d).0 ≡ Less = rw (at_map es i d (omega arith), at_map es (i + 1) d high) at less in
      ap is_lt (o.antisymm (get_or es (i + 1) d).0 (get_or es i d).0 ∙ ap ordering_reverse by_entries)

  pub searchable : (es : List (K × X)) (k : K) → IsStrictlySortedBy R (keys_of es) → IsNonDecreasingBy (λ e. ordering_index (R e.0 k)) es
  searchable es k up = searchable_from_sorted o (λ (e : K × X). e.0) es k (keys_rise es up)

  -- ---- keys still ascend

  all_step : (P : K → Type 0) (e : K × X) (es : List (K × X)) (k : K) (v : X) (c : Ordering) → P k → AllByRecursion P (keys_of (e ∷ es)) → AllByRecursion P (keys_of (insert_entry R es k v))
      → AllByRecursion P (keys_of (match_ordering c ((k, v) ∷ e ∷ es) ((e.0, v) ∷ es) (e ∷ insert_entry R es k v)))
  all_step P e es k v Less here all later = (here, all)
  all_step P e es k v Equal here all later = all
  all_step P e es k v Greater here all later = (all.0, later)

  all_put : (P : K → Type 0) (es : List (K × X)) (k : K) (v : X) → P k → AllByRecursion P (keys_of es) → AllByRecursion P (keys_of (insert_entry R es k v))
  all_put P [] k v here all = (here, tt)
  all_put P (e ∷ es) k v here all = all_step P e es k v (R k e.0) here all (all_put P es k v here all.1)

  ascends_step : (e : K × X) (es : List (K × X)) (k : K) (v : X) (c : Ordering) → R k e.0 ≡ c → IsStrictlySortedBy R (keys_of (e ∷ es)) → IsStrictlySortedBy R (keys_of (insert_entry R es k v))
      → IsStrictlySortedBy R (keys_of (match_ordering c ((k, v) ∷ e ∷ es) ((e.0, v) ∷ es) (e ∷ insert_entry R es k v)))
  unfolding IsStrictlySortedBy
  ascends_step e es k v Less is up later = ((is, all_behind o k e.0 (keys_of es) is up.0), up)
  ascends_step e es k v Equal is up later = up
  ascends_step e es k v Greater is up later =
      (all_put (λ y. R e.0 y ≡ Less) es k v (o.antisymm e.0 k ∙ ap ordering_reverse is) up.0, later)

  pub insert_entry-ascends : (es : List (K × X)) (k : K) (v : X) → IsStrictlySortedBy R (keys_of es) → IsStrictlySortedBy R (keys_of (insert_entry R es k v))
  unfolding IsStrictlySortedBy
  insert_entry-ascends [] k v up = (tt, tt)
  insert_entry-ascends (e ∷ es) k v up = ascends_step e es k v (R k e.0) refl up (insert_entry-ascends es k v up.1)
