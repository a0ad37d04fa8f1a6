-- A map into which ascending entries go one by one.
use Rattle.std.proofs.Common.{◌≡◌, List, [], ◌∷◌, ◌++◌, Less, Greater, Ordering, refl, sym, ap, ◌∙◌, subst}
use Rattle.std.proofs.lemmas.List.{append_assoc}
use Rattle.std.specs.BTreeMap.{insert_entry}
use Rattle.std.specs.Cmp.{IsTotalOrder}
use Rattle.std.specs.List.{AllByRecursion}
use Rattle.std.specs.List.Sorted.{IsStrictlySortedBy}
use Rattle.std.specs.Map.{keys_of}
use Rattle.std.specs.Ordering.{ordering_reverse, match_ordering}

module _ {K X : Type 0} {R : K → K → Ordering} (o : IsTotalOrder R) where
  above_each : (k z : K) (v : X) (es rest : List (K × X)) → AllByRecursion (λ y. R z y ≡ Less) (keys_of (es ++ (k, v) ∷ rest)) → R z k ≡ Less
  above_each k z v [] rest h = h.0
  above_each k z v (e ∷ es) rest h = above_each k z v es rest h.1

  -- a key above all others goes to the end
  pub insert_last : (es rest : List (K × X)) (k : K) (v : X) → IsStrictlySortedBy R (keys_of (es ++ (k, v) ∷ rest)) → insert_entry R es k v ≡ es ++ (k, v) ∷ []
  unfolding IsStrictlySortedBy
  insert_last [] rest k v sorted = refl
  insert_last (e ∷ es) rest k v sorted =
      let above : R k e.0 ≡ Greater = o.antisymm k e.0 ∙ ap ordering_reverse (above_each k e.0 v es rest sorted.0) in
      let later : insert_entry R es k v ≡ es ++ (k, v) ∷ [] = insert_last es rest k v sorted.1 in
      ap (λ r. match_ordering r ((k, v) ∷ e ∷ es) ((e.0, v) ∷ es) (e ∷ insert_entry R es k v)) above ∙ ap (λ z. e ∷ z) later

  -- a loop's step: the first entry that is left goes in
  pub copied_more : (all done left more copy : List (K × X)) (e : K × X) → IsStrictlySortedBy R (keys_of all) → done ++ left ≡ all → left ≡ e ∷ more → copy ≡ insert_entry R done e.0 e.1 → copy ++ more ≡ all
  copied_more all done left more copy e sorted so_far first put =
      let split : done ++ e ∷ more ≡ all = ap (λ z. done ++ z) (sym first) ∙ so_far in
      let last : insert_entry R done e.0 e.1 ≡ done ++ e ∷ [] = insert_last done more e.0 e.1 (subst (λ z. IsStrictlySortedBy R (keys_of z)) (sym split) sorted) in
      ap (λ z. z ++ more) (put ∙ last) ∙ append_assoc done (e ∷ []) more ∙ split
