-- The order of keys is that of the derived comparison, is total, and tells each two keys apart.
use Rattle.std.proofs.Common.{◌≡◌, ◌≢◌, true, false, List, [], ◌∷◌, Less, Equal, Greater, Ordering, refl, ap}
use Rattle.std.proofs.lemmas.Bool.{false_from_ne_true}
use Rattle.std.proofs.lemmas.Cmp.{lists_total, tied_itself}
use Rattle.std.proofs.lemmas.Map.Lookups.{CmpEqualImpliesEq}
use Rattle.std.specs.Cmp.{IsTotalOrder, eq_by_cmp_equiv}
use Rattle.std.specs.Cmp.Lexicographic.{slice_cmp}
use Rattle.std.specs.Ordering.{is_eq, ordering_reverse, ordering_then}
use Rattle.value_core.specs.ValueLaws.{then_left, then_right}
use Rattle.cell_core.proofs.CellOrder as cells
use Rattle.cell_core.specs.contracts.cell.CellOrd.TheImpl as by_cell
use Rattle.cell_core.specs.Cells.{cell_order}
use Rattle.view_types.specs.declared.key.ViewKey.{ViewKey}
use Rattle.view_types.specs.declared.key.ViewKey.TheVariants.{Row, Group}
use Rattle.view_types.specs.Keys.{key_order, same_key}
use Rattle.view_types.specs.contracts.key.ViewKeyOrd.TheImpl.{ghosts}

-- ---- lists by an order of their items

lists_by : {X : Type 0} (R S : X → X → Ordering) → ((a b : X) → R a b ≡ S a b) → (xs ys : List X) → slice_cmp R xs ys ≡ slice_cmp S xs ys
lists_by R S same [] [] = refl
lists_by R S same [] (y ∷ ys) = refl
lists_by R S same (x ∷ xs) [] = refl
lists_by R S same (x ∷ xs) (y ∷ ys) = λ i. ordering_then (same x y i) (lists_by R S same xs ys i)

pub exact_lists : {X : Type 0} (R : X → X → Ordering) → CmpEqualImpliesEq R → CmpEqualImpliesEq (slice_cmp R)
exact_lists R each [] [] h = refl
exact_lists R each [] (y ∷ ys) h = absurd (let wrong : Less ≡ Equal = h in cc)
exact_lists R each (x ∷ xs) [] h = absurd (let wrong : Greater ≡ Equal = h in cc)
exact_lists R each (x ∷ xs) (y ∷ ys) h =
    let first : x ≡ y = each x y (then_left (R x y) (slice_cmp R xs ys) h) in
    let rest : xs ≡ ys = exact_lists R each xs ys (then_right (R x y) (slice_cmp R xs ys) h) in
    λ i. first i ∷ rest i

-- ---- keys

pub derived_order : (a b : ViewKey) → ghosts.cmp a b ≡ key_order a b
derived_order (Row a) (Row b) = cells.derived_order a b
derived_order (Row a) (Group b) = refl
derived_order (Group a) (Row b) = refl
derived_order (Group a) (Group b) = lists_by by_cell.ghosts.cmp cell_order cells.derived_order a b

-- the derived comparison is the order of keys
pub derived : ghosts.cmp ≡ key_order
derived = λ i a b. derived_order a b i

pub exact : CmpEqualImpliesEq key_order
exact (Row a) (Row b) h = ap Row (cells.exact a b h)
exact (Row a) (Group b) h = absurd (let wrong : Less ≡ Equal = h in cc)
exact (Group a) (Row b) h = absurd (let wrong : Greater ≡ Equal = h in cc)
exact (Group a) (Group b) h = ap Group (exact_lists cell_order cells.exact a b h)

turned : (x y : ViewKey) → key_order x y ≡ ordering_reverse (key_order y x)
turned (Row a) (Row b) = cells.total.antisymm a b
turned (Row a) (Group b) = refl
turned (Group a) (Row b) = refl
turned (Group a) (Group b) = (lists_total cells.total).antisymm a b

chained : (x y z : ViewKey) → key_order x y ≡ Less → key_order y z ≡ Less → key_order x z ≡ Less
chained (Row a) (Row b) (Row c) p q = cells.total.trans a b c p q
chained (Row a) (Row b) (Group c) p q = refl
chained (Row a) (Group b) (Row c) p q = absurd (let wrong : Greater ≡ Less = q in cc)
chained (Row a) (Group b) (Group c) p q = refl
chained (Group a) (Row b) (Row c) p q = absurd (let wrong : Greater ≡ Less = p in cc)
chained (Group a) (Row b) (Group c) p q = absurd (let wrong : Greater ≡ Less = p in cc)
chained (Group a) (Group b) (Row c) p q = absurd (let wrong : Greater ≡ Less = q in cc)
chained (Group a) (Group b) (Group c) p q = (lists_total cells.total).trans a b c p q

pub total : IsTotalOrder key_order
total = record {
  antisymm = turned;
  trans = chained;
  congr = λ x y z p. ap (λ k. key_order k z) (exact x y p);
}

-- ---- keys that are the same

pub equal_from_is_eq : (o : Ordering) → is_eq o ≡ true → o ≡ Equal
equal_from_is_eq Less h = cc
equal_from_is_eq Equal h = refl
equal_from_is_eq Greater h = cc

pub same_key_is_equal : (a b : ViewKey) → same_key a b ≡ true → a ≡ b
same_key_is_equal a b h = exact a b (equal_from_is_eq (key_order a b) h)

pub same_key_itself : (a : ViewKey) → same_key a a ≡ true
same_key_itself a = ap is_eq (tied_itself total a)

pub same_key-symm : (a b : ViewKey) → same_key a b ≡ same_key b a
same_key-symm a b = (eq_by_cmp_equiv total).symm a b

pub same_key-other : (a b : ViewKey) → a ≢ b → same_key a b ≡ false
same_key-other a b other = false_from_ne_true (same_key a b) (λ h. other (same_key_is_equal a b h))
