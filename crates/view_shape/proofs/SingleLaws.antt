-- What a map of single openings gives.
use Rattle.std.proofs.Common.{◌≡◌, ℕ, suc, ◌+◌, ◌-◌, Bool, true, false, cond, List, [], ◌∷◌, ◌++◌, length, Option, Some, is_some, Ordering, Less, Equal, Greater, refl, sym, ◌∙◌, ap, subst, arith, Vec}
use Rattle.std.specs.Prelude.{count_by, nat_lt, not, unwrap_or}
use Rattle.std.specs.BTreeMap.{insert_entry, is_at}
use Rattle.std.specs.Cmp.Lexicographic.{slice_cmp}
use Rattle.std.specs.List.{AllByRecursion, IsDistinct}
use Rattle.std.specs.List.Sorted.{IsStrictlySortedBy}
use Rattle.std.specs.Map.{keys_of, lookup}
use Rattle.std.specs.Ordering.{match_ordering}
use Rattle.std.proofs.lemmas.Cmp.{eq_by_cmp_equiv, lists_total}
use Rattle.std.proofs.lemmas.List.Sums.{sum_by-cons}
use Rattle.std.proofs.lemmas.Map.{NonePasses}
use Rattle.std.proofs.lemmas.Map.Entries.{none_past_head}
use Rattle.std.proofs.lemmas.Map.Keys.{IsDistinct-from_sorted, IsDistinct-tail}
use Rattle.cell_core.proofs.CellOrder as cells
use Rattle.cell_core.specs.contracts.cell.CellOrd.TheImpl.{ghosts}
use Rattle.cell_core.specs.declared.cell.Cell.{Cell}
use Rattle.view_types.proofs.KeyOrder.{derived_order}
use Rattle.view_types.proofs.MapCopies.{copied_more}
use Rattle.view_types.specs.declared.key.ViewKey.TheVariants.{Group}
use Rattle.view_spec.specs.Openings.{Opening, is_open}
use Rattle.view_spec.specs.Paths.{path_order, same_path}
use Rattle.view_shape.specs.Singles.{by_path}

-- the derived comparison of cells gives the order of paths
pub derived : slice_cmp ghosts.cmp ≡ path_order
derived = λ i a b. derived_order (Group a) (Group b) i

-- ---- a look-up

lookup-by_path : {Z : Type 0} (R : List Cell → Ordering) (es : List (Vec Cell Z × Bool)) → lookup (is_at (λ k. R k.items)) es ≡ lookup (is_at R) (by_path es)
lookup-by_path R [] = refl
lookup-by_path R (e ∷ es) = ap (cond (is_at R e.0.items) (Some e.1)) (lookup-by_path R es)

pub single_found : {Z : Type 0} (es : List (Vec Cell Z × Bool)) (path : List Cell) (o : Option Bool) → o ≡ lookup (is_at (λ k. slice_cmp ghosts.cmp path k.items)) es
    → o ≡ lookup (same_path path) (by_path es)
single_found es path o found =
    found ∙ lookup-by_path (slice_cmp ghosts.cmp path) es ∙ ap (λ (R : List Cell → List Cell → Ordering). lookup (is_at (R path)) (by_path es)) derived

pub open_found : {Z : Type 0} (depth : ℕ) (es : List (Vec Cell Z × Bool)) (path : List Cell) (o : Option Bool) → o ≡ lookup (is_at (λ k. slice_cmp ghosts.cmp path k.items)) es
    → let opening : Opening = record { depth = depth; singles = by_path es } in unwrap_or o (nat_lt (length path) depth) ≡ is_open opening path
open_found depth es path o found = ap (λ f. unwrap_or f (nat_lt (length path) depth)) (single_found es path o found)

-- ---- an entry put in

chosen : {Z : Type 0} (o : Ordering) (a b c : List (Vec Cell Z × Bool)) → by_path (match_ordering o a b c) ≡ match_ordering o (by_path a) (by_path b) (by_path c)
chosen Less a b c = refl
chosen Equal a b c = refl
chosen Greater a b c = refl

by_path-insert_entry : {Z : Type 0} (R : List Cell → List Cell → Ordering) (es : List (Vec Cell Z × Bool)) (k : Vec Cell Z) (opened : Bool)
    → by_path (insert_entry (λ a b. R a.items b.items) es k opened) ≡ insert_entry R (by_path es) k.items opened
by_path-insert_entry R [] k opened = refl
by_path-insert_entry R (e ∷ es) k opened =
    chosen (R k.items e.0.items) ((k, opened) ∷ e ∷ es) ((e.0, opened) ∷ es) (e ∷ insert_entry (λ a b. R a.items b.items) es k opened)
    ∙ ap (λ rest. match_ordering (R k.items e.0.items) ((k.items, opened) ∷ (e.0.items, e.1) ∷ by_path es) ((e.0.items, opened) ∷ by_path es) ((e.0.items, e.1) ∷ rest)) (by_path-insert_entry R es k opened)

pub single_put : {Z : Type 0} (es new : List (Vec Cell Z × Bool)) (k : Vec Cell Z) (opened : Bool) → new ≡ insert_entry (λ a b. slice_cmp ghosts.cmp a.items b.items) es k opened
    → by_path new ≡ insert_entry path_order (by_path es) k.items opened
single_put es new k opened made =
    ap by_path made ∙ by_path-insert_entry (slice_cmp ghosts.cmp) es k opened ∙ ap (λ (R : List Cell → List Cell → Ordering). insert_entry R (by_path es) k.items opened) derived

-- ---- paths ascend

keys-by_path : {Z : Type 0} (R : List Cell → List Cell → Ordering) (es : List (Vec Cell Z × Bool)) → IsStrictlySortedBy (λ a b. R a.items b.items) (keys_of es) → IsStrictlySortedBy R (keys_of (by_path es))
unfolding IsStrictlySortedBy
keys-by_path R [] sorted = tt
keys-by_path {Z} R (e ∷ es) sorted = (each es sorted.0, keys-by_path R es sorted.1)
  where
    each : (fs : List (Vec Cell Z × Bool)) → AllByRecursion (λ y. R e.0.items y.items ≡ Less) (keys_of fs) → AllByRecursion (λ y. R e.0.items y ≡ Less) (keys_of (by_path fs))
    each [] all = tt
    each (f ∷ fs) all = (all.0, each fs all.1)

pub ascends : {Z : Type 0} (es : List (Vec Cell Z × Bool)) → IsStrictlySortedBy (λ a b. slice_cmp ghosts.cmp a.items b.items) (keys_of es) → IsStrictlySortedBy path_order (keys_of (by_path es))
ascends es sorted = subst (λ (R : List Cell → List Cell → Ordering). IsStrictlySortedBy R (keys_of (by_path es))) derived (keys-by_path (slice_cmp ghosts.cmp) es sorted)

-- ---- a copy

-- a loop's step: the first entry that is left goes in
pub single_copied : {Z : Type 0} (all done left more copy : List (Vec Cell Z × Bool)) (path key : Vec Cell Z) (opened : Bool)
    → IsStrictlySortedBy (λ a b. slice_cmp ghosts.cmp a.items b.items) (keys_of all) → by_path done ++ by_path left ≡ by_path all → left ≡ (path, opened) ∷ more → key.items ≡ path.items
    → copy ≡ insert_entry (λ a b. slice_cmp ghosts.cmp a.items b.items) done key opened → by_path copy ++ by_path more ≡ by_path all
single_copied all done left more copy path key opened sorted so_far first same made =
    copied_more (lists_total cells.total) (by_path all) (by_path done) (by_path left) (by_path more) (by_path copy) (path.items, opened) (ascends all sorted) so_far (ap by_path first)
    (single_put done copy key opened made ∙ ap (λ k. insert_entry path_order (by_path done) k opened) same)

-- ---- the others

other_first : (path : List Cell) (x : List Cell × Bool) (xs : List (List Cell × Bool))
    → count_by (λ s. not (same_path path s.0)) (x ∷ xs) ≡ cond (not (same_path path x.0)) 1 0 + count_by (λ s. not (same_path path s.0)) xs
other_first path x xs = sum_by-cons (λ (s : List Cell × Bool). cond (not (same_path path s.0)) 1 0) x xs

all_others : (path : List Cell) (xs : List (List Cell × Bool)) → NonePasses (same_path path) xs → count_by (λ s. not (same_path path s.0)) xs ≡ length xs
all_others path [] none = refl
all_others path (x ∷ xs) none =
    let head : cond {A = ℕ} (not (same_path path x.0)) 1 0 ≡ 1 = ap (λ b. cond (not b) 1 0) none.0 in
    other_first path x xs ∙ omega (arith, head, all_others path xs none.1)

others_counted : (path : List Cell) (xs : List (List Cell × Bool)) → IsDistinct same_path (keys_of xs)
    → count_by (λ s. not (same_path path s.0)) xs + cond (is_some (lookup (same_path path) xs)) 1 0 ≡ length xs
others_counted path [] differ = refl
others_counted path (x ∷ xs) differ =
    ap (λ n. n + cond (is_some (lookup (same_path path) (x ∷ xs))) 1 0) (other_first path x xs)
    ∙ by (same_path path x.0) refl (others_counted path xs (IsDistinct-tail same_path x.0 (keys_of xs) differ))
  where
    by : (b : Bool) → same_path path x.0 ≡ b → count_by (λ s. not (same_path path s.0)) xs + cond (is_some (lookup (same_path path) xs)) 1 0 ≡ length xs
        → cond (not b) 1 0 + count_by (λ s. not (same_path path s.0)) xs + cond (is_some (cond b (Some x.1) (lookup (same_path path) xs))) 1 0 ≡ length (x ∷ xs)
    by true is later = omega (arith, all_others path xs (none_past_head (eq_by_cmp_equiv (lists_total cells.total)) path x xs differ is))
    by false is later = omega (arith, later)

length-by_path : {Z : Type 0} (es : List (Vec Cell Z × Bool)) → length (by_path es) ≡ length es
length-by_path [] = refl
length-by_path (e ∷ es) = ap (λ n. suc n) (length-by_path es)

others_are : {Z : Type 0} (es : List (Vec Cell Z × Bool)) (path : List Cell) → IsStrictlySortedBy (λ a b. slice_cmp ghosts.cmp a.items b.items) (keys_of es)
    → count_by (λ s. not (same_path path s.0)) (by_path es) + cond (is_some (lookup (is_at (λ k. slice_cmp ghosts.cmp path k.items)) es)) 1 0 ≡ length es
others_are es path sorted =
    ap (λ o. count_by (λ s. not (same_path path s.0)) (by_path es) + cond (is_some o) 1 0) (single_found es path (lookup (is_at (λ k. slice_cmp ghosts.cmp path k.items)) es) refl)
    ∙ others_counted path (by_path es) (IsDistinct-from_sorted path_order (keys_of (by_path es)) (ascends es sorted))
    ∙ length-by_path es

-- the path has a single opening itself
pub others_beside : {Z : Type 0} (es : List (Vec Cell Z × Bool)) (path : List Cell) (count : ℕ) (there : Bool) → IsStrictlySortedBy (λ a b. slice_cmp ghosts.cmp a.items b.items) (keys_of es)
    → count ≡ length es → there ≡ is_some (lookup (is_at (λ k. slice_cmp ghosts.cmp path k.items)) es) → there ≡ true → count - 1 ≡ count_by (λ s. not (same_path path s.0)) (by_path es)
others_beside es path count there sorted size found is =
    let one : cond {A = ℕ} (is_some (lookup (is_at (λ k. slice_cmp ghosts.cmp path k.items)) es)) 1 0 ≡ 1 = ap (λ b. cond b 1 0) (sym found ∙ is) in
    omega (arith, size, one, others_are es path sorted)

pub others_alone : {Z : Type 0} (es : List (Vec Cell Z × Bool)) (path : List Cell) (count : ℕ) (there : Bool) → IsStrictlySortedBy (λ a b. slice_cmp ghosts.cmp a.items b.items) (keys_of es)
    → count ≡ length es → there ≡ is_some (lookup (is_at (λ k. slice_cmp ghosts.cmp path k.items)) es) → there ≡ false → count ≡ count_by (λ s. not (same_path path s.0)) (by_path es)
others_alone es path count there sorted size found is =
    let none : cond {A = ℕ} (is_some (lookup (is_at (λ k. slice_cmp ghosts.cmp path k.items)) es)) 1 0 ≡ 0 = ap (λ b. cond b 1 0) (sym found ∙ is) in
    omega (arith, size, none, others_are es path sorted)
