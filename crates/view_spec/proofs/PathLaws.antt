-- Sets of paths, and which paths a view has.
use Rattle.std.proofs.Common.{◌≡◌, Bool, true, false, cond, ◌&&◌, ◌||◌, List, [], ◌∷◌, map, All, Ordering, Less, Equal, Greater, refl, sym, ◌∙◌, ap}
use Rattle.std.specs.Prelude.{not, fold}
use Rattle.std.specs.BTreeSet.{insert_key}
use Rattle.std.specs.Cmp.{IsTotalOrder}
use Rattle.std.specs.List.{AllByRecursion, flat_map, list_any}
use Rattle.std.specs.List.Sorted.{IsStrictlySortedBy}
use Rattle.std.specs.Ordering.{is_eq, match_ordering, ordering_reverse, ordering_then}
use Rattle.std.proofs.lemmas.List.Elements.{All-from_recursion, All-head, All-tail}
use Rattle.std.proofs.lemmas.List.Folds.{list_any-append}
use Rattle.std.proofs.lemmas.Map.Lookups.{CmpEqualImpliesEq}
use Rattle.plain_data.specs.Lists.{is_empty}
use Rattle.cell_core.specs.declared.cell.Cell.{Cell}
use Rattle.cell_core.specs.Cells.{cell_order, same_cell}
use Rattle.row_batch.specs.declared.batch.Pair.{Pair}
use Rattle.view_types.specs.declared.key.ViewKey.TheVariants.{Group}
use Rattle.view_types.proofs.KeyOrder.{exact, total, same_key_is_equal, same_key_itself}
use Rattle.plan_types.specs.declared.plan.Plan.{Plan}
use Rattle.delta_core.proofs.KeySetLemmas.{or_again, or_assoc, or_comm}
use Rattle.view_spec.specs.Entries.{is_there}
use Rattle.view_spec.specs.Members.{group_of, is_member, members, paths}
use Rattle.view_spec.specs.Paths.{begins_with, path_order, path_set, prefixes, same_path}

-- ---- sets by an order

any_step : {K : Type 0} (R : K → K → Ordering) → CmpEqualImpliesEq R → (test : K → Bool) (x k : K) (xs : List K) (o : Ordering) → R k x ≡ o
    → list_any test (insert_key R xs k) ≡ (list_any test xs || test k)
    → list_any test (match_ordering o (k ∷ x ∷ xs) (x ∷ xs) (x ∷ insert_key R xs k)) ≡ (list_any test (x ∷ xs) || test k)
any_step R one test x k xs Less is later = or_comm (test k) (list_any test (x ∷ xs))
any_step R one test x k xs Equal is later = or_again (test x) (list_any test xs) ∙ ap (λ j. list_any test (x ∷ xs) || test j) (sym (one k x is))
any_step R one test x k xs Greater is later = ap (λ b. test x || b) later ∙ sym (or_assoc (test x) (list_any test xs) (test k))

pub any-insert_key : {K : Type 0} (R : K → K → Ordering) → CmpEqualImpliesEq R → (test : K → Bool) (xs : List K) (k : K)
    → list_any test (insert_key R xs k) ≡ (list_any test xs || test k)
any-insert_key R one test [] k = or_comm (test k) false
any-insert_key R one test (x ∷ xs) k = any_step R one test x k xs (R k x) refl (any-insert_key R one test xs k)

pub any-inserted : {K : Type 0} (R : K → K → Ordering) → CmpEqualImpliesEq R → (test : K → Bool) (ks more : List K)
    → list_any test (fold (insert_key R) ks more) ≡ (list_any test ks || list_any test more)
any-inserted R one test ks [] = or_comm false (list_any test ks)
any-inserted R one test ks (k ∷ more) =
    any-inserted R one test (insert_key R ks k) more ∙ ap (λ b. b || list_any test more) (any-insert_key R one test ks k)
    ∙ or_assoc (list_any test ks) (test k) (list_any test more)

all_step : {K : Type 0} (R : K → K → Ordering) (P : K → Type 0) (x k : K) (xs : List K) (o : Ordering) → P k → AllByRecursion P (x ∷ xs)
    → AllByRecursion P (insert_key R xs k) → AllByRecursion P (match_ordering o (k ∷ x ∷ xs) (x ∷ xs) (x ∷ insert_key R xs k))
all_step R P x k xs Less here all later = (here, all)
all_step R P x k xs Equal here all later = all
all_step R P x k xs Greater here all later = (all.0, later)

all_insert_key : {K : Type 0} (R : K → K → Ordering) (P : K → Type 0) (xs : List K) (k : K) → P k → AllByRecursion P xs → AllByRecursion P (insert_key R xs k)
all_insert_key R P [] k here all = (here, tt)
all_insert_key R P (x ∷ xs) k here all = all_step R P x k xs (R k x) here all (all_insert_key R P xs k here all.1)

all_behind : {K : Type 0} (R : K → K → Ordering) → IsTotalOrder R → (k x : K) (xs : List K) → R k x ≡ Less → AllByRecursion (λ y. R x y ≡ Less) xs → AllByRecursion (λ y. R k y ≡ Less) xs
all_behind R t k x [] less all = tt
all_behind R t k x (y ∷ ys) less all = (t.trans k x y less all.0, all_behind R t k x ys less all.1)

sorted_step : {K : Type 0} (R : K → K → Ordering) → IsTotalOrder R → (x k : K) (xs : List K) (o : Ordering) → R k x ≡ o → IsStrictlySortedBy R (x ∷ xs)
    → IsStrictlySortedBy R (insert_key R xs k) → IsStrictlySortedBy R (match_ordering o (k ∷ x ∷ xs) (x ∷ xs) (x ∷ insert_key R xs k))
unfolding IsStrictlySortedBy
sorted_step R t x k xs Less is up later = ((is, all_behind R t k x xs is up.0), up)
sorted_step R t x k xs Equal is up later = up
sorted_step R t x k xs Greater is up later = (all_insert_key R (λ y. R x y ≡ Less) xs k (t.antisymm x k ∙ ap ordering_reverse is) up.0, later)

insert_key-ascends : {K : Type 0} (R : K → K → Ordering) → IsTotalOrder R → (xs : List K) (k : K) → IsStrictlySortedBy R xs → IsStrictlySortedBy R (insert_key R xs k)
unfolding IsStrictlySortedBy
insert_key-ascends R t [] k up = (tt, tt)
insert_key-ascends R t (x ∷ xs) k up = sorted_step R t x k xs (R k x) refl up (insert_key-ascends R t xs k up.1)

inserted-ascends : {K : Type 0} (R : K → K → Ordering) → IsTotalOrder R → (ks more : List K) → IsStrictlySortedBy R ks → IsStrictlySortedBy R (fold (insert_key R) ks more)
inserted-ascends R t ks [] up = up
inserted-ascends R t ks (k ∷ more) up = inserted-ascends R t (insert_key R ks k) more (insert_key-ascends R t ks k up)

-- ---- paths

pub path_order-total : IsTotalOrder path_order
path_order-total = record {
  antisymm = λ a b. total.antisymm (Group a) (Group b);
  trans = λ a b c. total.trans (Group a) (Group b) (Group c);
  congr = λ a b c. total.congr (Group a) (Group b) (Group c);
}

group_path : (a b : List Cell) → Group a ≡ Group b → a ≡ b
group_path a b h = cc

pub path_order-exact : CmpEqualImpliesEq path_order
path_order-exact a b h = group_path a b (exact (Group a) (Group b) h)

pub same_path_is_equal : (a b : List Cell) → same_path a b ≡ true → a ≡ b
same_path_is_equal a b h = group_path a b (same_key_is_equal (Group a) (Group b) h)

pub same_path_itself : (a : List Cell) → same_path a a ≡ true
same_path_itself a = same_key_itself (Group a)

none_ascend : IsStrictlySortedBy path_order []
unfolding IsStrictlySortedBy
none_ascend = tt

-- a set of paths ascends
pub path_set-ascends : (ps : List (List Cell)) → IsStrictlySortedBy path_order (path_set ps)
path_set-ascends ps = inserted-ascends path_order path_order-total [] ps none_ascend

-- what holds of each path holds of each in the set
all_inserted : {K : Type 0} (R : K → K → Ordering) (P : K → Type 0) (ks more : List K) → AllByRecursion P ks → All P more → AllByRecursion P (fold (insert_key R) ks more)
all_inserted R P ks [] all rest = all
all_inserted R P ks (k ∷ more) all rest = all_inserted R P (insert_key R ks k) more (all_insert_key R P ks k (All-head P k more rest) all) (All-tail P k more rest)

pub All-path_set : (P : List Cell → Type 0) (ps : List (List Cell)) → All P ps → All P (path_set ps)
All-path_set P ps all = All-from_recursion P (path_set ps) (all_inserted path_order P [] ps tt all)

-- a test finds in a set what it finds in the list
pub any-path_set : (test : List Cell → Bool) (ps : List (List Cell)) → list_any test (path_set ps) ≡ list_any test ps
any-path_set test ps = any-inserted path_order path_order-exact test [] ps

-- ---- which paths a view has

pub any-map : {X Y : Type 0} (f : X → Y) (test : Y → Bool) (xs : List X) → list_any test (map f xs) ≡ list_any (λ x. test (f x)) xs
any-map f test [] = refl
any-map f test (x ∷ xs) = ap (λ b. test (f x) || b) (any-map f test xs)

any-flat_map : {X Y : Type 0} (f : X → List Y) (test : Y → Bool) (xs : List X) → list_any test (flat_map f xs) ≡ list_any (λ x. list_any test (f x)) xs
any-flat_map f test [] = refl
any-flat_map f test (x ∷ xs) = list_any-append test (f x) (flat_map f xs) ∙ ap (λ b. list_any test (f x) || b) (any-flat_map f test xs)

any-same : {X : Type 0} (f g : X → Bool) → ((x : X) → f x ≡ g x) → (xs : List X) → list_any f xs ≡ list_any g xs
any-same f g same [] = refl
any-same f g same (x ∷ xs) = λ i. same x i || any-same f g same xs i

no_path : {X : Type 0} (xs : List X) → list_any (λ _. false) xs ≡ false
no_path [] = refl
no_path (x ∷ xs) = no_path xs

no_longer : (c : Cell) (q : List Cell) (ps : List (List Cell)) → list_any (λ p. same_path [] (c ∷ p)) ps ≡ false
no_longer c q [] = refl
no_longer c q (p ∷ ps) = no_longer c q ps

and_or : (a b : Bool) → (a && false || (a && b)) ≡ (a && b)
and_or true b = refl
and_or false b = refl

eq_then : (a b : Ordering) → is_eq (ordering_then a b) ≡ (is_eq a && is_eq b)
eq_then Less b = refl
eq_then Equal b = refl
eq_then Greater b = refl

same_head : (c d : Cell) (cs ds : List Cell) → same_path (c ∷ cs) (d ∷ ds) ≡ (same_cell c d && same_path cs ds)
same_head c d cs ds = eq_then (cell_order c d) (path_order cs ds)

any-and : {X : Type 0} (a : Bool) (f : X → Bool) (xs : List X) → list_any (λ x. a && f x) xs ≡ (a && list_any f xs)
any-and true f xs = refl
any-and false f xs = no_path xs

or_same : (a b : Bool) → (a && true || (a && (false && b))) ≡ (a && true)
or_same true b = refl
or_same false b = refl

or_rest : (a b : Bool) → (a && false || (a && (true && b))) ≡ (a && b)
or_rest true b = refl
or_rest false b = refl

shorter : (a : Bool) (cs ds : List Cell) → (a && same_path cs [] || (a && (not (is_empty cs) && begins_with cs ds))) ≡ (a && begins_with cs ds)
shorter a [] ds = or_same a (begins_with [] ds)
shorter a (e ∷ es) ds = or_rest a (begins_with (e ∷ es) ds)

-- the prefixes of a path are those that aren't empty and that it begins with
pub among-prefixes : (q path : List Cell) → list_any (same_path q) (prefixes path) ≡ (not (is_empty q) && begins_with q path)
among-prefixes [] [] = refl
among-prefixes (c ∷ cs) [] = refl
among-prefixes [] (d ∷ ds) = any-map (λ p. d ∷ p) (same_path []) (prefixes ds) ∙ no_longer d [] (prefixes ds)
among-prefixes (c ∷ cs) (d ∷ ds) =
    let here : same_path (c ∷ cs) (d ∷ []) ≡ (same_cell c d && same_path cs []) = same_head c d cs [] in
    let each : list_any (λ p. same_path (c ∷ cs) (d ∷ p)) (prefixes ds) ≡ list_any (λ p. same_cell c d && same_path cs p) (prefixes ds) =
    any-same (λ p. same_path (c ∷ cs) (d ∷ p)) (λ p. same_cell c d && same_path cs p) (λ p. same_head c d cs p) (prefixes ds) in
    let later : list_any (same_path (c ∷ cs)) (map (λ p. d ∷ p) (prefixes ds)) ≡ (same_cell c d && (not (is_empty cs) && begins_with cs ds)) =
    any-map (λ p. d ∷ p) (same_path (c ∷ cs)) (prefixes ds) ∙ each ∙ any-and (same_cell c d) (same_path cs) (prefixes ds)
    ∙ ap (λ b. same_cell c d && b) (among-prefixes cs ds) in
    (λ i. here i || later i) ∙ shorter (same_cell c d) cs ds

among_each : (plan : Plan) (q : List Cell) (rows : List Pair)
    → list_any (same_path q) (flat_map (λ p. prefixes (group_of plan p)) rows) ≡ (not (is_empty q) && list_any (is_member plan q) rows)
among_each plan q rows =
    any-flat_map (λ p. prefixes (group_of plan p)) (same_path q) rows
    ∙ any-same (λ p. list_any (same_path q) (prefixes (group_of plan p))) (λ p. not (is_empty q) && is_member plan q p) (λ p. among-prefixes q (group_of plan p)) rows
    ∙ any-and (not (is_empty q)) (is_member plan q) rows

pub among-paths : (plan : Plan) (rows : List Pair) (q : List Cell) → list_any (same_path q) (paths plan rows) ≡ is_there plan rows q
among-paths plan rows q =
    any-path_set (same_path q) ([] ∷ flat_map (λ p. prefixes (group_of plan p)) rows)
    ∙ ap (λ b. same_path q [] || b) (among_each plan q rows)
    ∙ by q
  where
    by : (q : List Cell) → (same_path q [] || (not (is_empty q) && list_any (is_member plan q) rows)) ≡ is_there plan rows q
    by [] = refl
    by (c ∷ cs) = refl

-- a path has a member where its list of members isn't empty
pub any-members : (plan : Plan) (q : List Cell) (rows : List Pair) → list_any (is_member plan q) rows ≡ not (is_empty (members plan rows q))
any-members plan q [] = refl
any-members plan q (p ∷ rows) = by (is_member plan q p) (any-members plan q rows)
  where
    by : (b : Bool) → list_any (is_member plan q) rows ≡ not (is_empty (members plan rows q))
        → (b || list_any (is_member plan q) rows) ≡ not (is_empty (cond b (p ∷ members plan rows q) (members plan rows q)))
    by true later = refl
    by false later = later
