-- Lists of paths in which no path stands twice, and paths that are one value longer.
use Rattle.std.proofs.Common.{◌≡◌, ◌<◌, Bool, true, false, ◌&&◌, ◌||◌, List, [], ◌∷◌, ◌++◌, map, length, refl, sym, ◌∙◌, ap, subst, arith, append_assoc}
use Rattle.std.specs.Cmp.{both_ways}
use Rattle.std.specs.List.{AllByRecursion, IsDistinct, list_any}
use Rattle.std.specs.List.Sorted.{IsStrictlySortedBy}
use Rattle.std.proofs.lemmas.Bool.{and_from, and_parts}
use Rattle.std.proofs.lemmas.List.{append-nil, length-map, same_from_push}
use Rattle.std.proofs.lemmas.Map.Keys.{IsDistinct-cons, IsDistinct-from_sorted, IsDistinct-head, IsDistinct-tail}
use Rattle.cell_core.specs.Cells.{cell_order, same_cell}
use Rattle.cell_core.specs.declared.cell.Cell.{Cell}
use Rattle.row_batch.specs.declared.batch.Pair.{Pair}
use Rattle.row_batch.proofs.Lookups.{same_decides}
use Rattle.plan_types.specs.declared.plan.Plan.{Plan}
use Rattle.view_spec.specs.Entries.{is_there}
use Rattle.view_spec.specs.Members.{group_of, is_member}
use Rattle.view_spec.specs.Openings.{Opening, is_open, is_visible, opens}
use Rattle.view_spec.specs.Paths.{same_path}
use Rattle.view_spec.proofs.PathLaws.{any-map, same_path_is_equal, same_path_itself}
use Rattle.view_spec.proofs.ViewLaws.{IsDistinct-map}
use Rattle.pivot_tree.proofs.Found.{none_next}
use Rattle.pivot_tree.proofs.TreeSteps.{not_longer}

-- ---- lists

any-same : {X : Type 0} (f g : X → Bool) → ((x : X) → f x ≡ g x) → (xs : List X) → list_any f xs ≡ list_any g xs
any-same f g same [] = refl
any-same f g same (x ∷ xs) = λ i. same x i || any-same f g same xs i

any-never : {X : Type 0} (f : X → Bool) → ((x : X) → f x ≡ false) → (xs : List X) → list_any f xs ≡ false
any-never f never [] = refl
any-never f never (x ∷ xs) = rw (never x) (any-never f never xs)

any-and : {X : Type 0} (a : Bool) (f : X → Bool) (xs : List X) → list_any (λ x. a && f x) xs ≡ (a && list_any f xs)
any-and true f xs = refl
any-and false f xs = any-never (λ x. false && f x) (λ x. refl) xs

no_other : {X : Type 0} (e : X → X → Bool) (x : X) (ys : List X) → list_any (e x) ys ≡ false → AllByRecursion (λ y. e x y ≡ false) ys
no_other e x [] h = tt
no_other {X} e x (y ∷ ys) h = by (e x y) refl h (no_other e x ys)
  where
    by : (b : Bool) → e x y ≡ b → (b || list_any (e x) ys) ≡ false → (list_any (e x) ys ≡ false → AllByRecursion (λ z. e x z ≡ false) ys) → AllByRecursion (λ z. e x z ≡ false) (y ∷ ys)
    by true is none later = absurd (let wrong : true ≡ false = none in cc)
    by false is none later = (is, later none)

all_both : {X : Type 0} (P : X → Type 0) (xs ys : List X) → AllByRecursion P xs → AllByRecursion P ys → AllByRecursion P (xs ++ ys)
all_both P [] ys h k = k
all_both P (x ∷ xs) ys h k = (h.0, all_both P xs ys h.1 k)

-- lists that share nothing
pub distinct-append : {X : Type 0} (e : X → X → Bool) → ((x : X) → e x x ≡ true) → (xs ys : List X) → IsDistinct e xs → IsDistinct e ys
    → ((x : X) → list_any (e x) xs ≡ true → list_any (e x) ys ≡ false) → IsDistinct e (xs ++ ys)
distinct-append e itself [] ys first last apart = last
distinct-append e itself (x ∷ xs) ys first last apart =
    IsDistinct-cons e x (xs ++ ys)
    (all_both (λ y. e x y ≡ false) xs ys (IsDistinct-head e x xs first) (no_other e x ys (apart x (ap (λ b. b || list_any (e x) xs) (itself x)))))
    (distinct-append e itself xs ys (IsDistinct-tail e x xs first) last (λ y h. apart y (or_later (e y x) (list_any (e y) xs) h)))
  where
    or_later : (a b : Bool) → b ≡ true → (a || b) ≡ true
    or_later true b h = refl
    or_later false b h = h

-- ---- one value longer

same_cell_itself : (c : Cell) → same_cell c c ≡ true
same_cell_itself c = (same_decides c c).1 refl

pub same_next : (q p : List Cell) (d c : Cell) → same_path (q ++ d ∷ []) (p ++ c ∷ []) ≡ (same_path q p && same_cell d c)
same_next q p d c = both_ways _ _ there back
  where
    there : same_path (q ++ d ∷ []) (p ++ c ∷ []) ≡ true → (same_path q p && same_cell d c) ≡ true
    there h =
        let parts = same_from_push q p d c (same_path_is_equal (q ++ d ∷ []) (p ++ c ∷ []) h) in
        and_from (same_path q p) (same_cell d c) (subst (λ r. same_path q r ≡ true) parts.0 (same_path_itself q)) ((same_decides d c).1 parts.1)

    back : (same_path q p && same_cell d c) ≡ true → same_path (q ++ d ∷ []) (p ++ c ∷ []) ≡ true
    back h =
        let parts = and_parts (same_path q p) (same_cell d c) h in
        let one : q ≡ p = same_path_is_equal q p parts.0 in
        let last : d ≡ c = (same_decides d c).0 parts.1 in
        subst (λ r. same_path (q ++ d ∷ []) r ≡ true) (ap (λ r. r ++ d ∷ []) one ∙ ap (λ e. p ++ e ∷ []) last) (same_path_itself (q ++ d ∷ []))

total_is_shorter : (p : List Cell) (c : Cell) → same_path [] (p ++ c ∷ []) ≡ false
total_is_shorter [] c = refl
total_is_shorter (d ∷ p) c = refl

-- what holds of the total, and of a path where it holds of the one above it
pub by_above : (P : List Cell → Type 0) → P [] → ((q : List Cell) (c : Cell) → P q → P (q ++ c ∷ [])) → (q : List Cell) → P q
by_above P none longer [] = none
by_above P none longer (d ∷ q) = by_above (λ r. P (d ∷ r)) (longer [] d none) (λ r c h. longer (d ∷ r) c h) q

-- each path is the total's, or one value longer than another
pub by_last : (P : List Cell → Type 0) → P [] → ((q : List Cell) (c : Cell) → P (q ++ c ∷ [])) → (q : List Cell) → P q
by_last P none longer = by_above P none (λ q c _. longer q c)

abbrev pub next_paths : List Cell → List Cell → List (List Cell)
next_paths p cs = map (λ c. p ++ c ∷ []) cs

pub among_next : (p cs q : List Cell) (d : Cell) → list_any (same_path (q ++ d ∷ [])) (next_paths p cs) ≡ (same_path q p && list_any (same_cell d) cs)
among_next p cs q d =
    any-map (λ c. p ++ c ∷ []) (same_path (q ++ d ∷ [])) cs
    ∙ any-same (λ c. same_path (q ++ d ∷ []) (p ++ c ∷ [])) (λ c. same_path q p && same_cell d c) (λ c. same_next q p d c) cs
    ∙ any-and (same_path q p) (same_cell d) cs

pub total_not_next : (p cs : List Cell) → list_any (same_path []) (next_paths p cs) ≡ false
total_not_next p cs =
    any-map (λ c. p ++ c ∷ []) (same_path []) cs ∙ any-never (λ c. same_path [] (p ++ c ∷ [])) (total_is_shorter p) cs

pub next_distinct : (p cs : List Cell) → IsStrictlySortedBy cell_order cs → IsDistinct same_path (next_paths p cs)
next_distinct p cs up =
    IsDistinct-map same_cell same_path (λ c. p ++ c ∷ [])
    (λ c d apart. same_next p p c d ∙ (λ i. same_path_itself p i && apart i)) cs (IsDistinct-from_sorted cell_order cs up)

-- ---- openings

and_true : (a : Bool) → (a && true) ≡ a
and_true true = refl
and_true false = refl

and_assoc : (a b c : Bool) → (a && (b && c)) ≡ ((a && b) && c)
and_assoc true b c = refl
and_assoc false b c = refl

opens-next : (opening : Opening) (done q : List Cell) (c : Cell) → opens opening done (q ++ c ∷ []) ≡ (opens opening done q && is_open opening (done ++ q))
opens-next opening done [] c = and_true (is_open opening done) ∙ ap (is_open opening) (sym (append-nil done))
opens-next opening done (d ∷ q) c =
    ap (λ b. is_open opening done && b) (opens-next opening (done ++ d ∷ []) q c ∙ ap (λ r. opens opening (done ++ d ∷ []) q && is_open opening r) (append_assoc done (d ∷ []) q))
    ∙ and_assoc (is_open opening done) (opens opening (done ++ d ∷ []) q) (is_open opening (done ++ d ∷ q))

-- a group is shown where the one above it is shown and open
pub visible_next : (opening : Opening) (q : List Cell) (c : Cell) → is_visible opening (q ++ c ∷ []) ≡ (is_visible opening q && is_open opening q)
visible_next opening q c = opens-next opening [] q c

-- ---- paths of a view

pub there_before : (plan : Plan) (rows : List Pair) (q : List Cell) (c : Cell) → is_there plan rows (q ++ c ∷ []) ≡ true → is_there plan rows q ≡ true
there_before plan rows q c h = by (is_there plan rows q) refl
  where
    by : (b : Bool) → is_there plan rows q ≡ b → b ≡ true
    by true is = refl
    by false is = absurd (let wrong : false ≡ true = none_next plan rows q is c ∙ h in cc)

-- none is longer than the group columns
pub not_deeper : (plan : Plan) (rows : List Pair) (q : List Cell) → length plan.group_by < length q → is_there plan rows q ≡ false
not_deeper plan rows [] long = absurd (omega arith)
not_deeper plan rows (c ∷ cs) long = any-never (is_member plan (c ∷ cs)) (λ p. not_longer (c ∷ cs) (group_of plan p) (rw length-map long)) rows
