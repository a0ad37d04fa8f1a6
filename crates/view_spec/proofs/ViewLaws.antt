-- What a view shows stands strictly ascending by place, and what stands under a key is told from the key.
use Rattle.std.proofs.Common.{◌≡◌, ◌≢◌, Bool, true, false, cond, ◌&&◌, ◌||◌, List, [], ◌∷◌, map, filter, All, Option, Some, None, Ordering, Less, refl, sym, ◌∙◌, ap, subst}
use Rattle.std.specs.Cmp.{IsTotalOrder, eq_by_cmp_equiv}
use Rattle.std.specs.List.{AllByRecursion, IsDistinct, find, flat_map, list_any}
use Rattle.std.specs.List.Sorted.{IsStrictlySortedBy}
use Rattle.std.specs.Option.{option_map}
use Rattle.std.specs.Ordering.{eq_by_cmp, is_eq}
use Rattle.std.proofs.lemmas.Bool.{false_from_ne_true}
use Rattle.std.proofs.lemmas.List.Elements.{All-head, All-tail}
use Rattle.std.proofs.lemmas.List.Kept.{IsStrictlySortedBy-filter}
use Rattle.plain_data.specs.Distinct.{AreDistinct}
use Rattle.cell_core.specs.Cells.{same_cell}
use Rattle.cell_core.specs.declared.cell.Cell.{Cell}
use Rattle.cell_core.specs.declared.schema.Column.{Column}
use Rattle.row_batch.specs.Batches.{pair_of}
use Rattle.row_batch.specs.Changes.{row_at}
use Rattle.row_batch.specs.Tables.{keys_of_rows}
use Rattle.row_batch.specs.declared.batch.Pair.{Pair}
use Rattle.row_batch.proofs.Lookups.{same_decides}
use Rattle.view_types.specs.Keys.{same_key}
use Rattle.view_types.specs.declared.key.ViewKey.{ViewKey}
use Rattle.view_types.specs.declared.key.ViewKey.TheVariants.{Row, Group}
use Rattle.view_types.proofs.KeyOrder as keys
use Rattle.delta_core.specs.Rows.{at_key}
use Rattle.plan_types.specs.declared.plan.Plan.{Plan}
use Rattle.view_spec.specs.Columns.{is_flat}
use Rattle.view_spec.specs.Entries.{entry, group_entry, kept_at, row_entry, where_it}
use Rattle.view_spec.specs.Kept.{by_key, full_pair, is_kept, kept}
use Rattle.view_spec.specs.Members.{group_of, paths}
use Rattle.view_spec.specs.Openings.{Opening, is_visible}
use Rattle.view_spec.specs.Paths.{path_order, prefixes, same_path}
use Rattle.view_spec.specs.Touching.{key_of}
use Rattle.view_spec.specs.declared.placed.PlacedRow.{PlacedRow}
use Rattle.view_spec.specs.Views.{Side, by_place, entries, placed, placed_group, placed_row}
use Rattle.view_spec.proofs.FindLaws.{PicksOne, find-sorted_by}
use Rattle.view_spec.proofs.KeptLaws.{by_key-total, full_differ, keys_differ}
use Rattle.view_spec.proofs.PathLaws.{among-paths, path_order-total, path_set-ascends, same_path_is_equal, same_path_itself}
use Rattle.place_order.specs.PlaceLaws.{is_equal, place_order-exact, place_order-total}
use Rattle.view_spec.proofs.PlaceLaws.{place_of_group-exact, place_of_row-exact}
use Rattle.view_spec.proofs.Sorting.{IsDistinct-filter, ascending-sorted_by}

-- ---- items that are told apart

apart_map : {X Y : Type 0} (d : X → X → Bool) (e : Y → Y → Bool) (f : X → Y) → ((x y : X) → d x y ≡ false → e (f x) (f y) ≡ false) → (x : X) (xs : List X)
    → AllByRecursion (λ y. d x y ≡ false) xs → AllByRecursion (λ y. e (f x) y ≡ false) (map f xs)
apart_map d e f each x [] h = tt
apart_map d e f each x (y ∷ xs) h = (each x y h.0, apart_map d e f each x xs h.1)

pub IsDistinct-map : {X Y : Type 0} (d : X → X → Bool) (e : Y → Y → Bool) (f : X → Y) → ((x y : X) → d x y ≡ false → e (f x) (f y) ≡ false) → (xs : List X)
    → IsDistinct d xs → IsDistinct e (map f xs)
unfolding IsDistinct
IsDistinct-map d e f each [] h = tt
IsDistinct-map d e f each (x ∷ xs) h = (apart_map d e f each x xs h.0, IsDistinct-map d e f each xs h.1)

apart_less : {X : Type 0} (R : X → X → Ordering) (x : X) (xs : List X) → AllByRecursion (λ y. R x y ≡ Less) xs → AllByRecursion (λ y. eq_by_cmp R x y ≡ false) xs
apart_less R x [] h = tt
apart_less R x (y ∷ xs) h = (ap is_eq h.0, apart_less R x xs h.1)

-- what ascends strictly is told apart by the order
pub ascending_differ : {X : Type 0} (R : X → X → Ordering) (xs : List X) → IsStrictlySortedBy R xs → IsDistinct (eq_by_cmp R) xs
unfolding IsStrictlySortedBy IsDistinct
ascending_differ R [] h = tt
ascending_differ R (x ∷ xs) h = (apart_less R x xs h.0, ascending_differ R xs h.1)

-- ---- kept rows and paths are told apart

pub kept_differ : (plan : Plan) (ps : List Pair) → AreDistinct (keys_of_rows ps) → IsDistinct (eq_by_cmp by_key) (kept plan ps)
kept_differ plan ps distinct =
    ascending_differ by_key (kept plan ps)
    (ascending-sorted_by by_key by_key-total (filter (is_kept plan) (map (full_pair plan) ps))
    (IsDistinct-filter (eq_by_cmp by_key) (is_kept plan) (map (full_pair plan) ps) (full_differ plan ps (keys_differ ps distinct))))

pub paths_ascend : (plan : Plan) (rows : List Pair) (p : List Cell → Bool) → IsStrictlySortedBy path_order (filter p (paths plan rows))
paths_ascend plan rows p = IsStrictlySortedBy-filter path_order p (paths plan rows) (path_set-ascends ([] ∷ flat_map (λ p. prefixes (group_of plan p)) rows))

-- ---- ascending by place

pub by_place-total : IsTotalOrder by_place
by_place-total = record {
  antisymm = λ a b. place_order-total.antisymm a.place b.place;
  trans = λ a b c. place_order-total.trans a.place b.place c.place;
  congr = λ a b c. place_order-total.congr a.place b.place c.place;
}

pub rows_differ : (columns : List Column) (plan : Plan) (a b : Pair) → eq_by_cmp by_key a b ≡ false → eq_by_cmp by_place (placed_row columns plan a) (placed_row columns plan b) ≡ false
rows_differ columns plan a b h =
    false_from_ne_true (eq_by_cmp by_place (placed_row columns plan a) (placed_row columns plan b))
    (λ same. let one : a.key ≡ b.key = place_of_row-exact plan a b (place_order-exact _ _ (is_equal _ same)) in
    let wrong : false ≡ true = sym h ∙ (same_decides a.key b.key).1 one in cc)

groups_differ : (columns : List Column) (plan : Plan) (opening : Opening) (rows : List Pair) (p q : List Cell) → eq_by_cmp path_order p q ≡ false
    → eq_by_cmp by_place (placed_group columns plan opening rows p) (placed_group columns plan opening rows q) ≡ false
groups_differ columns plan opening rows p q h =
    false_from_ne_true (eq_by_cmp by_place (placed_group columns plan opening rows p) (placed_group columns plan opening rows q))
    (λ same. let one : p ≡ q = place_of_group-exact columns plan rows p q (place_order-exact _ _ (is_equal _ same)) in
    let wrong : false ≡ true = sym h ∙ subst (λ r. same_path p r ≡ true) one (same_path_itself p) in cc)

-- different keys have different places
pub places_differ : (s : Side) → AreDistinct (keys_of_rows s.pairs) → IsDistinct (eq_by_cmp by_place) (entries s.columns s.plan s.opening (kept s.plan s.pairs))
places_differ s distinct = by (is_flat s.plan)
  where
    by : (b : Bool) → IsDistinct (eq_by_cmp by_place)
        (cond b (map (placed_row s.columns s.plan) (kept s.plan s.pairs)) (map (placed_group s.columns s.plan s.opening (kept s.plan s.pairs)) (filter (is_visible s.opening) (paths s.plan (kept s.plan s.pairs)))))
    by true =
        IsDistinct-map (eq_by_cmp by_key) (eq_by_cmp by_place) (placed_row s.columns s.plan) (rows_differ s.columns s.plan) (kept s.plan s.pairs) (kept_differ s.plan s.pairs distinct)
    by false =
        IsDistinct-map (eq_by_cmp path_order) (eq_by_cmp by_place) (placed_group s.columns s.plan s.opening (kept s.plan s.pairs)) (groups_differ s.columns s.plan s.opening (kept s.plan s.pairs))
        (filter (is_visible s.opening) (paths s.plan (kept s.plan s.pairs))) (ascending_differ path_order _ (paths_ascend s.plan (kept s.plan s.pairs) (is_visible s.opening)))

-- THE LIST OF A VIEW IS STRICTLY ASCENDING BY PLACE
pub placed-ascends : (s : Side) → AreDistinct (keys_of_rows s.pairs) → IsStrictlySortedBy by_place (placed s)
placed-ascends s distinct = ascending-sorted_by by_place by_place-total (entries s.columns s.plan s.opening (kept s.plan s.pairs)) (places_differ s distinct)

-- ---- what stands under a key

abbrev pub same_keys : PlacedRow → PlacedRow → Bool
same_keys a b = same_key (key_of a) (key_of b)

pub keys_symm : (a b : PlacedRow) → same_keys a b ≡ same_keys b a
keys_symm a b = (eq_by_cmp_equiv keys.total).symm (key_of a) (key_of b)

picks_one : (k : ViewKey) → PicksOne same_keys (λ x. same_key (key_of x) k)
picks_one k x y h g =
    subst (λ j. same_key (key_of x) j ≡ true) (sym (keys.same_key_is_equal (key_of y) k g)) h

pub keys_of_entries_differ : (s : Side) → AreDistinct (keys_of_rows s.pairs) → IsDistinct same_keys (entries s.columns s.plan s.opening (kept s.plan s.pairs))
keys_of_entries_differ s distinct = by (is_flat s.plan)
  where
    by : (b : Bool) → IsDistinct same_keys
        (cond b (map (placed_row s.columns s.plan) (kept s.plan s.pairs)) (map (placed_group s.columns s.plan s.opening (kept s.plan s.pairs)) (filter (is_visible s.opening) (paths s.plan (kept s.plan s.pairs)))))
    by true = IsDistinct-map (eq_by_cmp by_key) same_keys (placed_row s.columns s.plan) (λ a b h. h) (kept s.plan s.pairs) (kept_differ s.plan s.pairs distinct)
    by false =
        IsDistinct-map (eq_by_cmp path_order) same_keys (placed_group s.columns s.plan s.opening (kept s.plan s.pairs)) (λ a b h. h)
        (filter (is_visible s.opening) (paths s.plan (kept s.plan s.pairs))) (ascending_differ path_order _ (paths_ascend s.plan (kept s.plan s.pairs) (is_visible s.opening)))

find-map : {X Y : Type 0} (f : X → Y) (p : Y → Bool) (xs : List X) → find p (map f xs) ≡ option_map f (find (λ x. p (f x)) xs)
find-map f p [] = refl
find-map f p (x ∷ xs) = by (p (f x)) (find-map f p xs)
  where
    by : (b : Bool) → find p (map f xs) ≡ option_map f (find (λ x. p (f x)) xs) → cond b (Some (f x)) (find p (map f xs)) ≡ option_map f (cond b (Some x) (find (λ x. p (f x)) xs))
    by true later = refl
    by false later = later

-- rows under other keys aren't found
gone : (plan : Plan) (key : Cell) (ps : List Pair) → All (λ k. k ≢ key) (keys_of_rows ps)
    → find (λ (p : Pair). same_cell p.key key) (filter (is_kept plan) (map (full_pair plan) ps)) ≡ None
gone plan key [] h = refl
gone plan key (p ∷ ps) h = by (is_kept plan (full_pair plan p)) (gone plan key ps (All-tail (λ k. k ≢ key) p.key (keys_of_rows ps) h))
  where
    apart : same_cell p.key key ≡ false
    apart = false_from_ne_true (same_cell p.key key) (λ same. All-head (λ k. k ≢ key) p.key (keys_of_rows ps) h ((same_decides p.key key).0 same))

    by : (b : Bool) → find (λ (p : Pair). same_cell p.key key) (filter (is_kept plan) (map (full_pair plan) ps)) ≡ None
        → find (λ (p : Pair). same_cell p.key key) (cond b (full_pair plan p ∷ filter (is_kept plan) (map (full_pair plan) ps)) (filter (is_kept plan) (map (full_pair plan) ps))) ≡ None
    by true later = rw apart later
    by false later = later

-- the kept row of a key is that of the table's row, where it is kept
kept_row : (plan : Plan) (key : Cell) (ps : List Pair) → AreDistinct (keys_of_rows ps)
    → find (λ (p : Pair). same_cell p.key key) (filter (is_kept plan) (map (full_pair plan) ps)) ≡ kept_at plan (option_map (pair_of key) (row_at ps key))
kept_row plan key [] distinct = refl
kept_row plan key (p ∷ ps) distinct =
    by (same_cell key p.key) (is_kept plan (full_pair plan p)) refl refl (kept_row plan key ps distinct.1)
  where
    flip : same_cell p.key key ≡ same_cell key p.key
    flip = (eq_by_cmp_equiv keys.total).symm (Row p.key) (Row key)

    by : (a b : Bool) → same_cell key p.key ≡ a → is_kept plan (full_pair plan p) ≡ b
        → find (λ (p : Pair). same_cell p.key key) (filter (is_kept plan) (map (full_pair plan) ps)) ≡ kept_at plan (option_map (pair_of key) (row_at ps key))
        → find (λ (p : Pair). same_cell p.key key) (cond b (full_pair plan p ∷ (filter (is_kept plan) (map (full_pair plan) ps))) (filter (is_kept plan) (map (full_pair plan) ps))) ≡ kept_at plan (option_map (pair_of key) (cond a (Some p.row) (row_at ps key)))
    by true true is keeps_it later =
        let one : key ≡ p.key = (same_decides key p.key).0 is in
        rw (flip, is) (subst (λ k. Some (full_pair plan p) ≡ kept_at plan (Some (pair_of k p.row))) (sym one) (rw keeps_it refl))
    by true false is keeps_it later =
        let one : key ≡ p.key = (same_decides key p.key).0 is in
        gone plan key ps (subst (λ j. All (λ k. k ≢ j) (keys_of_rows ps)) (sym one) distinct.0)
        ∙ subst (λ k. None ≡ kept_at plan (Some (pair_of k p.row))) (sym one) (rw keeps_it refl)
    by false true is keeps_it later = rw (flip, is) later
    by false false is keeps_it later = later

found_group : (columns : List Column) (plan : Plan) (opening : Opening) (rows : List Pair) (q : List Cell) (ps : List (List Cell))
    → find (λ x. same_key (key_of x) (Group q)) (map (placed_group columns plan opening rows) (filter (is_visible opening) ps))
    ≡ where_it (is_visible opening q && list_any (same_path q) ps) (placed_group columns plan opening rows q)
found_group columns plan opening rows q [] = by (is_visible opening q)
  where
    by : (b : Bool) → None ≡ where_it (b && false) (placed_group columns plan opening rows q)
    by true = refl
    by false = refl
found_group columns plan opening rows q (p ∷ ps) =
    by (is_visible opening p) (same_path q p) refl refl (found_group columns plan opening rows q ps)
  where
    flip : same_path p q ≡ same_path q p
    flip = (eq_by_cmp_equiv path_order-total).symm p q

    hidden : (b c : Bool) → b ≡ false → where_it (b && c) (placed_group columns plan opening rows q) ≡ None
    hidden true c h = absurd (let wrong : true ≡ false = h in cc)
    hidden false c h = refl

    by : (a b : Bool) → is_visible opening p ≡ a → same_path q p ≡ b
        → find (λ x. same_key (key_of x) (Group q)) (map (placed_group columns plan opening rows) (filter (is_visible opening) ps)) ≡ where_it (is_visible opening q && list_any (same_path q) ps) (placed_group columns plan opening rows q)
        → find (λ x. same_key (key_of x) (Group q)) (map (placed_group columns plan opening rows) (cond a (p ∷ filter (is_visible opening) ps) (filter (is_visible opening) ps)))
        ≡ where_it (is_visible opening q && (b || list_any (same_path q) ps)) (placed_group columns plan opening rows q)
    by true true seen same later =
        let one : q ≡ p = same_path_is_equal q p same in
        rw (flip, same) (subst (λ r. Some (placed_group columns plan opening rows p) ≡ where_it (is_visible opening r && true) (placed_group columns plan opening rows r)) (sym one) (rw seen refl))
    by true false seen same later = rw (flip, same) later
    by false true seen same later =
        let one : q ≡ p = same_path_is_equal q p same in
        let unseen : is_visible opening q ≡ false = ap (is_visible opening) one ∙ seen in
        later ∙ hidden (is_visible opening q) (list_any (same_path q) ps) unseen ∙ sym (hidden (is_visible opening q) true unseen)
    by false false seen same later = later

no_row : (columns : List Column) (plan : Plan) (opening : Opening) (rows : List Pair) (c : Cell) (ps : List (List Cell))
    → find (λ x. same_key (key_of x) (Row c)) (map (placed_group columns plan opening rows) ps) ≡ None
no_row columns plan opening rows c [] = refl
no_row columns plan opening rows c (p ∷ ps) = no_row columns plan opening rows c ps

no_group : (columns : List Column) (plan : Plan) (q : List Cell) (rows : List Pair) → find (λ x. same_key (key_of x) (Group q)) (map (placed_row columns plan) rows) ≡ None
no_group columns plan q [] = refl
no_group columns plan q (p ∷ rows) = no_group columns plan q rows

found_row : (s : Side) (key : Cell) → AreDistinct (keys_of_rows s.pairs)
    → find (λ x. same_key (key_of x) (Row key)) (map (placed_row s.columns s.plan) (kept s.plan s.pairs)) ≡ row_entry s key
found_row s key distinct =
    find-map (placed_row s.columns s.plan) (λ x. same_key (key_of x) (Row key)) (kept s.plan s.pairs)
    ∙ ap (option_map (placed_row s.columns s.plan))
    (find-sorted_by by_key (eq_by_cmp by_key) (eq_by_cmp_equiv by_key-total).symm (λ (p : Pair). same_cell p.key key) one (filter (is_kept s.plan) (map (full_pair s.plan) s.pairs))
    (IsDistinct-filter (eq_by_cmp by_key) (is_kept s.plan) (map (full_pair s.plan) s.pairs) (full_differ s.plan s.pairs (keys_differ s.pairs distinct)))
    ∙ kept_row s.plan key s.pairs distinct)
  where
    one : PicksOne (eq_by_cmp by_key) (λ (p : Pair). same_cell p.key key)
    one a b h g = subst (λ k. same_cell a.key k ≡ true) (sym ((same_decides b.key key).0 g)) h

abbrev at_side : Side → Bool → ViewKey → Option PlacedRow
at_side s b (Row key) = cond b (row_entry s key) None
at_side s b (Group q) = cond b None (group_entry s q)

at_side-entry : (s : Side) (k : ViewKey) → at_side s (is_flat s.plan) k ≡ entry s k
at_side-entry s (Row key) = refl
at_side-entry s (Group q) = refl

found_side : (s : Side) → AreDistinct (keys_of_rows s.pairs) → (b : Bool) (k : ViewKey)
    → find (λ x. same_key (key_of x) k)
    (cond b (map (placed_row s.columns s.plan) (kept s.plan s.pairs)) (map (placed_group s.columns s.plan s.opening (kept s.plan s.pairs)) (filter (is_visible s.opening) (paths s.plan (kept s.plan s.pairs)))))
    ≡ at_side s b k
found_side s distinct true (Row key) = found_row s key distinct
found_side s distinct true (Group q) = no_group s.columns s.plan q (kept s.plan s.pairs)
found_side s distinct false (Row key) = no_row s.columns s.plan s.opening (kept s.plan s.pairs) key (filter (is_visible s.opening) (paths s.plan (kept s.plan s.pairs)))
found_side s distinct false (Group q) =
    found_group s.columns s.plan s.opening (kept s.plan s.pairs) q (paths s.plan (kept s.plan s.pairs))
    ∙ ap (λ b. where_it (is_visible s.opening q && b) (placed_group s.columns s.plan s.opening (kept s.plan s.pairs) q)) (among-paths s.plan (kept s.plan s.pairs) q)

-- WHAT STANDS UNDER A KEY IS TOLD FROM THE KEY
pub found : (s : Side) (k : ViewKey) → AreDistinct (keys_of_rows s.pairs) → at_key key_of k (placed s) ≡ entry s k
found s k distinct =
    find-sorted_by by_place same_keys keys_symm (λ x. same_key (key_of x) k) (picks_one k) (entries s.columns s.plan s.opening (kept s.plan s.pairs)) (keys_of_entries_differ s distinct)
    ∙ found_side s distinct (is_flat s.plan) k
    ∙ at_side-entry s k
