-- The rows of all shown groups, sorted by place, are those of the view.
use Rattle.std.proofs.Common.{◌≡◌, ◌≢◌, Bool, true, false, cond, ◌&&◌, ◌||◌, List, [], ◌∷◌, map, filter, fold, get_or, All, Equal, refl, sym, ◌∙◌, ap, subst}
use Rattle.std.specs.List.{IsDistinct, list_any}
use Rattle.std.specs.List.Sorted.{IsPermutation}
use Rattle.std.specs.Ordering.{eq_by_cmp, is_eq}
use Rattle.std.proofs.lemmas.Bool.{true≢false}
use Rattle.std.proofs.lemmas.Cmp.{tied_itself}
use Rattle.std.proofs.lemmas.List.Elements.{All-nil, All-head, All-tail, All-map, All-weaker, All-from_recursion}
use Rattle.std.proofs.lemmas.List.Sorted.{IsPermutation-map, list_any-IsPermutation}
use Rattle.std.proofs.lemmas.Map.Keys.{IsDistinct-head, IsDistinct-tail}
use Rattle.plain_data.specs.Distinct.{AreDistinct}
use Rattle.plain_data.specs.Sorting.{insert_by, sorted_by}
use Rattle.cell_core.specs.declared.cell.Cell.{Cell}
use Rattle.cell_core.specs.declared.schema.Column.{Column}
use Rattle.place_order.specs.PlaceLaws.{is_equal, place_order-exact}
use Rattle.place_order.specs.Places.{place_order}
use Rattle.place_order.specs.declared.rank.Rank.{Rank}
use Rattle.row_batch.specs.declared.batch.Pair.{Pair}
use Rattle.plan_types.specs.declared.plan.Plan.{Plan}
use Rattle.view_types.specs.declared.shown.ShownRow.{ShownRow}
use Rattle.delta_core.proofs.DistinctRows.{All-unmap}
use Rattle.view_spec.specs.Columns.{is_flat}
use Rattle.view_spec.specs.Entries.{is_there}
use Rattle.view_spec.specs.Kept.{kept}
use Rattle.view_spec.specs.Members.{paths}
use Rattle.view_spec.specs.Openings.{Opening, is_visible}
use Rattle.view_spec.specs.Paths.{path_order, same_path}
use Rattle.view_spec.specs.Views.{Side, by_place, placed, placed_group, placed_row}
use Rattle.view_spec.specs.declared.placed.PlacedRow.{PlacedRow}
use Rattle.view_spec.proofs.EntryLaws.{insert_entry-map}
use Rattle.view_spec.proofs.PathLaws.{among-paths, path_order-exact, path_order-total, same_path_is_equal, same_path_itself}
use Rattle.view_spec.proofs.PlaceLaws.{place_of_group-exact}
use Rattle.view_spec.proofs.Sorting.{All-insert_by, IsPermutation-sorted_by, ascending-sorted_by, sorted_by-IsPermutation}
use Rattle.view_spec.proofs.SplitLaws.{same_members}
use Rattle.view_spec.proofs.ViewLaws.{IsDistinct-map, by_place-total, paths_ascend}
use Rattle.flat_show.specs.Entries.{entry_of}
use Rattle.group_show.specs.Entries.{put_entry}

-- a map has the rows of all shown groups
pub record AreEntries (columns : List Column) (plan : Plan) (opening : Opening) (rows : List Pair) (entries : List (List Rank × ShownRow)) : Type 0 where
  pub paths : List (List Cell)
  pub entries_are : entries ≡ fold put_entry [] (map (placed_group columns plan opening rows) paths)
  pub each : (q : List Cell) → list_any (same_path q) paths ≡ (is_visible opening q && is_there plan rows q)
  pub distinct : IsDistinct same_path paths

-- ---- rows that were put at their places

untied : (x : PlacedRow) (xs : List PlacedRow) → All (λ p. p ≢ x.place) (map (λ (y : PlacedRow). y.place) xs) → All (λ y. by_place y x ≢ Equal) xs
untied x xs apart =
    All-weaker (λ (y : PlacedRow). y.place ≢ x.place) (λ y. by_place y x ≢ Equal) (λ y other tie. other (place_order-exact y.place x.place tie)) xs
    (All-unmap (λ p. p ≢ x.place) (λ (y : PlacedRow). y.place) xs apart)

entries_from : (sorted xs : List PlacedRow) → AreDistinct (map (λ (y : PlacedRow). y.place) xs) → All (λ x. All (λ y. by_place x y ≢ Equal) sorted) xs
    → fold put_entry (map entry_of sorted) xs ≡ map entry_of (fold (λ sorted x. insert_by by_place x sorted) sorted xs)
entries_from sorted [] distinct apart = refl
entries_from sorted (x ∷ xs) distinct apart =
    let others : All (λ y. by_place y x ≢ Equal) xs = untied x xs distinct.0 in
    let here = All-head (λ x. All (λ y. by_place x y ≢ Equal) sorted) x xs apart in
    let later = All-tail (λ x. All (λ y. by_place x y ≢ Equal) sorted) x xs apart in
    ap (λ es. fold put_entry es xs) (insert_entry-map (λ (y : PlacedRow). y.place) (λ (y : PlacedRow). y.row) place_order by_place (λ a b. refl) x sorted here)
    ∙ entries_from (insert_by by_place x sorted) xs distinct.1
    (λ k d l. All-insert_by (λ y. by_place (get_or xs k d) y ≢ Equal) by_place x sorted (others k d l) (later k d l))

entries_sorted : (xs : List PlacedRow) → AreDistinct (map (λ (y : PlacedRow). y.place) xs) → fold put_entry [] xs ≡ map entry_of (sorted_by by_place xs)
entries_sorted xs distinct = entries_from [] xs distinct (λ k d l. All-nil (λ y. by_place (get_or xs k d) y ≢ Equal))

-- the placed rows of the entries
placed_again : (xs : List PlacedRow) → map (λ (e : List Rank × ShownRow). let x : PlacedRow = record { place = e.0; row = e.1 } in x) (map entry_of xs) ≡ xs
placed_again [] = refl
placed_again (x ∷ xs) = ap (λ ys. x ∷ ys) (placed_again xs)

-- ---- places

groups_differ : (columns : List Column) (plan : Plan) (opening : Opening) (rows : List Pair) (p q : List Cell) → eq_by_cmp path_order p q ≡ false
    → eq_by_cmp by_place (placed_group columns plan opening rows p) (placed_group columns plan opening rows q) ≡ false
groups_differ columns plan opening rows p q apart = by (eq_by_cmp by_place (placed_group columns plan opening rows p) (placed_group columns plan opening rows q)) refl
  where
    by : (b : Bool) → eq_by_cmp by_place (placed_group columns plan opening rows p) (placed_group columns plan opening rows q) ≡ b → b ≡ false
    by true same =
        let one : p ≡ q = place_of_group-exact columns plan rows p q (place_order-exact _ _ (is_equal _ same)) in
        absurd (true≢false (sym (subst (λ r. same_path p r ≡ true) one (same_path_itself p)) ∙ apart))
    by false same = refl

places_distinct : (xs : List PlacedRow) → IsDistinct (eq_by_cmp by_place) xs → AreDistinct (map (λ (y : PlacedRow). y.place) xs)
places_distinct [] distinct = tt
places_distinct (x ∷ xs) distinct = (
  All-map (λ p. p ≢ x.place) (λ (y : PlacedRow). y.place) xs
      (All-weaker (λ y. eq_by_cmp by_place x y ≡ false) (λ (y : PlacedRow). y.place ≢ x.place)
      (λ y apart same. true≢false (sym (ap is_eq (ap (λ p. place_order x.place p) same ∙ tied_itself by_place-total x)) ∙ apart)) xs
      (All-from_recursion (λ y. eq_by_cmp by_place x y ≡ false) xs (IsDistinct-head (eq_by_cmp by_place) x xs distinct))),
  places_distinct xs (IsDistinct-tail (eq_by_cmp by_place) x xs distinct),
)

-- ---- the paths that a view shows

any-filter : (t : List Cell → Bool) (q : List Cell) (ps : List (List Cell)) → list_any (same_path q) (filter t ps) ≡ (t q && list_any (same_path q) ps)
any-filter t q [] = by (t q)
  where
    by : (b : Bool) → false ≡ (b && false)
    by true = refl
    by false = refl
any-filter t q (p ∷ ps) = by (t p) (same_path q p) refl refl (any-filter t q ps)
  where
    hidden : (b c d : Bool) → b ≡ false → (b && c) ≡ (b && d)
    hidden true c d h = absurd (true≢false h)
    hidden false c d h = refl

    by : (a b : Bool) → t p ≡ a → same_path q p ≡ b → list_any (same_path q) (filter t ps) ≡ (t q && list_any (same_path q) ps)
        → list_any (same_path q) (cond a (p ∷ filter t ps) (filter t ps)) ≡ (t q && (b || list_any (same_path q) ps))
    by true true shown same later =
        let passes : t q ≡ true = ap t (same_path_is_equal q p same) ∙ shown in
        rw (same, passes) refl
    by true false shown same later = rw same later
    by false true shown same later = later ∙ hidden (t q) (list_any (same_path q) ps) true (ap t (same_path_is_equal q p same) ∙ shown)
    by false false shown same later = later

abbrev shown_paths : Plan → Opening → List Pair → List (List Cell)
shown_paths plan opening rows = filter (is_visible opening) (paths plan rows)

among_shown : (plan : Plan) (opening : Opening) (rows : List Pair) (q : List Cell) → list_any (same_path q) (shown_paths plan opening rows) ≡ (is_visible opening q && is_there plan rows q)
among_shown plan opening rows q = any-filter (is_visible opening) q (paths plan rows) ∙ ap (λ b. is_visible opening q && b) (among-paths plan rows q)

paths_moved : (columns : List Column) (plan : Plan) (opening : Opening) (rows : List Pair) (entries : List (List Rank × ShownRow)) (h : AreEntries columns plan opening rows entries)
    → IsPermutation h.paths (shown_paths plan opening rows)
paths_moved columns plan opening rows entries h =
    let sorted = sorted_by path_order h.paths in
    let moved : IsPermutation h.paths sorted = IsPermutation-sorted_by path_order h.paths in
    let same : sorted ≡ shown_paths plan opening rows =
    same_members path_order path_order-total path_order-exact sorted (shown_paths plan opening rows) (ascending-sorted_by path_order path_order-total h.paths h.distinct)
    (paths_ascend plan rows (is_visible opening)) (λ q. sym (list_any-IsPermutation (same_path q) h.paths sorted moved) ∙ h.each q ∙ sym (among_shown plan opening rows q)) in
    subst (IsPermutation h.paths) same moved

pub entries_placed : (s : Side) (entries : List (List Rank × ShownRow)) → is_flat s.plan ≡ false → AreEntries s.columns s.plan s.opening (kept s.plan s.pairs) entries
    → map (λ (e : List Rank × ShownRow). let x : PlacedRow = record { place = e.0; row = e.1 } in x) entries ≡ placed s
entries_placed s entries grouped h =
    let rows = kept s.plan s.pairs in
    let shown = placed_group s.columns s.plan s.opening rows in
    let distinct : IsDistinct (eq_by_cmp by_place) (map shown h.paths) =
    IsDistinct-map (eq_by_cmp path_order) (eq_by_cmp by_place) shown (groups_differ s.columns s.plan s.opening rows) h.paths h.distinct in
    ap (map (λ (e : List Rank × ShownRow). let x : PlacedRow = record { place = e.0; row = e.1 } in x)) (h.entries_are ∙ entries_sorted (map shown h.paths) (places_distinct (map shown h.paths) distinct))
    ∙ placed_again (sorted_by by_place (map shown h.paths))
    ∙ sorted_by-IsPermutation by_place by_place-total (map shown h.paths) (map shown (shown_paths s.plan s.opening rows)) distinct
    (IsPermutation-map shown h.paths (shown_paths s.plan s.opening rows) (paths_moved s.columns s.plan s.opening rows entries h))
    ∙ sym (ap (λ b. sorted_by by_place (cond b (map (placed_row s.columns s.plan) rows) (map shown (shown_paths s.plan s.opening rows)))) grouped)
