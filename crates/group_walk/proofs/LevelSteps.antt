-- The groups of a level from those of the level above it: where a walk looks, what it meets there, and what it visits.
use Rattle.std.proofs.Common.{◌≡◌, ℕ, zero, suc, ◌+◌, ◌<◌, ◌≤◌, Bool, true, false, cond, ◌&&◌, ◌||◌, List, [], ◌∷◌, ◌++◌, map, filter, All, length, get_or, take, Option, refl, sym, ◌∙◌, ap, subst, arith}
use Rattle.std.specs.Prelude.{not, option_map}
use Rattle.std.specs.Cmp.{eq_by_cmp_equiv}
use Rattle.std.specs.List.{IsDistinct, list_any}
use Rattle.std.specs.List.Sorted.{IsStrictlySortedBy}
use Rattle.std.proofs.lemmas.Bool.{and_left, and_parts, true≢false}
use Rattle.std.proofs.lemmas.List.{append-nil, get_or-map, length-map, map-append, take_more}
use Rattle.std.proofs.lemmas.List.Elements.{All-from_recursion, All-nil, All-push, filter-append}
use Rattle.std.proofs.lemmas.List.Folds.{list_any-append}
use Rattle.std.proofs.lemmas.Map.Keys.{IsDistinct-head, IsDistinct-tail}
use Rattle.std.proofs.lemmas.Map.Views.{any-filter_same}
use Rattle.cell_core.specs.Cells.{cell_order, same_cell}
use Rattle.cell_core.specs.declared.cell.Cell.{Cell}
use Rattle.cell_core.specs.declared.schema.Column.{Column}
use Rattle.place_order.specs.declared.rank.Rank.{Rank}
use Rattle.row_batch.specs.declared.batch.Pair.{Pair}
use Rattle.plan_types.specs.declared.plan.Plan.{Plan}
use Rattle.delta_core.specs.Rows.{at_key}
use Rattle.view_spec.specs.Entries.{is_there}
use Rattle.view_spec.specs.Openings.{Opening, mark_of}
use Rattle.view_spec.specs.Paths.{same_path}
use Rattle.view_spec.specs.Views.{placed_group}
use Rattle.view_spec.specs.declared.placed.PlacedRow.{PlacedRow}
use Rattle.view_spec.proofs.PathLaws.{path_order-total, same_path_is_equal, same_path_itself}
use Rattle.view_spec.proofs.Sorting.{IsDistinct-filter}
use Rattle.live_list.specs.Live.{live_key}
use Rattle.live_list.specs.declared.list.LiveRow.{LiveRow}
use Rattle.group_walk.specs.declared.level.Ahead.{Ahead}
use Rattle.group_walk.specs.Levels.{AddsAhead, AreAhead, AreBelow, AreRowsBelow, AreVisitsBelow, IsBelowPlace, looks_at, looks_on, path_ahead}
use Rattle.group_walk.specs.Walks.{goes_on, is_moved, is_place, is_told, place_in}
use Rattle.group_walk.proofs.PathLists.{among_next, by_last, distinct-append, next_distinct, next_paths, total_not_next}

-- ---- groups right below

join : (a x s y : Bool) → (s ≡ true → y ≡ x) → (a && x || (s && y)) ≡ ((a || (s || false)) && x)
join true true s y same = refl
join true false true y same = same refl
join true false false y same = refl
join false x true y same = same refl
join false x false y same = refl

-- those below one group more
below_more : (on : List Cell → Cell → Bool) (above below : List (List Cell)) (p cs : List Cell) → list_any (same_path p) above ≡ false → IsStrictlySortedBy cell_order cs
    → ((c : Cell) → list_any (same_cell c) cs ≡ on p c) → AreBelow on above below → AreBelow on (above ++ p ∷ []) (below ++ next_paths p cs)
below_more on above below p cs new up leads h = record {
  each = λ q c.
      list_any-append (same_path (q ++ c ∷ [])) below (next_paths p cs)
      ∙ (λ i. h.each q c i || (among_next p cs q c ∙ ap (λ b. same_path q p && b) (leads c)) i)
      ∙ join (list_any (same_path q) above) (on q c) (same_path q p) (on p c) (λ same. ap (λ r. on r c) (sym (same_path_is_equal q p same)))
      ∙ ap (λ b. b && on q c) (sym (list_any-append (same_path q) above (p ∷ [])));
  no_total = list_any-append (same_path []) below (next_paths p cs) ∙ (λ i. h.no_total i || total_not_next p cs i);
  distinct = distinct-append same_path same_path_itself below (next_paths p cs) h.distinct (next_distinct p cs up)
      (by_last (λ q. list_any (same_path q) below ≡ true → list_any (same_path q) (next_paths p cs) ≡ false) (λ _. total_not_next p cs) apart);
}
  where
    apart : (q : List Cell) (c : Cell) → list_any (same_path (q ++ c ∷ [])) below ≡ true → list_any (same_path (q ++ c ∷ [])) (next_paths p cs) ≡ false
    apart q c there = among_next p cs q c ∙ and_left (same_path q p) (list_any (same_cell c) cs) (by (same_path q p) refl)
      where
        by : (b : Bool) → same_path q p ≡ b → b ≡ false
        by true same =
            let one : q ≡ p = same_path_is_equal q p same in
            let found : list_any (same_path q) above ≡ true = (and_parts (list_any (same_path q) above) (on q c) (sym (h.each q c) ∙ there)).0 in
            absurd (true≢false (sym found ∙ ap (λ r. list_any (same_path r) above) one ∙ new))
        by false same = refl

not_before : (ps : List (List Cell)) (i : ℕ) → i < length ps → IsDistinct same_path ps → list_any (same_path (get_or ps i [])) (take i ps) ≡ false
not_before [] i within distinct = absurd (omega arith)
not_before (p ∷ ps) zero within distinct = refl
not_before (p ∷ ps) (suc i) within distinct =
    let below : i < length ps = omega arith in
    let apart = All-from_recursion (λ q. same_path p q ≡ false) ps (IsDistinct-head same_path p ps distinct) i [] below in
    let turned : same_path (get_or ps i []) p ≡ false = (eq_by_cmp_equiv path_order-total).symm (get_or ps i []) p ∙ apart in
    λ k. turned k || not_before ps i below (IsDistinct-tail same_path p ps distinct) k

-- ---- groups ahead

pub ahead_none : (columns : List Column) (plan : Plan) (opening : Opening) (rows : List Pair) (told : List (List Cell)) (before : List Cell → Option (List Rank)) (ahead : List Ahead) → ahead ≡ []
    → AreAhead columns plan opening rows told before [] ahead
unfolding IsDistinct
ahead_none columns plan opening rows told before ahead none =
    subst (AreAhead columns plan opening rows told before []) (sym none)
    (record { below = record { each = λ q c. refl; no_total = refl; distinct = tt }; placed = All-nil (IsBelowPlace columns plan rows) })

pub ahead_more : (columns : List Column) (plan : Plan) (opening : Opening) (rows : List Pair) (told : List (List Cell)) (before : List Cell → Option (List Rank)) (paths : List (List Cell)) (i : ℕ) (old new : List Ahead)
    → i < length paths → IsDistinct same_path paths → AreAhead columns plan opening rows told before (take i paths) old
    → AddsAhead columns plan rows (get_or paths i []) (looks_on columns plan opening rows told before (get_or paths i [])) old new
    → AreAhead columns plan opening rows told before (take (i + 1) paths) new
ahead_more columns plan opening rows told before paths i old new within distinct h adds =
    let on = looks_on columns plan opening rows told before in
    let p = get_or paths i [] in
    record {
      below = subst (λ ps. AreBelow on ps (map path_ahead new)) (sym (take_more paths i [] within))
          (subst (AreBelow on (take i paths ++ p ∷ [])) (sym adds.added) (below_more on (take i paths) (map path_ahead old) p adds.values (not_before paths i within distinct) adds.ascending adds.each h.below));
      placed = adds.placed h.placed;
    }

-- a closed group has none at which a walk looks
pub adds_none : (columns : List Column) (plan : Plan) (opening : Opening) (rows : List Pair) (told : List (List Cell)) (before : List Cell → Option (List Rank)) (path : List Cell) (ahead : List Ahead)
    → mark_of plan opening path ≡ false → AddsAhead columns plan rows path (looks_on columns plan opening rows told before path) ahead ahead
unfolding IsStrictlySortedBy
adds_none columns plan opening rows told before path ahead closed = record {
  values = [];
  added = sym (append-nil (map path_ahead ahead));
  placed = λ h. h;
  ascending = tt;
  each = λ c. sym (and_left (mark_of plan opening path) _ closed);
}

-- a group that was met has moved
pub moved_is : {V : Type 0} (columns : List Column) (plan : Plan) (opening : Opening) (rows : List Pair) (was : List (List Rank × LiveRow V)) (path : List Cell) (x : PlacedRow) (b : Bool)
    → x ≡ placed_group columns plan opening rows path → b ≡ not (is_place (option_map (λ e. e.0) (at_key live_key x.row.key was)) x.place) → is_moved columns plan rows (place_in was) path ≡ b
moved_is {V} columns plan opening rows was path x b is told =
    sym (told ∙ ap (λ (y : PlacedRow). not (is_place (option_map (λ (e : List Rank × LiveRow V). e.0) (at_key live_key y.row.key was)) y.place)) is)

pub looks_at-is : (columns : List Column) (plan : Plan) (rows : List Pair) (told : List (List Cell)) (before : List Cell → Option (List Rank)) (path : List Cell) (c : Cell) (b : Bool) → is_moved columns plan rows before path ≡ b
    → cond b (is_there plan rows (path ++ c ∷ [])) (is_told told (path ++ c ∷ [])) ≡ looks_at columns plan rows told before path c
looks_at-is columns plan rows told before path c b is = ap (λ d. cond d (is_there plan rows (path ++ c ∷ [])) (is_told told (path ++ c ∷ []))) (sym is)

-- those below an open group
pub adds_some : (columns : List Column) (plan : Plan) (opening : Opening) (rows : List Pair) (told : List (List Cell)) (before : List Cell → Option (List Rank)) (path values : List Cell) (old new : List Ahead)
    → mark_of plan opening path ≡ true → map path_ahead new ≡ map path_ahead old ++ map (λ c. path ++ c ∷ []) values → (All (IsBelowPlace columns plan rows) old → All (IsBelowPlace columns plan rows) new)
    → IsStrictlySortedBy cell_order values → ((c : Cell) → list_any (same_cell c) values ≡ looks_at columns plan rows told before path c)
    → AddsAhead columns plan rows path (looks_on columns plan opening rows told before path) old new
adds_some columns plan opening rows told before path values old new opened added placed up each = record {
  values = values;
  added = added;
  placed = placed;
  ascending = up;
  each = λ c. each c ∙ ap (λ b. b && looks_at columns plan rows told before path c) (sym opened);
}

-- one group more is ahead
pub ahead_put : (columns : List Column) (plan : Plan) (rows : List Pair) (old new : List Ahead) (one : Ahead) → new ≡ old ++ one ∷ [] → IsBelowPlace columns plan rows one → All (IsBelowPlace columns plan rows) old
    → All (IsBelowPlace columns plan rows) new
ahead_put columns plan rows old new one put here all = subst (All (IsBelowPlace columns plan rows)) (sym put) (All-push (IsBelowPlace columns plan rows) old one all here)

-- the row at a place of a level
pub row_at : (columns : List Column) (plan : Plan) (opening : Opening) (rows : List Pair) (paths : List (List Cell)) (level : List PlacedRow) (i : ℕ) (x : PlacedRow) → level ≡ map (placed_group columns plan opening rows) paths
    → i < length paths → x ≡ get_or level i x → x ≡ placed_group columns plan opening rows (get_or paths i [])
row_at columns plan opening rows paths level i x is within at =
    at ∙ ap (λ xs. get_or xs i x) is ∙ get_or-map (placed_group columns plan opening rows) paths i [] x within

pub level_length : (columns : List Column) (plan : Plan) (opening : Opening) (rows : List Pair) (paths : List (List Cell)) (level : List PlacedRow) → level ≡ map (placed_group columns plan opening rows) paths
    → length level ≡ length paths
level_length columns plan opening rows paths level is = ap length is ∙ length-map paths (placed_group columns plan opening rows)

-- the total, alone
pub first_level : (columns : List Column) (plan : Plan) (opening : Opening) (rows : List Pair) (path : List Cell) (x : PlacedRow) (none made : List PlacedRow) → path ≡ [] → none ≡ []
    → x ≡ placed_group columns plan opening rows path → made ≡ none ++ x ∷ [] → made ≡ placed_group columns plan opening rows [] ∷ []
first_level columns plan opening rows path x none made empty before shown put =
    put ∙ (λ k. before k ++ shown k ∷ []) ∙ ap (λ q. placed_group columns plan opening rows q ∷ []) empty

-- ---- groups that are there

-- the row of one group ahead, where it is there
pub row_there : (columns : List Column) (plan : Plan) (opening : Opening) (rows : List Pair) (path : List Cell) (x : PlacedRow) (old new : List PlacedRow) → is_there plan rows path ≡ true → x ≡ placed_group columns plan opening rows path
    → new ≡ old ++ x ∷ [] → new ≡ old ++ map (placed_group columns plan opening rows) (filter (is_there plan rows) (path ∷ []))
row_there columns plan opening rows path x old new there shown put =
    put ∙ ap (λ y. old ++ y ∷ []) shown ∙ ap (λ b. old ++ map (placed_group columns plan opening rows) (cond b (path ∷ []) [])) (sym there)

pub row_gone : (columns : List Column) (plan : Plan) (opening : Opening) (rows : List Pair) (path : List Cell) (old : List PlacedRow) → is_there plan rows path ≡ false
    → old ≡ old ++ map (placed_group columns plan opening rows) (filter (is_there plan rows) (path ∷ []))
row_gone columns plan opening rows path old gone =
    sym (append-nil old) ∙ ap (λ b. old ++ map (placed_group columns plan opening rows) (cond b (path ∷ []) [])) (sym gone)

pub rows_there_more : (columns : List Column) (plan : Plan) (opening : Opening) (rows : List Pair) (ahead : List Ahead) (i : ℕ) (one : Ahead) (old new : List PlacedRow) → i < length ahead → one ≡ get_or ahead i one
    → old ≡ map (placed_group columns plan opening rows) (filter (is_there plan rows) (map path_ahead (take i ahead)))
    → new ≡ old ++ map (placed_group columns plan opening rows) (filter (is_there plan rows) (path_ahead one ∷ []))
    → new ≡ map (placed_group columns plan opening rows) (filter (is_there plan rows) (map path_ahead (take (i + 1) ahead)))
rows_there_more columns plan opening rows ahead i one old new within at so_far put =
    let shown = placed_group columns plan opening rows in
    let there = filter (is_there plan rows) in
    put ∙ ap (λ xs. xs ++ map shown (there (path_ahead one ∷ []))) so_far
    ∙ sym (map-append shown (there (map path_ahead (take i ahead))) (there (path_ahead one ∷ [])))
    ∙ ap (map shown) (sym (filter-append (is_there plan rows) (map path_ahead (take i ahead)) (path_ahead one ∷ [])))
    ∙ ap (λ ps. map shown (there ps)) (sym (map-append path_ahead (take i ahead) (one ∷ [])))
    ∙ ap (λ xs. map shown (there (map path_ahead xs))) (ap (λ x. take i ahead ++ x ∷ []) at ∙ sym (take_more ahead i one within))

met_there : (a m v t u : Bool) → (t && (a && (m && cond v t u))) ≡ (a && (m && (t && (v || u))))
met_there a m true true u = refl
met_there a m false true u = refl
met_there true true v false u = refl
met_there true false v false u = refl
met_there false m v false u = refl

-- those at which a walk looks and that are there are those to which it goes on
pub below_there : (columns : List Column) (plan : Plan) (opening : Opening) (rows : List Pair) (told : List (List Cell)) (before : List Cell → Option (List Rank)) (above below : List (List Cell))
    → AreBelow (looks_on columns plan opening rows told before) above below → AreBelow (goes_on columns plan opening rows told before) above (filter (is_there plan rows) below)
below_there columns plan opening rows told before above below h = record {
  each = λ q c.
      among (q ++ c ∷ [])
      ∙ ap (λ b. is_there plan rows (q ++ c ∷ []) && b) (h.each q c)
      ∙ met_there (list_any (same_path q) above) (mark_of plan opening q) (is_moved columns plan rows before q) (is_there plan rows (q ++ c ∷ [])) (is_told told (q ++ c ∷ []));
  no_total = among [] ∙ ap (λ b. is_there plan rows [] && b) h.no_total;
  distinct = IsDistinct-filter same_path (is_there plan rows) below h.distinct;
}
  where
    among : (q : List Cell) → list_any (same_path q) (filter (is_there plan rows) below) ≡ (is_there plan rows q && list_any (same_path q) below)
    among q = any-filter_same (same_path q) (is_there plan rows) (is_there plan rows q) (λ r same. ap (is_there plan rows) (sym (same_path_is_equal q r same))) below

pub rows_below : (columns : List Column) (plan : Plan) (opening : Opening) (rows : List Pair) (told : List (List Cell)) (before : List Cell → Option (List Rank)) (above : List (List Cell)) (ahead : List Ahead) (shown : List PlacedRow)
    → AreAhead columns plan opening rows told before above ahead → shown ≡ map (placed_group columns plan opening rows) (filter (is_there plan rows) (map path_ahead ahead))
    → AreRowsBelow columns plan opening rows (goes_on columns plan opening rows told before) above shown
rows_below columns plan opening rows told before above ahead shown h is = record {
  paths = filter (is_there plan rows) (map path_ahead ahead);
  shown_are = is;
  below = below_there columns plan opening rows told before above (map path_ahead ahead) h.below;
}

-- ---- visits

pub visits_none : (on : List Cell → Cell → Bool) (above : List (List Cell)) (n : ℕ) → AreVisitsBelow on above n n
unfolding IsDistinct
visits_none on above n = record {
  paths = [];
  each = λ q c found. absurd (true≢false (sym found));
  no_total = refl;
  distinct = tt;
  few = omega arith;
}

pub visits_below : (columns : List Column) (plan : Plan) (opening : Opening) (rows : List Pair) (told : List (List Cell)) (before : List Cell → Option (List Rank)) (above : List (List Cell)) (ahead : List Ahead) (start end : ℕ)
    → AreAhead columns plan opening rows told before above ahead → end ≤ start + length ahead → AreVisitsBelow (looks_on columns plan opening rows told before) above start end
visits_below columns plan opening rows told before above ahead start end h few = record {
  paths = map path_ahead ahead;
  each = λ q c found. sym (h.below.each q c) ∙ found;
  no_total = h.below.no_total;
  distinct = h.below.distinct;
  few = let long = length-map ahead path_ahead in omega arith;
}
