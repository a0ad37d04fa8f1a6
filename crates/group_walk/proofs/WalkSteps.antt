-- A walk level by level: what it met and visited so far, and in the end.
use Rattle.std.proofs.Common.{◌≡◌, ℕ, ◌+◌, ◌<◌, ◌≤◌, Bool, true, false, cond, ◌&&◌, ◌||◌, List, [], ◌∷◌, ◌++◌, map, All, length, get_or, Option, refl, sym, ◌∙◌, ap, arith, append_assoc, length-append}
use Rattle.std.specs.Prelude.{nat_eq, nat_lt}
use Rattle.std.specs.List.{IsDistinct, list_any}
use Rattle.std.proofs.lemmas.Bool.{and_from, and_left, and_parts, eqb-true, le-ltb, ltb-false, ltb-true, ne_eqb, true≢false}
use Rattle.std.proofs.lemmas.Bool.Decides.{nat_tests}
use Rattle.std.proofs.lemmas.List.{append-nil, map-append}
use Rattle.std.proofs.lemmas.List.Folds.{list_any-append, list_any_at}
use Rattle.plain_data.specs.Lists.{is_empty}
use Rattle.cell_core.specs.declared.cell.Cell.{Cell}
use Rattle.cell_core.specs.declared.schema.Column.{Column}
use Rattle.place_order.specs.declared.rank.Rank.{Rank}
use Rattle.row_batch.specs.declared.batch.Pair.{Pair}
use Rattle.plan_types.specs.declared.plan.Plan.{Plan}
use Rattle.view_spec.specs.Entries.{is_there}
use Rattle.view_spec.specs.Openings.{Opening, is_open, is_visible, mark_of}
use Rattle.view_spec.specs.Paths.{same_path}
use Rattle.view_spec.specs.Views.{placed_group}
use Rattle.view_spec.specs.declared.placed.PlacedRow.{PlacedRow}
use Rattle.view_spec.proofs.PathLaws.{same_path_itself}
use Rattle.group_walk.specs.Levels.{AreBelow, AreRowsBelow, AreVisitsBelow, looks_at, looks_on}
use Rattle.group_walk.specs.Walks.{AreMet, AreVisits, above, goes_on, is_moved, is_shown_path, is_told, may_visit}
use Rattle.group_walk.proofs.PathLists.{by_above, by_last, distinct-append, not_deeper, visible_next}

-- ---- groups that are met, from the total downwards

-- whether it goes on at each value of a path
abbrev met_from : (List Cell → Cell → Bool) → List Cell → List Cell → Bool
met_from on done [] = true
met_from on done (c ∷ cs) = on done c && met_from on (done ++ c ∷ []) cs

abbrev pub is_met : (List Cell → Cell → Bool) → List Cell → Bool
is_met on path = met_from on [] path

and_true : (a : Bool) → (a && true) ≡ a
and_true true = refl
and_true false = refl

and_assoc : (a b c : Bool) → (a && (b && c)) ≡ ((a && b) && c)
and_assoc true b c = refl
and_assoc false b c = refl

met_from-next : (on : List Cell → Cell → Bool) (done q : List Cell) (c : Cell) → met_from on done (q ++ c ∷ []) ≡ (met_from on done q && on (done ++ q) c)
met_from-next on done [] c = and_true (on done c) ∙ ap (λ r. on r c) (sym (append-nil done))
met_from-next on done (d ∷ q) c =
    ap (λ b. on done d && b) (met_from-next on (done ++ d ∷ []) q c ∙ ap (λ r. met_from on (done ++ d ∷ []) q && on r c) (append_assoc done (d ∷ []) q))
    ∙ and_assoc (on done d) (met_from on (done ++ d ∷ []) q) (on (done ++ d ∷ q) c)

met_next : (on : List Cell → Cell → Bool) (q : List Cell) (c : Cell) → is_met on (q ++ c ∷ []) ≡ (is_met on q && on q c)
met_next on q c = met_from-next on [] q c

-- what is below a shown and open group is shown, where it is there
shown_below : (plan : Plan) (opening : Opening) (rows : List Pair) (q : List Cell) (c : Cell) → is_shown_path plan opening rows q ≡ true → mark_of plan opening q ≡ true → is_there plan rows (q ++ c ∷ []) ≡ true
    → is_shown_path plan opening rows (q ++ c ∷ []) ≡ true
shown_below plan opening rows q c shown marked there =
    let visible = (and_parts (is_visible opening q) (is_there plan rows q) shown).0 in
    let opened = (and_parts (nat_lt (length q) (length plan.group_by)) (is_open opening q) marked).1 in
    and_from (is_visible opening (q ++ c ∷ [])) (is_there plan rows (q ++ c ∷ []))
    (visible_next opening q c ∙ and_from (is_visible opening q) (is_open opening q) visible opened) there

-- a group that is met is shown
met_shown : (columns : List Column) (plan : Plan) (opening : Opening) (rows : List Pair) (told : List (List Cell)) (before : List Cell → Option (List Rank)) (q : List Cell)
    → is_met (goes_on columns plan opening rows told before) q ≡ true → is_shown_path plan opening rows q ≡ true
met_shown columns plan opening rows told before =
    by_above (λ q. is_met (goes_on columns plan opening rows told before) q ≡ true → is_shown_path plan opening rows q ≡ true) (λ _. refl) next
  where
    next : (q : List Cell) (c : Cell) → (is_met (goes_on columns plan opening rows told before) q ≡ true → is_shown_path plan opening rows q ≡ true)
        → is_met (goes_on columns plan opening rows told before) (q ++ c ∷ []) ≡ true → is_shown_path plan opening rows (q ++ c ∷ []) ≡ true
    next q c above_shown met =
        let parts = and_parts (is_met (goes_on columns plan opening rows told before) q) (goes_on columns plan opening rows told before q c) (sym (met_next (goes_on columns plan opening rows told before) q c) ∙ met) in
        let went = and_parts (mark_of plan opening q) (is_there plan rows (q ++ c ∷ []) && (is_moved columns plan rows before q || is_told told (q ++ c ∷ []))) parts.1 in
        let there = (and_parts (is_there plan rows (q ++ c ∷ [])) (is_moved columns plan rows before q || is_told told (q ++ c ∷ [])) went.1).0 in
        shown_below plan opening rows q c (above_shown parts.0) went.0 there

met_in_depth : (columns : List Column) (plan : Plan) (opening : Opening) (rows : List Pair) (told : List (List Cell)) (before : List Cell → Option (List Rank)) (q : List Cell)
    → is_met (goes_on columns plan opening rows told before) q ≡ true → length q < length plan.group_by + 1
met_in_depth columns plan opening rows told before q met = by (nat_lt (length q) (length plan.group_by + 1)) refl
  where
    by : (b : Bool) → nat_lt (length q) (length plan.group_by + 1) ≡ b → length q < length plan.group_by + 1
    by true short = ltb-true (length q) (length plan.group_by + 1) short
    by false long =
        let there = (and_parts (is_visible opening q) (is_there plan rows q) (met_shown columns plan opening rows told before q met)).1 in
        absurd (true≢false (sym there ∙ not_deeper plan rows q (let past = ltb-false (length q) (length plan.group_by + 1) long in omega arith)))

-- ---- groups that may be visited

above-next : (q : List Cell) (c : Cell) → above (q ++ c ∷ []) ≡ q
above-next [] c = refl
above-next (d ∷ []) c = refl
above-next (d ∷ e ∷ q) c = ap (λ r. d ∷ r) (above-next (e ∷ q) c)

or_second : (a b c : Bool) → b ≡ true → (a || (b || c)) ≡ true
or_second true b c h = refl
or_second false true c h = refl
or_second false false c h = absurd (true≢false (sym h))

or_third : (a b c : Bool) → c ≡ true → (a || (b || c)) ≡ true
or_third true b c h = refl
or_third false true c h = refl
or_third false false c h = h

may_visit_below : (columns : List Column) (plan : Plan) (opening : Opening) (rows : List Pair) (told : List (List Cell)) (before : List Cell → Option (List Rank)) (q : List Cell) (c : Cell)
    → is_shown_path plan opening rows q ≡ true → looks_on columns plan opening rows told before q c ≡ true → may_visit columns plan opening rows told before (q ++ c ∷ []) ≡ true
may_visit_below columns plan opening rows told before q c shown looks =
    by (is_moved columns plan rows before q) refl asked.1
  where
    asked : (mark_of plan opening q ≡ true) × (looks_at columns plan rows told before q c ≡ true)
    asked = and_parts (mark_of plan opening q) (looks_at columns plan rows told before q c) looks

    by : (b : Bool) → is_moved columns plan rows before q ≡ b → cond b (is_there plan rows (q ++ c ∷ [])) (is_told told (q ++ c ∷ [])) ≡ true → may_visit columns plan opening rows told before (q ++ c ∷ []) ≡ true
    by true moved there =
        or_third (is_empty (q ++ c ∷ [])) (is_told told (q ++ c ∷ [])) (is_shown_path plan opening rows (q ++ c ∷ []) && is_moved columns plan rows before (above (q ++ c ∷ [])))
        (and_from (is_shown_path plan opening rows (q ++ c ∷ [])) (is_moved columns plan rows before (above (q ++ c ∷ []))) (shown_below plan opening rows q c shown asked.0 there)
        (ap (is_moved columns plan rows before) (above-next q c) ∙ moved))
    by false moved is_told_there =
        or_second (is_empty (q ++ c ∷ [])) (is_told told (q ++ c ∷ [])) (is_shown_path plan opening rows (q ++ c ∷ []) && is_moved columns plan rows before (above (q ++ c ∷ []))) is_told_there

-- what holds of each path that a test finds in a list holds of each in the list
all_found : (P : List Cell → Type 0) (ps : List (List Cell)) → ((q : List Cell) → list_any (same_path q) ps ≡ true → P q) → All P ps
all_found P ps each k d within = each (get_or ps k d) (list_any_at (same_path (get_or ps k d)) ps k d within (same_path_itself (get_or ps k d)))

-- ---- a walk so far

-- what was met above a level, the rows of that level, and what was visited so far
pub record IsWalked (columns : List Column) (plan : Plan) (opening : Opening) (rows : List Pair) (told : List (List Cell)) (before : List Cell → Option (List Rank)) (depth : ℕ) (met level : List PlacedRow) (start now : ℕ) : Type 0 where
  pub done : List (List Cell)
  pub paths : List (List Cell)
  pub visited : List (List Cell)
  pub met_are : met ≡ map (placed_group columns plan opening rows) done
  pub level_is : level ≡ map (placed_group columns plan opening rows) paths
  pub each_done : (q : List Cell) → list_any (same_path q) done ≡ (nat_lt (length q) depth && is_met (goes_on columns plan opening rows told before) q)
  pub each : (q : List Cell) → list_any (same_path q) paths ≡ (nat_eq (length q) depth && is_met (goes_on columns plan opening rows told before) q)
  pub distinct_done : IsDistinct same_path done
  pub distinct : IsDistinct same_path paths
  pub distinct_visited : IsDistinct same_path visited
  pub may : (q : List Cell) → list_any (same_path q) visited ≡ true → may_visit columns plan opening rows told before q ≡ true
  pub short : (q : List Cell) → list_any (same_path q) visited ≡ true → length q ≤ depth
  pub few : now ≤ start + length visited

-- the total alone
total_only : (P : List Cell → Type 0) → P [] → (q : List Cell) → list_any (same_path q) ([] ∷ []) ≡ true → P q
total_only P here [] found = here
total_only P here (c ∷ cs) found = absurd (true≢false (sym found))

pub total_visited : (columns : List Column) (plan : Plan) (opening : Opening) (rows : List Pair) (told : List (List Cell)) (before : List Cell → Option (List Rank)) (start now : ℕ) → now ≤ start + 1
    → AreVisits columns plan opening rows told before start now
unfolding IsDistinct
total_visited columns plan opening rows told before start now few = record {
  paths = [] ∷ [];
  distinct = (tt, tt);
  each = all_found (λ q. may_visit columns plan opening rows told before q ≡ true) ([] ∷ []) (total_only (λ q. may_visit columns plan opening rows told before q ≡ true) refl);
  few = few;
}

pub walked_start : (columns : List Column) (plan : Plan) (opening : Opening) (rows : List Pair) (told : List (List Cell)) (before : List Cell → Option (List Rank)) (met level : List PlacedRow) (start now : ℕ) → met ≡ []
    → level ≡ placed_group columns plan opening rows [] ∷ [] → now ≤ start + 1 → IsWalked columns plan opening rows told before 0 met level start now
unfolding IsDistinct
walked_start columns plan opening rows told before met level start now none total few = record {
  done = [];
  paths = [] ∷ [];
  visited = [] ∷ [];
  met_are = none;
  level_is = total;
  each_done = λ q. sym (and_left (nat_lt (length q) 0) (is_met (goes_on columns plan opening rows told before) q) (le-ltb (length q) 0 (omega arith)));
  each = first;
  distinct_done = tt;
  distinct = (tt, tt);
  distinct_visited = (tt, tt);
  may = total_only (λ q. may_visit columns plan opening rows told before q ≡ true) refl;
  short = total_only (λ q. length q ≤ 0) (omega arith);
  few = few;
}
  where
    first : (q : List Cell) → list_any (same_path q) ([] ∷ []) ≡ (nat_eq (length q) 0 && is_met (goes_on columns plan opening rows told before) q)
    first [] = refl
    first (c ∷ cs) = sym (and_left (nat_eq (length (c ∷ cs)) 0) (is_met (goes_on columns plan opening rows told before) (c ∷ cs)) (ne_eqb (length (c ∷ cs)) 0 (λ e. omega arith)))

-- what was visited so far may be visited
pub visits_so_far : (columns : List Column) (plan : Plan) (opening : Opening) (rows : List Pair) (told : List (List Cell)) (before : List Cell → Option (List Rank)) (depth : ℕ) (met level : List PlacedRow) (start now : ℕ)
    → IsWalked columns plan opening rows told before depth met level start now → AreVisits columns plan opening rows told before start now
visits_so_far columns plan opening rows told before depth met level start now h = record {
  paths = h.visited;
  distinct = h.distinct_visited;
  each = all_found (λ q. may_visit columns plan opening rows told before q ≡ true) h.visited h.may;
  few = h.few;
}

-- ---- one level more is visited

record AreVisited (columns : List Column) (plan : Plan) (opening : Opening) (rows : List Pair) (told : List (List Cell)) (before : List Cell → Option (List Rank)) (depth start now : ℕ) (visited : List (List Cell)) : Type 0 where
  distinct : IsDistinct same_path visited
  may : (q : List Cell) → list_any (same_path q) visited ≡ true → may_visit columns plan opening rows told before q ≡ true
  short : (q : List Cell) → list_any (same_path q) visited ≡ true → length q ≤ depth
  few : now ≤ start + length visited

-- what is visited below a level may be visited, and is one value longer than that level
visited_below : (columns : List Column) (plan : Plan) (opening : Opening) (rows : List Pair) (told : List (List Cell)) (before : List Cell → Option (List Rank)) (depth : ℕ) (met level : List PlacedRow) (start now end : ℕ)
    → (h : IsWalked columns plan opening rows told before depth met level start now) → (v : AreVisitsBelow (looks_on columns plan opening rows told before) h.paths now end)
    → (q : List Cell) → list_any (same_path q) v.paths ≡ true → (may_visit columns plan opening rows told before q ≡ true) × (length q ≡ depth + 1)
visited_below columns plan opening rows told before depth met level start now end h v =
    by_last (λ q. list_any (same_path q) v.paths ≡ true → (may_visit columns plan opening rows told before q ≡ true) × (length q ≡ depth + 1))
    (λ found. absurd (true≢false (sym found ∙ v.no_total))) next
  where
    next : (q : List Cell) (c : Cell) → list_any (same_path (q ++ c ∷ [])) v.paths ≡ true → (may_visit columns plan opening rows told before (q ++ c ∷ []) ≡ true) × (length (q ++ c ∷ []) ≡ depth + 1)
    next q c found =
        let parts = and_parts (list_any (same_path q) h.paths) (looks_on columns plan opening rows told before q c) (v.each q c found) in
        let here = and_parts (nat_eq (length q) depth) (is_met (goes_on columns plan opening rows told before) q) (sym (h.each q) ∙ parts.0) in (
          may_visit_below columns plan opening rows told before q c (met_shown columns plan opening rows told before q here.1) parts.1,
          length-append q (c ∷ []) ∙ ap (λ n. n + 1) (eqb-true (length q) depth here.0),
        )

either : (P : Type 0) (a b : Bool) → (a ≡ true → P) → (b ≡ true → P) → (a || b) ≡ true → P
either P true b first second h = first refl
either P false b first second h = second h

visited_more : (columns : List Column) (plan : Plan) (opening : Opening) (rows : List Pair) (told : List (List Cell)) (before : List Cell → Option (List Rank)) (depth : ℕ) (met level : List PlacedRow) (start now end : ℕ)
    → (h : IsWalked columns plan opening rows told before depth met level start now) → (v : AreVisitsBelow (looks_on columns plan opening rows told before) h.paths now end)
    → AreVisited columns plan opening rows told before (depth + 1) start end (h.visited ++ v.paths)
visited_more columns plan opening rows told before depth met level start now end h v = record {
  distinct = distinct-append same_path same_path_itself h.visited v.paths h.distinct_visited v.distinct apart;
  may = λ q found. either (may_visit columns plan opening rows told before q ≡ true) (list_any (same_path q) h.visited) (list_any (same_path q) v.paths) (h.may q) (λ late. (later q late).0)
      (sym (list_any-append (same_path q) h.visited v.paths) ∙ found);
  short = λ q found. either (length q ≤ depth + 1) (list_any (same_path q) h.visited) (list_any (same_path q) v.paths) (λ early. let short = h.short q early in omega arith) (λ late. let long = (later q late).1 in omega arith)
      (sym (list_any-append (same_path q) h.visited v.paths) ∙ found);
  few = let so_far = h.few in let more = v.few in let long = length-append h.visited v.paths in omega arith;
}
  where
    later : (q : List Cell) → list_any (same_path q) v.paths ≡ true → (may_visit columns plan opening rows told before q ≡ true) × (length q ≡ depth + 1)
    later = visited_below columns plan opening rows told before depth met level start now end h v

    apart : (q : List Cell) → list_any (same_path q) h.visited ≡ true → list_any (same_path q) v.paths ≡ false
    apart q early = by (list_any (same_path q) v.paths) refl
      where
        by : (b : Bool) → list_any (same_path q) v.paths ≡ b → b ≡ false
        by true late = absurd (let short = h.short q early in let long = (later q late).1 in omega arith)
        by false late = refl

-- what was visited so far and below a level may be visited
pub visits_more : (columns : List Column) (plan : Plan) (opening : Opening) (rows : List Pair) (told : List (List Cell)) (before : List Cell → Option (List Rank)) (depth : ℕ) (met level : List PlacedRow) (start now end : ℕ)
    → (h : IsWalked columns plan opening rows told before depth met level start now) → AreVisitsBelow (looks_on columns plan opening rows told before) h.paths now end
    → AreVisits columns plan opening rows told before start end
visits_more columns plan opening rows told before depth met level start now end h v =
    let all = visited_more columns plan opening rows told before depth met level start now end h v in
    record {
      paths = h.visited ++ v.paths;
      distinct = all.distinct;
      each = all_found (λ q. may_visit columns plan opening rows told before q ≡ true) (h.visited ++ v.paths) all.may;
      few = all.few;
    }

-- ---- one level more is met

same_depth : (m n : ℕ) → nat_eq m n ≡ nat_eq (m + 1) (n + 1)
same_depth m n = grind (arith, nat_tests)

no_depth : (n : ℕ) → nat_eq 0 (n + 1) ≡ false
no_depth n = ne_eqb 0 (n + 1) (λ e. omega arith)

level_next : (on : List Cell → Cell → Bool) (depth : ℕ) (above_it below : List (List Cell)) → ((q : List Cell) → list_any (same_path q) above_it ≡ (nat_eq (length q) depth && is_met on q)) → AreBelow on above_it below
    → (q : List Cell) → list_any (same_path q) below ≡ (nat_eq (length q) (depth + 1) && is_met on q)
level_next on depth above_it below each h =
    by_last (λ q. list_any (same_path q) below ≡ (nat_eq (length q) (depth + 1) && is_met on q))
    (h.no_total ∙ sym (and_left (nat_eq 0 (depth + 1)) (is_met on []) (no_depth depth)))
    (λ q c. h.each q c
    ∙ ap (λ b. b && on q c) (each q)
    ∙ sym (and_assoc (nat_eq (length q) depth) (is_met on q) (on q c))
    ∙ (λ i. (same_depth (length q) depth ∙ ap (λ n. nat_eq n (depth + 1)) (sym (length-append q (c ∷ [])))) i && sym (met_next on q c) i))

either_level : (a b x : Bool) → (a && x || (b && x)) ≡ ((a || b) && x)
either_level true true true = refl
either_level true true false = refl
either_level true false true = refl
either_level true false false = refl
either_level false b x = refl

one_deeper : (m n : ℕ) → (nat_lt m n || nat_eq m n) ≡ nat_lt m (n + 1)
one_deeper m n = grind (arith, nat_tests)

-- the levels so far, and one level more
record AreJoined (columns : List Column) (plan : Plan) (opening : Opening) (rows : List Pair) (on : List Cell → Cell → Bool) (depth : ℕ) (met : List PlacedRow) (paths : List (List Cell)) : Type 0 where
  met_are : met ≡ map (placed_group columns plan opening rows) paths
  each : (q : List Cell) → list_any (same_path q) paths ≡ (nat_lt (length q) (depth + 1) && is_met on q)
  distinct : IsDistinct same_path paths

joined : (columns : List Column) (plan : Plan) (opening : Opening) (rows : List Pair) (told : List (List Cell)) (before : List Cell → Option (List Rank)) (depth : ℕ) (met level made : List PlacedRow) (start now : ℕ)
    → (h : IsWalked columns plan opening rows told before depth met level start now) → made ≡ met ++ level
    → AreJoined columns plan opening rows (goes_on columns plan opening rows told before) depth made (h.done ++ h.paths)
joined columns plan opening rows told before depth met level made start now h put =
    let shown = placed_group columns plan opening rows in
    record {
      met_are = put ∙ (λ i. h.met_are i ++ h.level_is i) ∙ sym (map-append shown h.done h.paths);
      each = λ q.
          list_any-append (same_path q) h.done h.paths ∙ (λ i. h.each_done q i || h.each q i)
          ∙ either_level (nat_lt (length q) depth) (nat_eq (length q) depth) (is_met (goes_on columns plan opening rows told before) q)
          ∙ ap (λ b. b && is_met (goes_on columns plan opening rows told before) q) (one_deeper (length q) depth);
      distinct = distinct-append same_path same_path_itself h.done h.paths h.distinct_done h.distinct
          (λ q there. h.each q ∙ and_left (nat_eq (length q) depth) (is_met (goes_on columns plan opening rows told before) q)
          (ne_eqb (length q) depth (λ e. let short = ltb-true (length q) depth (and_parts (nat_lt (length q) depth) (is_met (goes_on columns plan opening rows told before) q) (sym (h.each_done q) ∙ there)).0 in omega arith)));
    }

pub walked_more : (columns : List Column) (plan : Plan) (opening : Opening) (rows : List Pair) (told : List (List Cell)) (before : List Cell → Option (List Rank)) (depth : ℕ) (met level made below : List PlacedRow) (start now end : ℕ)
    → (h : IsWalked columns plan opening rows told before depth met level start now) → AreVisitsBelow (looks_on columns plan opening rows told before) h.paths now end
    → AreRowsBelow columns plan opening rows (goes_on columns plan opening rows told before) h.paths below → made ≡ met ++ level
    → IsWalked columns plan opening rows told before (depth + 1) made below start end
walked_more columns plan opening rows told before depth met level made below start now end h v next put =
    let all = joined columns plan opening rows told before depth met level made start now h put in
    let visited = visited_more columns plan opening rows told before depth met level start now end h v in
    record {
      done = h.done ++ h.paths;
      paths = next.paths;
      visited = h.visited ++ v.paths;
      met_are = all.met_are;
      level_is = next.shown_are;
      each_done = all.each;
      each = level_next (goes_on columns plan opening rows told before) depth h.paths next.paths h.each next.below;
      distinct_done = all.distinct;
      distinct = next.below.distinct;
      distinct_visited = visited.distinct;
      may = visited.may;
      short = visited.short;
      few = visited.few;
    }

-- below the last level no group is met
pub walked_end : (columns : List Column) (plan : Plan) (opening : Opening) (rows : List Pair) (told : List (List Cell)) (before : List Cell → Option (List Rank)) (depth : ℕ) (met level made : List PlacedRow) (start now : ℕ)
    → length plan.group_by ≤ depth → IsWalked columns plan opening rows told before depth met level start now → made ≡ met ++ level → AreMet columns plan opening rows told before made
walked_end columns plan opening rows told before depth met level made start now deep h put =
    let all = joined columns plan opening rows told before depth met level made start now h put in
    record {
      paths = h.done ++ h.paths;
      shown_are = all.met_are;
      distinct = all.distinct;
      total = all.each [] ∙ in_depth [] (nat_lt 0 (depth + 1)) refl;
      below = λ q c.
          all.each (q ++ c ∷ []) ∙ in_depth (q ++ c ∷ []) (nat_lt (length (q ++ c ∷ [])) (depth + 1)) refl
          ∙ met_next (goes_on columns plan opening rows told before) q c
          ∙ ap (λ b. b && goes_on columns plan opening rows told before q c) (sym (all.each q ∙ in_depth q (nat_lt (length q) (depth + 1)) refl));
    }
  where
    in_depth : (q : List Cell) (b : Bool) → nat_lt (length q) (depth + 1) ≡ b → (b && is_met (goes_on columns plan opening rows told before) q) ≡ is_met (goes_on columns plan opening rows told before) q
    in_depth q true is = refl
    in_depth q false is = by (is_met (goes_on columns plan opening rows told before) q) refl
      where
        by : (m : Bool) → is_met (goes_on columns plan opening rows told before) q ≡ m → false ≡ m
        by true met = absurd (let long = ltb-false (length q) (depth + 1) is in let short = met_in_depth columns plan opening rows told before q met in omega arith)
        by false met = refl
