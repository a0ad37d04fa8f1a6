-- Paths that are one value longer: what is shown, told or placed of them, and of the ones above.
use Rattle.std.proofs.Common.{◌≡◌, ◌<◌, Bool, true, false, ◌||◌, List, [], ◌∷◌, ◌++◌, length, Some, refl, sym, ap, ◌∙◌, arith, length-append}
use Rattle.std.specs.Prelude.{nat_lt}
use Rattle.std.specs.List.{list_any}
use Rattle.std.proofs.lemmas.Bool.{and_from, and_parts, or_left, or_right, true_from_ne_false, ltb-false}
use Rattle.std.proofs.lemmas.List.{append_cancel_right}
use Rattle.cell_core.specs.Cells.{same_cell, value_of}
use Rattle.cell_core.specs.declared.cell.Cell.{Cell}
use Rattle.cell_core.specs.declared.schema.Column.{Column}
use Rattle.row_batch.specs.declared.batch.Pair.{Pair}
use Rattle.place_order.specs.declared.rank.Rank.TheVariants.{Asc}
use Rattle.plan_types.specs.declared.plan.Plan.{Plan}
use Rattle.view_spec.specs.Entries.{is_there, where_it}
use Rattle.view_spec.specs.Openings.{Opening, is_open, is_visible, mark_of}
use Rattle.view_spec.specs.Paths.{begins_with}
use Rattle.view_spec.specs.Places.{group_ranks, place_of_group}
use Rattle.view_spec.proofs.PlaceLaws.{levels-last}
use Rattle.group_walk.proofs.PathLists.{not_deeper, there_before, visible_next}
use Rattle.group_walk.specs.Walks.{is_shown_path, is_told}

-- ---- induction, a value more at the end

pub by_longer : (P : List Cell → Type 0) → P [] → ((q : List Cell) (c : Cell) → P q → P (q ++ c ∷ [])) → (q : List Cell) → P q
by_longer P none longer [] = none
by_longer P none longer (d ∷ q) = by_longer (λ r. P (d ∷ r)) (longer [] d none) (λ r c h. longer (d ∷ r) c h) q

-- ---- tests

pub not_both : {X : Type 0} (b : Bool) → b ≡ true → b ≡ false → X
not_both b is isnt = absurd (let wrong : true ≡ false = sym is ∙ isnt in cc)

pub any_weaker : {X : Type 0} (f g : X → Bool) → ((x : X) → f x ≡ true → g x ≡ true) → (xs : List X) → list_any f xs ≡ true → list_any g xs ≡ true
any_weaker f g each [] h = h
any_weaker {X} f g each (x ∷ xs) h = by (f x) refl h (any_weaker f g each xs)
  where
    by : (b : Bool) → f x ≡ b → (b || list_any f xs) ≡ true → (list_any f xs ≡ true → list_any g xs ≡ true) → (g x || list_any g xs) ≡ true
    by true is h later = or_left (g x) (list_any g xs) (each x is)
    by false is h later = or_right (g x) (list_any g xs) (later h)

pub same_where : {X : Type 0} (a b : Bool) (x y : X) → a ≡ b → (a ≡ true → x ≡ y) → where_it a x ≡ where_it b y
same_where true true x y h same = ap Some (same refl)
same_where true false x y h same = not_both true refl h
same_where false true x y h same = not_both true refl (sym h)
same_where false false x y h same = refl

-- ---- told paths

begins_before : (q : List Cell) (c : Cell) (path : List Cell) → begins_with (q ++ c ∷ []) path ≡ true → begins_with q path ≡ true
begins_before [] c path h = refl
begins_before (d ∷ q) c [] h = h
begins_before (d ∷ q) c (e ∷ path) h =
    let parts = and_parts (same_cell d e) (begins_with (q ++ c ∷ []) path) h in
    and_from (same_cell d e) (begins_with q path) parts.0 (begins_before q c path parts.1)

-- the group above a told one is told
pub told_before : (told : List (List Cell)) (q : List Cell) (c : Cell) → is_told told (q ++ c ∷ []) ≡ true → is_told told q ≡ true
told_before told q c h = any_weaker (begins_with (q ++ c ∷ [])) (begins_with q) (begins_before q c) told h

-- ---- shown paths

-- the group is there, and the one above it is shown, open and not of full length
pub record IsShownBelow (plan : Plan) (opening : Opening) (rows : List Pair) (q : List Cell) (c : Cell) : Type 0 where
  pub above : is_shown_path plan opening rows q ≡ true
  pub mark : mark_of plan opening q ≡ true
  pub there : is_there plan rows (q ++ c ∷ []) ≡ true

shorter : (plan : Plan) (rows : List Pair) (q : List Cell) (c : Cell) → is_there plan rows (q ++ c ∷ []) ≡ true → nat_lt (length q) (length plan.group_by) ≡ true
shorter plan rows q c there =
    true_from_ne_false (nat_lt (length q) (length plan.group_by))
    (λ isnt. let long = ltb-false (length q) (length plan.group_by) isnt in
    let more = length-append q (c ∷ []) in
    let deep : length plan.group_by < length (q ++ c ∷ []) = omega arith in
    not_both (is_there plan rows (q ++ c ∷ [])) there (not_deeper plan rows (q ++ c ∷ []) deep))

pub shown_below : (plan : Plan) (opening : Opening) (rows : List Pair) (q : List Cell) (c : Cell) → is_shown_path plan opening rows (q ++ c ∷ []) ≡ true → IsShownBelow plan opening rows q c
shown_below plan opening rows q c h =
    let parts = and_parts (is_visible opening (q ++ c ∷ [])) (is_there plan rows (q ++ c ∷ [])) h in
    let seen = and_parts (is_visible opening q) (is_open opening q) (sym (visible_next opening q c) ∙ parts.0) in
    record {
      above = and_from (is_visible opening q) (is_there plan rows q) seen.0 (there_before plan rows q c parts.1);
      mark = and_from (nat_lt (length q) (length plan.group_by)) (is_open opening q) (shorter plan rows q c parts.1) seen.1;
      there = parts.1;
    }

pub shown_next : (plan : Plan) (opening : Opening) (rows : List Pair) (q : List Cell) (c : Cell) → IsShownBelow plan opening rows q c → is_shown_path plan opening rows (q ++ c ∷ []) ≡ true
shown_next plan opening rows q c h =
    let seen = and_parts (is_visible opening q) (is_there plan rows q) h.above in
    let open_it = and_parts (nat_lt (length q) (length plan.group_by)) (is_open opening q) h.mark in
    and_from (is_visible opening (q ++ c ∷ [])) (is_there plan rows (q ++ c ∷ []))
    (visible_next opening q c ∙ and_from (is_visible opening q) (is_open opening q) seen.0 open_it.1) h.there

-- ---- places

place_next : (columns : List Column) (plan : Plan) (rows : List Pair) (q : List Cell) (c : Cell)
    → place_of_group columns plan rows (q ++ c ∷ []) ≡ place_of_group columns plan rows q ++ (group_ranks columns plan rows (q ++ c ∷ []) ++ Asc (value_of c) ∷ [])
place_next columns plan rows q c = levels-last (group_ranks columns plan rows) [] q c

last_part : (columns : List Column) (plan : Plan) (rows more : List Pair) (q : List Cell) (c : Cell) → group_ranks columns plan more (q ++ c ∷ []) ≡ group_ranks columns plan rows (q ++ c ∷ [])
    → place_of_group columns plan rows (q ++ c ∷ []) ≡ place_of_group columns plan rows q ++ (group_ranks columns plan more (q ++ c ∷ []) ++ Asc (value_of c) ∷ [])
last_part columns plan rows more q c ranks =
    place_next columns plan rows q c ∙ ap (λ rs. place_of_group columns plan rows q ++ (rs ++ Asc (value_of c) ∷ [])) (sym ranks)

-- a group that keeps its ranks keeps its place exactly where the one above it does
pub place_below : (columns : List Column) (plan : Plan) (rows more : List Pair) (q : List Cell) (c : Cell) → group_ranks columns plan more (q ++ c ∷ []) ≡ group_ranks columns plan rows (q ++ c ∷ [])
    → place_of_group columns plan more q ≡ place_of_group columns plan rows q → place_of_group columns plan more (q ++ c ∷ []) ≡ place_of_group columns plan rows (q ++ c ∷ [])
place_below columns plan rows more q c ranks same =
    place_next columns plan more q c
    ∙ ap (λ p. p ++ (group_ranks columns plan more (q ++ c ∷ []) ++ Asc (value_of c) ∷ [])) same
    ∙ sym (last_part columns plan rows more q c ranks)

pub place_above : (columns : List Column) (plan : Plan) (rows more : List Pair) (q : List Cell) (c : Cell) → group_ranks columns plan more (q ++ c ∷ []) ≡ group_ranks columns plan rows (q ++ c ∷ [])
    → place_of_group columns plan more (q ++ c ∷ []) ≡ place_of_group columns plan rows (q ++ c ∷ []) → place_of_group columns plan more q ≡ place_of_group columns plan rows q
place_above columns plan rows more q c ranks same =
    append_cancel_right (place_of_group columns plan more q) (place_of_group columns plan rows q) (group_ranks columns plan more (q ++ c ∷ []) ++ Asc (value_of c) ∷ [])
    (sym (place_next columns plan more q c) ∙ same ∙ last_part columns plan rows more q c ranks)
