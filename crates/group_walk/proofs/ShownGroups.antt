-- What is shown of a group, and where.
use Rattle.std.proofs.Common.{◌≡◌, ℕ, zero, suc, ◌+◌, ◌<◌, ◌≤◌, Bool, true, false, ◌||◌, List, [], ◌∷◌, ◌++◌, map, length, get_or, take, drop, Option, Some, None, refl, sym, ◌∙◌, ap, arith, eq-eqb}
use Rattle.std.specs.Prelude.{nat_eq}
use Rattle.std.specs.List.{slice_get}
use Rattle.std.specs.Option.{option_map}
use Rattle.std.proofs.lemmas.List.{append_assoc, drop_all, drop_more, get_or-map, length-map, map_more, take_all}
use Rattle.std.proofs.lemmas.Option.{none-some, same_Some, slice_get-get_or, slice_get-map}
use Rattle.value_core.specs.declared.value.Value.{Value}
use Rattle.cell_core.specs.Cells.{value_of}
use Rattle.cell_core.specs.declared.cell.Cell.{Cell}
use Rattle.cell_core.specs.declared.schema.Column.{Column}
use Rattle.place_order.specs.Places.{rank}
use Rattle.place_order.specs.declared.rank.Rank.{Rank}
use Rattle.place_order.specs.declared.rank.Rank.TheVariants.{Asc}
use Rattle.row_batch.specs.declared.batch.Pair.{Pair}
use Rattle.plan_types.specs.declared.plan.Plan.{Plan}
use Rattle.plan_types.specs.declared.plan.Sort.{Sort}
use Rattle.view_types.specs.declared.key.ViewKey.TheVariants.{Group}
use Rattle.view_types.specs.declared.shown.HeaderColumn.{HeaderColumn}
use Rattle.view_spec.specs.Cells.{cells_of_group, head_at, text_at, with_columns, with_splits, with_value}
use Rattle.view_spec.specs.Members.{members, splits, within}
use Rattle.view_spec.specs.Openings.{Opening, mark_of}
use Rattle.view_spec.specs.Places.{group_ranks, place_of_group, rows_value}
use Rattle.view_spec.specs.Views.{placed_group}
use Rattle.view_spec.specs.declared.placed.PlacedRow.{PlacedRow}
use Rattle.view_spec.proofs.PlaceLaws.{levels-last}
use Rattle.view_columns.specs.Headers.{each_under, under}
use Rattle.view_columns.specs.declared.headers.SplitColumns.{SplitColumns}
use Rattle.pivot_tree.specs.Columns.{is_among, is_used}
use Rattle.pivot_tree.proofs.UsedSteps.{among_before}

-- ---- cells

-- the next column's value put in
pub cells_more : (columns : List Column) (plan : Plan) (split : List Cell) (value_at : ℕ → Option Value) (items : List ℕ) (i : ℕ) (cells made : List (List ℕ × Value)) (text : List ℕ) (value : Option Value)
    → i < length items → text ≡ text_at columns plan split (get_or items i 0) → value ≡ value_at (get_or items i 0) → made ≡ with_value cells text value
    → with_columns columns plan split value_at (drop (i + 1) items) made ≡ with_columns columns plan split value_at (drop i items) cells
cells_more columns plan split value_at items i cells made text value inside texts values put =
    ap (with_columns columns plan split value_at (drop (i + 1) items)) (put ∙ (λ k. with_value cells (texts k) (values k)))
    ∙ sym (ap (λ is. with_columns columns plan split value_at is cells) (drop_more items i 0 inside))

-- no column is left
pub cells_end : (columns : List Column) (plan : Plan) (split : List Cell) (value_at : ℕ → Option Value) (items : List ℕ) (i : ℕ) (first cells : List (List ℕ × Value)) → items ≡ plan.columns → length items ≤ i
    → with_columns columns plan split value_at (drop i items) cells ≡ with_columns columns plan split value_at items first → cells ≡ with_columns columns plan split value_at plan.columns first
cells_end columns plan split value_at items i first cells is past all =
    sym (ap (λ is. with_columns columns plan split value_at is cells) (drop_all i items past)) ∙ all ∙ ap (λ is. with_columns columns plan split value_at is first) is

head_found : (columns : List Column) (plan : Plan) (split : List Cell) (header : List HeaderColumn) (items : List ℕ) (i : ℕ) → header ≡ under columns plan split → items ≡ plan.columns → i < length items
    → slice_get header i ≡ Some (head_at columns plan split (get_or items i 0))
head_found columns plan split header items i head is inside =
    ap (λ hs. slice_get hs i) (head ∙ ap (map (head_at columns plan split)) (sym is)) ∙ slice_get-map (head_at columns plan split) items i
    ∙ ap (λ o. option_map (head_at columns plan split) o) (slice_get-get_or items i 0 inside)

-- the text of a column stands in the header
pub head_text : (columns : List Column) (plan : Plan) (split : List Cell) (header : List HeaderColumn) (items : List ℕ) (i : ℕ) (h : HeaderColumn) → header ≡ under columns plan split → items ≡ plan.columns
    → i < length items → slice_get header i ≡ Some h → h.text ≡ text_at columns plan split (get_or items i 0)
head_text columns plan split header items i h head is inside at =
    ap (λ (g : HeaderColumn). g.text) (same_Some h (head_at columns plan split (get_or items i 0)) (sym at ∙ head_found columns plan split header items i head is inside))

pub no_head : (columns : List Column) (plan : Plan) (split : List Cell) (header : List HeaderColumn) (items : List ℕ) (i : ℕ) → header ≡ under columns plan split → items ≡ plan.columns → i < length items
    → slice_get header i ≡ None → ⊥
no_head columns plan split header items i head is inside at = none-some (head_at columns plan split (get_or items i 0)) (sym at ∙ head_found columns plan split header items i head is inside)

-- ---- cells under each split path

abbrev pub split_under : List Column → Plan → List Cell → SplitColumns
split_under columns plan s = record { split = s; columns = under columns plan s }

pub each_length : (columns : List Column) (plan : Plan) (paths : List (List Cell)) (made : List SplitColumns) → made ≡ each_under columns plan paths → length made ≡ length paths
each_length columns plan paths made is = ap length is ∙ length-map paths (split_under columns plan)

-- the columns under the split path at a place
pub split_at : (columns : List Column) (plan : Plan) (paths : List (List Cell)) (made : List SplitColumns) (i : ℕ) (x : SplitColumns) → made ≡ each_under columns plan paths → i < length made → x ≡ get_or made i x
    → x ≡ split_under columns plan (get_or paths i [])
split_at columns plan paths made i x is inside at =
    let listed : i < length paths = let long = each_length columns plan paths made is in omega arith in
    at ∙ ap (λ xs. get_or xs i x) is ∙ get_or-map (split_under columns plan) paths i [] x listed

-- the values under one split path more
pub splits_more : (columns : List Column) (plan : Plan) (ms : List Pair) (paths : List (List Cell)) (i : ℕ) (split : List Cell) (cells made : List (List ℕ × Value)) → i < length paths → split ≡ get_or paths i []
    → made ≡ with_columns columns plan split (rows_value columns plan (within plan split ms)) plan.columns cells
    → with_splits columns plan ms (drop (i + 1) paths) made ≡ with_splits columns plan ms (drop i paths) cells
splits_more columns plan ms paths i split cells made inside at put =
    ap (with_splits columns plan ms (drop (i + 1) paths)) (put ∙ ap (λ s. with_columns columns plan s (rows_value columns plan (within plan s ms)) plan.columns cells) at)
    ∙ sym (ap (λ ss. with_splits columns plan ms ss cells) (drop_more paths i [] inside))

-- no split path is left
pub splits_end : (columns : List Column) (plan : Plan) (ms : List Pair) (paths : List (List Cell)) (i : ℕ) (cells : List (List ℕ × Value)) → length paths ≤ i
    → with_splits columns plan ms (drop i paths) cells ≡ with_splits columns plan ms paths [] → cells ≡ cells_of_group columns plan paths ms
splits_end columns plan ms paths i cells past all = sym (ap (λ ss. with_splits columns plan ms ss cells) (drop_all i paths past)) ∙ all

-- ---- used columns

among_at : (numbers : List ℕ) (i : ℕ) → i < length numbers → is_among numbers (get_or numbers i 0) ≡ true
among_at [] i inside = absurd (omega arith)
among_at (n ∷ numbers) zero inside = ap (λ b. b || is_among numbers n) (eq-eqb n n refl)
among_at (n ∷ numbers) (suc i) inside = or_later (nat_eq (get_or numbers i 0) n) (is_among numbers (get_or numbers i 0)) (among_at numbers i (omega arith))
  where
    or_later : (a b : Bool) → b ≡ true → (a || b) ≡ true
    or_later true b h = refl
    or_later false b h = h

among_behind : (numbers more : List ℕ) (i : ℕ) → is_among more i ≡ true → is_among (numbers ++ more) i ≡ true
among_behind [] more i h = h
among_behind (n ∷ numbers) more i h = or_later (nat_eq i n) (is_among (numbers ++ more) i) (among_behind numbers more i h)
  where
    or_later : (a b : Bool) → b ≡ true → (a || b) ≡ true
    or_later true b h = refl
    or_later false b h = h

pub uses_shown : (plan : Plan) (items : List ℕ) (i : ℕ) → items ≡ plan.columns → i < length items → is_used plan (get_or items i 0) ≡ true
uses_shown plan items i is inside =
    among_before plan.columns (map (λ (s : Sort). s.column) plan.sorts) (get_or items i 0) (ap (λ ns. is_among ns (get_or items i 0)) (sym is) ∙ among_at items i inside)

pub uses_sorted : (plan : Plan) (items : List Sort) (i : ℕ) (d : Sort) → items ≡ plan.sorts → i < length items → is_used plan (get_or items i d).column ≡ true
uses_sorted plan items i d is inside =
    let numbers = map (λ (s : Sort). s.column) items in
    let listed : i < length numbers = rw length-map inside in
    let at : get_or numbers i 0 ≡ (get_or items i d).column = get_or-map (λ (s : Sort). s.column) items i d 0 inside in
    ap (λ (ss : List Sort). is_among (plan.columns ++ map (λ (s : Sort). s.column) ss) (get_or items i d).column) (sym is)
    ∙ among_behind plan.columns numbers (get_or items i d).column (ap (is_among numbers) (sym at) ∙ among_at numbers i listed)

-- ---- places

-- the rank of one sort more
pub ranks_more : (value_at : ℕ → Option Value) (items : List Sort) (i : ℕ) (d : Sort) (above place made : List Rank) (r : Rank) → i < length items
    → place ≡ above ++ map (λ (s : Sort). rank s.direction (value_at s.column)) (take i items) → r ≡ rank (get_or items i d).direction (value_at (get_or items i d).column) → made ≡ place ++ r ∷ []
    → made ≡ above ++ map (λ (s : Sort). rank s.direction (value_at s.column)) (take (i + 1) items)
ranks_more value_at items i d above place made r inside so_far is put =
    let rank_at : Sort → Rank = λ (s : Sort). rank s.direction (value_at s.column) in
    put ∙ (λ k. so_far k ++ is k ∷ []) ∙ append_assoc above (map rank_at (take i items)) (rank_at (get_or items i d) ∷ [])
    ∙ ap (λ rs. above ++ rs) (sym (map_more rank_at items i d inside))

-- all sorts, and then the last value
pub ranks_end : (columns : List Column) (plan : Plan) (rows : List Pair) (path : List Cell) (items : List Sort) (i : ℕ) (above place made : List Rank) (last : Rank) (c : Cell) → items ≡ plan.sorts
    → length items ≤ i → place ≡ above ++ map (λ (s : Sort). rank s.direction (rows_value columns plan (members plan rows path) s.column)) (take i items) → last ≡ Asc (value_of c)
    → made ≡ place ++ last ∷ [] → made ≡ above ++ (group_ranks columns plan rows path ++ Asc (value_of c) ∷ [])
ranks_end columns plan rows path items i above place made last c is past so_far last_is put =
    let rank_at : Sort → Rank = λ (s : Sort). rank s.direction (rows_value columns plan (members plan rows path) s.column) in
    put ∙ (λ k. (so_far ∙ ap (λ ss. above ++ map rank_at ss) (take_all i items past ∙ is)) k ++ last_is k ∷ [])
    ∙ append_assoc above (group_ranks columns plan rows path) (Asc (value_of c) ∷ [])

pub place_next : (columns : List Column) (plan : Plan) (rows : List Pair) (path : List Cell) (c : Cell) (above made : List Rank) → above ≡ place_of_group columns plan rows path
    → made ≡ above ++ (group_ranks columns plan rows (path ++ c ∷ []) ++ Asc (value_of c) ∷ []) → made ≡ place_of_group columns plan rows (path ++ c ∷ [])
place_next columns plan rows path c above made is put =
    put ∙ ap (λ ranks. ranks ++ (group_ranks columns plan rows (path ++ c ∷ []) ++ Asc (value_of c) ∷ [])) is ∙ sym (levels-last (group_ranks columns plan rows) [] path c)

-- ---- rows

pub same_row : (columns : List Column) (plan : Plan) (opening : Opening) (rows : List Pair) (path : List Cell) (place : List Rank) (mark : Bool) (cells : List (List ℕ × Value))
    → place ≡ place_of_group columns plan rows path → mark ≡ mark_of plan opening path → cells ≡ cells_of_group columns plan (splits plan rows) (members plan rows path)
    → let x : PlacedRow = record { place = place; row = record { key = Group path; mark = mark; cells = cells } } in x ≡ placed_group columns plan opening rows path
same_row columns plan opening rows path place mark cells at marked shown = λ i. record { place = at i; row = record { key = Group path; mark = marked i; cells = shown i } }
