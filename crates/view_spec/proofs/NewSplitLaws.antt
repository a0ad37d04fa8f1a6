-- A header's texts differ; and where a count is shown, a new or gone split touches every shown group.
use Rattle.std.proofs.Common.{◌≡◌, ◌≢◌, ℕ, zero, suc, Bool, true, false, cond, ◌&&◌, ◌||◌, List, [], ◌∷◌, ◌++◌, map, filter, All, Option, Some, None, is_some, refl, sym, ◌∙◌, ap, subst}
use Rattle.std.specs.Prelude.{not, slice_index_or}
use Rattle.std.specs.List.{list_any}
use Rattle.std.proofs.lemmas.Bool.{or_right}
use Rattle.std.proofs.lemmas.List.{map-append}
use Rattle.std.proofs.lemmas.List.Elements.{All-append, All-nil, All-cons, All-filter, All-head, All-map, All-tail, All-weaker}
use Rattle.std.proofs.lemmas.Map.Lookups.{exact_unsigned}
use Rattle.std.proofs.lemmas.Option.{same_Some}
use Rattle.plain_data.specs.Distinct.{AreDistinct}
use Rattle.cell_core.specs.declared.cell.Cell.{Cell}
use Rattle.cell_core.specs.declared.cell.Cell.TheVariants.{Words}
use Rattle.cell_core.specs.declared.cell.CellType.{CellType}
use Rattle.cell_core.specs.declared.schema.Column.{Column}
use Rattle.row_batch.specs.Checks.{cell_fault}
use Rattle.row_batch.specs.Changes.{FitsColumns}
use Rattle.row_batch.specs.declared.batch.Pair.{Pair}
use Rattle.row_batch.specs.declared.change.RowChange.{RowChange}
use Rattle.row_batch.proofs.ChangeLists.{distinct_changed_all}
use Rattle.plan_types.specs.Columns.{all_columns, expression_column}
use Rattle.plan_types.specs.declared.aggregate.AggName.{AggName}
use Rattle.plan_types.specs.declared.aggregate.AggName.TheVariants as name
use Rattle.plan_types.specs.declared.plan.Expression.{Expression}
use Rattle.plan_types.specs.declared.plan.Plan.{Plan}
use Rattle.agg_core.specs.Aggregates.{aggregate}
use Rattle.expr_spec.specs.TreeViews.{tree_view}
use Rattle.expr_spec.specs.Typing.{IsCheckedTree}
use Rattle.expr_spec.specs.Values as v
use Rattle.expr_spec.proofs.FitLemmas as fit
use Rattle.view_types.specs.declared.key.ViewKey.TheVariants.{Group}
use Rattle.view_types.specs.declared.shown.HeaderColumn.{HeaderColumn}
use Rattle.delta_core.proofs.DistinctRows.{AreDistinct-from_ascending}
use Rattle.view_spec.specs.Cells.{HasKinds, cells_of_group, head_at, header_of, text_at}
use Rattle.view_spec.specs.Columns.{aggregate_at, column_at, is_flat, no_column}
use Rattle.view_spec.specs.Entries.{entry, group_entry, is_there, where_it}
use Rattle.view_spec.specs.Filters.{cell_in}
use Rattle.view_spec.specs.Kept.{by_key, full_pair, is_kept, kept}
use Rattle.view_spec.specs.Laws.{HasKeys, IsTyped, NamesDiffer, has_split}
use Rattle.view_spec.specs.Members.{members, split_of, splits, splits_by, within}
use Rattle.view_spec.specs.Openings.{is_visible}
use Rattle.view_spec.specs.Paths.{path_order, path_set, same_path}
use Rattle.view_spec.specs.Places.{rows_value}
use Rattle.view_spec.specs.Steps.{ShowsCount, changed_side, counts_rows}
use Rattle.view_spec.specs.Touching.{is_touched, same_found, same_placed}
use Rattle.view_spec.specs.Views.{Side, placed, placed_group, view}
use Rattle.view_spec.specs.declared.placed.PlacedRow.{PlacedRow}
use Rattle.view_spec.proofs.HeaderLaws.{path_text-apart}
use Rattle.view_spec.proofs.LocalLaws.{touched-by_entry}
use Rattle.view_spec.proofs.PathLaws.{All-path_set, path_order-total, path_set-ascends, same_path_is_equal, same_path_itself}
use Rattle.view_spec.proofs.Sorting.{All-sorted_by}
use Rattle.view_spec.proofs.SplitLaws.{holds_among}
use Rattle.view_spec.proofs.TextLaws.{has_text, has_text-group, shows_text}
use Rattle.view_spec.proofs.TouchLaws.{same_placed-exact}

-- ---- the cells of kept rows have their columns' types

fits_both : (cs ds : List Column) (r q : List Cell) → FitsColumns cs r → FitsColumns ds q → FitsColumns (cs ++ ds) (r ++ q)
fits_both [] ds [] q h i = i
fits_both (c ∷ cs) ds (x ∷ r) q h i = (h.0, fits_both cs ds r q h.1 i)
fits_both [] ds (x ∷ r) q h i = absurd h
fits_both (c ∷ cs) ds [] q h i = absurd h

fits_trees : (columns : List Column) (row : List Cell) (es : List Expression) → FitsColumns columns row → All (λ e. IsCheckedTree columns (tree_view e.tree) e.kind) es
    → FitsColumns (map expression_column es) (map (λ e. v.value_in (tree_view e.tree) row) es)
fits_trees columns row [] h all = tt
fits_trees columns row (e ∷ es) h all =
    let checked = All-head (λ (e : Expression). IsCheckedTree columns (tree_view e.tree) e.kind) e es all in (
      fit.value_in columns row (tree_view e.tree) e.kind h checked.typed checked.numbers,
      fits_trees columns row es h (All-tail (λ (e : Expression). IsCheckedTree columns (tree_view e.tree) e.kind) e es all),
    )

fits_at : (columns : List Column) (row : List Cell) (i : ℕ) → FitsColumns columns row → cell_fault (slice_index_or columns i no_column).kind (cell_in row i) ≡ None
fits_at [] [] i h = refl
fits_at (c ∷ cs) (x ∷ r) zero h = h.0
fits_at (c ∷ cs) (x ∷ r) (suc i) h = fits_at cs r i h.1
fits_at [] (x ∷ r) i h = absurd h
fits_at (c ∷ cs) [] i h = absurd h

-- the types of the columns that a plan splits by
abbrev kinds_by : List Column → List ℕ → List CellType
kinds_by columns is = map (λ i. (slice_index_or columns i no_column).kind) is

has_kinds : (columns : List Column) (row : List Cell) (is : List ℕ) → FitsColumns columns row → HasKinds (kinds_by columns is) (map (cell_in row) is)
has_kinds columns row [] h = tt
has_kinds columns row (i ∷ is) h = (fits_at columns row i h, has_kinds columns row is h)

abbrev split_kinds : List Column → Plan → List CellType
split_kinds columns plan = kinds_by (all_columns columns plan.expressions) plan.split_by

abbrev Full : List Column → Plan → Pair → Type 0
Full columns plan p = FitsColumns (all_columns columns plan.expressions) p.row

kept-full : (s : Side) → IsTyped s → All (Full s.columns s.plan) (kept s.plan s.pairs)
kept-full s h =
    All-sorted_by (Full s.columns s.plan) by_key (filter (is_kept s.plan) (map (full_pair s.plan) s.pairs))
    (All-filter (is_kept s.plan) (Full s.columns s.plan) (map (full_pair s.plan) s.pairs)
    (All-map (Full s.columns s.plan) (full_pair s.plan) s.pairs
    (All-weaker (λ (p : Pair). FitsColumns s.columns p.row) (λ (p : Pair). Full s.columns s.plan (full_pair s.plan p))
    (λ p row. fits_both s.columns (map expression_column s.plan.expressions) p.row (map (λ e. v.value_in (tree_view e.tree) p.row) s.plan.expressions) row
    (fits_trees s.columns p.row s.plan.expressions row h.trees)) s.pairs h.rows)))

splits-by-kinds : (columns : List Column) (by : List ℕ) (found : List (List Cell)) → All (HasKinds (kinds_by columns by)) found → All (HasKinds (kinds_by columns by)) (splits_by by found)
splits-by-kinds columns [] found all = All-cons (HasKinds []) [] [] tt (All-nil (HasKinds []))
splits-by-kinds columns (i ∷ is) found all = all

splits-kinds : (s : Side) → IsTyped s → All (HasKinds (split_kinds s.columns s.plan)) (splits s.plan (kept s.plan s.pairs))
splits-kinds s h =
    let kinds = split_kinds s.columns s.plan in
    splits-by-kinds (all_columns s.columns s.plan.expressions) s.plan.split_by (path_set (map (split_of s.plan) (kept s.plan s.pairs)))
    (All-path_set (HasKinds kinds) (map (split_of s.plan) (kept s.plan s.pairs))
    (All-map (HasKinds kinds) (split_of s.plan) (kept s.plan s.pairs)
    (All-weaker (Full s.columns s.plan) (λ (p : Pair). HasKinds kinds (split_of s.plan p)) (λ p row. has_kinds (all_columns s.columns s.plan.expressions) p.row s.plan.split_by row) (kept s.plan s.pairs) (kept-full s h))))

-- ---- the texts of a header

distinct_both : {X : Type 0} (xs ys : List X) → AreDistinct xs → AreDistinct ys → All (λ x. All (λ y. y ≢ x) ys) xs → AreDistinct (xs ++ ys)
distinct_both [] ys first last apart = last
distinct_both (x ∷ xs) ys first last apart = (
  All-append (λ y. y ≢ x) xs ys first.0 (All-head (λ x. All (λ y. y ≢ x) ys) x xs apart),
  distinct_both xs ys first.1 last (All-tail (λ x. All (λ y. y ≢ x) ys) x xs apart),
)

all_each : {X Y : Type 0} (P : Y → Type 0) (f : X → Y) → ((x : X) → P (f x)) → (xs : List X) → All P (map f xs)
all_each P f each [] = All-nil P
all_each P f each (x ∷ xs) = All-cons P (f x) (map f xs) (each x) (all_each P f each xs)

module _ (columns : List Column) (plan : Plan) where
  abbrev name_at : ℕ → List ℕ
  name_at i = (column_at columns plan i).name

  abbrev Kinds : List Cell → Type 0
  Kinds s = HasKinds (split_kinds columns plan) s

  abbrev texts_under : List Cell → List ℕ → List (List ℕ)
  texts_under split is = map (text_at columns plan split) is

  abbrev texts_of : List (List Cell) → List (List ℕ)
  texts_of ss = map (λ (h : HeaderColumn). h.text) (header_of columns plan ss)

  heads_texts : (s : List Cell) (is : List ℕ) → map (λ (h : HeaderColumn). h.text) (map (head_at columns plan s) is) ≡ texts_under s is
  heads_texts s [] = refl
  heads_texts s (i ∷ is) = ap (λ ts. text_at columns plan s i ∷ ts) (heads_texts s is)

  texts-more : (s : List Cell) (ss : List (List Cell)) → texts_of (s ∷ ss) ≡ texts_under s plan.columns ++ texts_of ss
  texts-more s ss =
      map-append (λ (h : HeaderColumn). h.text) (map (head_at columns plan s) plan.columns) (header_of columns plan ss)
      ∙ ap (λ ts. ts ++ texts_of ss) (heads_texts s plan.columns)

  told : (s t : List Cell) (i j : ℕ) → Kinds s → Kinds t → text_at columns plan s i ≡ text_at columns plan t j → (s ≡ t) × (name_at i ≡ name_at j)
  told s t i j h k e = path_text-apart (split_kinds columns plan) s t (name_at i) (name_at j) h k e

  others_under : (s : List Cell) (i : ℕ) (is : List ℕ) → Kinds s → All (λ n. n ≢ name_at i) (map name_at is) → All (λ t. t ≢ text_at columns plan s i) (texts_under s is)
  others_under s i [] h all = All-nil (λ t. t ≢ text_at columns plan s i)
  others_under s i (j ∷ js) h all =
      All-cons (λ t. t ≢ text_at columns plan s i) (text_at columns plan s j) (texts_under s js)
      (λ same. All-head (λ n. n ≢ name_at i) (name_at j) (map name_at js) all (told s s j i h h same).1)
      (others_under s i js h (All-tail (λ n. n ≢ name_at i) (name_at j) (map name_at js) all))

  distinct_under : (s : List Cell) (is : List ℕ) → Kinds s → AreDistinct (map name_at is) → AreDistinct (texts_under s is)
  distinct_under s [] h names = tt
  distinct_under s (i ∷ is) h names = (others_under s i is h names.0, distinct_under s is h names.1)

  -- a text under one split path stands under no other
  none_among : (s : List Cell) (i : ℕ) (ss : List (List Cell)) → Kinds s → All Kinds ss → All (λ t. t ≢ s) ss → All (λ t. t ≢ text_at columns plan s i) (texts_of ss)
  none_among s i [] h all others = All-nil (λ t. t ≢ text_at columns plan s i)
  none_among s i (r ∷ rs) h all others =
      let P : List ℕ → Type 0 = λ t. t ≢ text_at columns plan s i in
      let here = all_each P (text_at columns plan r) (λ j same. All-head (λ t. t ≢ s) r rs others (told r s j i (All-head Kinds r rs all) h same).0) plan.columns in
      subst (All P) (sym (texts-more r rs))
      (All-append P (texts_under r plan.columns) (texts_of rs) here (none_among s i rs h (All-tail Kinds r rs all) (All-tail (λ t. t ≢ s) r rs others)))

  distinct_texts : (ss : List (List Cell)) → All Kinds ss → AreDistinct ss → NamesDiffer columns plan → AreDistinct (texts_of ss)
  distinct_texts [] all apart names = tt
  distinct_texts (s ∷ ss) all apart names =
      let here = All-head Kinds s ss all in
      let more = All-tail Kinds s ss all in
      subst AreDistinct (sym (texts-more s ss))
      (distinct_both (texts_under s plan.columns) (texts_of ss) (distinct_under s plan.columns here names) (distinct_texts ss more apart.1 names)
      (all_each (λ x. All (λ y. y ≢ x) (texts_of ss)) (text_at columns plan s) (λ i. none_among s i ss here more apart.0) plan.columns))

splits-by-distinct : (by : List ℕ) (found : List (List Cell)) → AreDistinct found → AreDistinct (splits_by by found)
splits-by-distinct [] found h = (All-nil (λ t. t ≢ []), tt)
splits-by-distinct (i ∷ is) found h = h

-- THE TEXTS OF A HEADER DIFFER
pub texts-differ : (s : Side) → IsTyped s → NamesDiffer s.columns s.plan → AreDistinct (map (λ (h : HeaderColumn). h.text) (view s).header)
texts-differ s h names =
    let rows = kept s.plan s.pairs in
    distinct_texts s.columns s.plan (splits s.plan rows) (splits-kinds s h)
    (splits-by-distinct s.plan.split_by (path_set (map (split_of s.plan) rows))
    (AreDistinct-from_ascending path_order path_order-total (path_set (map (split_of s.plan) rows)) (path_set-ascends (map (split_of s.plan) rows))))
    names

-- ---- a new or gone split, where a count is shown

counted : (n : AggName) (cells : List Cell) → counts_rows n ≡ true → is_some (aggregate n cells) ≡ true
counted name.Count cells h = refl
counted name.DistinctCount cells h = refl
counted n cells h = absurd (let wrong : false ≡ true = h in cc)

-- an element that passes, and which makes any test pass that it passes
some_element : {X : Type 0} (c : X → Bool) (xs : List X) → list_any c xs ≡ true → (x : X) × (c x ≡ true) × ((f : X → Bool) → f x ≡ true → list_any f xs ≡ true)
some_element c [] h = absurd (let wrong : false ≡ true = h in cc)
some_element {X} c (x ∷ xs) h = by (c x) refl h (some_element c xs)
  where
    by : (b : Bool) → c x ≡ b → (b || list_any c xs) ≡ true → (list_any c xs ≡ true → (x : X) × (c x ≡ true) × ((f : X → Bool) → f x ≡ true → list_any f xs ≡ true))
        → (y : X) × (c y ≡ true) × ((f : X → Bool) → f y ≡ true → list_any f (x ∷ xs) ≡ true)
    by true is h more = (x, is, λ f at. ap (λ b. b || list_any f xs) at)
    by false is h more = let found = more h in (found.0, found.1, λ f at. or_right (f x) (list_any f xs) (found.2 f at))

none_passes : {X : Type 0} (f : X → Bool) → ((x : X) → f x ≡ false) → (xs : List X) → list_any f xs ≡ false
none_passes f never [] = refl
none_passes f never (x ∷ xs) = ap (λ b. b || list_any f xs) (never x) ∙ none_passes f never xs

and_no : (a b : Bool) → (b ≡ true → ⊥) → (a && b) ≡ false
and_no true true h = absurd (h refl)
and_no true false h = refl
and_no false b h = refl

-- this very text
abbrev is_text : List ℕ → List ℕ → Bool
is_text x t = same_path (Words x ∷ []) (Words t ∷ [])

abbrev words_in : List Cell → List ℕ
words_in (Words s ∷ cs) = s
words_in cs = []

is_text-exact : (x t : List ℕ) → is_text x t ≡ true → x ≡ t
is_text-exact x t h = ap words_in (same_path_is_equal (Words x ∷ []) (Words t ∷ []) h)

module _ (columns : List Column) (plan : Plan) (split : List Cell) (i : ℕ) (ms : List Pair) where
  abbrev test : List ℕ → Bool
  test t = is_text (text_at columns plan split i) t

  abbrev shows : List Cell → Bool
  shows s = shows_text test columns plan ms s

  shown_there : ((f : ℕ → Bool) → f i ≡ true → list_any f plan.columns ≡ true) → counts_rows (aggregate_at columns plan i) ≡ true → shows split ≡ true
  shown_there reach count =
      reach (λ j. is_some (rows_value columns plan (within plan split ms) j) && test (text_at columns plan split j))
      (ap (λ b. b && test (text_at columns plan split i)) (counted (aggregate_at columns plan i) (map (λ p. cell_in p.row i) (within plan split ms)) count)
      ∙ same_path_itself (Words (text_at columns plan split i) ∷ []))

  not_shown : (s : List Cell) → Kinds columns plan split → Kinds columns plan s → (split ≡ s → ⊥) → shows s ≡ false
  not_shown s h k other =
      none_passes (λ j. is_some (rows_value columns plan (within plan s ms) j) && test (text_at columns plan s j))
      (λ j. and_no (is_some (rows_value columns plan (within plan s ms) j)) (test (text_at columns plan s j))
      (λ same. other (told columns plan split s i j h k (is_text-exact (text_at columns plan split i) (text_at columns plan s j) same)).0)) plan.columns

  none_shown : (ss : List (List Cell)) → Kinds columns plan split → All (Kinds columns plan) ss → list_any (same_path split) ss ≡ false → list_any shows ss ≡ false
  none_shown [] h all none = refl
  none_shown (s ∷ ss) h all none =
      by (same_path split s) refl none (none_shown ss h (All-tail (Kinds columns plan) s ss all))
    where
      by : (b : Bool) → same_path split s ≡ b → (b || list_any (same_path split) ss) ≡ false → (list_any (same_path split) ss ≡ false → list_any shows ss ≡ false) → (shows s || list_any shows ss) ≡ false
      by true is none more = absurd (let wrong : true ≡ false = none in cc)
      by false is none more =
          ap (λ b. b || list_any shows ss)
          (not_shown s h (All-head (Kinds columns plan) s ss all) (λ e. let wrong : true ≡ false = sym (same_path_itself split) ∙ ap (same_path split) e ∙ is in cc))
          ∙ more none

-- the cells of a group differ where a split is in one list and not in the other
cells_differ : (columns : List Column) (plan : Plan) (split : List Cell) (ss tt : List (List Cell)) (ms ns : List Pair)
    → All (Kinds columns plan) ss → All (Kinds columns plan) tt → ShowsCount columns plan → list_any (same_path split) ss ≡ true → list_any (same_path split) tt ≡ false
    → cells_of_group columns plan ss ms ≢ cells_of_group columns plan tt ns
cells_differ columns plan split ss others ms ns h k count there gone same =
    let column = some_element (λ i. counts_rows (aggregate_at columns plan i)) plan.columns count in
    let i = column.0 in
    let place = some_element (same_path split) ss there in
    let kinds = holds_among same_path same_path_is_equal (Kinds columns plan) ss split there h in
    let at : shows columns plan split i ms place.0 ≡ true =
    ap (shows columns plan split i ms) (sym (same_path_is_equal split place.0 place.1)) ∙ shown_there columns plan split i ms column.2 column.1 in
    let one : has_text (test columns plan split i ms) (cells_of_group columns plan ss ms) ≡ true =
    has_text-group exact_unsigned (test columns plan split i ms) columns plan ms ss ∙ place.2 (shows columns plan split i ms) at in
    let none : has_text (test columns plan split i ms) (cells_of_group columns plan others ns) ≡ false =
    has_text-group exact_unsigned (test columns plan split i ms) columns plan ns others ∙ none_shown columns plan split i ns others kinds k gone in
    let wrong : true ≡ false = sym one ∙ ap (has_text (test columns plan split i ms)) same ∙ none in
    cc

where_is : {X : Type 0} (b : Bool) (g x : X) → where_it b g ≡ Some x → g ≡ x
where_is true g x h = same_Some g x h
where_is false g x h = absurd (let wrong : None ≡ Some x = h in cc)

entry-cells : (s : Side) (path : List Cell) (x : PlacedRow) → is_flat s.plan ≡ false → entry s (Group path) ≡ Some x
    → cells_of_group s.columns s.plan (splits s.plan (kept s.plan s.pairs)) (members s.plan (kept s.plan s.pairs) path) ≡ x.row.cells
entry-cells s path x grouped h =
    let rows = kept s.plan s.pairs in
    ap (λ (p : PlacedRow). p.row.cells)
    (where_is (is_visible s.opening path && is_there s.plan rows path) (placed_group s.columns s.plan s.opening rows path) x
    (sym (ap (λ b. cond b None (group_entry s path)) grouped) ∙ h))

differs : (a b : Option PlacedRow) → ((x y : PlacedRow) → a ≡ Some x → b ≡ Some y → x.row.cells ≢ y.row.cells) → (is_some a || is_some b) ≡ true → not (same_found a b) ≡ true
differs None None h shown = absurd (let wrong : false ≡ true = shown in cc)
differs None (Some y) h shown = refl
differs (Some x) None h shown = refl
differs (Some x) (Some y) h shown = by (same_placed x y) refl
  where
    by : (b : Bool) → same_placed x y ≡ b → not b ≡ true
    by true is = absurd (h x y refl refl (ap (λ (p : PlacedRow). p.row.cells) (same_placed-exact x y is)))
    by false is = refl

-- A NEW OR GONE SPLIT TOUCHES EVERY SHOWN GROUP, where a count is shown
pub splits-reach : (s : Side) (changes : List RowChange) (split path : List Cell) → is_flat s.plan ≡ false → HasKeys s → IsTyped s → IsTyped (changed_side s changes)
    → ShowsCount s.columns s.plan → has_split (changed_side s changes) split ≡ not (has_split s split)
    → (is_some (entry s (Group path)) || is_some (entry (changed_side s changes) (Group path))) ≡ true
    → is_touched (placed s) (placed (changed_side s changes)) (Group path) ≡ true
splits-reach s changes split path grouped keys was now count flips shown =
    touched-by_entry s (changed_side s changes) (Group path) keys (distinct_changed_all s.pairs changes keys)
    ∙ differs (entry s (Group path)) (entry (changed_side s changes) (Group path))
    (λ x y a b same. by (has_split s split) refl (entry-cells s path x grouped a ∙ same ∙ sym (entry-cells (changed_side s changes) path y grouped b)))
    shown
  where
    old : List Pair
    old = kept s.plan s.pairs

    new : List Pair
    new = kept s.plan (changed_side s changes).pairs

    by : (b : Bool) → has_split s split ≡ b
        → cells_of_group s.columns s.plan (splits s.plan (kept s.plan s.pairs)) (members s.plan (kept s.plan s.pairs) path)
        ≡ cells_of_group s.columns s.plan (splits s.plan (kept s.plan (changed_side s changes).pairs)) (members s.plan (kept s.plan (changed_side s changes).pairs) path) → ⊥
    by true is same =
        cells_differ s.columns s.plan split (splits s.plan (kept s.plan s.pairs)) (splits s.plan (kept s.plan (changed_side s changes).pairs))
        (members s.plan (kept s.plan s.pairs) path) (members s.plan (kept s.plan (changed_side s changes).pairs) path)
        (splits-kinds s was) (splits-kinds (changed_side s changes) now) count is (flips ∙ ap not is) same
    by false is same =
        cells_differ s.columns s.plan split (splits s.plan (kept s.plan (changed_side s changes).pairs)) (splits s.plan (kept s.plan s.pairs))
        (members s.plan (kept s.plan (changed_side s changes).pairs) path) (members s.plan (kept s.plan s.pairs) path)
        (splits-kinds (changed_side s changes) now) (splits-kinds s was) count (flips ∙ ap not is) is (sym same)
