-- Where no count is shown, a group's cells depend on its members alone, and not on the splits that others have.
use Rattle.std.proofs.Common.{◌≡◌, ℕ, Bool, true, false, cond, ◌&&◌, ◌||◌, List, [], ◌∷◌, map, filter, All, Option, None, Ordering, refl, sym, ◌∙◌, ap, subst}
use Rattle.std.specs.Cmp.{IsTotalOrder, Equal-is, eq_by_cmp_equiv}
use Rattle.std.specs.List.{list_any}
use Rattle.std.specs.List.Sorted.{IsStrictlySortedBy}
use Rattle.std.specs.Ordering.{eq_by_cmp}
use Rattle.std.proofs.lemmas.Bool.{or_right}
use Rattle.std.proofs.lemmas.List.Elements.{All-nil, All-cons, All-head, All-tail, All-weaker}
use Rattle.std.proofs.lemmas.List.Kept.{IsStrictlySortedBy-filter}
use Rattle.std.proofs.lemmas.Map.Lookups.{CmpEqualImpliesEq}
use Rattle.std.proofs.lemmas.Map.Views.{any-filter_same}
use Rattle.plain_data.specs.Distinct.{AreDistinct}
use Rattle.value_core.specs.declared.value.Value.{Value}
use Rattle.cell_core.specs.declared.cell.Cell.{Cell}
use Rattle.cell_core.specs.declared.schema.Column.{Column}
use Rattle.row_batch.specs.Changes.{FitRows}
use Rattle.row_batch.specs.Tables.{keys_of_rows}
use Rattle.row_batch.specs.declared.batch.Pair.{Pair}
use Rattle.row_batch.specs.declared.change.RowChange.{RowChange}
use Rattle.row_batch.proofs.ChangeLists.{distinct_changed_all}
use Rattle.view_types.specs.declared.key.ViewKey.TheVariants.{Group}
use Rattle.plan_types.specs.declared.aggregate.AggName.{AggName}
use Rattle.plan_types.specs.declared.aggregate.AggName.TheVariants as name
use Rattle.plan_types.specs.declared.plan.Plan.{Plan}
use Rattle.agg_core.specs.Aggregates.{aggregate}
use Rattle.agg_core.specs.Fractions.{fraction_over, ratio_where}
use Rattle.view_spec.specs.Cells.{cells_of_group, text_at, with_columns, with_splits, with_value}
use Rattle.view_spec.specs.Columns.{aggregate_at, is_flat}
use Rattle.view_spec.specs.Entries.{group_entry}
use Rattle.view_spec.specs.Kept.{kept}
use Rattle.view_spec.specs.Members.{is_member, members, split_of, splits, splits_by, within}
use Rattle.view_spec.specs.Paths.{path_order, path_set, prefixes, same_path}
use Rattle.view_spec.specs.Places.{group_ranks, rows_value}
use Rattle.view_spec.specs.Touching.{is_touched}
use Rattle.view_spec.specs.Views.{Side, placed}
use Rattle.view_spec.proofs.LocalLaws.{group_entry_stays, members_stay, untouched}
use Rattle.view_spec.specs.Steps.{PassesGroup, ShowsNoCount, changed_side, counts_rows}
use Rattle.view_spec.proofs.PathLaws.{any-map, any-path_set, path_order-exact, path_order-total, path_set-ascends, same_path_is_equal}
use Rattle.view_spec.proofs.Sorting.{same_ascending}

-- ---- aggregates of no rows

pub aggregate-none : (n : AggName) → counts_rows n ≡ false → aggregate n [] ≡ None
unfolding fraction_over ratio_where
aggregate-none name.Sum h = refl
aggregate-none name.AbsSum h = refl
aggregate-none name.SumAbs h = refl
aggregate-none name.Count h = absurd (let wrong : true ≡ false = h in cc)
aggregate-none name.DistinctCount h = absurd (let wrong : true ≡ false = h in cc)
aggregate-none name.Mean h = refl
aggregate-none name.Avg h = refl
aggregate-none name.Min h = refl
aggregate-none name.Max h = refl
aggregate-none name.Unique h = refl
aggregate-none name.First h = refl
aggregate-none name.Last h = refl
aggregate-none name.Dominant h = refl
aggregate-none name.Median h = refl

with_columns-none : (columns : List Column) (plan : Plan) (split : List Cell) (value_at : ℕ → Option Value) (is : List ℕ) (cells : List (List ℕ × Value))
    → All (λ i. value_at i ≡ None) is → with_columns columns plan split value_at is cells ≡ cells
with_columns-none columns plan split value_at [] cells h = refl
with_columns-none columns plan split value_at (i ∷ is) cells h =
    ap (λ v. with_columns columns plan split value_at is (with_value cells (text_at columns plan split i) v)) (All-head (λ i. value_at i ≡ None) i is h)
    ∙ with_columns-none columns plan split value_at is cells (All-tail (λ i. value_at i ≡ None) i is h)

-- ---- splits in which a group has members

abbrev pub has_split : Plan → List Pair → List Cell → Bool
has_split plan rows split = list_any (λ p. same_path split (split_of plan p)) rows

filter_none : {X : Type 0} (t : X → Bool) (xs : List X) → list_any t xs ≡ false → filter t xs ≡ []
filter_none t [] h = refl
filter_none t (x ∷ xs) h = by (t x) h (filter_none t xs)
  where
    by : (b : Bool) → (b || list_any t xs) ≡ false → (list_any t xs ≡ false → filter t xs ≡ []) → cond b (x ∷ filter t xs) (filter t xs) ≡ []
    by true h more = absurd (let wrong : true ≡ false = h in cc)
    by false h more = more h

with_splits-own : (columns : List Column) (plan : Plan) (rows : List Pair) (ss : List (List Cell)) (cells : List (List ℕ × Value)) → ShowsNoCount columns plan
    → with_splits columns plan rows ss cells ≡ with_splits columns plan rows (filter (has_split plan rows) ss) cells
with_splits-own columns plan rows [] cells none = refl
with_splits-own columns plan rows (s ∷ ss) cells none = by (has_split plan rows s) refl (λ cells. with_splits-own columns plan rows ss cells none)
  where
    nothing : has_split plan rows s ≡ false → with_columns columns plan s (rows_value columns plan (within plan s rows)) plan.columns cells ≡ cells
    nothing h =
        ap (λ ps. with_columns columns plan s (rows_value columns plan ps) plan.columns cells) (filter_none (λ p. same_path s (split_of plan p)) rows h)
        ∙ with_columns-none columns plan s (rows_value columns plan []) plan.columns cells
        (All-weaker (λ i. counts_rows (aggregate_at columns plan i) ≡ false) (λ i. rows_value columns plan [] i ≡ None) (λ i h. aggregate-none (aggregate_at columns plan i) h) plan.columns none)

    by : (b : Bool) → has_split plan rows s ≡ b
        → ((cells : List (List ℕ × Value)) → with_splits columns plan rows ss cells ≡ with_splits columns plan rows (filter (has_split plan rows) ss) cells)
        → with_splits columns plan rows ss (with_columns columns plan s (rows_value columns plan (within plan s rows)) plan.columns cells)
        ≡ with_splits columns plan rows (cond b (s ∷ filter (has_split plan rows) ss) (filter (has_split plan rows) ss)) cells
    by true h more = more (with_columns columns plan s (rows_value columns plan (within plan s rows)) plan.columns cells)
    by false h more = ap (λ cs. with_splits columns plan rows ss cs) (nothing h) ∙ more cells

-- ---- ascending lists with the same members are one

pub holds_among : {K : Type 0} (e : K → K → Bool) → ((x y : K) → e x y ≡ true → x ≡ y) → (P : K → Type 0) (ks : List K) (q : K) → list_any (e q) ks ≡ true → All P ks → P q
holds_among e one P [] q in_it all = absurd (let wrong : false ≡ true = in_it in cc)
holds_among e one P (k ∷ ks) q in_it all = at_side (e q k) refl in_it (λ later. holds_among e one P ks q later (All-tail P k ks all))
  where
    at_side : (b : Bool) → e q k ≡ b → (b || list_any (e q) ks) ≡ true → (list_any (e q) ks ≡ true → P q) → P q
    at_side true is h more = subst P (sym (one q k is)) (All-head P k ks all)
    at_side false is h more = more h

all_among : {K : Type 0} (e : K → K → Bool) → ((x : K) → e x x ≡ true) → (ks : List K) → All (λ k. list_any (e k) ks ≡ true) ks
all_among e itself [] = All-nil (λ k. list_any (e k) [] ≡ true)
all_among e itself (k ∷ ks) =
    All-cons (λ q. list_any (e q) (k ∷ ks) ≡ true) k ks (ap (λ b. b || list_any (e k) ks) (itself k))
    (All-weaker (λ q. list_any (e q) ks ≡ true) (λ q. list_any (e q) (k ∷ ks) ≡ true) (λ q h. or_right (e q k) (list_any (e q) ks) h) ks (all_among e itself ks))

same_in : {K : Type 0} (e : K → K → Bool) → ((x y : K) → e x y ≡ true → x ≡ y) → ((x : K) → e x x ≡ true) → (P : K → Type 0) (ks others : List K)
    → ((q : K) → list_any (e q) ks ≡ list_any (e q) others) → All P ks → All P others
same_in e one itself P ks others same all =
    All-weaker (λ q. list_any (e q) others ≡ true) P (λ q h. holds_among e one P ks q (same q ∙ h) all) others (all_among e itself others)

pub same_members : {K : Type 0} (R : K → K → Ordering) → IsTotalOrder R → CmpEqualImpliesEq R → (ks others : List K) → IsStrictlySortedBy R ks → IsStrictlySortedBy R others
    → ((q : K) → list_any (eq_by_cmp R q) ks ≡ list_any (eq_by_cmp R q) others) → ks ≡ others
same_members {K} R t exact ks others up down same =
    same_ascending R t ks others up down
    (λ P. same_in (eq_by_cmp R) one itself P ks others same) (λ P. same_in (eq_by_cmp R) one itself P others ks (λ q. sym (same q)))
  where
    one : (x y : K) → eq_by_cmp R x y ≡ true → x ≡ y
    one x y h = exact x y ((Equal-is (R x y)).0 h)

    itself : (x : K) → eq_by_cmp R x x ≡ true
    itself x = (eq_by_cmp_equiv t).refl x

-- ---- the splits of members among those of all kept rows

and_when : (a b : Bool) → (a ≡ true → b ≡ true) → (a && b) ≡ a
and_when true b h = h refl
and_when false b h = refl

any_filter : {X : Type 0} (m t : X → Bool) (xs : List X) → list_any t (filter m xs) ≡ true → list_any t xs ≡ true
any_filter m t [] h = h
any_filter m t (x ∷ xs) h = by (m x) (t x) refl h (any_filter m t xs)
  where
    by : (a b : Bool) → t x ≡ b → list_any t (cond a (x ∷ filter m xs) (filter m xs)) ≡ true → (list_any t (filter m xs) ≡ true → list_any t xs ≡ true) → (b || list_any t xs) ≡ true
    by a true is h more = refl
    by true false is h more = more (sym (ap (λ b. b || list_any t (filter m xs)) is) ∙ h)
    by false false is h more = more h

splits-own : (plan : Plan) (rows : List Pair) (q : List Cell)
    → filter (has_split plan (members plan rows q)) (path_set (map (split_of plan) rows)) ≡ path_set (map (split_of plan) (members plan rows q))
splits-own plan rows q =
    let ms = members plan rows q in
    same_members path_order path_order-total path_order-exact (filter (has_split plan ms) (path_set (map (split_of plan) rows))) (path_set (map (split_of plan) ms))
    (IsStrictlySortedBy-filter path_order (has_split plan ms) (path_set (map (split_of plan) rows)) (path_set-ascends (map (split_of plan) rows)))
    (path_set-ascends (map (split_of plan) ms))
    (λ s.
    any-filter_same (same_path s) (has_split plan ms) (has_split plan ms s) (λ k h. ap (has_split plan ms) (sym (same_path_is_equal s k h))) (path_set (map (split_of plan) rows))
    ∙ ap (λ b. has_split plan ms s && b) (any-path_set (same_path s) (map (split_of plan) rows) ∙ any-map (split_of plan) (same_path s) rows)
    ∙ and_when (has_split plan ms s) (has_split plan rows s) (any_filter (is_member plan q) (λ p. same_path s (split_of plan p)) rows)
    ∙ sym (any-path_set (same_path s) (map (split_of plan) ms) ∙ any-map (split_of plan) (same_path s) ms))

cells_by : (columns : List Column) (plan : Plan) (rows : List Pair) (q : List Cell) → ShowsNoCount columns plan → (by : List ℕ)
    → cells_of_group columns plan (splits_by by (path_set (map (split_of plan) rows))) (members plan rows q)
    ≡ cells_of_group columns plan (splits_by by (path_set (map (split_of plan) (members plan rows q)))) (members plan rows q)
cells_by columns plan rows q none [] = refl
cells_by columns plan rows q none (c ∷ cs) =
    with_splits-own columns plan (members plan rows q) (path_set (map (split_of plan) rows)) [] none
    ∙ ap (λ ss. with_splits columns plan (members plan rows q) ss []) (splits-own plan rows q)

-- WHERE NO COUNT IS SHOWN, A GROUP'S CELLS ARE THOSE UNDER ITS OWN MEMBERS' SPLITS
pub cells-own : (columns : List Column) (plan : Plan) (rows : List Pair) (q : List Cell) → ShowsNoCount columns plan
    → cells_of_group columns plan (splits plan rows) (members plan rows q) ≡ cells_of_group columns plan (splits plan (members plan rows q)) (members plan rows q)
cells-own columns plan rows q none = cells_by columns plan rows q none plan.split_by

pub cells-same : (columns : List Column) (plan : Plan) (rows more : List Pair) (q : List Cell) → ShowsNoCount columns plan → members plan more q ≡ members plan rows q
    → cells_of_group columns plan (splits plan more) (members plan rows q) ≡ cells_of_group columns plan (splits plan rows) (members plan rows q)
cells-same columns plan rows more q none same =
    ap (λ ms. cells_of_group columns plan (splits plan more) ms) (sym same)
    ∙ cells-own columns plan more q none
    ∙ ap (λ ms. cells_of_group columns plan (splits plan ms) ms) same
    ∙ sym (cells-own columns plan rows q none)

-- LOCALITY OF A STEP, with splits and no shown count
pub split_group_untouched : (s : Side) (changes : List RowChange) (q : List Cell) → is_flat s.plan ≡ false → ShowsNoCount s.columns s.plan
    → AreDistinct (keys_of_rows s.pairs) → FitRows s.pairs changes → PassesGroup s changes q
    → All (λ r. group_ranks s.columns s.plan (kept s.plan (changed_side s changes).pairs) r ≡ group_ranks s.columns s.plan (kept s.plan s.pairs) r) (prefixes q)
    → is_touched (placed s) (placed (changed_side s changes)) (Group q) ≡ false
split_group_untouched s changes q grouped none distinct fit by ranks =
    untouched s (changed_side s changes) (Group q) distinct (distinct_changed_all s.pairs changes distinct)
    (ap (λ b. cond b None (group_entry (changed_side s changes) q)) grouped
    ∙ group_entry_stays s changes q distinct fit by ranks
    (cells-same s.columns s.plan (kept s.plan s.pairs) (kept s.plan (changed_side s changes).pairs) q none (members_stay s changes q distinct fit by))
    ∙ sym (ap (λ b. cond b None (group_entry s q)) grouped))
