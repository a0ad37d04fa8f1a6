-- Worked views: what the definitions say of them, computed.
use Rattle.std.proofs.Common.{◌≡◌, ℕ, ℤ, pos, Bool, true, false, List, [], ◌∷◌, map, refl}
use Rattle.std.specs.Prelude.{codes}
use Rattle.value_core.specs.Values.{value_order}
use Rattle.value_core.specs.declared.value.Value.{Value}
use Rattle.value_core.specs.declared.value.Value.TheVariants.{Whole, Fraction}
use Rattle.agg_core.specs.Fractions.{fraction_over, ratio, ratio_where}
use Rattle.agg_core.specs.Ratios.{denominator_from}
use Rattle.cell_core.specs.declared.cell.Cell.{Cell}
use Rattle.cell_core.specs.declared.cell.Cell.TheVariants.{Null, Int, Words}
use Rattle.cell_core.specs.declared.cell.CellType.TheVariants as kind
use Rattle.cell_core.specs.declared.cell.Direction.TheVariants.{Desc}
use Rattle.cell_core.specs.declared.schema.Column.{Column}
use Rattle.row_batch.specs.Batches.{pair_of}
use Rattle.row_batch.specs.declared.batch.Pair.{Pair}
use Rattle.plan_types.specs.declared.aggregate.AggName.TheVariants as name
use Rattle.plan_types.specs.declared.plan.FilterTest.{FilterTest}
use Rattle.plan_types.specs.declared.plan.FilterTest.TheVariants as test
use Rattle.plan_types.specs.declared.plan.Plan.{Plan}
use Rattle.view_types.specs.declared.key.ViewKey.TheVariants.{Row, Group}
use Rattle.view_types.specs.declared.shown.HeaderColumn.{HeaderColumn}
use Rattle.view_types.specs.declared.shown.ShownRow.{ShownRow}
use Rattle.view_types.specs.declared.shown.ShownType.TheVariants.{Integer}
use Rattle.delta_core.specs.Deltas.{puts_from}
use Rattle.delta_core.specs.declared.delta.Put.{Put}
use Rattle.view_spec.specs.Openings.{Opening, first_opening}
use Rattle.view_spec.specs.Views.{Side, view}
use Rattle.view_spec.specs.Touching.{touched, head_touched}

-- ---- how tables and plans are written here

abbrev integer : List ℕ → Column
integer text = record { name = text; kind = kind.Integer }

abbrev words : List ℕ → Column
words text = record { name = text; kind = kind.Words }

abbrev k_v : List Column
k_v = integer (codes "k") ∷ integer (codes "v") ∷ []

abbrev k_a_b_v : List Column
k_a_b_v = integer (codes "k") ∷ words (codes "a") ∷ words (codes "b") ∷ integer (codes "v") ∷ []

abbrev k_s_v : List Column
k_s_v = integer (codes "k") ∷ words (codes "s") ∷ integer (codes "v") ∷ []

abbrev plain_plan : Plan
plain_plan = record { columns = []; group_by = []; split_by = []; aggregates = []; filters = record { list = []; every = true }; sorts = []; expressions = [] }

abbrev head : List ℕ → HeaderColumn
head text = record { text = text; kind = Integer }

abbrev of : List Column → Plan → Opening → List Pair → Side
of columns plan opening pairs = record { columns = columns; plan = plan; opening = opening; pairs = pairs }

abbrev group : List Cell → Bool → List (List ℕ × Value) → ShownRow
group path mark cells = record { key = Group path; mark = mark; cells = cells }

abbrev flat : ℕ → List (List ℕ × Value) → ShownRow
flat k cells = record { key = Row (Int (pos k)); mark = false; cells = cells }

abbrev put : ℕ → ShownRow → Put
put position row = record { position = position; row = row }

-- ---- an empty table, grouped: a count of no rows is 0, and a sum of none is left out

abbrev counted : Plan
counted = record plain_plan { columns = 0 ∷ 1 ∷ []; group_by = 0 ∷ []; aggregates = record { column = 0; aggregate = name.Count } ∷ [] }

pub empty_grouped : view (of k_v counted (first_opening counted) [])
    ≡ record { header = head (codes "k") ∷ head (codes "v") ∷ []; rows = group [] true ((codes "k", Whole (pos 0)) ∷ []) ∷ [] }
empty_grouped = refl

-- ---- groups of two columns, by their sums, the greatest first

abbrev x : Cell
x = Words (codes "x")

abbrev y : Cell
y = Words (codes "y")

abbrev p : Cell
p = Words (codes "p")

abbrev q : Cell
q = Words (codes "q")

abbrev r : Cell
r = Words (codes "r")

abbrev row_of : ℕ → Cell → Cell → ℕ → Pair
row_of k a b v = pair_of (Int (pos k)) (Int (pos k) ∷ a ∷ b ∷ Int (pos v) ∷ [])

abbrev by_sum : Plan
by_sum = record plain_plan { columns = 3 ∷ []; group_by = 1 ∷ 2 ∷ []; sorts = record { column = 3; direction = Desc } ∷ [] }

abbrev sum_before : Side
sum_before = of k_a_b_v by_sum (first_opening by_sum) (row_of 1 x p 9 ∷ row_of 2 y q 5 ∷ row_of 3 x r 1 ∷ [])

abbrev sum_after : Side
sum_after = of k_a_b_v by_sum (first_opening by_sum) (row_of 1 x p 4 ∷ row_of 2 y q 10 ∷ row_of 3 x r 1 ∷ [])

abbrev v_is : ℕ → List (List ℕ × Value)
v_is n = (codes "v", Whole (pos n)) ∷ []

pub sums_shown : (view sum_before).rows
    ≡ group [] true (v_is 15) ∷ group (x ∷ []) true (v_is 10) ∷ group (x ∷ p ∷ []) false (v_is 9) ∷ group (x ∷ r ∷ []) false (v_is 1)
    ∷ group (y ∷ []) true (v_is 5) ∷ group (y ∷ q ∷ []) false (v_is 5) ∷ []
unfolding value_order
sums_shown = refl

-- the total stays and is not touched; one group is put for its place alone
pub sums_touched : touched sum_before sum_after
    ≡ Group (x ∷ []) ∷ Group (x ∷ p ∷ []) ∷ Group (x ∷ r ∷ []) ∷ Group (y ∷ []) ∷ Group (y ∷ q ∷ []) ∷ []
unfolding value_order
sums_touched = refl

pub sums_put : puts_from (touched sum_before sum_after) 0 (view sum_after).rows
    ≡ put 1 (group (y ∷ []) true (v_is 10)) ∷ put 2 (group (y ∷ q ∷ []) false (v_is 10)) ∷ put 3 (group (x ∷ []) true (v_is 5))
    ∷ put 4 (group (x ∷ p ∷ []) false (v_is 4)) ∷ put 5 (group (x ∷ r ∷ []) false (v_is 1)) ∷ []
unfolding value_order
sums_put = refl

-- ---- a closed group stays closed while its rows are gone

abbrev summed : Plan
summed = record plain_plan { columns = 3 ∷ []; group_by = 1 ∷ 2 ∷ [] }

abbrev x_closed : Opening
x_closed = record { depth = 2; singles = (x ∷ [], false) ∷ [] }

abbrev one_row : List Pair
one_row = row_of 1 x p 1 ∷ []

abbrev opened_at_first : Side
opened_at_first = of k_a_b_v summed (first_opening summed) one_row

abbrev closed_then : Side
closed_then = of k_a_b_v summed x_closed one_row

abbrev gone_then : Side
gone_then = of k_a_b_v summed x_closed []

pub closed_touched : touched opened_at_first closed_then ≡ Group (x ∷ []) ∷ Group (x ∷ p ∷ []) ∷ []
unfolding value_order
closed_touched = refl

pub gone_touched : touched closed_then gone_then ≡ Group [] ∷ Group (x ∷ []) ∷ []
unfolding value_order
gone_touched = refl

pub closed_view : (view closed_then).rows ≡ group [] true (v_is 1) ∷ group (x ∷ []) false (v_is 1) ∷ []
unfolding value_order
closed_view = refl

-- ---- means

abbrev means : Plan
means = record plain_plan { columns = 1 ∷ []; group_by = 0 ∷ []; aggregates = record { column = 1; aggregate = name.Mean } ∷ [] }

abbrev k_row : ℕ → ℕ → Pair
k_row k v = pair_of (Int (pos k)) (Int (pos k) ∷ Int (pos v) ∷ [])

abbrev parts : Value → List ℤ
parts (Fraction f) = f.n ∷ f.d ∷ []
parts other = []

abbrev all_parts : List ShownRow → List (List (List ℤ))
all_parts rows = map (λ (s : ShownRow). map (λ (c : List ℕ × Value). parts c.1) s.cells) rows

pub means_shown : all_parts (view (of k_v means (first_opening means) (k_row 1 1 ∷ k_row 2 2 ∷ k_row 3 4 ∷ []))).rows
    ≡ ((pos 7 ∷ pos 3 ∷ []) ∷ []) ∷ ((pos 1 ∷ pos 1 ∷ []) ∷ []) ∷ ((pos 2 ∷ pos 1 ∷ []) ∷ []) ∷ ((pos 4 ∷ pos 1 ∷ []) ∷ []) ∷ []
unfolding value_order fraction_over ratio ratio_where denominator_from
means_shown = refl

-- ---- filters and null

abbrev rows_with_null : List Pair
rows_with_null = pair_of (Int (pos 1)) (Int (pos 1) ∷ Null ∷ []) ∷ k_row 2 5 ∷ []

abbrev filtered : FilterTest → Plan
filtered t = record plain_plan { columns = 0 ∷ 1 ∷ []; filters = record { list = record { column = 1; test = t } ∷ []; every = true } }

abbrev shown_with : FilterTest → List ShownRow
shown_with t = (view (of k_v (filtered t) (first_opening (filtered t)) rows_with_null)).rows

pub null_is_not_unequal : shown_with (test.Unequal (Int (pos 7))) ≡ flat 2 ((codes "k", Whole (pos 2)) ∷ (codes "v", Whole (pos 5)) ∷ []) ∷ []
unfolding value_order
null_is_not_unequal = refl

pub null_is_null : shown_with test.IsNull ≡ flat 1 ((codes "k", Whole (pos 1)) ∷ []) ∷ []
unfolding value_order
null_is_null = refl

-- ---- splits

abbrev split_plan : Plan
split_plan = record plain_plan { columns = 2 ∷ []; split_by = 1 ∷ [] }

abbrev c_row : Pair
c_row = pair_of (Int (pos 1)) (Int (pos 1) ∷ Words (codes "c") ∷ Int (pos 1) ∷ [])

abbrev bar_row : Pair
bar_row = pair_of (Int (pos 2)) (Int (pos 2) ∷ Words (codes "a|b") ∷ Int (pos 3) ∷ [])

abbrev split_before : Side
split_before = of k_s_v split_plan (first_opening split_plan) (c_row ∷ [])

abbrev split_after : Side
split_after = of k_s_v split_plan (first_opening split_plan) (c_row ∷ bar_row ∷ [])

pub split_header : (view split_after).header ≡ head (codes "a\\|b|v") ∷ head (codes "c|v") ∷ []
split_header = refl

pub split_touched : touched split_before split_after ≡ Row (Int (pos 2)) ∷ []
unfolding value_order
split_touched = refl

pub split_head_touched : head_touched split_before split_after ≡ true
split_head_touched = refl

pub split_put : puts_from (touched split_before split_after) 0 (view split_after).rows ≡ put 1 (flat 2 ((codes "a\\|b|v", Whole (pos 3)) ∷ [])) ∷ []
unfolding value_order
split_put = refl

-- grouped by the split column too: the group of the other split is not touched
abbrev split_groups : Plan
split_groups = record split_plan { group_by = 1 ∷ [] }

pub split_groups_shown : (view (of k_s_v split_groups (first_opening split_groups) (c_row ∷ []))).rows
    ≡ group [] true ((codes "c|v", Whole (pos 1)) ∷ []) ∷ group (Words (codes "c") ∷ []) false ((codes "c|v", Whole (pos 1)) ∷ []) ∷ []
unfolding value_order
split_groups_shown = refl

pub split_groups_touched : touched (of k_s_v split_groups (first_opening split_groups) (c_row ∷ [])) (of k_s_v split_groups (first_opening split_groups) (c_row ∷ bar_row ∷ []))
    ≡ Group [] ∷ Group (Words (codes "a|b") ∷ []) ∷ []
unfolding value_order
split_groups_touched = refl

-- a count of no rows is 0 and is shown, so a new split touches every shown group
abbrev split_counts : Plan
split_counts = record split_groups { aggregates = record { column = 2; aggregate = name.Count } ∷ [] }

pub split_counts_touched : touched (of k_s_v split_counts (first_opening split_counts) (c_row ∷ [])) (of k_s_v split_counts (first_opening split_counts) (c_row ∷ bar_row ∷ []))
    ≡ Group [] ∷ Group (Words (codes "a|b") ∷ []) ∷ Group (Words (codes "c") ∷ []) ∷ []
unfolding value_order
split_counts_touched = refl
