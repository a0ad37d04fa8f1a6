-- Under which texts a group has a value; and a new split, where a count is shown, gives each group a value more.
use Rattle.std.proofs.Common.{◌≡◌, ℕ, Bool, true, false, ◌&&◌, ◌||◌, List, [], ◌∷◌, Option, Some, None, is_some, Ordering, Less, Equal, Greater, refl, sym, ◌∙◌, ap}
use Rattle.std.specs.BTreeMap.{insert_entry}
use Rattle.std.specs.Cmp.Lexicographic.{slice_cmp}
use Rattle.std.specs.List.{list_any}
use Rattle.std.specs.Ordering.{match_ordering, nat_cmp}
use Rattle.std.proofs.lemmas.Map.Lookups.{CmpEqualImpliesEq}
use Rattle.value_core.specs.declared.value.Value.{Value}
use Rattle.cell_core.specs.declared.cell.Cell.{Cell}
use Rattle.cell_core.specs.declared.schema.Column.{Column}
use Rattle.row_batch.specs.declared.batch.Pair.{Pair}
use Rattle.plan_types.specs.declared.aggregate.AggName.{AggName}
use Rattle.plan_types.specs.declared.aggregate.AggName.TheVariants as name
use Rattle.plan_types.specs.declared.plan.Plan.{Plan}
use Rattle.agg_core.specs.Aggregates.{aggregate}
use Rattle.view_types.proofs.KeyOrder.{exact_lists}
use Rattle.delta_core.proofs.KeySetLemmas.{or_again, or_assoc, or_comm}
use Rattle.view_spec.specs.Cells.{cells_of_group, text_at, with_columns, with_splits, with_value}
use Rattle.view_spec.specs.Members.{within}
use Rattle.view_spec.specs.Places.{rows_value}
use Rattle.view_spec.specs.Steps.{counts_rows}

-- a text passes and has a value
abbrev pub has_text : (List ℕ → Bool) → List (List ℕ × Value) → Bool
has_text test cells = list_any (λ (e : List ℕ × Value). test e.0) cells

put_step : (R : List ℕ → List ℕ → Ordering) → CmpEqualImpliesEq R → (test : List ℕ → Bool) (k : List ℕ) (v : Value) (e : List ℕ × Value) (es : List (List ℕ × Value)) (o : Ordering) → R k e.0 ≡ o
    → has_text test (insert_entry R es k v) ≡ (has_text test es || test k)
    → has_text test (match_ordering o ((k, v) ∷ e ∷ es) ((e.0, v) ∷ es) (e ∷ insert_entry R es k v)) ≡ (has_text test (e ∷ es) || test k)
put_step R one test k v e es Less is later = or_comm (test k) (has_text test (e ∷ es))
put_step R one test k v e es Equal is later = or_again (test e.0) (has_text test es) ∙ ap (λ j. has_text test (e ∷ es) || test j) (sym (one k e.0 is))
put_step R one test k v e es Greater is later = ap (λ b. test e.0 || b) later ∙ sym (or_assoc (test e.0) (has_text test es) (test k))

has_text-insert : (R : List ℕ → List ℕ → Ordering) → CmpEqualImpliesEq R → (test : List ℕ → Bool) (es : List (List ℕ × Value)) (k : List ℕ) (v : Value)
    → has_text test (insert_entry R es k v) ≡ (has_text test es || test k)
has_text-insert R one test [] k v = or_comm (test k) false
has_text-insert R one test (e ∷ es) k v = put_step R one test k v e es (R k e.0) refl (has_text-insert R one test es k v)

has_text-with_value : CmpEqualImpliesEq nat_cmp → (test : List ℕ → Bool) (cells : List (List ℕ × Value)) (text : List ℕ) (v : Option Value)
    → has_text test (with_value cells text v) ≡ (has_text test cells || (is_some v && test text))
has_text-with_value one test cells text None = or_comm false (has_text test cells)
has_text-with_value one test cells text (Some v) = has_text-insert (slice_cmp nat_cmp) (exact_lists nat_cmp one) test cells text v

has_text-with_columns : CmpEqualImpliesEq nat_cmp → (test : List ℕ → Bool) (columns : List Column) (plan : Plan) (split : List Cell) (value_at : ℕ → Option Value) (is : List ℕ) (cells : List (List ℕ × Value))
    → has_text test (with_columns columns plan split value_at is cells) ≡ (has_text test cells || list_any (λ i. is_some (value_at i) && test (text_at columns plan split i)) is)
has_text-with_columns one test columns plan split value_at [] cells = or_comm false (has_text test cells)
has_text-with_columns one test columns plan split value_at (i ∷ is) cells =
    has_text-with_columns one test columns plan split value_at is (with_value cells (text_at columns plan split i) (value_at i))
    ∙ ap (λ b. b || list_any (λ i. is_some (value_at i) && test (text_at columns plan split i)) is) (has_text-with_value one test cells (text_at columns plan split i) (value_at i))
    ∙ or_assoc (has_text test cells) (is_some (value_at i) && test (text_at columns plan split i)) (list_any (λ i. is_some (value_at i) && test (text_at columns plan split i)) is)

-- some column of that split has a value, and its text passes
abbrev pub shows_text : (List ℕ → Bool) → List Column → Plan → List Pair → List Cell → Bool
shows_text test columns plan rows split = list_any (λ i. is_some (rows_value columns plan (within plan split rows) i) && test (text_at columns plan split i)) plan.columns

has_text-with_splits : CmpEqualImpliesEq nat_cmp → (test : List ℕ → Bool) (columns : List Column) (plan : Plan) (rows : List Pair) (ss : List (List Cell)) (cells : List (List ℕ × Value))
    → has_text test (with_splits columns plan rows ss cells) ≡ (has_text test cells || list_any (shows_text test columns plan rows) ss)
has_text-with_splits one test columns plan rows [] cells = or_comm false (has_text test cells)
has_text-with_splits one test columns plan rows (s ∷ ss) cells =
    has_text-with_splits one test columns plan rows ss (with_columns columns plan s (rows_value columns plan (within plan s rows)) plan.columns cells)
    ∙ ap (λ b. b || list_any (shows_text test columns plan rows) ss) (has_text-with_columns one test columns plan s (rows_value columns plan (within plan s rows)) plan.columns cells)
    ∙ or_assoc (has_text test cells) (shows_text test columns plan rows s) (list_any (shows_text test columns plan rows) ss)

-- A GROUP HAS VALUES UNDER EXACTLY THESE TEXTS
pub has_text-group : CmpEqualImpliesEq nat_cmp → (test : List ℕ → Bool) (columns : List Column) (plan : Plan) (rows : List Pair) (ss : List (List Cell))
    → has_text test (cells_of_group columns plan ss rows) ≡ list_any (shows_text test columns plan rows) ss
has_text-group one test columns plan rows ss = has_text-with_splits one test columns plan rows ss []

-- counts have a value also where there are no rows
pub counts-some : (n : AggName) → counts_rows n ≡ true → is_some (aggregate n []) ≡ true
counts-some name.Count h = refl
counts-some name.DistinctCount h = refl
counts-some name.Sum h = absurd (let wrong : false ≡ true = h in cc)
counts-some name.AbsSum h = absurd (let wrong : false ≡ true = h in cc)
counts-some name.SumAbs h = absurd (let wrong : false ≡ true = h in cc)
counts-some name.Mean h = absurd (let wrong : false ≡ true = h in cc)
counts-some name.Avg h = absurd (let wrong : false ≡ true = h in cc)
counts-some name.Min h = absurd (let wrong : false ≡ true = h in cc)
counts-some name.Max h = absurd (let wrong : false ≡ true = h in cc)
counts-some name.Unique h = absurd (let wrong : false ≡ true = h in cc)
counts-some name.First h = absurd (let wrong : false ≡ true = h in cc)
counts-some name.Last h = absurd (let wrong : false ≡ true = h in cc)
counts-some name.Dominant h = absurd (let wrong : false ≡ true = h in cc)
counts-some name.Median h = absurd (let wrong : false ≡ true = h in cc)
