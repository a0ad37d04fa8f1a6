-- The names of the columns by which two plans group.
use Rattle.std.proofs.Common.{◌≡◌, ℕ, suc, zero, ◌+◌, ◌-◌, ◌<◌, ◌≤◌, Bool, true, false, ◌&&◌, List, [], ◌∷◌, length, map, drop, get_or, Some, None, refl, sym, ap, ◌∙◌, arith, length-append}
use Rattle.std.specs.Prelude.{not, slice_get}
use Rattle.std.specs.Str.{bytes_eq}
use Rattle.std.proofs.lemmas.List.{drop_more, length-map}
use Rattle.cell_core.specs.declared.schema.Column.{Column}
use Rattle.plan_types.specs.Columns.{all_columns, expression_column}
use Rattle.plan_types.specs.declared.plan.Expression.{Expression}
use Rattle.plan_types.specs.declared.plan.Plan.{Plan}
use Rattle.view_spec.specs.Columns.{column_at, no_column}
use Rattle.hub_spec.specs.HeldViews.{group_names, same_names}

abbrev pub names_of : List Column → Plan → List ℕ → List (List ℕ)
names_of columns plan groups = map (λ i. (column_at columns plan i).name) groups

-- ---- a column that isn't there

past_end : {X : Type 0} (xs : List X) (i : ℕ) (d : X) → length xs ≤ i → get_or xs i d ≡ d
past_end [] i d past = refl
past_end (x ∷ xs) zero d past = absurd (omega (arith, past))
past_end (x ∷ xs) (suc i) d past = past_end xs i d (omega (arith, past))

missing : (es : List Expression) (k : ℕ) → None ≡ slice_get es k → length es ≤ k
missing [] k is = omega arith
missing (e ∷ es) zero is = absurd (let wrong : None ≡ Some e = is in cc)
missing (e ∷ es) (suc k) is = let rest = missing es k is in omega (arith, rest)

pub no_name : (columns seen : List Column) (plan : Plan) (i : ℕ) → seen ≡ columns → length seen ≤ i → None ≡ slice_get plan.expressions (i - length seen) → [] ≡ (column_at columns plan i).name
no_name columns seen plan i same past none =
    let few : length plan.expressions ≤ i - length seen = missing plan.expressions (i - length seen) none in
    let size : length (all_columns columns plan.expressions) ≡ length columns + length plan.expressions =
    length-append columns (map expression_column plan.expressions) ∙ ap (λ n. length columns + n) (length-map plan.expressions expression_column) in
    let seen_size : length seen ≡ length columns = ap length same in
    let count : length (all_columns columns plan.expressions) ≤ i = omega (arith, size, seen_size, past, few) in
    sym (ap (λ (c : Column). c.name) (past_end (all_columns columns plan.expressions) i no_column count))

-- ---- names one by one

abbrev pub AreSameSoFar : List Column → Plan → Plan → List ℕ → List ℕ → ℕ → Type 0
AreSameSoFar columns before after was now i =
    same_names (names_of columns before was) (names_of columns after now) ≡ same_names (names_of columns before (drop i was)) (names_of columns after (drop i now))

and_false : (b : Bool) → false ≡ (b && false)
and_false true = refl
and_false false = refl

lengths_differ : (ns ms : List (List ℕ)) → (length ns ≡ length ms → ⊥) → false ≡ same_names ns ms
lengths_differ [] [] apart = absurd (apart refl)
lengths_differ [] (m ∷ ms) apart = refl
lengths_differ (n ∷ ns) [] apart = refl
lengths_differ (n ∷ ns) (m ∷ ms) apart = and_false (bytes_eq n m) ∙ ap (λ b. bytes_eq n m && b) (lengths_differ ns ms (λ e. apart (omega (arith, e))))

pub other_count : (columns : List Column) (before after : Plan) (was now : List ℕ) → was ≡ before.group_by → now ≡ after.group_by → (length was ≡ length now → ⊥)
    → false ≡ same_names (group_names columns before) (group_names columns after)
other_count columns before after was now first last apart =
    lengths_differ (group_names columns before) (group_names columns after)
    (λ e. apart (ap length first ∙ sym (length-map before.group_by (λ i. (column_at columns before i).name)) ∙ e ∙ length-map after.group_by (λ i. (column_at columns after i).name) ∙ sym (ap length last)))

step : (columns : List Column) (before after : Plan) (was now : List ℕ) (i : ℕ) → i < length was → length was ≡ length now
    → same_names (names_of columns before (drop i was)) (names_of columns after (drop i now))
    ≡ (bytes_eq (column_at columns before (get_or was i 0)).name (column_at columns after (get_or now i 0)).name
    && same_names (names_of columns before (drop (i + 1) was)) (names_of columns after (drop (i + 1) now)))
step columns before after was now i lt size =
    let lt_now : i < length now = omega (arith, lt, size) in
    ap (λ xs. same_names (names_of columns before xs) (names_of columns after (drop i now))) (drop_more was i 0 lt)
    ∙ ap (λ ys. same_names (names_of columns before (get_or was i 0 ∷ drop (i + 1) was)) (names_of columns after ys)) (drop_more now i 0 lt_now)

pub name_differs : (columns : List Column) (before after : Plan) (was now first last : List ℕ) (i : ℕ) → was ≡ before.group_by → now ≡ after.group_by → i < length was → length was ≡ length now
    → first ≡ (column_at columns before (get_or was i 0)).name → last ≡ (column_at columns after (get_or now i 0)).name → not (bytes_eq first last) ≡ true
    → AreSameSoFar columns before after was now i → false ≡ same_names (group_names columns before) (group_names columns after)
name_differs columns before after was now first last i was_is now_is lt size a b apart so_far =
    let differ : bytes_eq first last ≡ false = by (bytes_eq first last) apart in
    let rest : Bool = same_names (names_of columns before (drop (i + 1) was)) (names_of columns after (drop (i + 1) now)) in
    sym (ap (λ gs. same_names (names_of columns before gs) (group_names columns after)) (sym was_is) ∙ ap (λ hs. same_names (names_of columns before was) (names_of columns after hs)) (sym now_is)
    ∙ so_far ∙ step columns before after was now i lt size
    ∙ ap (λ x. bytes_eq x (column_at columns after (get_or now i 0)).name && rest) (sym a) ∙ ap (λ y. bytes_eq first y && rest) (sym b) ∙ ap (λ t. t && rest) differ)
  where
    by : (t : Bool) → not t ≡ true → t ≡ false
    by true h = absurd (let wrong : false ≡ true = h in cc)
    by false h = refl

pub one_more_name : (columns : List Column) (before after : Plan) (was now first last : List ℕ) (i : ℕ) → i < length was → length was ≡ length now
    → first ≡ (column_at columns before (get_or was i 0)).name → last ≡ (column_at columns after (get_or now i 0)).name → not (bytes_eq first last) ≡ false
    → AreSameSoFar columns before after was now i → AreSameSoFar columns before after was now (i + 1)
one_more_name columns before after was now first last i lt size a b same so_far =
    let equal : bytes_eq first last ≡ true = by (bytes_eq first last) same in
    let rest : Bool = same_names (names_of columns before (drop (i + 1) was)) (names_of columns after (drop (i + 1) now)) in
    so_far ∙ step columns before after was now i lt size
    ∙ ap (λ x. bytes_eq x (column_at columns after (get_or now i 0)).name && rest) (sym a) ∙ ap (λ y. bytes_eq first y && rest) (sym b) ∙ ap (λ t. t && rest) equal
  where
    by : (t : Bool) → not t ≡ false → t ≡ true
    by true h = refl
    by false h = absurd (let wrong : true ≡ false = h in cc)

nothing_left : (xs : List ℕ) (i : ℕ) → length xs ≤ i → drop i xs ≡ []
nothing_left [] zero past = refl
nothing_left [] (suc i) past = refl
nothing_left (x ∷ xs) zero past = absurd (omega (arith, past))
nothing_left (x ∷ xs) (suc i) past = nothing_left xs i (omega (arith, past))

pub all_same : (columns : List Column) (before after : Plan) (was now : List ℕ) (i : ℕ) → was ≡ before.group_by → now ≡ after.group_by → length was ≤ i → length was ≡ length now
    → AreSameSoFar columns before after was now i → true ≡ same_names (group_names columns before) (group_names columns after)
all_same columns before after was now i was_is now_is past size so_far =
    let past_now : length now ≤ i = omega (arith, past, size) in
    sym (ap (λ gs. same_names (names_of columns before gs) (group_names columns after)) (sym was_is) ∙ ap (λ hs. same_names (names_of columns before was) (names_of columns after hs)) (sym now_is)
    ∙ so_far ∙ ap (λ xs. same_names (names_of columns before xs) (names_of columns after (drop i now))) (nothing_left was i past)
    ∙ ap (λ ys. same_names [] (names_of columns after ys)) (nothing_left now i past_now))
