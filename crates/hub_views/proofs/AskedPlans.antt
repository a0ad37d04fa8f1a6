-- A plan that is asked for fits a view of its kind.
use Rattle.std.proofs.Common.{◌≡◌, ℕ, suc, zero, ◌+◌, ◌<◌, ◌≤◌, Bool, true, false, cond, not, ◌||◌, List, [], ◌∷◌, ◌++◌, length, map, All, Option, Some, None, Result, Ok, Err, refl, sym, ap, ◌∙◌, subst, arith, rules, inl, inr, eqb, length-append}
use Rattle.std.specs.Prelude.{is_some, nat_eq, nat_lt, option_and_then, option_map, slice_index_or, unwrap_or}
use Rattle.std.specs.Map.{lookup}
use Rattle.std.proofs.lemmas.Bool.{eqb-true}
use Rattle.std.proofs.lemmas.List.Elements.{All-nil, All-cons, All-head, All-tail}
use Rattle.cell_core.specs.RawData.{RawData}
use Rattle.cell_core.specs.Schemas.{SchemaData, is_bad_name}
use Rattle.cell_core.specs.declared.cell.CellType.{CellType}
use Rattle.cell_core.specs.declared.cell.CellType.TheVariants as kinds
use Rattle.cell_core.specs.declared.schema.Column.{Column}
use Rattle.plain_data.specs.Results.{and_then}
use Rattle.plan_types.specs.declared.tree.BinaryOp.{BinaryOp}
use Rattle.plan_types.specs.declared.tree.Tree.{Tree}
use Rattle.plan_types.specs.declared.tree.TreeNode.{the_lemmas}
use Rattle.plan_types.specs.declared.tree.TreeNode.TheVariants as node
use Rattle.plan_types.specs.declared.tree.UnaryOp.{UnaryOp}
use Rattle.expr_parse.specs.Grammar.{tree}
use Rattle.expr_spec.specs.TreeData.{TreeData, column, number, truth, words, unary, binary, call, Arguments, no_arguments, argument}
use Rattle.expr_spec.specs.TreeViews.{tree_view, arguments_of}
use Rattle.expr_spec.specs.Typing.{IsCheckedTree, column_named, kind_of, numbered}
use Rattle.expr_spec.specs.declared.refused.TreeRefused.{TreeRefused}
use Rattle.expr_spec.proofs.NumberedLemmas as numbering
use Rattle.row_batch.specs.Checks.{kind_at}
use Rattle.row_cells.specs.Rows.{in_front, read_each}
use Rattle.plan_types.specs.AggregateNames.{aggregate_named}
use Rattle.plan_types.specs.Columns.{all_columns, expression_column}
use Rattle.plan_types.specs.declared.plan.Expression.{Expression}
use Rattle.plan_types.specs.declared.plan.Named.{Named}
use Rattle.plan_types.specs.declared.plan.Plan.{Plan}
use Rattle.agg_core.specs.Types.{aggregate_for, default_aggregate, takes}
use Rattle.plan_json.specs.declared.named.NamedText.{NamedText}
use Rattle.plan_json.specs.declared.words.PlanPart.{PlanPart}
use Rattle.plan_json.specs.declared.words.PlanPart.TheVariants as part
use Rattle.plan_json.specs.Plans.{RawPlanData}
use Rattle.plan_json.specs.Reading.{plan_of}
use Rattle.plan_check.specs.Columns as named
use Rattle.plan_check.specs.Columns.{aggregates_of, groups_of, known, number_at, numbers_from, place_named, shown_of, splits_of}
use Rattle.plan_check.specs.Expressions.{expression, expression_at, expressions_of, kind_answer, max_expression, max_expressions, parse_answer, parsed}
use Rattle.plan_check.specs.Faults.{found, unless}
use Rattle.plan_check.specs.Filters.{every_of, filters_of}
use Rattle.plan_check.specs.Plans.{checked}
use Rattle.plan_check.specs.Sorts.{sorts_of}
use Rattle.plan_check.specs.Trees.{tree_of, trees_of}
use Rattle.plan_check.specs.declared.columns.ColumnPlace.{ColumnPlace}
use Rattle.plan_check.specs.declared.refused.PlanFault.{PlanFault}
use Rattle.view_spec.specs.Columns.{aggregate_at, column_at, is_flat, no_column}
use Rattle.pivot_tree.specs.Columns.{used_columns}
use Rattle.frame_types.specs.Refusals.{bad_plan, plan_form}
use Rattle.frame_types.specs.declared.reply.Body.TheVariants as body
use Rattle.frame_types.specs.declared.reply.Refusal.{Refusal}
use Rattle.hub_spec.specs.Histories.{choice_of, plenty}
use Rattle.plain_kept.specs.Plans.{IsViewPlan}
use Rattle.hub_spec.specs.Plans.{plan_asked, plan_checked, plan_read}

-- ---- what was found before what follows

then_ok : {X Y : Type 0} (r : Result X PlanFault) (next : X → Result Y PlanFault) (y : Y) → and_then r next ≡ Ok y → (x : X) × (r ≡ Ok x) × (next x ≡ Ok y)
then_ok (Ok x) next y is = (x, refl, is)
then_ok (Err why) next y is = absurd (cc)

-- found, where what isn't found is a fault of a plan
abbrev good : {X : Type 0} → X → Result X PlanFault
good x = Ok x

good_same : {X : Type 0} (x y : X) → good x ≡ Ok y → x ≡ y
good_same x y is = cc

found_ok : {X : Type 0} (why : PlanFault) (o : Option X) (x : X) → found why o ≡ Ok x → o ≡ Some x
found_ok why None x is = absurd (cc)
found_ok why (Some y) x is = let same : y ≡ x = cc in ap Some same

unless_ok : {X : Type 0} (refused : Bool) (why : PlanFault) (next : Result X PlanFault) (x : X) → unless refused why next ≡ Ok x → next ≡ Ok x
unless_ok true why next x is = absurd (cc)
unless_ok false why next x is = is

then_some : {X Y : Type 0} (o : Option X) (next : X → Option Y) (y : Y) → option_and_then next o ≡ Some y → (x : X) × (o ≡ Some x) × (next x ≡ Some y)
then_some None next y is = absurd (cc)
then_some (Some x) next y is = (x, refl, is)

mapped_some : {X Y : Type 0} (o : Option X) (f : X → Y) (y : Y) → option_map f o ≡ Some y → (x : X) × (o ≡ Some x) × (f x ≡ y)
mapped_some None f y is = absurd (cc)
mapped_some (Some x) f y is = (x, refl, let same : f x ≡ y = cc in same)

each_holds : {A X : Type 0} (P : X → Type 0) (read : ℕ → A → Result X PlanFault) → ((i : ℕ) (a : A) (x : X) → read i a ≡ Ok x → P x) → (i : ℕ) (items : List A) (xs : List X)
    → read_each read i items ≡ Ok xs → All P xs
each_holds {X = X} P read holds i [] xs is = let none : [] ≡ xs = cc in subst (All P) none (All-nil P)
each_holds {X = X} P read holds i (a ∷ items) xs is =
    by (read i a) (read_each read (i + 1) items) refl (λ more. each_holds P read holds (i + 1) items more) is
  where
    by : (first : Result X PlanFault) (rest : Result (List X) PlanFault) → read i a ≡ first → ((more : List X) → rest ≡ Ok more → All P more) → in_front first rest ≡ Ok xs → All P xs
    by (Ok x) (Ok more) one later all = let same : x ∷ more ≡ xs = cc in subst (All P) same (All-cons P x more (holds i a x one) (later more refl))
    by (Ok x) (Err why) one later all = absurd (cc)
    by (Err why) rest one later all = absurd (cc)

-- ---- columns by name

kind_within : (columns : List Column) (i : ℕ) (kind : CellType) → kind_at columns i ≡ Some kind → i < length columns
kind_within [] i kind is = absurd (cc)
kind_within (c ∷ columns) zero kind is = omega arith
kind_within (c ∷ columns) (suc i) kind is = let later = kind_within columns i kind is in omega (arith, later)

kind_there : (columns : List Column) (i : ℕ) (kind : CellType) → kind_at columns i ≡ Some kind → (slice_index_or columns i no_column).kind ≡ kind
kind_there [] i kind is = absurd (cc)
kind_there (c ∷ columns) zero kind is = let same : c.kind ≡ kind = cc in same
kind_there (c ∷ columns) (suc i) kind is = kind_there columns i kind is

known_kind : (columns : List Column) (member : PlanPart) (i : ℕ) (name : List ℕ) (place : ColumnPlace) → known columns member i name ≡ Ok place → kind_at columns place.number ≡ Some place.kind
known_kind columns member i name place is =
    let named = then_some (column_named columns name) (λ n. option_map (λ kind. record { number = n; kind = kind }) (kind_at columns n)) place (found_ok _ (place_named columns name) place is) in
    let typed = mapped_some (kind_at columns named.0) (λ kind. let p : ColumnPlace = record { number = named.0; kind = kind } in p) place named.2 in
    subst (λ (p : ColumnPlace). kind_at columns p.number ≡ Some p.kind) typed.2 typed.1

number_within : (columns : List Column) (member : PlanPart) (names : List (List ℕ)) (i : ℕ) (name : List ℕ) (n : ℕ) → number_at columns member names i name ≡ Ok n → n < length columns
number_within columns member names i name n is =
    let place = then_ok (known columns member i name) _ n is in
    let number = good_same place.0.number n (unless_ok _ _ (Ok place.0.number) n place.2) in
    subst (λ k. k < length columns) number (kind_within columns place.0.number place.0.kind (known_kind columns member i name place.0 place.1))

numbers_within : (i m : ℕ) (columns : List Column) → i + length columns ≤ m → All (λ n. n < m) (numbers_from i columns)
numbers_within i m [] le = All-nil (λ n. n < m)
numbers_within i m (c ∷ columns) le = All-cons (λ n. n < m) i (numbers_from (i + 1) columns) (omega arith) (numbers_within (i + 1) m columns (omega arith))

shown_within : (schema more : List Column) (names : Option (List (List ℕ))) (shown : List ℕ) → shown_of schema (schema ++ more) names ≡ Ok shown → All (λ n. n < length (schema ++ more)) shown
shown_within schema more None shown is =
    let same : numbers_from 0 schema ≡ shown = cc in
    subst (All (λ n. n < length (schema ++ more))) same (numbers_within 0 (length (schema ++ more)) schema (omega (arith, length-append schema more)))
shown_within schema more (Some names) shown is =
    each_holds (λ n. n < length (schema ++ more)) _ (λ i name n one. number_within (schema ++ more) _ names i name n one) 0 names shown is

-- ---- expressions

-- what a node is seen as
view_unary : (at : ℕ) (op : UnaryOp) (a : Tree) → tree_view (tree at (node.Unary op a)) ≡ unary at op (tree_view a)
view_unary at op a = search (rules, the_lemmas)

view_binary : (at : ℕ) (op : BinaryOp) (a b : Tree) → tree_view (tree at (node.Binary op a b)) ≡ binary at op (tree_view a) (tree_view b)
view_binary at op a b = search (rules, the_lemmas)

view_call : (at : ℕ) (name : List ℕ) (args : List Tree) → tree_view (tree at (node.Call name args)) ≡ call at name (arguments_of (map tree_view args))
view_call at name args = search (rules, the_lemmas)

-- a tree that data stands for is seen as the data
mutual
  seen : (d : TreeData) → tree_view (tree_of d) ≡ d
  seen (column at name i) = search (rules, the_lemmas)
  seen (number at n) = search (rules, the_lemmas)
  seen (truth at b) = search (rules, the_lemmas)
  seen (words at s) = search (rules, the_lemmas)
  seen (unary at op a) = view_unary at op (tree_of a) ∙ ap (unary at op) (seen a)
  seen (binary at op a b) = view_binary at op (tree_of a) (tree_of b) ∙ ap (λ d. binary at op d (tree_view (tree_of b))) (seen a) ∙ ap (binary at op a) (seen b)
  seen (call at name args) = view_call at name (trees_of args) ∙ ap (call at name) (all_seen args)

  all_seen : (args : Arguments) → arguments_of (map tree_view (trees_of args)) ≡ args
  all_seen no_arguments = refl
  all_seen (argument a more) = ap (λ d. argument d (arguments_of (map tree_view (trees_of more)))) (seen a) ∙ ap (argument a) (all_seen more)

-- the type that an expression was found to have
kind_found : (i : ℕ) (r : Result CellType TreeRefused) (kind : CellType) → kind_answer i r ≡ Ok kind → r ≡ Ok kind
kind_found i (Ok k) kind is = let same : k ≡ kind = cc in ap Ok same
kind_found i (Err why) kind is = absurd (cc)

tree_checked : (columns : List Column) (i : ℕ) (named : NamedText) (e : Expression) → expression_at columns i named ≡ Ok e → IsCheckedTree columns (tree_view e.tree) e.kind
tree_checked columns i named e is =
    let short = unless_ok (nat_lt max_expression (length named.text)) _ _ e (unless_ok (is_bad_name named.name || is_some (column_named columns named.name)) _ _ e is) in
    let read = then_ok (parse_answer i (parsed named.text)) _ e short in
    let typed = then_ok (kind_answer i (kind_of columns (tree_view read.0))) _ e read.2 in
    let same : expression columns named read.0 typed.0 ≡ e = good_same (expression columns named read.0 typed.0) e typed.2 in
    subst (λ (e : Expression). IsCheckedTree columns (tree_view e.tree) e.kind) same
    (numbering.checked columns (tree_view read.0) (tree_view (tree_of (numbered columns (tree_view read.0)))) typed.0 (kind_found i (kind_of columns (tree_view read.0)) typed.0 typed.1) (seen (numbered columns (tree_view read.0))))

-- ---- aggregates

-- a named aggregate takes the type of its column
abbrev IsTakenIn : List Column → Named → Type 0
IsTakenIn columns n = takes n.aggregate (slice_index_or columns n.column no_column).kind ≡ true

unless_taken : (taken : Bool) (why : PlanFault) (n m : Named) → unless (not taken) why (Ok n) ≡ Ok m → (taken ≡ true) × (n ≡ m)
unless_taken true why n m is = (refl, let same : n ≡ m = cc in same)
unless_taken false why n m is = absurd (cc)

named_taken : (columns : List Column) (i : ℕ) (text : NamedText) (n : Named) → named.aggregate_at columns i text ≡ Ok n → IsTakenIn columns n
named_taken columns i text n is =
    let place = then_ok (known columns part.Aggregates i text.name) _ n is in
    let name = then_ok (found _ (aggregate_named text.text)) _ n place.2 in
    let told = unless_taken (takes name.0 place.0.kind) _ (record { column = place.0.number; aggregate = name.0 }) n name.2 in
    subst (IsTakenIn columns) told.1
    (ap (takes name.0) (kind_there columns place.0.number place.0.kind (known_kind columns part.Aggregates i text.name place.0 place.1)) ∙ told.0)

default_taken : (kind : CellType) → takes (default_aggregate kind) kind ≡ true
default_taken kinds.Integer = refl
default_taken kinds.Boolean = refl
default_taken kinds.Date = refl
default_taken kinds.Moment = refl
default_taken kinds.Words = refl

-- the aggregate that is named for a column, or else that of its type, takes the type
aggregate_taken : (columns : List Column) (i : ℕ) (aggregates : List Named) → All (IsTakenIn columns) aggregates
    → takes (aggregate_for aggregates i (slice_index_or columns i no_column).kind) (slice_index_or columns i no_column).kind ≡ true
aggregate_taken columns i [] all = default_taken (slice_index_or columns i no_column).kind
aggregate_taken columns i (n ∷ more) all = by (nat_eq i n.column) refl (aggregate_taken columns i more (All-tail (IsTakenIn columns) n more all))
  where
    kind : CellType
    kind = (slice_index_or columns i no_column).kind

    by : (here : Bool) → nat_eq i n.column ≡ here → takes (aggregate_for more i kind) kind ≡ true
        → takes (unwrap_or (cond here (Some n.aggregate) (lookup (nat_eq i) (map (λ (m : Named). (m.column, m.aggregate)) more))) (default_aggregate kind)) kind ≡ true
    by true here later = subst (λ k. takes n.aggregate (slice_index_or columns k no_column).kind ≡ true) (sym (eqb-true i n.column here)) (All-head (IsTakenIn columns) n more all)
    by false here later = later

-- ---- a checked plan

-- what holds of anything holds of each
all_of : {X : Type 0} (P : X → Type 0) → ((x : X) → P x) → (xs : List X) → All P xs
all_of P holds [] = All-nil P
all_of P holds (x ∷ xs) = All-cons P x xs (holds x) (all_of P holds xs)

-- a plan of parts that were checked
fit_of : (columns : List Column) (plan : Plan) → All (λ i. i < length (all_columns columns plan.expressions)) plan.columns
    → All (λ (e : Expression). IsCheckedTree columns (tree_view e.tree) e.kind) plan.expressions → All (IsTakenIn (all_columns columns plan.expressions)) plan.aggregates → IsViewPlan columns plan
fit_of columns plan within trees taken = by (is_flat plan) refl
  where
    by : (flat : Bool) → is_flat plan ≡ flat → IsViewPlan columns plan
    by true flat = inl (record { flat = flat; within = within })
    by false grouped = inr (record {
      grouped = grouped;
      within = within;
      trees = trees;
      taken = all_of (λ i. takes (aggregate_at columns plan i) (column_at columns plan i).kind ≡ true)
          (λ i. aggregate_taken (all_columns columns plan.expressions) i plan.aggregates taken) (used_columns plan);
    })

checked_fits : (schema : SchemaData) (raw : RawPlanData) (plan : Plan) → checked schema raw ≡ Ok plan → IsViewPlan schema.columns plan
checked_fits schema raw plan is =
    let expressions = then_ok (expressions_of schema.columns raw.expressions) _ plan is in
    let columns : List Column = all_columns schema.columns expressions.0 in
    let shown = then_ok (shown_of schema.columns columns raw.columns) _ plan expressions.2 in
    let groups = then_ok (groups_of columns raw.group_by) _ plan shown.2 in
    let splits = then_ok (splits_of columns raw.split_by) _ plan groups.2 in
    let aggregates = then_ok (aggregates_of columns raw.aggregates) _ plan splits.2 in
    let filters = then_ok (filters_of columns raw.filters) _ plan aggregates.2 in
    let every = then_ok (every_of raw.filter_op) _ plan filters.2 in
    let sorts = then_ok (sorts_of columns groups.0 aggregates.0 raw.sorts) _ plan every.2 in
    let made : Plan = record {
      columns = shown.0;
      group_by = groups.0;
      split_by = splits.0;
      aggregates = aggregates.0;
      filters = record { list = filters.0; every = every.0 };
      sorts = sorts.0;
      expressions = expressions.0;
    } in
    let same : made ≡ plan = good_same made plan sorts.2 in
    subst (IsViewPlan schema.columns) {x = made} same
    (fit_of schema.columns made (shown_within schema.columns (map expression_column expressions.0) raw.columns shown.0 shown.1)
    (each_holds _ (expression_at schema.columns) (tree_checked schema.columns) 0 raw.expressions expressions.0 (unless_ok (nat_lt max_expressions (length raw.expressions)) _ _ expressions.0 expressions.1))
    (each_holds (IsTakenIn columns) (named.aggregate_at columns) (named_taken columns) 0 raw.aggregates aggregates.0 aggregates.1))

-- ---- a plan that is asked for

checked_ok : (r : Result Plan PlanFault) (plan : Plan) → plan_checked r ≡ Ok plan → r ≡ Ok plan
checked_ok (Ok p) plan is = let same : p ≡ plan = cc in ap Ok same
checked_ok (Err why) plan is = absurd (cc)

pub asked_fits : (schema : SchemaData) (asked : RawData) (plan : Plan) → Ok plan ≡ plan_asked schema asked → IsViewPlan schema.columns plan
asked_fits schema asked plan is = by (plan_of asked) (sym is)
  where
    by : (o : Option RawPlanData) → plan_read schema o ≡ Ok plan → IsViewPlan schema.columns plan
    by None read = absurd (cc)
    by (Some raw) read = checked_fits schema raw plan (checked_ok (checked schema raw) plan read)

-- why there is no plan is never want of memory
pub not_wanted : (schema : SchemaData) (asked : RawData) (why : Refusal) → plan_asked schema asked ≡ Err why → choice_of (body.Refused why) ≡ plenty
not_wanted schema asked why is = read_so (plan_of asked) is
  where
    refused_so : (made other : Refusal) → made ≡ other → eqb made.code 22 ≡ false → choice_of (body.Refused other) ≡ plenty
    refused_so made other same apart = rw (sym (ap (λ (r : Refusal). r.code) same), apart) refl

    checked_so : (r : Result Plan PlanFault) → plan_checked r ≡ Err why → choice_of (body.Refused why) ≡ plenty
    checked_so (Ok p) h = absurd (cc)
    checked_so (Err fault) h = refused_so (bad_plan fault.part fault.cause fault.at) why (let same : bad_plan fault.part fault.cause fault.at ≡ why = cc in same) refl

    read_so : (o : Option RawPlanData) → plan_read schema o ≡ Err why → choice_of (body.Refused why) ≡ plenty
    read_so None h = refused_so plan_form why (let same : plan_form ≡ why = cc in same) refl
    read_so (Some raw) h = checked_so (checked schema raw) h
