-- What was written is read back.
use Rattle.std.proofs.Common.{◌≡◌, ℕ, List, [], ◌∷◌, map, Option, Some, None, option_map, refl, ap, ◌∙◌}
use Rattle.cell_core.specs.RawData.{RawData, raw_words}
use Rattle.cell_core.specs.RawViews.{items_of}
use Rattle.plan_json.specs.Plans.{RawFilterData, RawPlanData}
use Rattle.plan_json.specs.Reading.{each, filter_of, in_front, plan_of, sort_of, text_of, texts_in}
use Rattle.plan_json.specs.Writing.{raw_of_filter, raw_of_plan, raw_of_sort}
use Rattle.plan_json.specs.declared.named.NamedText.{NamedText}
use Rattle.plan_json.specs.declared.plan.RawSort.{RawSort}
use Rattle.plan_json.proofs.Members.{text_members}

pub names-back : (names : List (List ℕ)) → each text_of (items_of (map raw_words names)) ≡ Some names
names-back [] = refl
names-back (n ∷ names) = ap (option_map (λ xs. n ∷ xs)) (names-back names)

pub texts-back : (texts : List NamedText) → texts_in (text_members texts) ≡ Some texts
texts-back [] = refl
texts-back (n ∷ texts) = ap (option_map (λ xs. n ∷ xs)) (texts-back texts)

filter-back : (name operator : List ℕ) (value : Option RawData)
    → filter_of (raw_of_filter (record { name = name; operator = operator; value = value })) ≡ Some (record { name = name; operator = operator; value = value })
filter-back name operator None = refl
filter-back name operator (Some d) = refl

pub filters-back : (filters : List RawFilterData) → each filter_of (items_of (map raw_of_filter filters)) ≡ Some filters
filters-back [] = refl
filters-back (f ∷ filters) =
    ap (λ first. in_front first (each filter_of (items_of (map raw_of_filter filters)))) (filter-back f.name f.operator f.value)
    ∙ ap (option_map (λ xs. f ∷ xs)) (filters-back filters)

pub sorts-back : (sorts : List RawSort) → each sort_of (items_of (map raw_of_sort sorts)) ≡ Some sorts
sorts-back [] = refl
sorts-back (s ∷ sorts) = ap (option_map (λ xs. s ∷ xs)) (sorts-back sorts)

by_given : (columns : Option (List (List ℕ))) (group_by split_by : List (List ℕ)) (aggregates expressions : List NamedText) (filters : List RawFilterData)
    (filter_op : Option (List ℕ)) (sorts : List RawSort)
    → let plan : RawPlanData = record { columns = columns; group_by = group_by; split_by = split_by; aggregates = aggregates; expressions = expressions; filters = filters; filter_op = filter_op; sorts = sorts } in
    plan_of (raw_of_plan plan) ≡ Some plan
by_given None group_by split_by aggregates expressions filters None sorts =
    rw (names-back group_by, names-back split_by, texts-back aggregates, texts-back expressions, filters-back filters, sorts-back sorts) refl
by_given None group_by split_by aggregates expressions filters (Some op) sorts =
    rw (names-back group_by, names-back split_by, texts-back aggregates, texts-back expressions, filters-back filters, sorts-back sorts) refl
by_given (Some columns) group_by split_by aggregates expressions filters None sorts =
    rw (names-back columns, names-back group_by, names-back split_by, texts-back aggregates, texts-back expressions, filters-back filters, sorts-back sorts) refl
by_given (Some columns) group_by split_by aggregates expressions filters (Some op) sorts =
    rw (names-back columns, names-back group_by, names-back split_by, texts-back aggregates, texts-back expressions, filters-back filters, sorts-back sorts) refl

pub plan-back : (plan : RawPlanData) → plan_of (raw_of_plan plan) ≡ Some plan
plan-back plan = by_given plan.columns plan.group_by plan.split_by plan.aggregates plan.expressions plan.filters plan.filter_op plan.sorts
