-- The columns that a plan names, by their numbers, and their aggregates.
use Rattle.std.specs.Prelude.{ℕ, ◌+◌, List, [], ◌∷◌, take, not, Option, Some, None, option_map, option_and_then, Result, Ok}
use Rattle.std.specs.List.{list_any}
use Rattle.std.specs.Str.{bytes_eq}
use Rattle.plain_data.specs.Results.{and_then}
use Rattle.cell_core.specs.declared.schema.Column.{Column}
use Rattle.cell_core.specs.declared.schema.Numbers.TheVariants.{One}
use Rattle.plan_types.specs.AggregateNames.{aggregate_named}
use Rattle.plan_types.specs.declared.plan.Named.{Named}
use Rattle.agg_core.specs.Types.{takes}
use Rattle.expr_spec.specs.Typing.{column_named}
use Rattle.row_batch.specs.Checks.{kind_at}
use Rattle.row_cells.specs.Rows.{read_each}
use Rattle.plan_json.specs.declared.named.NamedText.{NamedText}
use Rattle.plan_check.specs.Faults.{fault, found, unless, at_most}
use Rattle.plan_check.specs.declared.columns.ColumnPlace.{ColumnPlace}
use Rattle.plan_json.specs.declared.words.PlanCause.TheVariants as cause
use Rattle.plan_check.specs.declared.refused.PlanFault.{PlanFault}
use Rattle.plan_json.specs.declared.words.PlanPart.{PlanPart}
use Rattle.plan_json.specs.declared.words.PlanPart.TheVariants as part

-- the number and the type of the column of a name
abbrev pub place_named : List Column → List ℕ → Option ColumnPlace
place_named columns name =
    option_and_then (λ i. option_map (λ kind. record { number = i; kind = kind }) (kind_at columns i)) (column_named columns name)

-- the same, or `unknown`
abbrev pub known : List Column → PlanPart → ℕ → List ℕ → Result ColumnPlace PlanFault
known columns member i name = found (fault member cause.Unknown (One i)) (place_named columns name)

-- ---- lists of names

-- name i of a list: `unknown`, and then `twice`
abbrev pub number_at : List Column → PlanPart → List (List ℕ) → ℕ → List ℕ → Result ℕ PlanFault
number_at columns member names i name =
    and_then (known columns member i name) (λ place.
    unless (list_any (bytes_eq name) (take i names)) (fault member cause.Twice (One i)) (Ok place.number))

abbrev pub numbers_of : List Column → PlanPart → List (List ℕ) → Result (List ℕ) PlanFault
numbers_of columns member names = read_each (number_at columns member names) 0 names

-- the numbers of some columns, from i on
abbrev pub numbers_from : ℕ → List Column → List ℕ
numbers_from i [] = []
numbers_from i (c ∷ cs) = i ∷ numbers_from (i + 1) cs

-- the shown columns: left out they are the schema's
abbrev pub shown_of : List Column → List Column → Option (List (List ℕ)) → Result (List ℕ) PlanFault
shown_of schema columns None = Ok (numbers_from 0 schema)
shown_of schema columns (Some names) = numbers_of columns part.Columns names

abbrev pub groups_of : List Column → List (List ℕ) → Result (List ℕ) PlanFault
groups_of columns names = at_most 8 part.GroupBy names (numbers_of columns part.GroupBy names)

abbrev pub splits_of : List Column → List (List ℕ) → Result (List ℕ) PlanFault
splits_of columns names = at_most 4 part.SplitBy names (numbers_of columns part.SplitBy names)

-- ---- aggregates

-- aggregate i: `unknown`, then `aggregate`, then `type`
abbrev pub aggregate_at : List Column → ℕ → NamedText → Result Named PlanFault
aggregate_at columns i named =
    and_then (known columns part.Aggregates i named.name) (λ place.
    and_then (found (fault part.Aggregates cause.Aggregate (One i)) (aggregate_named named.text)) (λ name.
    unless (not (takes name place.kind)) (fault part.Aggregates cause.BadType (One i))
    (Ok (record { column = place.number; aggregate = name }))))

abbrev pub aggregates_of : List Column → List NamedText → Result (List Named) PlanFault
aggregates_of columns texts = read_each (aggregate_at columns) 0 texts
