-- The sorts of a plan.
use Rattle.std.specs.Prelude.{ℕ, List, [], ◌∷◌, take, codes, Bool, true, false, not, ◌&&◌, Option, Some, None, Result, Ok, if◌then◌else◌}
use Rattle.std.specs.List.{list_any}
use Rattle.std.specs.Str.{bytes_eq}
use Rattle.plain_data.specs.Results.{and_then}
use Rattle.cell_core.specs.declared.cell.Direction.{Direction}
use Rattle.cell_core.specs.declared.cell.Direction.TheVariants as direction
use Rattle.cell_core.specs.declared.schema.Column.{Column}
use Rattle.cell_core.specs.declared.schema.Numbers.TheVariants.{One}
use Rattle.plan_types.specs.declared.plan.Named.{Named}
use Rattle.plan_types.specs.declared.plan.Sort.{Sort}
use Rattle.agg_core.specs.Types.{aggregate_for, is_numeric, result_type}
use Rattle.agg_core.specs.declared.types.ResultType.{ResultType}
use Rattle.agg_core.specs.declared.types.ResultType.TheVariants as result
use Rattle.row_cells.specs.Rows.{read_each}
use Rattle.plan_json.specs.declared.plan.RawSort.{RawSort}
use Rattle.plan_check.specs.Columns.{known}
use Rattle.plan_check.specs.Faults.{fault, found, unless, at_most}
use Rattle.plan_check.specs.declared.columns.ColumnPlace.{ColumnPlace}
use Rattle.plan_json.specs.declared.words.PlanCause.TheVariants as cause
use Rattle.plan_check.specs.declared.refused.PlanFault.{PlanFault}
use Rattle.plan_json.specs.declared.words.PlanPart.TheVariants as part

abbrev pub direction_named : List ℕ → Option Direction
direction_named s =
    if bytes_eq s (codes "asc") then Some direction.Asc else
    (if bytes_eq s (codes "desc") then Some direction.Desc else
    (if bytes_eq s (codes "asc abs") then Some direction.AscAbs else
    (if bytes_eq s (codes "desc abs") then Some direction.DescAbs else None)))

-- whether it goes by absolute values
abbrev pub is_absolute : Direction → Bool
is_absolute direction.Asc = false
is_absolute direction.Desc = false
is_absolute direction.AscAbs = true
is_absolute direction.DescAbs = true

-- whether the values of an aggregate are numbers
abbrev pub has_size : ResultType → Bool
has_size (result.Column kind) = is_numeric kind
has_size result.Fraction = true

-- a flat view sorts by cells, and one with groups by the aggregates' values
abbrev pub is_sized : List ℕ → List Named → ColumnPlace → Bool
is_sized [] aggregates place = is_numeric place.kind
is_sized (g ∷ gs) aggregates place = has_size (result_type (aggregate_for aggregates place.number place.kind) place.kind)

-- sort i: `unknown`, `twice`, `direction`, and then `type` of a direction by absolute values
abbrev pub sort_at : List Column → List ℕ → List Named → List RawSort → ℕ → RawSort → Result Sort PlanFault
sort_at columns groups aggregates sorts i s =
    and_then (known columns part.Sort i s.name) (λ place.
    unless (list_any (λ other. bytes_eq s.name other.name) (take i sorts)) (fault part.Sort cause.Twice (One i))
    (and_then (found (fault part.Sort cause.Direction (One i)) (direction_named s.direction)) (λ direction.
    unless (is_absolute direction && not (is_sized groups aggregates place)) (fault part.Sort cause.BadType (One i))
    (Ok (record { column = place.number; direction = direction })))))

abbrev pub sorts_of : List Column → List ℕ → List Named → List RawSort → Result (List Sort) PlanFault
sorts_of columns groups aggregates sorts =
    at_most 8 part.Sort sorts (read_each (sort_at columns groups aggregates sorts) 0 sorts)
