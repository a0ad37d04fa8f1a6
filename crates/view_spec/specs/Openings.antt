-- Which groups are open, and which are shown.
use Rattle.std.specs.Prelude.{ℕ, nat_lt, List, [], ◌∷◌, ◌++◌, length, Bool, true, ◌&&◌, unwrap_or}
use Rattle.std.specs.Map.{lookup}
use Rattle.cell_core.specs.declared.cell.Cell.{Cell}
use Rattle.plan_types.specs.declared.plan.Plan.{Plan}
use Rattle.view_spec.specs.Paths.{same_path}

-- to what depth groups are open, and the groups that were opened or closed one by one
pub record Opening : Type 0 where
  pub depth : ℕ
  pub singles : List (List Cell × Bool)

abbrev pub is_open : Opening → List Cell → Bool
is_open opening path = unwrap_or (lookup (same_path path) opening.singles) (nat_lt (length path) opening.depth)

-- whether each path on the way to the end is open
abbrev pub opens : Opening → List Cell → List Cell → Bool
opens opening done [] = true
opens opening done (c ∷ cs) = is_open opening done && opens opening (done ++ c ∷ []) cs

-- a group is shown where every path that it lies below is open
abbrev pub is_visible : Opening → List Cell → Bool
is_visible opening path = opens opening [] path

-- a path of full length has no mark
abbrev pub mark_of : Plan → Opening → List Cell → Bool
mark_of plan opening path = nat_lt (length path) (length plan.group_by) && is_open opening path

-- as it is when a view is opened
abbrev pub first_opening : Plan → Opening
first_opening plan = record { depth = length plan.group_by; singles = [] }
