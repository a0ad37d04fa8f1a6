-- Refusals as a table: conditions in the order in which they are tested, each with what it refuses by.
use Rattle.std.specs.Prelude.{Bool, List, [], ◌∷◌, Option, Some, None, if◌then◌else◌}

-- the first whose condition holds
abbrev pub first_fault : {X : Type 0} → List (Bool × X) → Option X
first_fault [] = None
first_fault ((refused, why) ∷ more) = if refused then Some why else first_fault more
