-- The types of a call's arguments, as far as a function can take them.
use Rattle.std.specs.Prelude.{List, [], ◌∷◌, Result, Ok, Err}
use Rattle.cell_core.specs.declared.cell.CellType.{CellType}
use Rattle.cell_core.specs.declared.cell.CellType.TheVariants.{Integer}
use Rattle.expr_spec.specs.declared.refused.TreeRefused.{TreeRefused}
use Rattle.plan_check.specs.declared.kinds.Kinds.{Kinds}
use Rattle.plan_check.specs.declared.kinds.Kinds.TheVariants as kinds

-- a list of such types; for more than three, one of four
abbrev pub list_of : Kinds → List CellType
list_of kinds.Zero = []
list_of (kinds.One a) = a ∷ []
list_of (kinds.Two a b) = a ∷ b ∷ []
list_of (kinds.Three a b c) = a ∷ b ∷ c ∷ []
list_of kinds.More = Integer ∷ Integer ∷ Integer ∷ Integer ∷ []

abbrev pub with_kind : Kinds → CellType → Kinds
with_kind kinds.Zero kind = kinds.One kind
with_kind (kinds.One a) kind = kinds.Two a kind
with_kind (kinds.Two a b) kind = kinds.Three a b kind
with_kind (kinds.Three a b c) kind = kinds.More
with_kind kinds.More kind = kinds.More

-- the types of a list, after some
abbrev pub kinds_after : Kinds → List CellType → Kinds
kinds_after before [] = before
kinds_after before (kind ∷ kinds) = kinds_after (with_kind before kind) kinds

-- the same of types that were found, or their first fault
abbrev pub found_after : Kinds → Result (List CellType) TreeRefused → Result Kinds TreeRefused
found_after before (Ok kinds) = Ok (kinds_after before kinds)
found_after before (Err fault) = Err fault
