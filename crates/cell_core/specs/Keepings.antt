-- What rows are kept under.
use Rattle.std.specs.Prelude.{ℕ, ◌==◌, Bool, true, false, Option, Some, None}
use Rattle.cell_core.specs.declared.schema.Keeping.{Keeping}
use Rattle.cell_core.specs.declared.schema.Keeping.TheVariants.{Indexed, Limited, Free}

-- under their cell in an index column
abbrev pub IsIndexed : Keeping → Type 0
IsIndexed (Indexed column) = Unit {0}
IsIndexed (Limited slots) = ⊥
IsIndexed Free = ⊥

-- the same as a test
abbrev pub is_indexed : Keeping → Bool
is_indexed (Indexed column) = true
is_indexed (Limited slots) = false
is_indexed Free = false

-- the index column's number
abbrev pub key_column : Keeping → Option ℕ
key_column (Indexed column) = Some column
key_column (Limited slots) = None
key_column Free = None

-- column i is the index column
abbrev pub is_key_column : Keeping → ℕ → Bool
is_key_column (Indexed column) i = i == column
is_key_column (Limited slots) i = false
is_key_column Free i = false
