-- Which columns make a schema, and which schema they make.
use Rattle.std.specs.Prelude.{◌≡◌, ℕ, ◌+◌, ◌<◌, ◌≤◌, ℤ, pos, negsuc, nat_lt, ◌==◌, List, [], ◌∷◌, ◌++◌, length, map, All, codes, Bool, true, false, not, ◌&&◌, ◌||◌, Option, Some, None, Result, Ok, Err, is_some, is_none, option_map, unwrap_or, position, if◌then◌else◌}
use Rattle.std.specs.List.{filter_map}
use Rattle.std.specs.Str.{bytes_eq}
use Rattle.plain_data.specs.Distinct.{AreDistinct}
use Rattle.plain_data.specs.Faults.{first_fault}
use Rattle.cell_core.specs.Limits.{max_columns, max_name, max_rows}
use Rattle.cell_core.specs.declared.cell.CellType.{CellType}
use Rattle.cell_core.specs.declared.cell.CellType.TheVariants as kind
use Rattle.cell_core.specs.declared.schema.ColumnWords.{ColumnWords}
use Rattle.cell_core.specs.declared.schema.Column.{Column}
use Rattle.cell_core.specs.declared.schema.Keeping.{Keeping}
use Rattle.cell_core.specs.declared.schema.Keeping.TheVariants.{Indexed, Limited, Free}
use Rattle.cell_core.specs.declared.schema.Numbers.TheVariants.{Zero, One}
use Rattle.cell_core.specs.declared.schema.SchemaCause.TheVariants as cause
use Rattle.cell_core.specs.declared.schema.SchemaRefused.{SchemaRefused}
use Rattle.cell_core.specs.declared.schema.SchemaRefused.TheVariants.{Bad, Memory}

-- a schema as contracts see it
pub record SchemaData : Type 0 where
  pub columns : List Column
  pub keeping : Keeping

abbrev pub type_named : List ℕ → Option CellType
type_named s =
    if bytes_eq s (codes "integer") then Some kind.Integer else
    (if bytes_eq s (codes "boolean") then Some kind.Boolean else
    (if bytes_eq s (codes "date") then Some kind.Date else
    (if bytes_eq s (codes "datetime") then Some kind.Moment else
    (if bytes_eq s (codes "string") then Some kind.Words else None))))

abbrev pub type_name : CellType → List ℕ
type_name kind.Integer = codes "integer"
type_name kind.Boolean = codes "boolean"
type_name kind.Date = codes "date"
type_name kind.Moment = codes "datetime"
type_name kind.Words = codes "string"

-- ---- the faults, in the order in which they are tested

-- a name has from 1 to 256 bytes
abbrev pub is_bad_name : List ℕ → Bool
is_bad_name name = length name == 0 || nat_lt max_name (length name)

abbrev pub is_named : List ℕ → ColumnWords → Bool
is_named name c = bytes_eq c.name name

abbrev pub stands_in : List ColumnWords → List ℕ → Bool
stands_in columns name = is_some (position (is_named name) columns)

-- of column i and of those after it, behind the columns that stand before it
abbrev pub column_faults : List ColumnWords → ℕ → List ColumnWords → List (Bool × SchemaRefused)
column_faults before i [] = []
column_faults before i (c ∷ cs) =
    (is_bad_name c.name, Bad cause.NameLength (One i))
    ∷ (is_none (type_named c.kind), Bad cause.BadType (One i))
    ∷ (stands_in before c.name, Bad cause.Twice (One i))
    ∷ column_faults (before ++ c ∷ []) (i + 1) cs

abbrev pub names_none : List ColumnWords → Option (List ℕ) → Bool
names_none columns None = false
names_none columns (Some name) = not (stands_in columns name)

-- a limit is from 1 to 65,536
abbrev pub is_bad_limit : Option ℤ → Bool
is_bad_limit None = false
is_bad_limit (Some (pos n)) = n == 0 || nat_lt max_rows n
is_bad_limit (Some (negsuc n)) = true

abbrev pub keeping_faults : List ColumnWords → Option (List ℕ) → Option ℤ → List (Bool × SchemaRefused)
keeping_faults columns index limit =
    (is_some index && is_some limit, Bad cause.IndexAndLimit Zero)
    ∷ (names_none columns index, Bad cause.Index Zero)
    ∷ (is_bad_limit limit, Bad cause.Limit Zero)
    ∷ []

abbrev pub schema_faults : List ColumnWords → Option (List ℕ) → Option ℤ → List (Bool × SchemaRefused)
schema_faults columns index limit =
    (length columns == 0, Bad cause.NoColumns Zero)
    ∷ (nat_lt max_columns (length columns), Bad cause.TooManyColumns (One (length columns)))
    ∷ (column_faults [] 0 columns ++ keeping_faults columns index limit)

-- ---- the schema where there is no fault

abbrev pub typed_column : ColumnWords → Option Column
typed_column c = option_map (λ k. record { name = c.name; kind = k }) (type_named c.kind)

abbrev pub typed_columns : List ColumnWords → List Column
typed_columns columns = filter_map typed_column columns

abbrev pub natural_part : ℤ → ℕ
natural_part (pos n) = n
natural_part (negsuc n) = 0

abbrev pub keeping_of : List ColumnWords → Option (List ℕ) → Option ℤ → Keeping
keeping_of columns (Some name) limit = Indexed (unwrap_or (position (is_named name) columns) 0)
keeping_of columns None (Some n) = Limited (natural_part n)
keeping_of columns None None = Free

abbrev pub outcome_of : {X E : Type 0} → Option E → X → Result X E
outcome_of None x = Ok x
outcome_of (Some e) x = Err e

-- the schema, or the first fault
abbrev pub schema_of : List ColumnWords → Option (List ℕ) → Option ℤ → Result SchemaData SchemaRefused
schema_of columns index limit =
    outcome_of (first_fault (schema_faults columns index limit))
    (record { columns = typed_columns columns; keeping = keeping_of columns index limit })

-- a refusal is the fault, but for want of memory, which may come in any case
abbrev pub RefusesSchema : Result SchemaData SchemaRefused → SchemaRefused → Type 0
RefusesSchema outcome (Bad cause at) = outcome ≡ Err (Bad cause at)
RefusesSchema outcome Memory = Unit {0}

-- ---- what each schema keeps

abbrev pub IsKeeping : ℕ → Keeping → Type 0
IsKeeping width (Indexed i) = i < width
IsKeeping width (Limited n) = (0 < n) × (n ≤ max_rows)
IsKeeping width Free = Unit {0}

abbrev pub names_of : List Column → List (List ℕ)
names_of columns = map (λ c. c.name) columns

-- a name of a column has from 1 to 256 bytes
abbrev pub IsName : List ℕ → Type 0
IsName name = (0 < length name) × (length name ≤ max_name)

pub record IsSchema (s : SchemaData) : Type 0 where
  pub some : 0 < length s.columns
  pub few : length s.columns ≤ max_columns
  pub distinct : AreDistinct (names_of s.columns)
  pub named : All IsName (names_of s.columns)
  pub keeping : IsKeeping (length s.columns) s.keeping
