-- The type of an expression tree against a schema's columns, or the tree's first fault.
use Rattle.std.specs.Prelude.{◌≡◌, ℕ, pos, int_le, nat_lt, List, [], ◌∷◌, length, Bool, true, false, ◌&&◌, Option, Some, None, is_some, option_and_then, Result, Ok, Err, position, if◌then◌else◌}
use Rattle.std.specs.Str.{bytes_eq}
use Rattle.plain_data.specs.Results.{and_then}
use Rattle.cell_core.specs.Limits.{max_text}
use Rattle.cell_core.specs.declared.cell.CellType.{CellType}
use Rattle.cell_core.specs.declared.cell.CellType.TheVariants.{Integer, Boolean, Date, Moment, Words}
use Rattle.cell_core.specs.declared.schema.Column.{Column}
use Rattle.plan_types.specs.declared.tree.UnaryOp.{UnaryOp}
use Rattle.plan_types.specs.declared.tree.UnaryOp.TheVariants as sign
use Rattle.plan_types.specs.declared.tree.BinaryOp.{BinaryOp}
use Rattle.plan_types.specs.declared.tree.BinaryOp.TheVariants as op
use Rattle.row_batch.specs.Checks.{kind_at}
use Rattle.expr_spec.specs.declared.function.Function.{Function}
use Rattle.expr_spec.specs.declared.function.Function.TheVariants as function
use Rattle.expr_spec.specs.declared.refused.TreeCause.{TreeCause}
use Rattle.expr_spec.specs.declared.refused.TreeCause.TheVariants as cause
use Rattle.expr_spec.specs.declared.refused.TreeRefused.{TreeRefused}
use Rattle.expr_spec.specs.Functions.{function_named, unit_named, date_unit}
use Rattle.expr_spec.specs.TreeData.{TreeData, column, number, truth, words, unary, binary, call, Arguments, no_arguments, argument}

-- ---- what is found, or the fault at a place

abbrev pub or_fault : {X : Type 0} → TreeCause → ℕ → Option X → Result X TreeRefused
or_fault why at (Some x) = Ok x
or_fault why at None = Err (record { at = at; cause = why })

-- ---- columns by name

-- the number of the column of that name
abbrev pub column_named : List Column → List ℕ → Option ℕ
column_named columns name = position (λ c. bytes_eq c.name name) columns

-- and its type
abbrev pub column_kind : List Column → List ℕ → Option CellType
column_kind columns name = option_and_then (kind_at columns) (column_named columns name)

-- ---- the type of a node, where the types of its arguments fit

abbrev pub same_kind : CellType → CellType → Bool
same_kind Integer Integer = true
same_kind Boolean Boolean = true
same_kind Date Date = true
same_kind Moment Moment = true
same_kind Words Words = true
same_kind a b = false

-- an argument of the type that is wanted
abbrev pub of_one : CellType → CellType → CellType → Option CellType
of_one want gives a = if same_kind a want then Some gives else None

-- two arguments of the type that is wanted
abbrev pub of_two : CellType → CellType → CellType → CellType → Option CellType
of_two want gives a b = if same_kind a want && same_kind b want then Some gives else None

-- two of one type
abbrev pub compared_kind : CellType → CellType → Option CellType
compared_kind a b = if same_kind a b then Some Boolean else None

abbrev pub unary_kind : UnaryOp → CellType → Option CellType
unary_kind sign.Not a = of_one Boolean Boolean a
unary_kind sign.Minus a = of_one Integer Integer a

abbrev pub binary_kind : BinaryOp → CellType → CellType → Option CellType
binary_kind op.Or a b = of_two Boolean Boolean a b
binary_kind op.And a b = of_two Boolean Boolean a b
binary_kind op.Equal a b = compared_kind a b
binary_kind op.Unequal a b = compared_kind a b
binary_kind op.Less a b = compared_kind a b
binary_kind op.AtMost a b = compared_kind a b
binary_kind op.Greater a b = compared_kind a b
binary_kind op.AtLeast a b = compared_kind a b
binary_kind op.Plus a b = of_two Integer Integer a b
binary_kind op.Minus a b = of_two Integer Integer a b
binary_kind op.Times a b = of_two Integer Integer a b
binary_kind op.Quotient a b = of_two Integer Integer a b
binary_kind op.Rest a b = of_two Integer Integer a b

-- a text is one that a cell may have
abbrev pub words_kind : List ℕ → Option CellType
words_kind s = if nat_lt max_text (length s) then None else Some Words

-- ---- the type of a call, by the types of its arguments

-- a call of one argument of that type
abbrev pub takes_one : CellType → CellType → List CellType → Option CellType
takes_one want gives (a ∷ []) = of_one want gives a
takes_one want gives other = None

-- a call of two arguments of that type
abbrev pub takes_two : CellType → CellType → List CellType → Option CellType
takes_two want gives (a ∷ b ∷ []) = of_two want gives a b
takes_two want gives other = None

-- a call of one argument of any type, to boolean
abbrev pub takes_any : List CellType → Option CellType
takes_any (a ∷ []) = Some Boolean
takes_any other = None

-- a boolean and two of one type
abbrev pub if_kind : List CellType → Option CellType
if_kind (Boolean ∷ a ∷ b ∷ []) = if same_kind a b then Some a else None
if_kind other = None

-- an integer, a date or a datetime, and one more
abbrev pub bucket_kind : List CellType → Option CellType
bucket_kind (Integer ∷ b ∷ []) = Some Integer
bucket_kind (Date ∷ b ∷ []) = Some Date
bucket_kind (Moment ∷ b ∷ []) = Some Moment
bucket_kind other = None

abbrev pub call_kind : Function → List CellType → Option CellType
call_kind function.Abs kinds = takes_one Integer Integer kinds
call_kind function.Min kinds = takes_two Integer Integer kinds
call_kind function.Max kinds = takes_two Integer Integer kinds
call_kind function.If kinds = if_kind kinds
call_kind function.IsNull kinds = takes_any kinds
call_kind function.IsNotNull kinds = takes_any kinds
call_kind function.Length kinds = takes_one Words Integer kinds
call_kind function.Concat kinds = takes_two Words Words kinds
call_kind function.Contains kinds = takes_two Words Boolean kinds
call_kind function.Begins kinds = takes_two Words Boolean kinds
call_kind function.Ends kinds = takes_two Words Boolean kinds
call_kind function.Bucket kinds = bucket_kind kinds
call_kind function.Year kinds = takes_one Date Integer kinds
call_kind function.Month kinds = takes_one Date Integer kinds
call_kind function.Day kinds = takes_one Date Integer kinds
call_kind function.DateOf kinds = takes_one Moment Date kinds
call_kind function.Hour kinds = takes_one Moment Integer kinds

-- what the second argument of `bucket` may be, for a first of that type: a literal number of at least
-- 1, or a literal text that names a unit
abbrev pub is_unit : CellType → TreeData → Bool
is_unit Integer (number at n) = int_le (pos 1) n
is_unit Date (words at s) = is_some (option_and_then date_unit (unit_named s))
is_unit Moment (words at s) = is_some (unit_named s)
is_unit kind other = false

-- the type, unless the function is `bucket` and its second argument is no unit for the type
abbrev pub unit_kind : Function → Arguments → CellType → Option CellType
unit_kind function.Bucket (argument a (argument b more)) kind = if is_unit kind b then Some kind else None
unit_kind f args kind = Some kind

-- the name is tested first, then the types, and last the unit
abbrev pub named_kind : ℕ → List ℕ → Arguments → List CellType → Result CellType TreeRefused
named_kind at name args kinds =
    and_then (or_fault cause.Unknown at (function_named name)) (λ f.
    and_then (or_fault cause.BadType at (call_kind f kinds)) (λ kind.
    or_fault cause.Unit at (unit_kind f args kind)))

-- ---- trees

abbrev mutual
  -- the type of a tree, or the first fault: arguments from the left, and then the node
  pub kind_of : List Column → TreeData → Result CellType TreeRefused
  kind_of columns (column at name i) = or_fault cause.Unknown at (column_kind columns name)
  kind_of columns (number at n) = Ok Integer
  kind_of columns (truth at b) = Ok Boolean
  kind_of columns (words at s) = or_fault cause.BadType at (words_kind s)
  kind_of columns (unary at op a) =
      and_then (kind_of columns a) (λ kind. or_fault cause.BadType at (unary_kind op kind))
  kind_of columns (binary at op a b) =
      and_then (kind_of columns a) (λ left. and_then (kind_of columns b) (λ right.
      or_fault cause.BadType at (binary_kind op left right)))
  kind_of columns (call at name args) = and_then (kinds_of columns args) (named_kind at name args)

  -- the types of arguments, or their first fault
  pub kinds_of : List Column → Arguments → Result (List CellType) TreeRefused
  kinds_of columns no_arguments = Ok []
  kinds_of columns (argument a more) =
      and_then (kind_of columns a) (λ kind. and_then (kinds_of columns more) (λ kinds. Ok (kind ∷ kinds)))

abbrev mutual
  -- the tree with the number of each column that its name has in the schema
  pub numbered : List Column → TreeData → TreeData
  numbered columns (column at name i) = column at name (column_named columns name)
  numbered columns (number at n) = number at n
  numbered columns (truth at b) = truth at b
  numbered columns (words at s) = words at s
  numbered columns (unary at op a) = unary at op (numbered columns a)
  numbered columns (binary at op a b) = binary at op (numbered columns a) (numbered columns b)
  numbered columns (call at name args) = call at name (numbered_all columns args)

  pub numbered_all : List Column → Arguments → Arguments
  numbered_all columns no_arguments = no_arguments
  numbered_all columns (argument a more) = argument (numbered columns a) (numbered_all columns more)

-- the tree has that type against the columns, and its columns are numbered
pub record IsCheckedTree (columns : List Column) (tree : TreeData) (kind : CellType) : Type 0 where
  pub typed : kind_of columns tree ≡ Ok kind
  pub numbers : numbered columns tree ≡ tree
