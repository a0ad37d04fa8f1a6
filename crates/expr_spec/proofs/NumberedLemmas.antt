-- A numbered tree has the type of the tree, and is its own numbering.
use Rattle.std.proofs.Common.{◌≡◌, ℕ, List, ◌∷◌, Option, Some, None, Result, Ok, Err, refl, ◌∙◌, ap}
use Rattle.std.specs.Prelude.{if◌then◌else◌}
use Rattle.plain_data.specs.Results.{and_then}
use Rattle.cell_core.specs.declared.cell.CellType.{CellType}
use Rattle.cell_core.specs.declared.cell.CellType.TheVariants.{Integer, Boolean, Date, Moment, Words}
use Rattle.cell_core.specs.declared.schema.Column.{Column}
use Rattle.expr_spec.specs.declared.function.Function.{Function}
use Rattle.expr_spec.specs.declared.function.Function.TheVariants as function
use Rattle.expr_spec.specs.declared.refused.TreeCause.TheVariants as cause
use Rattle.expr_spec.specs.declared.refused.TreeRefused.{TreeRefused}
use Rattle.expr_spec.specs.Functions.{function_named}
use Rattle.expr_spec.specs.TreeData.{TreeData, column, number, truth, words, unary, binary, call, Arguments, no_arguments, argument}
use Rattle.expr_spec.specs.Typing as t
use Rattle.expr_spec.specs.Typing.{or_fault, call_kind, is_unit, unit_kind, named_kind, numbered, numbered_all, IsCheckedTree}

unit-numbered : (columns : List Column) (kind : CellType) (b : TreeData) → is_unit kind (numbered columns b) ≡ is_unit kind b
unit-numbered columns Integer (column at name i) = refl
unit-numbered columns Integer (number at n) = refl
unit-numbered columns Integer (truth at b) = refl
unit-numbered columns Integer (words at s) = refl
unit-numbered columns Integer (unary at o a) = refl
unit-numbered columns Integer (binary at o a b) = refl
unit-numbered columns Integer (call at name args) = refl
unit-numbered columns Boolean b = refl
unit-numbered columns Date (column at name i) = refl
unit-numbered columns Date (number at n) = refl
unit-numbered columns Date (truth at b) = refl
unit-numbered columns Date (words at s) = refl
unit-numbered columns Date (unary at o a) = refl
unit-numbered columns Date (binary at o a b) = refl
unit-numbered columns Date (call at name args) = refl
unit-numbered columns Moment (column at name i) = refl
unit-numbered columns Moment (number at n) = refl
unit-numbered columns Moment (truth at b) = refl
unit-numbered columns Moment (words at s) = refl
unit-numbered columns Moment (unary at o a) = refl
unit-numbered columns Moment (binary at o a b) = refl
unit-numbered columns Moment (call at name args) = refl
unit-numbered columns Words b = refl

unit_kind-numbered : (columns : List Column) (f : Function) (args : Arguments) (kind : CellType) → unit_kind f (numbered_all columns args) kind ≡ unit_kind f args kind
unit_kind-numbered columns function.Bucket no_arguments kind = refl
unit_kind-numbered columns function.Bucket (argument a no_arguments) kind = refl
unit_kind-numbered columns function.Bucket (argument a (argument b more)) kind = ap (λ fits. if fits then Some kind else None) (unit-numbered columns kind b)
unit_kind-numbered columns f args kind = refl

of_call : (columns : List Column) (at : ℕ) (args : Arguments) (kinds : List CellType) (f : Function)
    → and_then (or_fault cause.BadType at (call_kind f kinds)) (λ kind. or_fault cause.Unit at (unit_kind f (numbered_all columns args) kind))
    ≡ and_then (or_fault cause.BadType at (call_kind f kinds)) (λ kind. or_fault cause.Unit at (unit_kind f args kind))
of_call columns at args kinds f = by_kind (call_kind f kinds)
  where
    by_kind : (k : Option CellType)
        → and_then (or_fault cause.BadType at k) (λ kind. or_fault cause.Unit at (unit_kind f (numbered_all columns args) kind))
        ≡ and_then (or_fault cause.BadType at k) (λ kind. or_fault cause.Unit at (unit_kind f args kind))
    by_kind None = refl
    by_kind (Some kind) = ap (or_fault cause.Unit at) (unit_kind-numbered columns f args kind)

named-numbered : (columns : List Column) (at : ℕ) (name : List ℕ) (args : Arguments) (kinds : List CellType) → named_kind at name (numbered_all columns args) kinds ≡ named_kind at name args kinds
named-numbered columns at name args kinds = by_function (function_named name)
  where
    by_function : (f : Option Function)
        → and_then (or_fault cause.Unknown at f) (λ f. and_then (or_fault cause.BadType at (call_kind f kinds)) (λ kind. or_fault cause.Unit at (unit_kind f (numbered_all columns args) kind)))
        ≡ and_then (or_fault cause.Unknown at f) (λ f. and_then (or_fault cause.BadType at (call_kind f kinds)) (λ kind. or_fault cause.Unit at (unit_kind f args kind)))
    by_function None = refl
    by_function (Some f) = of_call columns at args kinds f

-- what follows is the same, where it is the same for each type
followed : {X Y : Type 0} (r : Result X TreeRefused) (f g : X → Result Y TreeRefused) → ((x : X) → f x ≡ g x) → and_then r f ≡ and_then r g
followed (Ok x) f g h = h x
followed (Err e) f g h = refl

mutual
  pub kind_of-numbered : (columns : List Column) (tree : TreeData) → t.kind_of columns (numbered columns tree) ≡ t.kind_of columns tree
  kind_of-numbered columns (column at name i) = refl
  kind_of-numbered columns (number at n) = refl
  kind_of-numbered columns (truth at b) = refl
  kind_of-numbered columns (words at s) = refl
  kind_of-numbered columns (unary at o a) = ap (λ r. and_then r (λ kind. or_fault cause.BadType at (t.unary_kind o kind))) (kind_of-numbered columns a)
  kind_of-numbered columns (binary at o a b) =
      ap (λ r. and_then r (λ left. and_then (t.kind_of columns (numbered columns b)) (λ right. or_fault cause.BadType at (t.binary_kind o left right)))) (kind_of-numbered columns a)
      ∙ ap (λ s. and_then (t.kind_of columns a) (λ left. and_then s (λ right. or_fault cause.BadType at (t.binary_kind o left right)))) (kind_of-numbered columns b)
  kind_of-numbered columns (call at name args) =
      ap (λ r. and_then r (named_kind at name (numbered_all columns args))) (kinds_of-numbered columns args)
      ∙ followed (t.kinds_of columns args) (named_kind at name (numbered_all columns args)) (named_kind at name args) (named-numbered columns at name args)

  kinds_of-numbered : (columns : List Column) (args : Arguments) → t.kinds_of columns (numbered_all columns args) ≡ t.kinds_of columns args
  kinds_of-numbered columns no_arguments = refl
  kinds_of-numbered columns (argument a more) =
      ap (λ r. and_then r (λ kind. and_then (t.kinds_of columns (numbered_all columns more)) (λ kinds. Ok (kind ∷ kinds)))) (kind_of-numbered columns a)
      ∙ ap (λ s. and_then (t.kind_of columns a) (λ kind. and_then s (λ kinds. Ok (kind ∷ kinds)))) (kinds_of-numbered columns more)

mutual
  numbered-numbered : (columns : List Column) (tree : TreeData) → numbered columns (numbered columns tree) ≡ numbered columns tree
  numbered-numbered columns (column at name i) = refl
  numbered-numbered columns (number at n) = refl
  numbered-numbered columns (truth at b) = refl
  numbered-numbered columns (words at s) = refl
  numbered-numbered columns (unary at o a) = ap (unary at o) (numbered-numbered columns a)
  numbered-numbered columns (binary at o a b) =
      ap (λ x. binary at o x (numbered columns (numbered columns b))) (numbered-numbered columns a)
      ∙ ap (binary at o (numbered columns a)) (numbered-numbered columns b)
  numbered-numbered columns (call at name args) = ap (call at name) (all-numbered columns args)

  all-numbered : (columns : List Column) (args : Arguments) → numbered_all columns (numbered_all columns args) ≡ numbered_all columns args
  all-numbered columns no_arguments = refl
  all-numbered columns (argument a more) =
      ap (λ x. argument x (numbered_all columns (numbered_all columns more))) (numbered-numbered columns a)
      ∙ ap (argument (numbered columns a)) (all-numbered columns more)

pub checked : (columns : List Column) (tree new : TreeData) (kind : CellType) → t.kind_of columns tree ≡ Ok kind → new ≡ numbered columns tree → IsCheckedTree columns new kind
checked columns tree new kind e h = rw h (record {
  typed = kind_of-numbered columns tree ∙ e;
  numbers = numbered-numbered columns tree;
})
