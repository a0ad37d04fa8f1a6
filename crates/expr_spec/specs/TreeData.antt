-- What an expression tree is: each node with its byte place in the text.
use Rattle.std.specs.Prelude.{ℕ, ℤ, Bool, List, Option}
use Rattle.plan_types.specs.declared.tree.UnaryOp.{UnaryOp}
use Rattle.plan_types.specs.declared.tree.BinaryOp.{BinaryOp}

mutual
  -- a column has its name, and its number once the tree was checked
  pub data TreeData : Type 0 where
    column : ℕ → List ℕ → Option ℕ → TreeData
    number : ℕ → ℤ → TreeData
    truth : ℕ → Bool → TreeData
    words : ℕ → List ℕ → TreeData
    unary : ℕ → UnaryOp → TreeData → TreeData
    binary : ℕ → BinaryOp → TreeData → TreeData → TreeData
    call : ℕ → List ℕ → Arguments → TreeData

  pub data Arguments : Type 0 where
    no_arguments : Arguments
    argument : TreeData → Arguments → Arguments
