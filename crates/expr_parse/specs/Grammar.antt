-- The grammar of expressions, on tokens and trees.
use Rattle.std.specs.Prelude.{◌≡◌, ℕ, suc, ℤ, Bool, List, [], ◌∷◌, None}
use Rattle.plan_types.specs.declared.tree.BinaryOp.{BinaryOp}
use Rattle.plan_types.specs.declared.tree.BinaryOp.TheVariants as op
use Rattle.plan_types.specs.declared.tree.UnaryOp.TheVariants as sign
use Rattle.plan_types.specs.declared.tree.Tree.{Tree}
use Rattle.plan_types.specs.declared.tree.TreeNode.{TreeNode}
use Rattle.plan_types.specs.declared.tree.TreeNode as node
use Rattle.expr_parse.specs.declared.token.Kind.{Kind}
use Rattle.expr_parse.specs.declared.token.Kind.TheVariants as kind
use Rattle.expr_parse.specs.declared.token.Token.{Token}

-- a token of that kind at a place
abbrev pub token : ℕ → Kind → Token
token at k = record { at = at; kind = k }

-- a node at a place
abbrev pub tree : ℕ → TreeNode → Tree
tree at n = record { at = at; node = n }

-- what the grammar names, from the loosest
pub data Phrase : Type 0 where
  expression : Phrase
  conjunction : Phrase
  negation : Phrase
  comparison : Phrase
  sum : Phrase
  product : Phrase
  unary : Phrase
  atom : Phrase

-- the next tighter phrase, and an atom itself
abbrev pub inner : Phrase → Phrase
inner expression = conjunction
inner conjunction = negation
inner negation = comparison
inner comparison = sum
inner sum = product
inner product = unary
inner unary = atom
inner atom = atom

-- the phrase that an operator joins
abbrev pub joined : BinaryOp → Phrase
joined op.Or = expression
joined op.And = conjunction
joined op.Equal = comparison
joined op.Unequal = comparison
joined op.Less = comparison
joined op.AtMost = comparison
joined op.Greater = comparison
joined op.AtLeast = comparison
joined op.Plus = sum
joined op.Minus = sum
joined op.Times = product
joined op.Quotient = product
joined op.Rest = product

-- Reads p room tokens x rest: a front of the tokens is the phrase p, its tree is x, and the rest is left. Room is how
-- many parentheses, calls, nots and minus signs may stand around one another. Operators of one level group from the left.
mutual
  pub data Reads : Phrase → ℕ → List Token → Tree → List Token → Type 0 where
    -- a phrase without an operator of its own
    alone : {p : Phrase} {room : ℕ} {ts rest : List Token} {x : Tree} → Reads (inner p) room ts x rest → Reads p room ts x rest
    -- expr := and { "or" and }, and := not { "and" not }, sum := prod { ("+" | "-") prod }, prod := unary { ("*" | "/" | "%") unary }
    chain : {p : Phrase} {room at : ℕ} {ts more rest : List Token} {x y : Tree} {o : BinaryOp} → joined o ≡ p → (p ≡ comparison → ⊥) → Reads p room ts x (token at (kind.Operator o) ∷ more) → Reads (inner p) room more y rest → Reads p room ts (tree at (node.Binary o x y)) rest
    -- comp := sum [ ("==" | "!=" | "<" | "<=" | ">" | ">=") sum ]
    compared : {room at : ℕ} {ts more rest : List Token} {x y : Tree} {o : BinaryOp} → joined o ≡ comparison → Reads sum room ts x (token at (kind.Operator o) ∷ more) → Reads sum room more y rest → Reads comparison room ts (tree at (node.Binary o x y)) rest
    -- not := "not" not | comp
    negated : {room at : ℕ} {more rest : List Token} {x : Tree} → Reads negation room more x rest → Reads negation (suc room) (token at kind.Not ∷ more) (tree at (node.Unary sign.Not x)) rest
    -- unary := "-" unary | atom
    minus : {room at : ℕ} {more rest : List Token} {x : Tree} → Reads unary room more x rest → Reads unary (suc room) (token at (kind.Operator op.Minus) ∷ more) (tree at (node.Unary sign.Minus x)) rest
    -- atom := number | "true" | "false" | column | text
    number : {room at : ℕ} {rest : List Token} {n : ℤ} → Reads atom room (token at (kind.Number n) ∷ rest) (tree at (node.Number n)) rest
    truth : {room at : ℕ} {rest : List Token} {b : Bool} → Reads atom room (token at (kind.Truth b) ∷ rest) (tree at (node.Truth b)) rest
    column : {room at : ℕ} {rest : List Token} {s : List ℕ} → Reads atom room (token at (kind.Column s) ∷ rest) (tree at (node.Column s None)) rest
    words : {room at : ℕ} {rest : List Token} {s : List ℕ} → Reads atom room (token at (kind.Words s) ∷ rest) (tree at (node.Words s)) rest
    --        | word "(" expr { "," expr } ")"
    call : {room at there : ℕ} {more rest : List Token} {s : List ℕ} {xs : List Tree} → Arguments room more xs rest → Reads atom (suc room) (token at (kind.Name s) ∷ token there kind.Open ∷ more) (tree at (node.Call s xs)) rest
    --        | "(" expr ")"
    grouped : {room at there : ℕ} {more rest : List Token} {x : Tree} → Reads expression room more x (token there kind.Close ∷ rest) → Reads atom (suc room) (token at kind.Open ∷ more) x rest

  -- expressions with commas between them, and the closing parenthesis
  pub data Arguments : ℕ → List Token → List Tree → List Token → Type 0 where
    last : {room at : ℕ} {ts rest : List Token} {x : Tree} → Reads expression room ts x (token at kind.Close ∷ rest) → Arguments room ts (x ∷ []) rest
    more : {room at : ℕ} {ts others rest : List Token} {x : Tree} {xs : List Tree} → Reads expression room ts x (token at kind.Comma ∷ others) → Arguments room others xs rest → Arguments room ts (x ∷ xs) rest
