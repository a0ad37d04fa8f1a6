-- The first fault of a text that is no expression.
use Rattle.std.specs.Prelude.{◌≡◌, ℕ, ◌+◌, List, [], ◌∷◌, ◌++◌, length, Result, Ok, Err}
use Rattle.plan_types.specs.declared.tree.Tree.{Tree}
use Rattle.expr_parse.specs.declared.token.Kind.{Kind}
use Rattle.expr_parse.specs.declared.token.Kind.TheVariants as kind
use Rattle.expr_parse.specs.declared.token.Token.{Token}
use Rattle.expr_parse.specs.declared.refusal.ParseCause.{ParseCause}
use Rattle.expr_parse.specs.declared.refusal.ParseCause.TheVariants as cause
use Rattle.expr_parse.specs.declared.refusal.ParseRefused.{ParseRefused}
use Rattle.expr_parse.specs.declared.refusal.ParseRefused.TheVariants as refused
use Rattle.expr_parse.specs.Grammar.{token, expression, Reads}
use Rattle.expr_parse.specs.Tokens.{tokens}

-- how many parentheses, calls, nots and minus signs may stand around one another
abbrev pub most_nested : ℕ
most_nested = 64

-- the tokens are an expression of that tree
abbrev pub IsRead : List Token → Tree → Type 0
IsRead ts x = Reads expression most_nested ts x []

-- a reading goes on behind these tokens: some tokens after them make an expression
abbrev pub GoesOn : ℕ → List Token → Type 0
GoesOn room front = (rest : List Token) × (x : Tree) × Reads expression room (front ++ rest) x []

-- why no reading goes on at a token: its number is too large, or else one more level of nesting would let it go on, or else
-- it can't stand there
abbrev pub IsCause : List Token → Token → ParseCause → Type 0
IsCause front t cause.Number = t.kind ≡ kind.TooLarge
IsCause front t cause.Nesting = (t.kind ≡ kind.TooLarge → ⊥) × GoesOn (most_nested + 1) (front ++ t ∷ [])
IsCause front t cause.Syntax = (t.kind ≡ kind.TooLarge → ⊥) × (GoesOn (most_nested + 1) (front ++ t ∷ []) → ⊥)

-- the first token at which no reading goes on, or the end of the text where one would only go on behind it
pub data IsFirstFault (tokens : List Token) (end : ℕ) : ℕ → ParseCause → Type 0 where
  at_token : (front more : List Token) (at : ℕ) (k : Kind) (c : ParseCause) → tokens ≡ front ++ token at k ∷ more → GoesOn most_nested front → (GoesOn most_nested (front ++ token at k ∷ []) → ⊥) → IsCause front (token at k) c → IsFirstFault tokens end at c
  at_end : GoesOn most_nested tokens → ((x : Tree) → IsRead tokens x → ⊥) → IsFirstFault tokens end end cause.Syntax

-- a refusal of a text, for its first fault or for want of memory
abbrev pub IsRefusal : List ℕ → ParseRefused → Type 0
IsRefusal text refused.Memory = Unit {0}
IsRefusal text (refused.Bad at c) = IsFirstFault (tokens text) (length text) at c

-- what was returned is that answer, unless memory ran out
abbrev pub Refused : ParseRefused → Result Tree ParseRefused → Type 0
Refused refused.Memory answer = Unit {0}
Refused (refused.Bad at c) answer = Err (refused.Bad at c) ≡ answer

abbrev pub Returns : Result Tree ParseRefused → Result Tree ParseRefused → Type 0
Returns (Ok x) answer = Ok x ≡ answer
Returns (Err e) answer = Refused e answer
