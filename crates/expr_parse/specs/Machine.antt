-- What the reader keeps between two tokens, and what a token makes of it.
use Rattle.std.specs.Prelude.{◌≡◌, ℕ, ◌+◌, Bool, true, false, List, [], ◌∷◌, ◌++◌, ◌&&◌, Option, Some, None, Result, Ok, Err, if◌then◌else◌, nat_lt, nat_le}
use Rattle.plan_types.specs.declared.tree.BinaryOp.{BinaryOp}
use Rattle.plan_types.specs.declared.tree.BinaryOp.TheVariants as op
use Rattle.plan_types.specs.declared.tree.UnaryOp.TheVariants as sign
use Rattle.plan_types.specs.declared.tree.Tree.{Tree}
use Rattle.plan_types.specs.declared.tree.TreeNode as node
use Rattle.expr_parse.specs.declared.token.Kind.{Kind}
use Rattle.expr_parse.specs.declared.token.Kind.TheVariants as kind
use Rattle.expr_parse.specs.declared.token.Token.{Token}
use Rattle.expr_parse.specs.declared.frame.Frame.{Frame}
use Rattle.expr_parse.specs.declared.frame.Frame.TheVariants as frame
use Rattle.expr_parse.specs.declared.frame.Want.{Want}
use Rattle.expr_parse.specs.declared.frame.Want.TheVariants as want
use Rattle.expr_parse.specs.declared.refusal.ParseCause.{ParseCause}
use Rattle.expr_parse.specs.declared.refusal.ParseCause.TheVariants as cause
use Rattle.expr_parse.specs.declared.refusal.ParseRefused.{ParseRefused}
use Rattle.expr_parse.specs.declared.refusal.ParseRefused.TheVariants as refused
use Rattle.expr_parse.specs.Grammar.{tree, Phrase, expression, conjunction, negation, comparison, sum, product, unary, atom, joined}

-- the first of a list
abbrev pub first : {X : Type 0} → List X → Option X
first [] = None
first (x ∷ xs) = Some x

-- how tightly a phrase holds together; a `not` is just below a negation, and a minus sign just below what it stands before
abbrev pub rank : Phrase → ℕ
rank expression = 1
rank conjunction = 2
rank negation = 4
rank comparison = 5
rank sum = 6
rank product = 7
rank unary = 9
rank atom = 10

-- how tightly a frame holds its last operand
abbrev pub strength : Frame → ℕ
strength (frame.Left o at x) = rank (joined o)
strength (frame.Not at) = 3
strength (frame.Minus at) = 8
strength frame.Group = 0
strength (frame.Call s at xs) = 0

-- that of the innermost frame
abbrev pub top_strength : List Frame → ℕ
top_strength [] = 0
top_strength (f ∷ fs) = strength f

-- 1 for what counts as a level of nesting
abbrev pub opens : Frame → ℕ
opens (frame.Left o at x) = 0
opens (frame.Not at) = 1
opens (frame.Minus at) = 1
opens frame.Group = 1
opens (frame.Call s at xs) = 1

-- whether a frame counts as a level of nesting
abbrev pub opening : Frame → Bool
opening (frame.Left o at x) = false
opening (frame.Not at) = true
opening (frame.Minus at) = true
opening frame.Group = true
opening (frame.Call s at xs) = true

-- how many levels of nesting stand open
abbrev pub depth : List Frame → ℕ
depth [] = 0
depth (f ∷ fs) = opens f + depth fs

-- the frame with its last operand
abbrev pub built : Frame → Tree → Tree
built (frame.Left o at x) y = tree at (node.Binary o x y)
built (frame.Not at) y = tree at (node.Unary sign.Not y)
built (frame.Minus at) y = tree at (node.Unary sign.Minus y)
built frame.Group y = y
built (frame.Call s at xs) y = y

-- an operand, and the frames that are left once all that hold it at least so tightly have taken it
abbrev pub closed : ℕ → Tree → List Frame → Tree × List Frame
closed least x [] = (x, [])
closed least x (f ∷ fs) = if nat_le least (strength f) then closed least (built f x) fs else (x, f ∷ fs)

-- which frames an operator closes before it takes what was read as its left operand
abbrev pub closing_of : Phrase → ℕ
closing_of expression = 1
closing_of conjunction = 2
closing_of negation = 3
closing_of comparison = 6
closing_of sum = 6
closing_of product = 7
closing_of unary = 8
closing_of atom = 8

-- what waits, and the frames from the innermost
abbrev pub State : Type 0
State = Want × List Frame

-- a frame opens within the bound of nesting
abbrev pub opened : ℕ → Frame → List Frame → Result State ParseCause
opened room f fs = if nat_lt (depth fs) room then Ok (want.Operand, f ∷ fs) else Err cause.Nesting

-- an operand was read
abbrev pub read : Tree → List Frame → Result State ParseCause
read x fs = Ok (want.After x, fs)

-- a token where an operand has to begin
abbrev pub at_operand : ℕ → List Frame → ℕ → Kind → Result State ParseCause
at_operand room fs at (kind.Number n) = read (tree at (node.Number n)) fs
at_operand room fs at kind.TooLarge = Err cause.Number
at_operand room fs at (kind.Truth b) = read (tree at (node.Truth b)) fs
at_operand room fs at (kind.Column s) = read (tree at (node.Column s None)) fs
at_operand room fs at (kind.Words s) = read (tree at (node.Words s)) fs
at_operand room fs at (kind.Name s) = if nat_lt (depth fs) room then Ok (want.Opening s at, fs) else Err cause.Nesting
at_operand room fs at kind.Not = if nat_lt (top_strength fs) 4 then opened room (frame.Not at) fs else Err cause.Syntax
at_operand room fs at (kind.Operator op.Minus) = opened room (frame.Minus at) fs
at_operand room fs at (kind.Operator o) = Err cause.Syntax
at_operand room fs at kind.Open = opened room frame.Group fs
at_operand room fs at kind.Close = Err cause.Syntax
at_operand room fs at kind.Comma = Err cause.Syntax
at_operand room fs at kind.Bad = Err cause.Syntax

-- what can't stand there
abbrev pub misplaced_cause : Kind → ParseCause
misplaced_cause kind.TooLarge = cause.Number
misplaced_cause k = cause.Syntax

abbrev pub misplaced : Kind → Result State ParseCause
misplaced k = Err (misplaced_cause k)

-- a token behind a function's word
abbrev pub at_opening : List ℕ → ℕ → List Frame → Kind → Result State ParseCause
at_opening s at fs kind.Open = Ok (want.Operand, frame.Call s at [] ∷ fs)
at_opening s at fs k = misplaced k

-- whether it is a comparison
abbrev pub compares : Phrase → Bool
compares comparison = true
compares p = false

-- an operator takes what was read as its left operand; comparisons don't follow one another
abbrev pub joining : BinaryOp → ℕ → Tree × List Frame → Result State ParseCause
joining o at (x, fs) = if compares (joined o) && nat_le 5 (top_strength fs) then Err cause.Syntax else Ok (want.Operand, frame.Left o at x ∷ fs)

-- a closing parenthesis behind an operand
abbrev pub at_close : Tree → List Frame → Result State ParseCause
at_close x (frame.Group ∷ fs) = read x fs
at_close x (frame.Call s at xs ∷ fs) = read (tree at (node.Call s (xs ++ x ∷ []))) fs
at_close x fs = Err cause.Syntax

-- a comma behind an operand
abbrev pub at_comma : Tree → List Frame → Result State ParseCause
at_comma x (frame.Call s at xs ∷ fs) = Ok (want.Operand, frame.Call s at (xs ++ x ∷ []) ∷ fs)
at_comma x fs = Err cause.Syntax

-- a token behind an operand
abbrev pub after : Tree → List Frame → ℕ → Kind → Result State ParseCause
after x fs at (kind.Operator o) = joining o at (closed (closing_of (joined o)) x fs)
after x fs at kind.Close = let c = closed 1 x fs in at_close c.0 c.1
after x fs at kind.Comma = let c = closed 1 x fs in at_comma c.0 c.1
after x fs at k = misplaced k

-- what a token makes of it, or why it can't stand there
abbrev pub step : ℕ → State → Token → Result State ParseCause
step room (want.Operand, fs) t = at_operand room fs t.at t.kind
step room (want.Opening s at, fs) t = at_opening s at fs t.kind
step room (want.After x, fs) t = after x fs t.at t.kind

-- a byte place and a cause
abbrev pub Fault : Type 0
Fault = ℕ × ParseCause

-- what comes of a state, or the fault at that place
abbrev pub next : {X : Type 0} → ℕ → Result State ParseCause → (State → Result X Fault) → Result X Fault
next at (Ok s) go = go s
next at (Err c) go = Err (at, c)

-- an operand is the whole expression where nothing stands open
abbrev pub whole : ℕ → Tree × List Frame → Result Tree Fault
whole end (x, []) = Ok x
whole end (x, f ∷ fs) = Err (end, cause.Syntax)

-- what the end of the text makes of it
abbrev pub finished : ℕ → State → Result Tree Fault
finished end (want.Operand, fs) = Err (end, cause.Syntax)
finished end (want.Opening s at, fs) = Err (end, cause.Syntax)
finished end (want.After x, fs) = whole end (closed 1 x fs)

-- what the tokens to the end of the text make of it
abbrev pub run : ℕ → ℕ → State → List Token → Result Tree Fault
run room end s [] = finished end s
run room end s (t ∷ ts) = next t.at (step room s t) (λ u. run room end u ts)

-- What a function of the reader returned at a token's place, with the frames that it left, is the state or the fault,
-- unless memory ran out.
abbrev pub Fails : ℕ → ParseRefused → Result State ParseCause → Type 0
Fails at refused.Memory r = Unit {0}
Fails at (refused.Bad place c) r = (place ≡ at) × (r ≡ Err c)

abbrev pub Steps : ℕ → Result Want ParseRefused → List Frame → Result State ParseCause → Type 0
Steps at (Ok w) fs r = r ≡ Ok (w, fs)
Steps at (Err e) fs r = Fails at e r

-- likewise of the whole text
abbrev pub Refuses : ParseRefused → Result Tree Fault → Type 0
Refuses refused.Memory r = Unit {0}
Refuses (refused.Bad place c) r = r ≡ Err (place, c)

abbrev pub Ends : Result Tree ParseRefused → Result Tree Fault → Type 0
Ends (Ok x) r = r ≡ Ok x
Ends (Err e) r = Refuses e r
