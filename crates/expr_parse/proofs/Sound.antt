-- What the machine reads, the grammar reads.
use Rattle.std.proofs.Common.{◌≡◌, ℕ, suc, ◌+◌, ◌<◌, ◌≤◌, true, false, List, [], ◌∷◌, ◌++◌, Result, Ok, Err, refl, subst, cond, arith}
use Rattle.std.proofs.lemmas.Bool.{leb-true}
use Rattle.std.proofs.lemmas.Bool.Decides.{nat_tests}
use Rattle.std.specs.Prelude.{nat_le}
use Rattle.plan_types.specs.declared.tree.BinaryOp.{BinaryOp}
use Rattle.plan_types.specs.declared.tree.BinaryOp.TheVariants as op
use Rattle.plan_types.specs.declared.tree.UnaryOp.TheVariants as sign
use Rattle.plan_types.specs.declared.tree.Tree.{Tree}
use Rattle.plan_types.specs.declared.tree.TreeNode as node
use Rattle.expr_parse.specs.declared.token.Kind.TheVariants as kind
use Rattle.expr_parse.specs.declared.token.Token.{Token}
use Rattle.expr_parse.specs.declared.frame.Frame.{Frame}
use Rattle.expr_parse.specs.declared.frame.Frame.TheVariants as frame
use Rattle.expr_parse.specs.declared.frame.Want.TheVariants as want
use Rattle.expr_parse.specs.Grammar.{token, tree, Phrase, expression, conjunction, negation, comparison, sum, product, unary, atom, inner, joined, Reads, alone, chain, compared, negated, minus, Arguments}
use Rattle.expr_parse.specs.Machine.{rank, strength, top_strength, depth, built, closed, State}

-- ---- a phrase stands where a looser one may

to_atom : (q : Phrase) {room : ℕ} {ts rest : List Token} {x : Tree} → 10 ≤ rank q → Reads q room ts x rest → Reads atom room ts x rest
to_atom atom h r = r
to_atom q h r = absurd (omega arith)

to_unary : (q : Phrase) {room : ℕ} {ts rest : List Token} {x : Tree} → 9 ≤ rank q → Reads q room ts x rest → Reads unary room ts x rest
to_unary unary h r = r
to_unary q h r = alone (to_atom q (omega arith) r)

to_product : (q : Phrase) {room : ℕ} {ts rest : List Token} {x : Tree} → 7 ≤ rank q → Reads q room ts x rest → Reads product room ts x rest
to_product product h r = r
to_product q h r = alone (to_unary q (omega arith) r)

to_sum : (q : Phrase) {room : ℕ} {ts rest : List Token} {x : Tree} → 6 ≤ rank q → Reads q room ts x rest → Reads sum room ts x rest
to_sum sum h r = r
to_sum q h r = alone (to_product q (omega arith) r)

to_comparison : (q : Phrase) {room : ℕ} {ts rest : List Token} {x : Tree} → 5 ≤ rank q → Reads q room ts x rest → Reads comparison room ts x rest
to_comparison comparison h r = r
to_comparison q h r = alone (to_sum q (omega arith) r)

to_negation : (q : Phrase) {room : ℕ} {ts rest : List Token} {x : Tree} → 4 ≤ rank q → Reads q room ts x rest → Reads negation room ts x rest
to_negation negation h r = r
to_negation q h r = alone (to_comparison q (omega arith) r)

to_conjunction : (q : Phrase) {room : ℕ} {ts rest : List Token} {x : Tree} → 2 ≤ rank q → Reads q room ts x rest → Reads conjunction room ts x rest
to_conjunction conjunction h r = r
to_conjunction q h r = alone (to_negation q (omega arith) r)

pub to_expression : (q : Phrase) {room : ℕ} {ts rest : List Token} {x : Tree} → Reads q room ts x rest → Reads expression room ts x rest
to_expression expression r = r
to_expression q r = alone (to_conjunction q (omega arith) r)

pub loosen : (p q : Phrase) {room : ℕ} {ts rest : List Token} {x : Tree} → rank p ≤ rank q → Reads q room ts x rest → Reads p room ts x rest
loosen expression q h r = to_expression q r
loosen conjunction q h r = to_conjunction q h r
loosen negation q h r = to_negation q h r
loosen comparison q h r = to_comparison q h r
loosen sum q h r = to_sum q h r
loosen product q h r = to_product q h r
loosen unary q h r = to_unary q h r
loosen atom q h r = to_atom q h r

-- ---- what stands open

-- what an operator takes on its left
abbrev pub left_phrase : Phrase → Phrase
left_phrase comparison = sum
left_phrase p = p

-- Held max all frames here: the tokens from all to here hold what the frames say
pub data Held (max : ℕ) (all : List Token) : List Frame → List Token → Type 0 where
  none : Held max all [] all
  left : {fs : List Frame} {mid here : List Token} {o : BinaryOp} {at room : ℕ} {x : Tree} → Held max all fs mid → top_strength fs < rank (joined o) → depth fs + room ≡ max → Reads (left_phrase (joined o)) room mid x (token at (kind.Operator o) ∷ here) → Held max all (frame.Left o at x ∷ fs) here
  denies : {fs : List Frame} {here : List Token} {at : ℕ} → Held max all fs (token at kind.Not ∷ here) → top_strength fs < 4 → depth fs < max → Held max all (frame.Not at ∷ fs) here
  inverts : {fs : List Frame} {here : List Token} {at : ℕ} → Held max all fs (token at (kind.Operator op.Minus) ∷ here) → depth fs < max → Held max all (frame.Minus at ∷ fs) here
  groups : {fs : List Frame} {here : List Token} {at : ℕ} → Held max all fs (token at kind.Open ∷ here) → depth fs < max → Held max all (frame.Group ∷ fs) here
  calls : {fs : List Frame} {start here : List Token} {s : List ℕ} {at there room : ℕ} {done : List Tree} → Held max all fs (token at (kind.Name s) ∷ token there kind.Open ∷ start) → depth fs + suc room ≡ max → ((xs : List Tree) (rest : List Token) → Arguments room here xs rest → Arguments room start (done ++ xs) rest) → Held max all (frame.Call s at done ∷ fs) here

-- an operand of at least that rank was read behind the frames
pub record Done (max : ℕ) (all : List Token) (least : ℕ) (x : Tree) (fs : List Frame) (here : List Token) : Type 0 where
  pub start : List Token
  pub room : ℕ
  pub phrase : Phrase
  pub held : Held max all fs start
  pub reads : Reads phrase room start x here
  pub top : top_strength fs < rank phrase
  pub bound : depth fs + room ≡ max
  pub tight : least ≤ rank phrase

pub record Named (max : ℕ) (all : List Token) (s : List ℕ) (at : ℕ) (fs : List Frame) (here : List Token) : Type 0 where
  pub held : Held max all fs (token at (kind.Name s) ∷ here)
  pub bound : depth fs < max

abbrev pub Stands : ℕ → List Token → State → List Token → Type 0
Stands max all (want.Operand, fs) here = Held max all fs here
Stands max all (want.Opening s at, fs) here = Named max all s at fs here
Stands max all (want.After x, fs) here = Done max all 10 x fs here

abbrev pub OkHolds : {X E : Type 0} → (X → Type 0) → Result X E → Type 0
OkHolds P (Ok x) = P x
OkHolds P (Err e) = Unit {0}

pub held_depth : {max : ℕ} {all here : List Token} {fs : List Frame} → Held max all fs here → depth fs ≤ max
held_depth none = omega arith
held_depth (left h t d r) = omega arith
held_depth (denies h t d) = omega arith
held_depth (inverts h d) = omega arith
held_depth (groups h d) = omega arith
held_depth (calls h d a) = omega arith

joined_below : (o : BinaryOp) → rank (joined o) < 9
joined_below op.Or = omega arith
joined_below op.And = omega arith
joined_below op.Plus = omega arith
joined_below op.Minus = omega arith
joined_below op.Times = omega arith
joined_below op.Quotient = omega arith
joined_below op.Rest = omega arith
joined_below o = omega arith

strength_below : (f : Frame) → strength f < 9
strength_below (frame.Left o at x) = joined_below o
strength_below (frame.Not at) = omega arith
strength_below (frame.Minus at) = omega arith
strength_below frame.Group = omega arith
strength_below (frame.Call s at xs) = omega arith

pub top_below : (fs : List Frame) → top_strength fs < 9
top_below [] = omega arith
top_below (f ∷ fs) = strength_below f

-- ---- closing frames

beyond_conjunction : (q : Phrase) → 2 < rank q → 4 ≤ rank q
beyond_conjunction expression h = omega arith
beyond_conjunction conjunction h = omega arith
beyond_conjunction q h = omega arith

beyond_product : (q : Phrase) → 7 < rank q → 9 ≤ rank q
beyond_product unary h = omega arith
beyond_product q h = omega arith

beyond : (o : BinaryOp) (q : Phrase) → rank (joined o) < rank q → rank (inner (joined o)) ≤ rank q
beyond op.Or q h = omega arith
beyond op.And q h = beyond_conjunction q h
beyond op.Plus q h = omega arith
beyond op.Minus q h = omega arith
beyond op.Times q h = beyond_product q h
beyond op.Quotient q h = beyond_product q h
beyond op.Rest q h = beyond_product q h
beyond o q h = omega arith

-- two operands and the operator between them
together : (o : BinaryOp) {room at : ℕ} {ts more rest : List Token} {x y : Tree} → Reads (left_phrase (joined o)) room ts x (token at (kind.Operator o) ∷ more) → Reads (inner (joined o)) room more y rest → Reads (joined o) room ts (tree at (node.Binary o x y)) rest
together op.Or r s = chain refl (λ h. cc) r s
together op.And r s = chain refl (λ h. cc) r s
together op.Plus r s = chain refl (λ h. cc) r s
together op.Minus r s = chain refl (λ h. cc) r s
together op.Times r s = chain refl (λ h. cc) r s
together op.Quotient r s = chain refl (λ h. cc) r s
together op.Rest r s = chain refl (λ h. cc) r s
together o r s = compared refl r s

-- the operand in its frame
module _ (max : ℕ) (all : List Token) (least : ℕ) (x : Tree) (fs : List Frame) (here : List Token) where
  put_left : (o : BinaryOp) (at : ℕ) (y : Tree) (start : List Token) (room : ℕ) (q : Phrase) → Held max all (frame.Left o at y ∷ fs) start → Reads q room start x here → rank (joined o) < rank q → depth fs + room ≡ max → least ≤ rank (joined o) → Done max all least (tree at (node.Binary o y x)) fs here
  put_left o at y start room q (left {mid = mid} {room = other} h top d ry) r above bound low =
      let e : other ≡ room = omega arith in
      record {
        start = mid;
        room = room;
        phrase = joined o;
        held = h;
        reads = together o (subst (λ n. Reads (left_phrase (joined o)) n mid y (token at (kind.Operator o) ∷ start)) e ry) (loosen (inner (joined o)) q (beyond o q above) r);
        top = top;
        bound = bound;
        tight = low;
      }

  put_not : (at : ℕ) (start : List Token) (room : ℕ) (q : Phrase) → Held max all (frame.Not at ∷ fs) start → Reads q room start x here → 3 < rank q → 1 + depth fs + room ≡ max → least ≤ 3 → Done max all least (tree at (node.Unary sign.Not x)) fs here
  put_not at start room q (denies h top d) r above bound low =
      record {
        start = token at kind.Not ∷ start;
        room = suc room;
        phrase = negation;
        held = h;
        reads = negated (loosen negation q (omega arith) r);
        top = top;
        bound = omega arith;
        tight = omega arith;
      }

  put_minus : (at : ℕ) (start : List Token) (room : ℕ) (q : Phrase) → Held max all (frame.Minus at ∷ fs) start → Reads q room start x here → 8 < rank q → 1 + depth fs + room ≡ max → least ≤ 8 → Done max all least (tree at (node.Unary sign.Minus x)) fs here
  put_minus at start room q (inverts h d) r above bound low =
      record {
        start = token at (kind.Operator op.Minus) ∷ start;
        room = suc room;
        phrase = unary;
        held = h;
        reads = minus (loosen unary q (omega arith) r);
        top = top_below fs;
        bound = omega arith;
        tight = omega arith;
      }

  put : (f : Frame) → 1 ≤ least → least ≤ strength f → Done max all least x (f ∷ fs) here → Done max all least (built f x) fs here
  put (frame.Left o at y) one low d = put_left o at y d.start d.room d.phrase d.held d.reads d.top (omega (arith, d.bound)) low
  put (frame.Not at) one low d = put_not at d.start d.room d.phrase d.held d.reads d.top d.bound low
  put (frame.Minus at) one low d = put_minus at d.start d.room d.phrase d.held d.reads d.top d.bound low
  put frame.Group one low d = absurd (omega arith)
  put (frame.Call s at xs) one low d = absurd (omega arith)

pub record Shut (max : ℕ) (all : List Token) (least : ℕ) (here : List Token) (c : Tree × List Frame) : Type 0 where
  pub done : Done max all least c.0 c.1 here
  pub top : top_strength c.1 < least

pub closed_sound : (max : ℕ) (all : List Token) (least : ℕ) (here : List Token) → 1 ≤ least → (x : Tree) (fs : List Frame) → Done max all least x fs here → Shut max all least here (closed least x fs)
closed_sound max all least here one x [] d = record { done = d; top = one }
closed_sound max all least here one x (f ∷ fs) d =
    (elim (nat_le least (strength f)) as (λ b. nat_le least (strength f) ≡ b → Shut max all least here (cond b (closed least (built f x) fs) (x, f ∷ fs))) [
      | true ↦ λ e. closed_sound max all least here one (built f x) fs (put max all least x fs here f one (leb-true least (strength f) e) d)
      | false ↦ λ e. record { done = d; top = grind (arith, nat_tests) }
    ]) refl
