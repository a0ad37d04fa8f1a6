-- One step of the machine, and whole runs, against the grammar.
use Rattle.std.proofs.Common.{◌≡◌, ℕ, suc, ◌+◌, ◌-◌, ◌<◌, ◌≤◌, ◌&&◌, Bool, true, false, List, [], ◌∷◌, ◌++◌, Result, Ok, Err, refl, sym, subst, cond, arith, append_assoc}
use Rattle.std.proofs.lemmas.Bool.Decides.{nat_tests}
use Rattle.std.specs.Prelude.{nat_le, nat_lt}
use Rattle.plan_types.specs.declared.tree.BinaryOp.{BinaryOp}
use Rattle.plan_types.specs.declared.tree.BinaryOp.TheVariants as op
use Rattle.plan_types.specs.declared.tree.Tree.{Tree}
use Rattle.plan_types.specs.declared.tree.TreeNode as node
use Rattle.expr_parse.specs.declared.token.Kind.{Kind}
use Rattle.expr_parse.specs.declared.token.Kind.TheVariants as kind
use Rattle.expr_parse.specs.declared.token.Token.{Token}
use Rattle.expr_parse.specs.declared.frame.Frame.{Frame}
use Rattle.expr_parse.specs.declared.frame.Frame.TheVariants as frame
use Rattle.expr_parse.specs.declared.frame.Want.TheVariants as want
use Rattle.expr_parse.specs.declared.refusal.ParseCause.{ParseCause}
use Rattle.expr_parse.specs.declared.refusal.ParseCause.TheVariants as cause
use Rattle.expr_parse.specs.Grammar.{token, tree, Phrase, expression, atom, joined, Reads, number, truth, column, words, call, grouped, Arguments, last, more}
use Rattle.expr_parse.specs.Machine.{rank, top_strength, depth, closed, closing_of, State, opened, at_operand, at_opening, compares, joining, at_close, at_comma, after, step, next, whole, finished, run}
-- ---- a phrase stands where a looser one may
use Rattle.expr_parse.proofs.Sound.{to_expression, loosen, left_phrase, Held, none, left, denies, inverts, groups, calls, Done, Named, Stands, OkHolds, held_depth, top_below, Shut, closed_sound}

room_for : (max n : ℕ) → n ≤ max → n + (max - n) ≡ max
room_for max n h = omega arith

left_rank : (o : BinaryOp) → rank (left_phrase (joined o)) ≤ closing_of (joined o)
left_rank op.Or = omega arith
left_rank op.And = omega arith
left_rank op.Plus = omega arith
left_rank op.Minus = omega arith
left_rank op.Times = omega arith
left_rank op.Quotient = omega arith
left_rank op.Rest = omega arith
left_rank o = omega arith

closing_some : (o : BinaryOp) → 1 ≤ closing_of (joined o)
closing_some op.Or = omega arith
closing_some op.And = omega arith
closing_some op.Plus = omega arith
closing_some op.Minus = omega arith
closing_some op.Times = omega arith
closing_some op.Quotient = omega arith
closing_some op.Rest = omega arith
closing_some o = omega arith

closing_low : (o : BinaryOp) → closing_of (joined o) ≤ 10
closing_low op.Or = omega arith
closing_low op.And = omega arith
closing_low op.Plus = omega arith
closing_low op.Minus = omega arith
closing_low op.Times = omega arith
closing_low op.Quotient = omega arith
closing_low op.Rest = omega arith
closing_low o = omega arith

five_above : (n : ℕ) → n < 6 → nat_le 5 n ≡ false → n < 5
five_above n h e = grind (arith, nat_tests)

-- a frame below what an operator closes is looser than the operator, comparisons apart
operator_above : (o : BinaryOp) (n : ℕ) → n < closing_of (joined o) → (compares (joined o) && nat_le 5 n) ≡ false → n < rank (joined o)
operator_above op.Or n h e = h
operator_above op.And n h e = h
operator_above op.Plus n h e = h
operator_above op.Minus n h e = h
operator_above op.Times n h e = h
operator_above op.Quotient n h e = h
operator_above op.Rest n h e = h
operator_above o n h e = five_above n h e

cond_holds : {X E : Type 0} (P : X → Type 0) (b : Bool) (r s : Result X E) → (b ≡ true → OkHolds P r) → (b ≡ false → OkHolds P s) → OkHolds P (cond b r s)
cond_holds P true r s h k = h refl
cond_holds P false r s h k = k refl

held_empty : {max : ℕ} {all here : List Token} → Held max all [] here → here ≡ all
held_empty none = refl

module _ (max : ℕ) (all : List Token) where
  loosely : (least : ℕ) (x : Tree) (fs : List Frame) (here : List Token) → least ≤ 10 → Done max all 10 x fs here → Done max all least x fs here
  loosely least x fs here h d = record { start = d.start; room = d.room; phrase = d.phrase; held = d.held; reads = d.reads; top = d.top; bound = d.bound; tight = let t = d.tight in omega arith }

  leaf_stands : (fs : List Frame) (start here : List Token) (x : Tree) → Held max all fs start → ((room : ℕ) → Reads atom room start x here) → Done max all 10 x fs here
  leaf_stands fs start here x h r =
      let t = top_below fs in
      record { start = start; room = max - depth fs; phrase = atom; held = h; reads = r (max - depth fs); top = omega arith; bound = room_for max (depth fs) (held_depth h); tight = omega arith }

  opened_sound : (f : Frame) (fs : List Frame) (here : List Token) → (depth fs < max → Held max all (f ∷ fs) here) → OkHolds (λ s. Stands max all s here) (opened max f fs)
  opened_sound f fs here h = cond_holds (λ s. Stands max all s here) (nat_lt (depth fs) max) (Ok (want.Operand, f ∷ fs)) (Err cause.Nesting) (λ e. h (grind (arith, nat_tests))) (λ e. tt)

  operand_sound : (fs : List Frame) (at : ℕ) (k : Kind) (here : List Token) → Held max all fs (token at k ∷ here) → OkHolds (λ s. Stands max all s here) (at_operand max fs at k)
  operand_sound fs at (kind.Number n) here h = leaf_stands fs (token at (kind.Number n) ∷ here) here (tree at (node.Number n)) h (λ room. number)
  operand_sound fs at (kind.Truth b) here h = leaf_stands fs (token at (kind.Truth b) ∷ here) here (tree at (node.Truth b)) h (λ room. truth)
  operand_sound fs at (kind.Column s) here h = leaf_stands fs (token at (kind.Column s) ∷ here) here (tree at (node.Column s _)) h (λ room. column)
  operand_sound fs at (kind.Words s) here h = leaf_stands fs (token at (kind.Words s) ∷ here) here (tree at (node.Words s)) h (λ room. words)
  operand_sound fs at (kind.Name s) here h = cond_holds (λ s. Stands max all s here) (nat_lt (depth fs) max) (Ok (want.Opening s at, fs)) (Err cause.Nesting) (λ e. record { held = h; bound = grind (arith, nat_tests) }) (λ e. tt)
  operand_sound fs at kind.Not here h = cond_holds (λ s. Stands max all s here) (nat_lt (top_strength fs) 4) (opened max (frame.Not at) fs) (Err cause.Syntax) (λ e. opened_sound (frame.Not at) fs here (λ d. denies h (grind (arith, nat_tests)) d)) (λ e. tt)
  operand_sound fs at (kind.Operator op.Minus) here h = opened_sound (frame.Minus at) fs here (λ d. inverts h d)
  operand_sound fs at (kind.Operator o) here h = tt
  operand_sound fs at kind.Open here h = opened_sound frame.Group fs here (λ d. groups h d)
  operand_sound fs at k here h = tt

  opening_sound : (s : List ℕ) (at there : ℕ) (fs : List Frame) (k : Kind) (here : List Token) → Named max all s at fs (token there k ∷ here) → OkHolds (λ u. Stands max all u here) (at_opening s at fs k)
  opening_sound s at there fs kind.Open here n = let b = n.bound in calls {room = max - suc (depth fs)} n.held (omega arith) (λ xs rest a. a)
  opening_sound s at there fs kind.TooLarge here n = tt
  opening_sound s at there fs k here n = tt

  joining_sound : (o : BinaryOp) (at : ℕ) (here : List Token) (c : Tree × List Frame) → Shut max all (closing_of (joined o)) (token at (kind.Operator o) ∷ here) c → OkHolds (λ u. Stands max all u here) (joining o at c)
  joining_sound o at here (x, fs) s = cond_holds (λ u. Stands max all u here) (compares (joined o) && nat_le 5 (top_strength fs)) (Err cause.Syntax) (Ok (want.Operand, frame.Left o at x ∷ fs)) (λ e. tt)
      (λ e. let d = s.done in let t = d.tight in let l = left_rank o in left d.held (operator_above o (top_strength fs) s.top e) d.bound (loosen (left_phrase (joined o)) d.phrase (omega arith) d.reads))

  group_sound : (x : Tree) (fs : List Frame) (at : ℕ) (here start : List Token) (room : ℕ) (q : Phrase) → Held max all (frame.Group ∷ fs) start → Reads q room start x (token at kind.Close ∷ here) → 1 + depth fs + room ≡ max → Done max all 10 x fs here
  group_sound x fs at here start room q (groups {at = opener} h d) r bound =
      let t = top_below fs in
      record { start = token opener kind.Open ∷ start; room = suc room; phrase = atom; held = h; reads = grouped (to_expression q r); top = omega arith; bound = omega arith; tight = omega arith }

  call_sound : (s : List ℕ) (at : ℕ) (xs : List Tree) (x : Tree) (fs : List Frame) (there : ℕ) (here start : List Token) (room : ℕ) (q : Phrase) → Held max all (frame.Call s at xs ∷ fs) start → Reads q room start x (token there kind.Close ∷ here) → 1 + depth fs + room ≡ max → Done max all 10 (tree at (node.Call s (xs ++ x ∷ []))) fs here
  call_sound s at xs x fs there here start room q (calls {start = begin} {there = opener} {room = other} h d a) r bound =
      let t = top_below fs in
      let e : room ≡ other = omega arith in
      record { start = token at (kind.Name s) ∷ token opener kind.Open ∷ begin; room = suc room; phrase = atom; held = h; reads = call (subst (λ n. Arguments n begin (xs ++ x ∷ []) here) (sym e) (a (x ∷ []) here (last (subst (λ n. Reads expression n start x (token there kind.Close ∷ here)) e (to_expression q r))))); top = omega arith; bound = omega arith; tight = omega arith }

  more_sound : (s : List ℕ) (at : ℕ) (xs : List Tree) (x : Tree) (fs : List Frame) (there : ℕ) (here start : List Token) (room : ℕ) (q : Phrase) → Held max all (frame.Call s at xs ∷ fs) start → Reads q room start x (token there kind.Comma ∷ here) → 1 + depth fs + room ≡ max → Held max all (frame.Call s at (xs ++ x ∷ []) ∷ fs) here
  more_sound s at xs x fs there here start room q (calls {start = begin} {there = opener} {room = other} h d a) r bound =
      let e : room ≡ other = omega arith in
      calls h d (λ ys rest b. rw (append_assoc xs (x ∷ []) ys) (a (x ∷ ys) rest (more (subst (λ n. Reads expression n start x (token there kind.Comma ∷ here)) e (to_expression q r)) b)))

  close_sound : (x : Tree) (fs : List Frame) (at : ℕ) (here : List Token) → Done max all 1 x fs (token at kind.Close ∷ here) → OkHolds (λ u. Stands max all u here) (at_close x fs)
  close_sound x [] at here d = tt
  close_sound x (frame.Group ∷ fs) at here d = group_sound x fs at here d.start d.room d.phrase d.held d.reads d.bound
  close_sound x (frame.Call s p xs ∷ fs) at here d = call_sound s p xs x fs at here d.start d.room d.phrase d.held d.reads d.bound
  close_sound x (f ∷ fs) at here d = tt

  comma_sound : (x : Tree) (fs : List Frame) (at : ℕ) (here : List Token) → Done max all 1 x fs (token at kind.Comma ∷ here) → OkHolds (λ u. Stands max all u here) (at_comma x fs)
  comma_sound x [] at here d = tt
  comma_sound x (frame.Call s p xs ∷ fs) at here d = more_sound s p xs x fs at here d.start d.room d.phrase d.held d.reads d.bound
  comma_sound x (f ∷ fs) at here d = tt

  after_sound : (x : Tree) (fs : List Frame) (at : ℕ) (k : Kind) (here : List Token) → Done max all 10 x fs (token at k ∷ here) → OkHolds (λ u. Stands max all u here) (after x fs at k)
  after_sound x fs at (kind.Operator o) here d = joining_sound o at here (closed (closing_of (joined o)) x fs) (closed_sound max all (closing_of (joined o)) (token at (kind.Operator o) ∷ here) (closing_some o) x fs (loosely (closing_of (joined o)) x fs (token at (kind.Operator o) ∷ here) (closing_low o) d))
  after_sound x fs at kind.Close here d = let c = closed 1 x fs in close_sound c.0 c.1 at here (closed_sound max all 1 (token at kind.Close ∷ here) (omega arith) x fs (loosely 1 x fs (token at kind.Close ∷ here) (omega arith) d)).done
  after_sound x fs at kind.Comma here d = let c = closed 1 x fs in comma_sound c.0 c.1 at here (closed_sound max all 1 (token at kind.Comma ∷ here) (omega arith) x fs (loosely 1 x fs (token at kind.Comma ∷ here) (omega arith) d)).done
  after_sound x fs at kind.TooLarge here d = tt
  after_sound x fs at k here d = tt

  pub step_sound : (s : State) (t : Token) (here : List Token) → Stands max all s (t ∷ here) → OkHolds (λ u. Stands max all u here) (step max s t)
  step_sound (want.Operand, fs) t here h = operand_sound fs t.at t.kind here h
  step_sound (want.Opening s at, fs) t here h = opening_sound s at t.at fs t.kind here h
  step_sound (want.After x, fs) t here h = after_sound x fs t.at t.kind here h

  whole_sound : (end : ℕ) (y : Tree) (c : Tree × List Frame) → Shut max all 1 [] c → whole end c ≡ Ok y → Reads expression max all y []
  whole_sound end y (x, []) s e =
      let d = s.done in
      let same : x ≡ y = cc in
      let full : d.room ≡ max = let b = d.bound in omega arith in
      subst (λ z. Reads expression max all z []) same (subst (λ n. Reads expression n all x []) full (subst (λ ts. Reads expression d.room ts x []) (held_empty d.held) (to_expression d.phrase d.reads)))
  whole_sound end y (x, f ∷ fs) s e = cc

  finished_sound : (end : ℕ) (y : Tree) (s : State) → Stands max all s [] → finished end s ≡ Ok y → Reads expression max all y []
  finished_sound end y (want.Operand, fs) h e = cc
  finished_sound end y (want.Opening s at, fs) h e = cc
  finished_sound end y (want.After x, fs) h e = whole_sound end y (closed 1 x fs) (closed_sound max all 1 [] (omega arith) x fs (loosely 1 x fs [] (omega arith) h)) e

  next_sound : (end at : ℕ) (y : Tree) (here : List Token) (r : Result State ParseCause) → OkHolds (λ u. Stands max all u here) r → ((u : State) → Stands max all u here → run max end u here ≡ Ok y → Reads expression max all y []) → next at r (λ u. run max end u here) ≡ Ok y → Reads expression max all y []
  next_sound end at y here (Ok u) h go e = go u h e
  next_sound end at y here (Err c) h go e = cc

  pub run_sound : (end : ℕ) (y : Tree) (ts : List Token) (s : State) → Stands max all s ts → run max end s ts ≡ Ok y → Reads expression max all y []
  run_sound end y [] s h e = finished_sound end y s h e
  run_sound end y (t ∷ ts) s h e = next_sound end t.at y ts (step max s t) (step_sound s t ts h) (λ u k f. run_sound end y ts u k f) e
