-- The first fault: where the machine stops, no reading goes on, and before that one does.
use Rattle.std.proofs.Common.{◌≡◌, ℕ, suc, ◌≤◌, ◌&&◌, Bool, true, false, List, [], ◌∷◌, ◌++◌, Result, Ok, Err, refl, sym, ap, ◌∙◌, subst, cond, arith, append_assoc}
use Rattle.std.proofs.lemmas.Bool.Decides.{nat_tests}
use Rattle.std.specs.Prelude.{nat_le, nat_lt}
use Rattle.plan_types.specs.declared.tree.BinaryOp.{BinaryOp}
use Rattle.plan_types.specs.declared.tree.BinaryOp.TheVariants as op
use Rattle.plan_types.specs.declared.tree.UnaryOp.TheVariants as sign
use Rattle.plan_types.specs.declared.tree.Tree.{Tree}
use Rattle.plan_types.specs.declared.tree.TreeNode as node
use Rattle.expr_parse.specs.declared.token.Kind.{Kind}
use Rattle.expr_parse.specs.declared.token.Kind.TheVariants as kind
use Rattle.expr_parse.specs.declared.token.Token.{Token}
use Rattle.expr_parse.specs.declared.frame.Frame.{Frame}
use Rattle.expr_parse.specs.declared.frame.Frame.TheVariants as frame
use Rattle.expr_parse.specs.declared.frame.Want.TheVariants as want
use Rattle.expr_parse.specs.declared.refusal.ParseCause.{ParseCause}
use Rattle.expr_parse.specs.declared.refusal.ParseCause.TheVariants as cause
use Rattle.expr_parse.specs.Grammar.{token, tree, joined}
use Rattle.expr_parse.specs.Machine.{rank, strength, top_strength, depth, built, closed, closing_of, State, read, compares, joining, at_close, at_comma, step, Fault, next, whole, finished, run}
-- ---- a phrase stands where a looser one may
use Rattle.std.specs.Prelude.{pos}
use Rattle.std.proofs.lemmas.List.{append-nil}
use Rattle.expr_parse.specs.Faults.{IsRead, GoesOn, IsCause, IsFirstFault, at_token, at_end}
use Rattle.expr_parse.proofs.Complete.{Ends, shut, complete}
use Rattle.expr_parse.proofs.Sound.{none, Stands, OkHolds, held_depth}
use Rattle.expr_parse.proofs.Steps.{step_sound, run_sound}

-- ---- how a step depends on the bound of nesting

abbrev pub Plain : Result State ParseCause → Type 0
Plain (Ok u) = Unit {0}
Plain (Err cause.Syntax) = Unit {0}
Plain (Err c) = ⊥

pub data Verdict (s : State) (t : Token) : Type 0 where
  large : t.kind ≡ kind.TooLarge → ((n : ℕ) → step n s t ≡ Err cause.Number) → Verdict s t
  always : (t.kind ≡ kind.TooLarge → ⊥) → (r : Result State ParseCause) → Plain r → ((n : ℕ) → step n s t ≡ r) → Verdict s t
  deeper : (t.kind ≡ kind.TooLarge → ⊥) → (u : State) → ((n : ℕ) → step n s t ≡ cond (nat_lt (depth s.1) n) (Ok u) (Err cause.Nesting)) → Verdict s t

not_verdict : (fs : List Frame) (at : ℕ) (b : Bool) → nat_lt (top_strength fs) 4 ≡ b → Verdict (want.Operand, fs) (token at kind.Not)
not_verdict fs at true e = deeper (λ h. cc) (want.Operand, frame.Not at ∷ fs) (λ n. rw e refl)
not_verdict fs at false e = always (λ h. cc) (Err cause.Syntax) tt (λ n. rw e refl)

operand_verdict : (fs : List Frame) (at : ℕ) (k : Kind) → Verdict (want.Operand, fs) (token at k)
operand_verdict fs at (kind.Number n) = always (λ h. cc) (read (tree at (node.Number n)) fs) tt (λ n. refl)
operand_verdict fs at kind.TooLarge = large refl (λ n. refl)
operand_verdict fs at (kind.Truth b) = always (λ h. cc) (read (tree at (node.Truth b)) fs) tt (λ n. refl)
operand_verdict fs at (kind.Column s) = always (λ h. cc) (read (tree at (node.Column s _)) fs) tt (λ n. refl)
operand_verdict fs at (kind.Words s) = always (λ h. cc) (read (tree at (node.Words s)) fs) tt (λ n. refl)
operand_verdict fs at (kind.Name s) = deeper (λ h. cc) (want.Opening s at, fs) (λ n. refl)
operand_verdict fs at kind.Not = not_verdict fs at (nat_lt (top_strength fs) 4) refl
operand_verdict fs at (kind.Operator op.Minus) = deeper (λ h. cc) (want.Operand, frame.Minus at ∷ fs) (λ n. refl)
operand_verdict fs at (kind.Operator o) = always (λ h. cc) (Err cause.Syntax) tt (λ n. refl)
operand_verdict fs at kind.Open = deeper (λ h. cc) (want.Operand, frame.Group ∷ fs) (λ n. refl)
operand_verdict fs at k = always (λ h. cc) (Err cause.Syntax) tt (λ n. refl)

opening_verdict : (s : List ℕ) (p : ℕ) (fs : List Frame) (at : ℕ) (k : Kind) → Verdict (want.Opening s p, fs) (token at k)
opening_verdict s p fs at kind.TooLarge = large refl (λ n. refl)
opening_verdict s p fs at kind.Open = always (λ h. cc) (Ok (want.Operand, frame.Call s p [] ∷ fs)) tt (λ n. refl)
opening_verdict s p fs at k = always (λ h. cc) (Err cause.Syntax) tt (λ n. refl)

plain_cond : (b : Bool) (u : State) → Plain (cond b (Err cause.Syntax) (Ok u))
plain_cond true u = tt
plain_cond false u = tt

plain_joining : (o : BinaryOp) (at : ℕ) (c : Tree × List Frame) → Plain (joining o at c)
plain_joining o at (x, fs) = plain_cond (compares (joined o) && nat_le 5 (top_strength fs)) (want.Operand, frame.Left o at x ∷ fs)

plain_close : (x : Tree) (fs : List Frame) → Plain (at_close x fs)
plain_close x [] = tt
plain_close x (frame.Group ∷ fs) = tt
plain_close x (frame.Call s at xs ∷ fs) = tt
plain_close x (f ∷ fs) = tt

plain_comma : (x : Tree) (fs : List Frame) → Plain (at_comma x fs)
plain_comma x [] = tt
plain_comma x (frame.Call s at xs ∷ fs) = tt
plain_comma x (f ∷ fs) = tt

after_verdict : (x : Tree) (fs : List Frame) (at : ℕ) (k : Kind) → Verdict (want.After x, fs) (token at k)
after_verdict x fs at kind.TooLarge = large refl (λ n. refl)
after_verdict x fs at (kind.Operator o) = let c = closed (closing_of (joined o)) x fs in always (λ h. cc) (joining o at c) (plain_joining o at c) (λ n. refl)
after_verdict x fs at kind.Close = let c = closed 1 x fs in always (λ h. cc) (at_close c.0 c.1) (plain_close c.0 c.1) (λ n. refl)
after_verdict x fs at kind.Comma = let c = closed 1 x fs in always (λ h. cc) (at_comma c.0 c.1) (plain_comma c.0 c.1) (λ n. refl)
after_verdict x fs at k = always (λ h. cc) (Err cause.Syntax) tt (λ n. refl)

verdict : (s : State) (t : Token) → Verdict s t
verdict (want.Operand, fs) t = operand_verdict fs t.at t.kind
verdict (want.Opening s at, fs) t = opening_verdict s at fs t.at t.kind
verdict (want.After x, fs) t = after_verdict x fs t.at t.kind

-- ---- runs over a front of the tokens

abbrev pub reached : ℕ → State → List Token → Result State Fault
reached room s [] = Ok s
reached room s (t ∷ ts) = next t.at (step room s t) (λ u. reached room u ts)

abbrev pub onward : {X : Type 0} → Result State Fault → (State → Result X Fault) → Result X Fault
onward (Ok s) go = go s
onward (Err f) go = Err f

next_onward : {X : Type 0} (at : ℕ) (r : Result State ParseCause) (f : State → Result State Fault) (g : State → Result X Fault) (h : State → Result X Fault) → ((u : State) → h u ≡ onward (f u) g) → next at r h ≡ onward (next at r f) g
next_onward at (Ok u) f g h e = e u
next_onward at (Err c) f g h e = refl

run_append : (room end : ℕ) (front rest : List Token) (s : State) → run room end s (front ++ rest) ≡ onward (reached room s front) (λ u. run room end u rest)
run_append room end [] rest s = refl
run_append room end (t ∷ ts) rest s = next_onward t.at (step room s t) (λ u. reached room u ts) (λ u. run room end u rest) (λ u. run room end u (ts ++ rest)) (λ u. run_append room end ts rest u)

reached_append : (room : ℕ) (front rest : List Token) (s : State) → reached room s (front ++ rest) ≡ onward (reached room s front) (λ u. reached room u rest)
reached_append room [] rest s = refl
reached_append room (t ∷ ts) rest s = next_onward t.at (step room s t) (λ u. reached room u ts) (λ u. reached room u rest) (λ u. reached room u (ts ++ rest)) (λ u. reached_append room ts rest u)

-- ---- from each state a reading goes on

abbrev pub closers : List Frame → List Token
closers [] = []
closers (frame.Group ∷ fs) = token 0 kind.Close ∷ closers fs
closers (frame.Call s at xs ∷ fs) = token 0 kind.Close ∷ closers fs
closers (f ∷ fs) = closers fs

closers_end : (k : ℕ) (fs : List Frame) → Ends k (closers fs)
closers_end k [] = tt
closers_end k (frame.Group ∷ fs) = tt
closers_end k (frame.Call s at xs ∷ fs) = tt
closers_end k (f ∷ fs) = closers_end k fs

abbrev Answers : ℕ → ℕ → State → List Token → Type 0
Answers room end s ts = (y : Tree) × (run room end s ts ≡ Ok y)

shut_answers : (room end : ℕ) (x : Tree) (f : Frame) (fs : List Frame) → 1 ≤ strength f → Answers room end (want.After (built f x), fs) (closers fs) → Answers room end (want.After x, f ∷ fs) (closers fs)
shut_answers room end x f fs h a = (a.0, shut room end x f fs (closers fs) h (closers_end (strength f) fs) ∙ a.1)

joined_some : (o : BinaryOp) → 1 ≤ rank (joined o)
joined_some op.Or = omega arith
joined_some op.And = omega arith
joined_some op.Plus = omega arith
joined_some op.Minus = omega arith
joined_some op.Times = omega arith
joined_some op.Quotient = omega arith
joined_some op.Rest = omega arith
joined_some o = omega arith

closers_answer : (room end : ℕ) (fs : List Frame) (x : Tree) → Answers room end (want.After x, fs) (closers fs)
closers_answer room end [] x = (x, refl)
closers_answer room end (frame.Left o at y ∷ fs) x = shut_answers room end x (frame.Left o at y) fs (joined_some o) (closers_answer room end fs (tree at (node.Binary o y x)))
closers_answer room end (frame.Not at ∷ fs) x = shut_answers room end x (frame.Not at) fs (omega arith) (closers_answer room end fs (tree at (node.Unary sign.Not x)))
closers_answer room end (frame.Minus at ∷ fs) x = shut_answers room end x (frame.Minus at) fs (omega arith) (closers_answer room end fs (tree at (node.Unary sign.Minus x)))
closers_answer room end (frame.Group ∷ fs) x = closers_answer room end fs x
closers_answer room end (frame.Call s at xs ∷ fs) x = closers_answer room end fs (tree at (node.Call s (xs ++ x ∷ [])))

abbrev completion : State → List Token
completion (want.Operand, fs) = token 0 (kind.Number (pos 0)) ∷ closers fs
completion (want.Opening s at, fs) = token 0 kind.Open ∷ token 0 (kind.Number (pos 0)) ∷ token 0 kind.Close ∷ closers fs
completion (want.After x, fs) = closers fs

completes : (room end : ℕ) (s : State) → Answers room end s (completion s)
completes room end (want.Operand, fs) = closers_answer room end fs (tree 0 (node.Number (pos 0)))
completes room end (want.Opening s at, fs) = closers_answer room end fs (tree at (node.Call s (tree 0 (node.Number (pos 0)) ∷ [])))
completes room end (want.After x, fs) = closers_answer room end fs x

abbrev start : State
start = (want.Operand, [])

goes_on : (room : ℕ) (front : List Token) (s : State) → reached room start front ≡ Ok s → GoesOn room front
goes_on room front s e =
    let a = completes room 0 s in
    (completion s, a.0, run_sound room (front ++ completion s) 0 a.0 (front ++ completion s) start none (run_append room 0 front (completion s) start ∙ ap (λ r. onward r (λ u. run room 0 u (completion s))) e ∙ a.1))

-- a token that the machine refuses ends every reading
stops_there : (room : ℕ) (front : List Token) (t : Token) (s : State) (c : ParseCause) → reached room start front ≡ Ok s → step room s t ≡ Err c → GoesOn room (front ++ t ∷ []) → ⊥
stops_there room front t s c e f (rest, x, r) =
    let all = complete room 0 ((front ++ t ∷ []) ++ rest) x r in
    let parts = ap (λ ts. run room 0 start ts) (append_assoc front (t ∷ []) rest) ∙ run_append room 0 front (t ∷ rest) start ∙ ap (λ q. onward q (λ u. run room 0 u (t ∷ rest))) e ∙ ap (λ q. next t.at q (λ u. run room 0 u rest)) f in
    cc

-- ---- one more level of nesting

deeper_stays : (d room : ℕ) (v u : State) (b : Bool) → nat_lt d room ≡ b → ◌≡◌ {A = Result State ParseCause} (cond b (Ok v) (Err cause.Nesting)) (Ok u) → ◌≡◌ {A = Result State ParseCause} (cond (nat_lt d (suc room)) (Ok v) (Err cause.Nesting)) (Ok u)
deeper_stays d room v u true e h = let k : nat_lt d (suc room) ≡ true = grind (arith, nat_tests) in rw k h
deeper_stays d room v u false e h = absurd (cc)

stays_by : (room : ℕ) (s : State) (t : Token) (u : State) → Verdict s t → step room s t ≡ Ok u → step (suc room) s t ≡ Ok u
stays_by room s t u (large h f) e = let g = f room in absurd (cc)
stays_by room s t u (always h r p f) e = f (suc room) ∙ sym (f room) ∙ e
stays_by room s t u (deeper h v f) e = f (suc room) ∙ deeper_stays (depth s.1) room v u (nat_lt (depth s.1) room) refl (sym (f room) ∙ e)

reached_next : (room : ℕ) (s u : State) (t : Token) (ts : List Token) (r : Result State ParseCause) → step room s t ≡ r → next t.at r (λ v. reached room v ts) ≡ Ok u → ((v : State) → reached room v ts ≡ Ok u → reached (suc room) v ts ≡ Ok u) → next t.at (step (suc room) s t) (λ v. reached (suc room) v ts) ≡ Ok u
reached_next room s u t ts (Ok v) e h go = ap (λ q. next t.at q (λ v. reached (suc room) v ts)) (stays_by room s t v (verdict s t) e) ∙ go v h
reached_next room s u t ts (Err c) e h go = absurd (cc)

reached_more : (room : ℕ) (front : List Token) (s u : State) → reached room s front ≡ Ok u → reached (suc room) s front ≡ Ok u
reached_more room [] s u e = e
reached_more room (t ∷ ts) s u e = reached_next room s u t ts (step room s t) refl e (λ v h. reached_more room ts v u h)

reach_one : (room : ℕ) (front : List Token) (t : Token) (s u : State) → reached room start front ≡ Ok s → step room s t ≡ Ok u → reached room start (front ++ t ∷ []) ≡ Ok u
reach_one room front t s u e f = reached_append room front (t ∷ []) start ∙ ap (λ r. onward r (λ v. reached room v (t ∷ []))) e ∙ ap (λ r. next t.at r (λ v. Ok v)) f

deeper_is : (d room : ℕ) (v : State) (c : ParseCause) (b : Bool) → ◌≡◌ {A = Result State ParseCause} (cond b (Ok v) (Err cause.Nesting)) (Err c) → c ≡ cause.Nesting
deeper_is d room v c true h = absurd (cc)
deeper_is d room v c false h = cc

cause_by : (front : List Token) (s : State) (t : Token) (c : ParseCause) → Verdict s t → depth s.1 ≤ 64 → reached 64 start front ≡ Ok s → step 64 s t ≡ Err c → IsCause front t c
cause_by front s t cause.Number (large h f) d e g = h
cause_by front s t cause.Nesting (large h f) d e g = let k = f 64 in absurd (cc)
cause_by front s t cause.Syntax (large h f) d e g = let k = f 64 in absurd (cc)
cause_by front s t cause.Number (always h r p f) d e g = absurd (subst Plain (sym (f 64) ∙ g) p)
cause_by front s t cause.Nesting (always h r p f) d e g = absurd (subst Plain (sym (f 64) ∙ g) p)
cause_by front s t cause.Syntax (always h r p f) d e g = (h, stops_there 65 front t s cause.Syntax (reached_more 64 front start s e) (f 65 ∙ sym (f 64) ∙ g))
cause_by front s t cause.Number (deeper h u f) d e g = let k = deeper_is (depth s.1) 64 u cause.Number (nat_lt (depth s.1) 64) (sym (f 64) ∙ g) in absurd (cc)
cause_by front s t cause.Syntax (deeper h u f) d e g = let k = deeper_is (depth s.1) 64 u cause.Syntax (nat_lt (depth s.1) 64) (sym (f 64) ∙ g) in absurd (cc)
cause_by front s t cause.Nesting (deeper h u f) d e g =
    let k : nat_lt (depth s.1) 65 ≡ true = grind (arith, nat_tests) in
    (h, goes_on 65 (front ++ t ∷ []) u (reach_one 65 front t s u (reached_more 64 front start s e) (f 65 ∙ rw k refl)))

-- ---- the first fault

reached_step : (max : ℕ) (all rest : List Token) (s u : State) (t : Token) (ts : List Token) (r : Result State ParseCause) → OkHolds (λ v. Stands max all v (ts ++ rest)) r → next t.at r (λ v. reached max v ts) ≡ Ok u → ((v : State) → Stands max all v (ts ++ rest) → reached max v ts ≡ Ok u → Stands max all u rest) → Stands max all u rest
reached_step max all rest s u t ts (Ok v) h e go = go v h e
reached_step max all rest s u t ts (Err c) h e go = absurd (cc)

reached_sound : (max : ℕ) (all rest : List Token) (front : List Token) (s u : State) → Stands max all s (front ++ rest) → reached max s front ≡ Ok u → Stands max all u rest
reached_sound max all rest [] s u h e = let same : s ≡ u = cc in subst (λ v. Stands max all v rest) same h
reached_sound max all rest (t ∷ ts) s u h e = reached_step max all rest s u t ts (step max s t) (step_sound max all s t (ts ++ rest) h) e (λ v k f. reached_sound max all rest ts v u k f)

stands_depth : (max : ℕ) (all here : List Token) (s : State) → Stands max all s here → depth s.1 ≤ max
stands_depth max all here (want.Operand, fs) h = held_depth h
stands_depth max all here (want.Opening s at, fs) h = let b = h.bound in omega arith
stands_depth max all here (want.After x, fs) h = held_depth h.held

depth_reached : (front : List Token) (s : State) → reached 64 start front ≡ Ok s → depth s.1 ≤ 64
depth_reached front s e = stands_depth 64 (front ++ []) [] s (reached_sound 64 (front ++ []) [] front start s none e)

pub err_pair : {X : Type 0} (a b : ℕ) (c d : ParseCause) → ◌≡◌ {A = Result X Fault} (Err (a, c)) (Err (b, d)) → (a ≡ b) × (c ≡ d)
err_pair a b c d e = let p : ◌≡◌ {A = Fault} (a, c) (b, d) = cc in (ap (λ q. q.0) p, ap (λ q. q.1) p)

whole_fault : (end at : ℕ) (c : ParseCause) (k : Tree × List Frame) → whole end k ≡ Err (at, c) → (end ≡ at) × (cause.Syntax ≡ c)
whole_fault end at c (x, []) e = absurd (cc)
whole_fault end at c (x, f ∷ fs) e = err_pair end at cause.Syntax c e

finished_fault : (end at : ℕ) (c : ParseCause) (s : State) → finished end s ≡ Err (at, c) → (end ≡ at) × (cause.Syntax ≡ c)
finished_fault end at c (want.Operand, fs) e = err_pair end at cause.Syntax c e
finished_fault end at c (want.Opening s p, fs) e = err_pair end at cause.Syntax c e
finished_fault end at c (want.After x, fs) e = whole_fault end at c (closed 1 x fs) e

-- a run to the end of the tokens
run_all : (end : ℕ) (all : List Token) (s : State) → reached 64 start all ≡ Ok s → run 64 end start all ≡ finished end s
run_all end all s e = ap (λ ts. run 64 end start ts) (sym (append-nil all)) ∙ run_append 64 end all [] start ∙ ap (λ r. onward r (λ u. finished end u)) e

module _ (all : List Token) (end : ℕ) where
  fault_at_end : (at : ℕ) (c : ParseCause) (s : State) → reached 64 start all ≡ Ok s → finished end s ≡ Err (at, c) → IsFirstFault all end at c
  fault_at_end at c s e h =
      let p = finished_fault end at c s h in
      subst (λ a. IsFirstFault all end a c) p.0 (subst (λ d. IsFirstFault all end end d) p.1 (at_end (goes_on 64 all s e) (λ x r. let f = complete 64 end all x r in let g = run_all end all s e in absurd (cc))))

  fault_at : (front more : List Token) (t : Token) (at : ℕ) (c d : ParseCause) (s : State) → all ≡ front ++ t ∷ more → reached 64 start front ≡ Ok s → step 64 s t ≡ Err d → ◌≡◌ {A = Result Tree Fault} (Err (t.at, d)) (Err (at, c)) → IsFirstFault all end at c
  fault_at front more t at c d s same e f h =
      let p = err_pair t.at at d c h in
      subst (λ a. IsFirstFault all end a c) p.0 (subst (λ b. IsFirstFault all end t.at b) p.1 (at_token front more t.at t.kind d same (goes_on 64 front s e) (stops_there 64 front t s d e f) (cause_by front s t d (verdict s t) (depth_reached front s e) e f)))

  found_next : (front ts : List Token) (t : Token) (at : ℕ) (c : ParseCause) (s : State) (r : Result State ParseCause) → all ≡ front ++ t ∷ ts → reached 64 start front ≡ Ok s → step 64 s t ≡ r → next t.at r (λ u. run 64 end u ts) ≡ Err (at, c) → ((u : State) → all ≡ (front ++ t ∷ []) ++ ts → reached 64 start (front ++ t ∷ []) ≡ Ok u → run 64 end u ts ≡ Err (at, c) → IsFirstFault all end at c) → IsFirstFault all end at c
  found_next front ts t at c s (Ok u) same e f h go = go u (same ∙ sym (append_assoc front (t ∷ []) ts)) (reach_one 64 front t s u e f) h
  found_next front ts t at c s (Err d) same e f h go = fault_at front ts t at c d s same e f h

  found : (at : ℕ) (c : ParseCause) (ts front : List Token) (s : State) → all ≡ front ++ ts → reached 64 start front ≡ Ok s → run 64 end s ts ≡ Err (at, c) → IsFirstFault all end at c
  found at c [] front s same e h = let whole : front ≡ all = sym (same ∙ append-nil front) in fault_at_end at c s (subst (λ ts. reached 64 start ts ≡ Ok s) whole e) h
  found at c (t ∷ ts) front s same e h = found_next front ts t at c s (step 64 s t) same e refl h (λ u k f g. found at c ts (front ++ t ∷ []) u k f g)

  -- what the machine refuses is the first fault
  pub fault_sound : (at : ℕ) (c : ParseCause) → run 64 end start all ≡ Err (at, c) → IsFirstFault all end at c
  fault_sound at c h = found at c all [] start refl refl h

reaches_by : (room : ℕ) (front rest : List Token) (x : Tree) (r : Result State Fault) → reached room start front ≡ r → run room 0 start (front ++ rest) ≡ Ok x → (s : State) × (reached room start front ≡ Ok s)
reaches_by room front rest x (Ok s) e h = (s, e)
reaches_by room front rest x (Err f) e h = let g = run_append room 0 front rest start ∙ ap (λ r. onward r (λ u. run room 0 u rest)) e in absurd (cc)

-- a front that goes on is read
reaches : (room : ℕ) (front : List Token) → GoesOn room front → (s : State) × (reached room start front ≡ Ok s)
reaches room front (rest, x, r) = reaches_by room front rest x (reached room start front) refl (complete room 0 (front ++ rest) x r)

one_cause : (front : List Token) (t : Token) (c d : ParseCause) → IsCause front t c → IsCause front t d → c ≡ d
one_cause front t cause.Number cause.Number h k = refl
one_cause front t cause.Number cause.Nesting h k = absurd (k.0 h)
one_cause front t cause.Number cause.Syntax h k = absurd (k.0 h)
one_cause front t cause.Nesting cause.Number h k = absurd (h.0 k)
one_cause front t cause.Nesting cause.Nesting h k = refl
one_cause front t cause.Nesting cause.Syntax h k = absurd (k.1 h.1)
one_cause front t cause.Syntax cause.Number h k = absurd (h.0 k)
one_cause front t cause.Syntax cause.Nesting h k = absurd (h.1 k.1)
one_cause front t cause.Syntax cause.Syntax h k = refl

fault_here : (end : ℕ) (all front more : List Token) (t : Token) (c : ParseCause) (s : State) (r : Result State ParseCause) → all ≡ front ++ t ∷ more → reached 64 start front ≡ Ok s → (GoesOn 64 (front ++ t ∷ []) → ⊥) → IsCause front t c → step 64 s t ≡ r → run 64 end start all ≡ Err (t.at, c)
fault_here end all front more t c s (Ok u) same e stops why f = absurd (stops (goes_on 64 (front ++ t ∷ []) u (reach_one 64 front t s u e f)))
fault_here end all front more t c s (Err d) same e stops why f =
    let one : d ≡ c = one_cause front t d c (cause_by front s t d (verdict s t) (depth_reached front s e) e f) why in
    ap (λ ts. run 64 end start ts) same ∙ run_append 64 end front (t ∷ more) start ∙ ap (λ r. onward r (λ u. run 64 end u (t ∷ more))) e ∙ ap (λ r. next t.at r (λ u. run 64 end u more)) f ∙ ap (λ b. Err (t.at, b)) one

fault_end : (end : ℕ) (all : List Token) (s : State) (r : Result Tree Fault) → run 64 end start all ≡ r → finished end s ≡ r → ((x : Tree) → IsRead all x → ⊥) → run 64 end start all ≡ Err (end, cause.Syntax)
fault_end end all s (Ok x) e f unread = absurd (unread x (run_sound 64 all end x all start none e))
fault_end end all s (Err q) e f unread = let p = finished_fault end q.0 q.1 s f in e ∙ ap (λ a. Err (a, q.1)) (sym p.0) ∙ ap (λ c. Err (end, c)) (sym p.1)

-- the first fault is what the machine refuses
pub fault_complete : (all : List Token) (end at : ℕ) (c : ParseCause) → IsFirstFault all end at c → run 64 end start all ≡ Err (at, c)
fault_complete all end at c (at_token front more p k d same goes stops why) = let s = reaches 64 front goes in fault_here end all front more (token at k) c s.0 (step 64 s.0 (token at k)) same s.1 stops why refl
fault_complete all end at c (at_end goes unread) = let s = reaches 64 all goes in fault_end end all s.0 (run 64 end start all) refl (sym (run_all end all s.0 s.1)) unread
