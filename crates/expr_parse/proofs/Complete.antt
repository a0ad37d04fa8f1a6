-- What the grammar reads, the machine reads.
use Rattle.std.proofs.Common.{◌≡◌, ℕ, suc, ◌+◌, ◌<◌, ◌≤◌, ◌&&◌, true, false, List, [], ◌∷◌, ◌++◌, Ok, refl, sym, ap, ◌∙◌, subst, arith, append_assoc}
use Rattle.std.proofs.lemmas.Bool.{le-leb}
use Rattle.std.proofs.lemmas.Bool.Decides.{nat_tests}
use Rattle.std.specs.Prelude.{nat_le, nat_lt}
use Rattle.plan_types.specs.declared.tree.BinaryOp.{BinaryOp}
use Rattle.plan_types.specs.declared.tree.BinaryOp.TheVariants as op
use Rattle.plan_types.specs.declared.tree.Tree.{Tree}
use Rattle.plan_types.specs.declared.tree.TreeNode as node
use Rattle.expr_parse.specs.declared.token.Kind.{Kind}
use Rattle.expr_parse.specs.declared.token.Kind.TheVariants as kind
use Rattle.expr_parse.specs.declared.token.Token.{Token}
use Rattle.expr_parse.specs.declared.frame.Frame.{Frame}
use Rattle.expr_parse.specs.declared.frame.Frame.TheVariants as frame
use Rattle.expr_parse.specs.declared.frame.Want.TheVariants as want
use Rattle.expr_parse.specs.Grammar.{token, tree, Phrase, expression, conjunction, negation, comparison, sum, product, unary, atom, inner, joined, Reads, alone, chain, compared, negated, minus, number, truth, column, words, call, grouped, Arguments, last, more}
use Rattle.expr_parse.specs.Machine.{rank, strength, top_strength, depth, built, closed, closing_of, opened, at_operand, compares, joining, at_close, at_comma, after, next, whole, run}

-- the tightest operators that may stand after a phrase
abbrev pub limit : Phrase → ℕ
limit expression = 1
limit conjunction = 2
limit negation = 3
limit comparison = 5
limit sum = 6
limit product = 7
limit unary = 8
limit atom = 8

-- an operator of that kind closes frames of strength k
abbrev pub KindEnds : ℕ → Kind → Type 0
KindEnds k (kind.Operator o) = closing_of (joined o) ≤ k
KindEnds k other = Unit {0}

abbrev pub Ends : ℕ → List Token → Type 0
Ends k [] = Unit {0}
Ends k (t ∷ ts) = KindEnds k t.kind

kind_ends_mono : (j k : ℕ) → j ≤ k → (x : Kind) → KindEnds j x → KindEnds k x
kind_ends_mono j k h (kind.Operator o) e = omega arith
kind_ends_mono j k h (kind.Number n) e = tt
kind_ends_mono j k h kind.TooLarge e = tt
kind_ends_mono j k h (kind.Truth b) e = tt
kind_ends_mono j k h (kind.Column s) e = tt
kind_ends_mono j k h (kind.Words s) e = tt
kind_ends_mono j k h (kind.Name s) e = tt
kind_ends_mono j k h kind.Not e = tt
kind_ends_mono j k h kind.Open e = tt
kind_ends_mono j k h kind.Close e = tt
kind_ends_mono j k h kind.Comma e = tt
kind_ends_mono j k h kind.Bad e = tt

ends_mono : (j k : ℕ) → j ≤ k → (ts : List Token) → Ends j ts → Ends k ts
ends_mono j k h [] e = tt
ends_mono j k h (t ∷ ts) e = kind_ends_mono j k h t.kind e

pub closes : (least : ℕ) (x : Tree) (f : Frame) (fs : List Frame) → least ≤ strength f → closed least x (f ∷ fs) ≡ closed least (built f x) fs
closes least x f fs h = rw (le-leb least (strength f) h) refl

pub keeps : (least : ℕ) (x : Tree) (fs : List Frame) → top_strength fs < least → closed least x fs ≡ (x, fs)
keeps least x [] h = refl
keeps least x (f ∷ fs) h = let e : nat_le least (strength f) ≡ false = grind (arith, nat_tests) in rw e refl

after_closed : (x : Tree) (f : Frame) (fs : List Frame) (at : ℕ) → 1 ≤ strength f → (k : Kind) → KindEnds (strength f) k → after x (f ∷ fs) at k ≡ after (built f x) fs at k
after_closed x f fs at h (kind.Operator o) e = ap (joining o at) (closes (closing_of (joined o)) x f fs e)
after_closed x f fs at h kind.Close e = ap (λ c. at_close c.0 c.1) (closes 1 x f fs h)
after_closed x f fs at h kind.Comma e = ap (λ c. at_comma c.0 c.1) (closes 1 x f fs h)
after_closed x f fs at h (kind.Number n) e = refl
after_closed x f fs at h kind.TooLarge e = refl
after_closed x f fs at h (kind.Truth b) e = refl
after_closed x f fs at h (kind.Column s) e = refl
after_closed x f fs at h (kind.Words s) e = refl
after_closed x f fs at h (kind.Name s) e = refl
after_closed x f fs at h kind.Not e = refl
after_closed x f fs at h kind.Open e = refl
after_closed x f fs at h kind.Bad e = refl

-- a frame that what follows closes may be closed at once
pub shut : (room end : ℕ) (x : Tree) (f : Frame) (fs : List Frame) (rest : List Token) → 1 ≤ strength f → Ends (strength f) rest → run room end (want.After x, f ∷ fs) rest ≡ run room end (want.After (built f x), fs) rest
shut room end x f fs [] h e = ap (whole end) (closes 1 x f fs h)
shut room end x f fs (t ∷ ts) h e = ap (λ r. next t.at r (λ u. run room end u ts)) (after_closed x f fs t.at h t.kind e)

inner_rank : (p : Phrase) → rank p ≤ rank (inner p)
inner_rank expression = omega arith
inner_rank conjunction = omega arith
inner_rank negation = omega arith
inner_rank comparison = omega arith
inner_rank sum = omega arith
inner_rank product = omega arith
inner_rank unary = omega arith
inner_rank atom = omega arith

inner_limit : (p : Phrase) → limit p ≤ limit (inner p)
inner_limit expression = omega arith
inner_limit conjunction = omega arith
inner_limit negation = omega arith
inner_limit comparison = omega arith
inner_limit sum = omega arith
inner_limit product = omega arith
inner_limit unary = omega arith
inner_limit atom = omega arith

-- what holds of the phrases that operators join
pub record Joins (p : Phrase) : Type 0 where
  pub some : 1 ≤ rank p
  pub below : rank p < rank (inner p)
  pub ends : limit p ≡ rank p
  pub closing : closing_of p ≤ rank (inner p)
  pub above : rank p ≤ closing_of p
  pub left : compares p ≡ false → closing_of p ≤ limit p
  pub apart : (n : ℕ) → n < rank p → (compares p && nat_le 5 n) ≡ false

below_five : (n : ℕ) → n < 5 → nat_le 5 n ≡ false
below_five n h = grind (arith, nat_tests)

joins_of : (o : BinaryOp) → Joins (joined o)
joins_of op.Or = record { some = omega arith; below = omega arith; ends = refl; closing = omega arith; above = omega arith; left = λ e. omega arith; apart = λ n h. refl }
joins_of op.And = record { some = omega arith; below = omega arith; ends = refl; closing = omega arith; above = omega arith; left = λ e. omega arith; apart = λ n h. refl }
joins_of op.Plus = record { some = omega arith; below = omega arith; ends = refl; closing = omega arith; above = omega arith; left = λ e. omega arith; apart = λ n h. refl }
joins_of op.Minus = record { some = omega arith; below = omega arith; ends = refl; closing = omega arith; above = omega arith; left = λ e. omega arith; apart = λ n h. refl }
joins_of op.Times = record { some = omega arith; below = omega arith; ends = refl; closing = omega arith; above = omega arith; left = λ e. omega arith; apart = λ n h. refl }
joins_of op.Quotient = record { some = omega arith; below = omega arith; ends = refl; closing = omega arith; above = omega arith; left = λ e. omega arith; apart = λ n h. refl }
joins_of op.Rest = record { some = omega arith; below = omega arith; ends = refl; closing = omega arith; above = omega arith; left = λ e. omega arith; apart = λ n h. refl }
joins_of o = record { some = omega arith; below = omega arith; ends = refl; closing = omega arith; above = omega arith; left = λ e. cc; apart = λ n h. below_five n h }

no_comparison : (p : Phrase) → (p ≡ comparison → ⊥) → compares p ≡ false
no_comparison comparison h = absurd (h refl)
no_comparison p h = refl

-- an operator takes its left operand
pub takes : (o : BinaryOp) (at : ℕ) (x : Tree) (fs : List Frame) → top_strength fs < rank (joined o) → joining o at (closed (closing_of (joined o)) x fs) ≡ Ok (want.Operand, frame.Left o at x ∷ fs)
takes o at x fs h =
    let j = joins_of o in
    let k : closed (closing_of (joined o)) x fs ≡ (x, fs) = keeps (closing_of (joined o)) x fs (omega arith) in
    rw (k, j.apart (top_strength fs) h) refl

-- what is begun stands inside no more than the bound
pub opens_one : (room : ℕ) (f : Frame) (fs : List Frame) → depth fs < room → opened room f fs ≡ Ok (want.Operand, f ∷ fs)
opens_one room f fs h = let e : nat_lt (depth fs) room ≡ true = grind (arith, nat_tests) in rw e refl

names_one : (room : ℕ) (s : List ℕ) (at : ℕ) (fs : List Frame) → depth fs < room → at_operand room fs at (kind.Name s) ≡ Ok (want.Opening s at, fs)
names_one room s at fs h = let e : nat_lt (depth fs) room ≡ true = grind (arith, nat_tests) in rw e refl

negates_one : (room at : ℕ) (fs : List Frame) → top_strength fs < 4 → depth fs < room → at_operand room fs at kind.Not ≡ Ok (want.Operand, frame.Not at ∷ fs)
negates_one room at fs t h = let e : nat_lt (top_strength fs) 4 ≡ true = grind (arith, nat_tests) in rw e (opens_one room (frame.Not at) fs h)

-- an operand, an operator and another operand are one operand
joined_run : (max end at : ℕ) (o : BinaryOp) (x y : Tree) (fs : List Frame) (ts others rest : List Token) → run max end (want.Operand, fs) ts ≡ run max end (want.After x, fs) (token at (kind.Operator o) ∷ others) → top_strength fs < rank (joined o) → run max end (want.Operand, frame.Left o at x ∷ fs) others ≡ run max end (want.After y, frame.Left o at x ∷ fs) rest → Ends (rank (joined o)) rest → run max end (want.Operand, fs) ts ≡ run max end (want.After (tree at (node.Binary o x y)), fs) rest
joined_run max end at o x y fs ts others rest first top second e =
    first ∙ ap (λ r. next at r (λ u. run max end u others)) (takes o at x fs top) ∙ second ∙ shut max end y (frame.Left o at x) fs rest (joins_of o).some e

mutual
  pub reads_run : (max end : ℕ) {p : Phrase} {room : ℕ} {ts rest : List Token} {x : Tree} → Reads p room ts x rest → (fs : List Frame) → top_strength fs < rank p → depth fs + room ≡ max → Ends (limit p) rest → run max end (want.Operand, fs) ts ≡ run max end (want.After x, fs) rest
  reads_run max end {p} {room} {ts} {rest} {x} (alone r) fs top d e = reads_run max end r fs (let h = inner_rank p in omega arith) d (ends_mono (limit p) (limit (inner p)) (inner_limit p) rest e)
  reads_run max end {p} {room} {ts} {rest} (chain {at = at} {more = others} {x = x} {y = y} {o = o} same apart r s) fs top d e =
      let j = joins_of o in
      joined_run max end at o x y fs ts others rest
      (reads_run max end r fs top d (subst (λ q. closing_of (joined o) ≤ limit q) same (j.left (no_comparison (joined o) (λ h. apart (sym same ∙ h))))))
      (subst (λ q. top_strength fs < rank q) (sym same) top)
      (reads_run max end s (frame.Left o at x ∷ fs) (subst (λ q. rank (joined o) < rank (inner q)) same j.below) (omega arith) (ends_mono (limit p) (limit (inner p)) (inner_limit p) rest e))
      (subst (λ k. Ends k rest) j.ends (subst (λ q. Ends (limit q) rest) (sym same) e))
  reads_run max end {ts = ts} {rest = rest} (compared {at = at} {more = others} {x = x} {y = y} {o = o} same r s) fs top d e =
      joined_run max end at o x y fs ts others rest
      (reads_run max end r fs (omega arith) d (subst (λ q. closing_of q ≤ 6) (sym same) (omega arith)))
      (subst (λ q. top_strength fs < rank q) (sym same) top)
      (reads_run max end s (frame.Left o at x ∷ fs) (subst (λ q. rank q < 6) (sym same) (omega arith)) (omega arith) (ends_mono 5 6 (omega arith) rest e))
      (subst (λ q. Ends (rank q) rest) (sym same) e)
  reads_run max end {rest = rest} (negated {room = room} {at = at} {more = others} {x = x} r) fs top d e =
      ap (λ r. next at r (λ u. run max end u others)) (negates_one max at fs top (omega arith)) ∙ reads_run max end r (frame.Not at ∷ fs) (omega arith) (omega arith) e ∙ shut max end x (frame.Not at) fs rest (omega arith) e
  reads_run max end {rest = rest} (minus {room = room} {at = at} {more = others} {x = x} r) fs top d e =
      ap (λ r. next at r (λ u. run max end u others)) (opens_one max (frame.Minus at) fs (omega arith)) ∙ reads_run max end r (frame.Minus at ∷ fs) (omega arith) (omega arith) e ∙ shut max end x (frame.Minus at) fs rest (omega arith) e
  reads_run max end number fs top d e = refl
  reads_run max end truth fs top d e = refl
  reads_run max end column fs top d e = refl
  reads_run max end words fs top d e = refl
  reads_run max end {rest = rest} (call {room = room} {at = at} {there = there} {more = others} {s = s} {xs = xs} a) fs top d e =
      ap (λ r. next at r (λ u. run max end u (token there kind.Open ∷ others))) (names_one max s at fs (omega arith)) ∙ arguments_run max end a fs s at [] (omega arith)
  reads_run max end {rest = rest} (grouped {room = room} {at = at} {there = there} {more = others} {x = x} r) fs top d e =
      ap (λ r. next at r (λ u. run max end u others)) (opens_one max frame.Group fs (omega arith)) ∙ reads_run max end r (frame.Group ∷ fs) (omega arith) (omega arith) tt

  pub arguments_run : (max end : ℕ) {room : ℕ} {ts rest : List Token} {xs : List Tree} → Arguments room ts xs rest → (fs : List Frame) (s : List ℕ) (at : ℕ) (done : List Tree) → suc (depth fs) + room ≡ max → run max end (want.Operand, frame.Call s at done ∷ fs) ts ≡ run max end (want.After (tree at (node.Call s (done ++ xs))), fs) rest
  arguments_run max end (last r) fs s at done d = reads_run max end r (frame.Call s at done ∷ fs) (omega arith) (omega arith) tt
  arguments_run max end {rest = rest} (more {x = x} {xs = xs} r a) fs s at done d =
      reads_run max end r (frame.Call s at done ∷ fs) (omega arith) (omega arith) tt ∙ arguments_run max end a fs s at (done ++ x ∷ []) d ∙ ap (λ ys. run max end (want.After (tree at (node.Call s ys)), fs) rest) (append_assoc done (x ∷ []) xs)

-- a reading is what the machine answers
pub complete : (max end : ℕ) (ts : List Token) (x : Tree) → Reads expression max ts x [] → run max end (want.Operand, []) ts ≡ Ok x
complete max end ts x r = reads_run max end r [] (omega arith) (omega arith) tt
