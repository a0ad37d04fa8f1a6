-- What the machine's run says of readings and faults.
use Rattle.std.proofs.Common.{◌≡◌, ◌⊎◌, inl, inr, ℕ, List, [], length, Result, Ok, Err, refl, sym, ap, ◌∙◌}
use Rattle.std.specs.Prelude.{IfOk, IfErr}
use Rattle.plan_types.specs.declared.tree.Tree.{Tree}
use Rattle.expr_parse.specs.declared.token.Token.{Token}
use Rattle.expr_parse.specs.declared.frame.Want.TheVariants as want
use Rattle.expr_parse.specs.declared.refusal.ParseCause.{ParseCause}
use Rattle.expr_parse.specs.declared.refusal.ParseRefused.{ParseRefused}
use Rattle.expr_parse.specs.declared.refusal.ParseRefused.TheVariants as refused
use Rattle.expr_parse.specs.Faults.{IsRead, IsFirstFault, IsRefusal, Refused, Returns}
use Rattle.expr_parse.specs.Machine.{State, Fault, run, Refuses, Ends}
use Rattle.expr_parse.specs.Tokens.{tokens}
use Rattle.expr_parse.proofs.Complete.{complete}
use Rattle.expr_parse.proofs.Sound.{none}
use Rattle.expr_parse.proofs.Steps.{run_sound}
use Rattle.expr_parse.proofs.Stops.{fault_sound, fault_complete, err_pair}

abbrev start : State
start = (want.Operand, [])

read_of : (ts : List Token) (end : ℕ) (x : Tree) → run 64 end start ts ≡ Ok x → IsRead ts x
read_of ts end x e = run_sound 64 ts end x ts start none e

module _ (text : List ℕ) where
  pub ended_reads : (answer : Result Tree ParseRefused) → Ends answer (run 64 (length text) start (tokens text)) → IfOk answer (λ x. IsRead (tokens text) x)
  ended_reads (Ok x) e = read_of (tokens text) (length text) x e
  ended_reads (Err r) e = tt

  refused_for : (r : ParseRefused) → Refuses r (run 64 (length text) start (tokens text)) → IsRefusal text r
  refused_for refused.Memory e = tt
  refused_for (refused.Bad at c) e = fault_sound (tokens text) (length text) at c e

  pub ended_refuses : (answer : Result Tree ParseRefused) → Ends answer (run 64 (length text) start (tokens text)) → IfErr answer (λ r. IsRefusal text r)
  ended_refuses (Ok x) e = tt
  ended_refuses (Err r) e = refused_for r e

  tree_for : (r : ParseRefused) (x : Tree) → Refuses r (run 64 (length text) start (tokens text)) → run 64 (length text) start (tokens text) ≡ Ok x → Refused r (Ok x)
  tree_for refused.Memory x e f = tt
  tree_for (refused.Bad at c) x e f = absurd (cc)

  pub ended_tree : (answer : Result Tree ParseRefused) → Ends answer (run 64 (length text) start (tokens text)) → (x : Tree) → IsRead (tokens text) x → Returns answer (Ok x)
  ended_tree (Ok y) e x r = let f = complete 64 (length text) (tokens text) x r in let same : y ≡ x = cc in ap Ok same
  ended_tree (Err q) e x r = tree_for q x e (complete 64 (length text) (tokens text) x r)

  fault_for : (r : ParseRefused) (at : ℕ) (c : ParseCause) → Refuses r (run 64 (length text) start (tokens text)) → run 64 (length text) start (tokens text) ≡ Err (at, c) → Refused r (Err (refused.Bad at c))
  fault_for refused.Memory at c e f = tt
  fault_for (refused.Bad place d) at c e f = let p = err_pair {X = Tree} place at d c (sym e ∙ f) in ap (λ a. Err (refused.Bad a d)) p.0 ∙ ap (λ b. Err (refused.Bad at b)) p.1

  pub ended_fault : (answer : Result Tree ParseRefused) → Ends answer (run 64 (length text) start (tokens text)) → (at : ℕ) (c : ParseCause) → IsFirstFault (tokens text) (length text) at c → Returns answer (Err (refused.Bad at c))
  ended_fault (Ok y) e at c f = let g = fault_complete (tokens text) (length text) at c f in absurd (cc)
  ended_fault (Err q) e at c f = fault_for q at c e (fault_complete (tokens text) (length text) at c f)

some_by : (ts : List Token) (end : ℕ) (r : Result Tree Fault) → run 64 end start ts ≡ r → ((x : Tree) × IsRead ts x) ⊎ ((at : ℕ) × (c : ParseCause) × IsFirstFault ts end at c)
some_by ts end (Ok x) e = inl (x, read_of ts end x e)
some_by ts end (Err f) e = inr (f.0, f.1, fault_sound ts end f.0 f.1 e)

pub some_answer : (ts : List Token) (end : ℕ) → ((x : Tree) × IsRead ts x) ⊎ ((at : ℕ) × (c : ParseCause) × IsFirstFault ts end at c)
some_answer ts end = some_by ts end (run 64 end start ts) refl

pub one_tree : (ts : List Token) (x y : Tree) → IsRead ts x → IsRead ts y → x ≡ y
one_tree ts x y r s = let e = complete 64 0 ts x r in let f = complete 64 0 ts y s in cc

pub one_fault : (ts : List Token) (end at place : ℕ) (c d : ParseCause) → IsFirstFault ts end at c → IsFirstFault ts end place d → (at ≡ place) × (c ≡ d)
one_fault ts end at place c d f g = err_pair {X = Tree} at place c d (sym (fault_complete ts end at c f) ∙ fault_complete ts end place d g)

pub never_both : (ts : List Token) (end at : ℕ) (c : ParseCause) (x : Tree) → IsRead ts x → IsFirstFault ts end at c → ⊥
never_both ts end at c x r f = let e = complete 64 end ts x r in let g = fault_complete ts end at c f in cc
