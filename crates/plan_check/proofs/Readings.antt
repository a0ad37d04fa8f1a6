-- What the text of an expression is read as.
use Rattle.std.proofs.Common.{◌≡◌, ℕ, List, [], length, Ok, Err}
use Rattle.plan_types.specs.declared.tree.Tree.{Tree}
use Rattle.expr_parse.specs.Faults.{IsRead, IsFirstFault}
use Rattle.expr_parse.specs.Tokens.{tokens}
use Rattle.expr_parse.specs.declared.refusal.ParseCause.{ParseCause}
use Rattle.expr_parse.specs.declared.frame.Want.TheVariants as want
use Rattle.expr_parse.proofs.Complete.{complete}
use Rattle.expr_parse.proofs.Sound.{none}
use Rattle.expr_parse.proofs.Steps.{run_sound}
use Rattle.expr_parse.proofs.Stops.{fault_sound, fault_complete}
use Rattle.plan_check.specs.Expressions.{parsed}

pub tree-read : (text : List ℕ) (x : Tree) → parsed text ≡ Ok x → IsRead (tokens text) x
tree-read text x e = run_sound 64 (tokens text) (length text) x (tokens text) (want.Operand, []) none e

pub parsed-tree : (text : List ℕ) (x : Tree) → IsRead (tokens text) x → parsed text ≡ Ok x
parsed-tree text x r = complete 64 (length text) (tokens text) x r

pub fault-first : (text : List ℕ) (at : ℕ) (c : ParseCause) → parsed text ≡ Err (at, c) → IsFirstFault (tokens text) (length text) at c
fault-first text at c e = fault_sound (tokens text) (length text) at c e

pub parsed-fault : (text : List ℕ) (at : ℕ) (c : ParseCause) → IsFirstFault (tokens text) (length text) at c → parsed text ≡ Err (at, c)
parsed-fault text at c f = fault_complete (tokens text) (length text) at c f
