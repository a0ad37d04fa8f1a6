-- Words are ASCII, so the text may be cut behind them.
use Rattle.std.proofs.Common.{◌≡◌, ℕ, zero, suc, ◌+◌, ◌-◌, ◌<◌, ◌≤◌, List, [], ◌∷◌, length, get_or, drop, Bool, true, false, cond, refl, ap, ◌∙◌, subst, arith, length-drop, get_or-drop}
use Rattle.std.specs.List.{prefix_len}
use Rattle.std.specs.Str.{IsUtf8, IsCharBoundary}
use Rattle.std.proofs.lemmas.Str.{IsCharBoundary-after_ascii}
use Rattle.std.proofs.lemmas.Bool.Decides.{nat_tests}
use Rattle.expr_parse.specs.Tokens.{begins_word, goes_on_word}

passes_by : (p : ℕ → Bool) (b : ℕ) (bs : List ℕ) (i : ℕ) (t : Bool) → p b ≡ t → i < cond t (1 + prefix_len p bs) 0 → ((j : ℕ) → j < prefix_len p bs → p (get_or bs j 0) ≡ true) → p (get_or (b ∷ bs) i 0) ≡ true
passes_by p b bs i false e h go = absurd (omega arith)
passes_by p b bs zero true e h go = e
passes_by p b bs (suc i) true e h go = go i (omega arith)

pub prefix_passes : (p : ℕ → Bool) (bs : List ℕ) (i : ℕ) → i < prefix_len p bs → p (get_or bs i 0) ≡ true
prefix_passes p [] i h = absurd (omega arith)
prefix_passes p (b ∷ bs) i h = passes_by p b bs i (p b) refl h (λ j k. prefix_passes p bs j k)

goes_on_low : (b : ℕ) → goes_on_word b ≡ true → b < 128
goes_on_low b e = grind (arith, nat_tests)

begins_goes_on : (b : ℕ) → begins_word b ≡ true → goes_on_word b ≡ true
begins_goes_on b e = grind (arith, nat_tests)

pub prefix_some : (p : ℕ → Bool) (bs : List ℕ) → 0 < length bs → p (get_or bs 0 0) ≡ true → 1 ≤ prefix_len p bs
prefix_some p [] h e = absurd (omega arith)
prefix_some p (b ∷ bs) h e = rw e (omega arith)

pub word_some : (bs : List ℕ) → 0 < length bs → begins_word (get_or bs 0 0) ≡ true → 1 ≤ prefix_len goes_on_word bs
word_some bs h e = prefix_some goes_on_word bs h (begins_goes_on (get_or bs 0 0) e)

drop_read : (xs : List ℕ) (i j k : ℕ) → i + j ≡ k → get_or (drop i xs) j 0 ≡ get_or xs k 0
drop_read xs i j k e = rw get_or-drop (ap (λ n. get_or xs n 0) e)

pub word_end : (text : List ℕ) (at len : ℕ) → IsUtf8 text → at < length text → begins_word (get_or text at 0) ≡ true → len ≡ prefix_len goes_on_word (drop at text) → len ≤ length (drop at text) → IsCharBoundary text (at + len)
word_end text at len u h e l w =
    let first : begins_word (get_or (drop at text) 0 0) ≡ true = ap begins_word (drop_read text at 0 at (omega arith)) ∙ e in
    let some : 1 ≤ len = omega (arith, word_some (drop at text) (omega (arith, length-drop at text)) first) in
    let low : get_or (drop at text) (len - 1) 0 < 128 = goes_on_low (get_or (drop at text) (len - 1) 0) (prefix_passes goes_on_word (drop at text) (len - 1) (omega arith)) in
    let here : get_or text (at + len - 1) 0 < 128 = let d = drop_read text at (len - 1) (at + len - 1) (omega arith) in omega arith in
    let b = IsCharBoundary-after_ascii text (at + len - 1) u (omega (arith, length-drop at text)) here in
    let same : at + len - 1 + 1 ≡ at + len = omega arith in
    subst (λ n. IsCharBoundary text n) same b
