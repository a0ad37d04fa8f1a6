-- The tokens from a place on, and the machine's run over them.
use Rattle.std.proofs.Common.{◌≡◌, ℕ, zero, suc, ◌+◌, ◌-◌, ◌<◌, ◌≤◌, List, [], ◌∷◌, length, get_or, drop, true, false, Ok, refl, sym, ap, ◌∙◌, arith}
use Rattle.std.proofs.lemmas.List.{at_drop_more, drop-drop}
use Rattle.expr_parse.specs.declared.token.Lexeme.{Lexeme}
use Rattle.expr_parse.specs.declared.frame.Frame.{Frame}
use Rattle.expr_parse.specs.declared.frame.Want.{Want}
use Rattle.expr_parse.specs.Grammar.{token}
use Rattle.expr_parse.specs.Machine.{step, next, run}
use Rattle.expr_parse.specs.Tokens.{is_blank, front_token, tokens_from}

skips : (bs : List ℕ) (at n : ℕ) → tokens_from at n bs ≡ tokens_from (at + n) 0 (drop n bs)
skips [] at zero = refl
skips [] at (suc n) = refl
skips (b ∷ bs) at zero = let e : at ≡ at + 0 = omega arith in ap (λ p. tokens_from p 0 (b ∷ bs)) e
skips (b ∷ bs) at (suc n) = let e : at + 1 + n ≡ at + suc n = omega arith in skips bs (at + 1) n ∙ ap (λ p. tokens_from p 0 (drop n bs)) e

blank : (at b : ℕ) (bs : List ℕ) → is_blank b ≡ true → tokens_from at 0 (b ∷ bs) ≡ tokens_from (at + 1) 0 bs
blank at b bs e = rw e refl

front : (at b : ℕ) (bs : List ℕ) → is_blank b ≡ false → tokens_from at 0 (b ∷ bs) ≡ token at (front_token b (b ∷ bs)).kind ∷ tokens_from (at + 1) ((front_token b (b ∷ bs)).length - 1) bs
front at b bs e = rw e refl

pub past_blank : (text : List ℕ) (at : ℕ) → at < length text → is_blank (get_or text at 0) ≡ true → tokens_from at 0 (drop at text) ≡ tokens_from (at + 1) 0 (drop (at + 1) text)
past_blank text at h e = at_drop_more (tokens_from at 0) text at 0 h ∙ blank at (get_or text at 0) (drop (at + 1) text) e

pub past_token : (text : List ℕ) (at : ℕ) (l : Lexeme) → at < length text → is_blank (get_or text at 0) ≡ false → l ≡ front_token (get_or text at 0) (drop at text) → 1 ≤ l.length → tokens_from at 0 (drop at text) ≡ token at l.kind ∷ tokens_from (at + l.length) 0 (drop (at + l.length) text)
past_token text at l h e f some =
    let b = get_or text at 0 in
    let bs = drop (at + 1) text in
    let whole : drop at text ≡ b ∷ bs = at_drop_more (λ ys. ys) text at 0 h in
    let g : front_token b (b ∷ bs) ≡ l = ap (front_token b) (sym whole) ∙ sym f in
    let n : at + 1 + (l.length - 1) ≡ at + l.length = omega arith in
    let rest : drop (l.length - 1) bs ≡ drop (at + l.length) text = drop-drop (l.length - 1) (at + 1) text ∙ ap (λ k. drop k text) (omega arith) in
    at_drop_more (tokens_from at 0) text at 0 h ∙ front at b bs e ∙ ap (λ t. token at t.kind ∷ tokens_from (at + 1) (t.length - 1) bs) g ∙ ap (λ ts. token at l.kind ∷ ts) (skips bs (at + 1) (l.length - 1) ∙ ap (λ p. tokens_from p 0 (drop (l.length - 1) bs)) n ∙ ap (λ ys. tokens_from (at + l.length) 0 ys) rest)

-- one step of the machine over the next token
pub run_token : (room end at : ℕ) (w v : Want) (fs gs : List Frame) (text : List ℕ) (l : Lexeme) → at < length text → is_blank (get_or text at 0) ≡ false → l ≡ front_token (get_or text at 0) (drop at text) → 1 ≤ l.length → step room (w, fs) (token at l.kind) ≡ Ok (v, gs) → run room end (w, fs) (tokens_from at 0 (drop at text)) ≡ run room end (v, gs) (tokens_from (at + l.length) 0 (drop (at + l.length) text))
run_token room end at w v fs gs text l h e f some s =
    ap (run room end (w, fs)) (past_token text at l h e f some) ∙ ap (λ r. next at r (λ u. run room end u (tokens_from (at + l.length) 0 (drop (at + l.length) text)))) s
