-- Lemmas on lists of bytes that are cut at a place.
use Rattle.std.proofs.Common.{◌≡◌, ℕ, zero, suc, ◌+◌, ◌-◌, ◌<◌, ◌≤◌, ◌==◌, min, Bool, true, false, List, [], ◌∷◌, ◌++◌, length, take, drop, get_or, None, Some, Option, MatchOption, refl, sym, ap, ◌∙◌, subst, arith, take-append-drop, length-take, length-drop}
use Rattle.std.proofs.Math.Seq.{take-append_seam, take-length}
use Rattle.std.proofs.lemmas.Bool.{eqb-true}
use Rattle.std.proofs.lemmas.List.{drop-drop, drop-take, drop_more, drop_all}
use Rattle.io_ends.specs.Lines.{NoEnd}
use Rattle.memchr.specs.Find.{IsFirstByte, is_byte}

-- no line ends in the first n bytes, where none of them is byte 10
no_end_below : (bytes : List ℕ) (n : ℕ) → ((k : ℕ) → k < n → k < length bytes → (get_or bytes k 0 == 10) ≡ false) → NoEnd (take n bytes)
no_end_below bytes zero h = refl
no_end_below [] (suc n) h = refl
no_end_below (b ∷ bytes) (suc n) h =
    let first : (b == 10) ≡ false = h 0 (omega arith) (omega arith) in
    rw first (no_end_below bytes n (λ k low below. h (suc k) (omega arith) (omega arith)))

false_from : (t : Bool) → (t ≡ true → ⊥) → t ≡ false
false_from true h = absurd (h refl)
false_from false h = refl

pub end_from_memchr : (bytes : List ℕ) (r : Option ℕ) → IsFirstByte (is_byte 10) bytes r
    → MatchOption r (NoEnd bytes) (λ at. (at < length bytes) × (get_or bytes at 0 ≡ 10) × NoEnd (take at bytes))
end_from_memchr bytes None h =
    subst NoEnd (take-length bytes) (no_end_below bytes (length bytes) (λ k low below. false_from _ (h k (omega arith) below)))
end_from_memchr bytes (Some at) h =
    (h.0.high, eqb-true (get_or bytes at 0) 10 h.1, no_end_below bytes at (λ k low below. false_from _ (h.0.before k (omega arith) low)))

-- what stands between two places, cut at a byte 10 within
pub cut_at : (items : List ℕ) (from to at : ℕ) → at < length (take (to - from) (drop from items)) → get_or (take (to - from) (drop from items)) at 0 ≡ 10
    → take (to - from) (drop from items) ≡ take at (take (to - from) (drop from items)) ++ 10 ∷ take (to - (from + (at + 1))) (drop (from + (at + 1)) items)
cut_at items from to at below is =
    let all : List ℕ = take (to - from) (drop from items) in
    let size : to - from ≡ (at + 1) + (to - (from + (at + 1))) = omega (arith, length-take (to - from) (drop from items)) in
    let tail : drop (at + 1) all ≡ take (to - (from + (at + 1))) (drop (from + (at + 1)) items) =
    ap (λ n. drop (at + 1) (take n (drop from items))) size ∙ drop-take (at + 1) (to - (from + (at + 1))) (drop from items) ∙ ap (take (to - (from + (at + 1)))) (drop-drop (at + 1) from items) in
    let rest : drop at all ≡ 10 ∷ drop (at + 1) all = drop_more all at 0 below ∙ ap (λ b. b ∷ drop (at + 1) all) is in
    sym (take-append-drop at all) ∙ ap (λ l. take at all ++ l) (rest ∙ ap (λ l. 10 ∷ l) tail)

-- n bytes that were copied to the front of a piece are the next n of what was left
pub copied_front : (bytes copy rest : List ℕ) (from n : ℕ) → copy ≡ take n (drop from bytes) → n ≤ length (drop from bytes)
    → drop from bytes ≡ take n (copy ++ rest) ++ drop (from + n) bytes
copied_front bytes copy rest from n e fits =
    let size : length copy ≡ n = ap length e ∙ length-take n (drop from bytes) ∙ omega arith in
    let front : take n (copy ++ rest) ≡ copy = ap (λ k. take k (copy ++ rest)) (sym size) ∙ take-append_seam copy rest in
    sym (take-append-drop n (drop from bytes)) ∙ ap (λ l. l ++ drop n (drop from bytes)) (sym e ∙ sym front) ∙ ap (λ l. take n (copy ++ rest) ++ l) (drop-drop n from bytes)

-- none are given of a piece with room only where none is left
pub none_left : (bytes : List ℕ) (from piece room n : ℕ) → n ≡ min (min piece room) (length (drop from bytes)) → 0 < piece → 0 < room → n ≡ 0 → drop (from + n) bytes ≡ []
none_left bytes from piece room n e some has none = drop_all (from + n) bytes (omega (arith, length-drop from bytes))
