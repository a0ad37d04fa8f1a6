-- Escaped strings, letter by letter.
use Rattle.std.proofs.Common.{◌≡◌, ℕ, suc, ◌<◌, Bool, true, false, cond, ◌||◌, List, [], ◌∷◌, ◌++◌, length, get_or, append_assoc, refl, sym, ap, ◌∙◌, arith}
use Rattle.std.specs.Prelude.{◌==◌, encode_utf8, encode_utf8_all}
use Rattle.std.specs.List.{flat_map}
use Rattle.std.proofs.lemmas.Bool.Decides.{nat_tests}
use Rattle.std.proofs.lemmas.List.{append-nil}
use Rattle.std.proofs.lemmas.List.Concat.{flat_map-append}
use Rattle.std.proofs.lemmas.Str.{encode_ascii, encodes-append, inside_one}
use Rattle.view_spec.specs.Cells.{escaped_byte}

-- a byte that needs no escape
abbrev IsPlain : ℕ → Type 0
IsPlain b = ((b == 92) || (b == 124)) ≡ false

plain_stays : (bs : List ℕ) → ((k : ℕ) → k < length bs → IsPlain (get_or bs k 0)) → flat_map escaped_byte bs ≡ bs
plain_stays [] h = refl
plain_stays (b ∷ bs) h =
    ap (λ t. cond t (92 ∷ b ∷ []) (b ∷ []) ++ flat_map escaped_byte bs) (h 0 (omega arith))
    ∙ ap (λ rest. b ∷ rest) (plain_stays bs (λ k within. h (suc k) (omega arith)))

small : (b : ℕ) → ((b == 92) || (b == 124)) ≡ true → b < 128
small b h = grind (arith, nat_tests)

by_byte : (letter b : ℕ) (t : Bool) → ((b == 92) || (b == 124)) ≡ t → IsPlain letter → (b < 128 → letter ≡ b) → IsPlain b
by_byte letter b false is plain same = is
by_byte letter b true is plain same =
    absurd (let wrong : true ≡ false = sym is ∙ ap (λ x. (x == 92) || (x == 124)) (sym (same (small b is))) ∙ plain in cc)

-- a letter that is neither a bar nor a backslash has neither among its bytes
plain_letter : (letter : ℕ) → IsPlain letter → flat_map escaped_byte (encode_utf8 letter) ≡ encode_utf8 letter
plain_letter letter plain =
    plain_stays (encode_utf8 letter)
    (λ k within. by_byte letter (get_or (encode_utf8 letter) k 0) _ refl plain (inside_one letter [] (encode_utf8 letter) k (sym (append-nil (encode_utf8 letter))) within))

-- a bar or a backslash stands behind a backslash
escaped_letter : (letter : ℕ) → ((letter == 92) || (letter == 124)) ≡ true → flat_map escaped_byte (encode_utf8 letter) ≡ encode_utf8 92 ++ encode_utf8 letter
escaped_letter letter is =
    let one : encode_utf8 letter ≡ letter ∷ [] = encode_ascii letter (small letter is) in
    ap (flat_map escaped_byte) one ∙ ap (λ t. cond t (92 ∷ letter ∷ []) (letter ∷ []) ++ []) is ∙ ap (λ bs. 92 ∷ bs) (sym one)
    ∙ ap (λ bs. bs ++ encode_utf8 letter) (sym (encode_ascii 92 (omega arith)))

pub letter_escaped : (letter : ℕ) (old : List ℕ) → ((letter == 92) || (letter == 124)) ≡ true → (old ++ encode_utf8 92) ++ encode_utf8 letter ≡ old ++ flat_map escaped_byte (encode_utf8 letter)
letter_escaped letter old is = append_assoc old (encode_utf8 92) (encode_utf8 letter) ∙ ap (λ bs. old ++ bs) (sym (escaped_letter letter is))

pub letter_plain : (letter : ℕ) (old : List ℕ) → ((letter == 92) || (letter == 124)) ≡ false → old ++ encode_utf8 letter ≡ old ++ flat_map escaped_byte (encode_utf8 letter)
letter_plain letter old plain = ap (λ bs. old ++ bs) (sym (plain_letter letter plain))

pub one_more_letter : (old letters : List ℕ) (letter : ℕ) (so_far new : List ℕ) → so_far ≡ old ++ flat_map escaped_byte (encode_utf8_all letters)
    → new ≡ so_far ++ flat_map escaped_byte (encode_utf8 letter) → new ≡ old ++ flat_map escaped_byte (encode_utf8_all (letters ++ letter ∷ []))
one_more_letter old letters letter so_far new is made =
    made ∙ ap (λ bs. bs ++ flat_map escaped_byte (encode_utf8 letter)) is
    ∙ append_assoc old (flat_map escaped_byte (encode_utf8_all letters)) (flat_map escaped_byte (encode_utf8 letter))
    ∙ ap (λ bs. old ++ bs) (sym (flat_map-append escaped_byte (encode_utf8_all letters) (encode_utf8 letter)))
    ∙ ap (λ bs. old ++ flat_map escaped_byte (encode_utf8_all letters ++ bs)) (sym (append-nil (encode_utf8 letter)))
    ∙ ap (λ bs. old ++ flat_map escaped_byte bs) (sym (encodes-append letters (letter ∷ [])))
