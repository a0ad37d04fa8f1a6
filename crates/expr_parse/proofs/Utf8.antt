-- What stands between quotes is text, also once its escapes are undone.
use Rattle.std.proofs.Common.{◌≡◌, ℕ, ◌+◌, ◌/◌, ◌%◌, ◌<◌, List, [], ◌∷◌, ◌++◌, Bool, true, false, cond, eqb, ltb, ◌&&◌, refl, sym, ap, ◌∙◌, subst, arith}
use Rattle.std.proofs.lemmas.Bool.{and_parts}
use Rattle.std.proofs.lemmas.Bool.Decides.{nat_tests}
use Rattle.std.proofs.Math.Utf8.{encode, encodes, scalar, scalars}
use Rattle.std.specs.Str.{IsUtf8}
use Rattle.expr_parse.specs.Tokens.{plain}

-- one character, escaped, or any but a backslash
record Kept (xs : List ℕ) : Type 0 where
  whole : (ys : List ℕ) → (plain true (xs ++ ys) ≡ xs ++ plain false ys)

record Passed (xs : List ℕ) : Type 0 where
  whole : (ys : List ℕ) → (plain false (xs ++ ys) ≡ xs ++ plain false ys)

by_cond : (P : List ℕ → Type 0) (b : Bool) (xs ys : List ℕ) → (b ≡ true → P xs) → (b ≡ false → P ys) → P (cond b xs ys)
by_cond P true xs ys h k = h refl
by_cond P false xs ys h k = k refl

not_escape : (b : ℕ) (bs : List ℕ) → (b ≡ 92 → ⊥) → plain false (b ∷ bs) ≡ b ∷ plain false bs
unfolding plain
not_escape b bs h = let e : eqb b 92 ≡ false = grind (arith, nat_tests) in rw e refl

escaped : (b : ℕ) (bs : List ℕ) → plain true (b ∷ bs) ≡ b ∷ plain false bs
unfolding plain
escaped b bs = refl

begins_escape : (bs : List ℕ) → plain false (92 ∷ bs) ≡ plain true bs
unfolding plain
begins_escape bs = refl

passed_one : (b : ℕ) → (b ≡ 92 → ⊥) → (xs : List ℕ) → Passed xs → Passed (b ∷ xs)
passed_one b h xs p = record { whole = λ ys. not_escape b (xs ++ ys) h ∙ ap (λ zs. b ∷ zs) (p.whole ys) }

kept_one : (b : ℕ) (xs : List ℕ) → Passed xs → Kept (b ∷ xs)
kept_one b xs p = record { whole = λ ys. escaped b (xs ++ ys) ∙ ap (λ zs. b ∷ zs) (p.whole ys) }

none_passed : Passed []
none_passed = record { whole = λ ys. refl }

next_high : (n : ℕ) → 128 + n % 64 ≡ 92 → ⊥
next_high n e = absurd (omega arith)

-- the bytes of a character behind its first
abbrev tail_one : ℕ → List ℕ
tail_one c = (128 + c % 64) ∷ []

abbrev tail_two : ℕ → List ℕ
tail_two c = (128 + (c / 64) % 64) ∷ tail_one c

abbrev tail_three : ℕ → List ℕ
tail_three c = (128 + (c / 4096) % 64) ∷ tail_two c

passed_tail_one : (c : ℕ) → Passed (tail_one c)
passed_tail_one c = passed_one (128 + c % 64) (next_high c) [] none_passed

passed_tail_two : (c : ℕ) → Passed (tail_two c)
passed_tail_two c = passed_one (128 + (c / 64) % 64) (next_high (c / 64)) (tail_one c) (passed_tail_one c)

passed_tail_three : (c : ℕ) → Passed (tail_three c)
passed_tail_three c = passed_one (128 + (c / 4096) % 64) (next_high (c / 4096)) (tail_two c) (passed_tail_two c)

by_length : (P : List ℕ → Type 0) (c : ℕ) → P (c ∷ []) → P ((192 + c / 64) ∷ tail_one c) → P ((224 + c / 4096) ∷ tail_two c) → P ((240 + c / 262144) ∷ tail_three c) → P (encode c)
unfolding encode
by_length P c one two three four =
    by_cond P (ltb c 128) (c ∷ []) (cond (ltb c 2048) ((192 + c / 64) ∷ tail_one c) (cond (ltb c 65536) ((224 + c / 4096) ∷ tail_two c) ((240 + c / 262144) ∷ tail_three c))) (λ e. one) (λ e.
    by_cond P (ltb c 2048) ((192 + c / 64) ∷ tail_one c) (cond (ltb c 65536) ((224 + c / 4096) ∷ tail_two c) ((240 + c / 262144) ∷ tail_three c)) (λ f. two) (λ f.
    by_cond P (ltb c 65536) ((224 + c / 4096) ∷ tail_two c) ((240 + c / 262144) ∷ tail_three c) (λ g. three) (λ g. four)))

kept_char : (c : ℕ) → Kept (encode c)
kept_char c =
    by_length Kept c (kept_one c [] none_passed) (kept_one (192 + c / 64) (tail_one c) (passed_tail_one c)) (kept_one (224 + c / 4096) (tail_two c) (passed_tail_two c)) (kept_one (240 + c / 262144) (tail_three c) (passed_tail_three c))

lead_high : (k n : ℕ) → 92 < k → k + n ≡ 92 → ⊥
lead_high k n h e = absurd (omega arith)

passed_char : (c : ℕ) → (c ≡ 92 → ⊥) → Passed (encode c)
passed_char c h =
    by_length Passed c (passed_one c h [] none_passed)
    (passed_one (192 + c / 64) (lead_high 192 (c / 64) (omega arith)) (tail_one c) (passed_tail_one c))
    (passed_one (224 + c / 4096) (lead_high 224 (c / 4096) (omega arith)) (tail_two c) (passed_tail_two c))
    (passed_one (240 + c / 262144) (lead_high 240 (c / 262144) (omega arith)) (tail_three c) (passed_tail_three c))

backslash : (zs : List ℕ) → plain false (encode 92 ++ zs) ≡ plain true zs
unfolding plain encode
backslash zs = refl

is_backslash : (c : ℕ) → eqb c 92 ≡ true → c ≡ 92
is_backslash c e = grind (arith, nat_tests)

no_backslash : (c : ℕ) → eqb c 92 ≡ false → c ≡ 92 → ⊥
no_backslash c e h = grind (arith, nat_tests)

plain_char : (c : ℕ) (cs : List ℕ) (b : Bool) → eqb c 92 ≡ b → plain true (encodes cs) ≡ encodes (plain true cs) → plain false (encodes cs) ≡ encodes (plain false cs) → plain false (encode c ++ encodes cs) ≡ encodes (plain false (c ∷ cs))
plain_char c cs true e h k =
    subst (λ n. plain false (encode n ++ encodes cs) ≡ encodes (plain false (n ∷ cs))) (sym (is_backslash c e)) (backslash (encodes cs) ∙ h ∙ ap encodes (sym (begins_escape cs)))
plain_char c cs false e h k =
    (passed_char c (no_backslash c e)).whole (encodes cs) ∙ ap (λ zs. encode c ++ zs) k ∙ ap encodes (sym (not_escape c cs (no_backslash c e)))

plain_none : (b : Bool) → plain b [] ≡ []
unfolding plain
plain_none b = refl

plain_chars : (cs : List ℕ) (b : Bool) → plain b (encodes cs) ≡ encodes (plain b cs)
plain_chars [] b = plain_none b ∙ ap encodes (sym (plain_none b))
plain_chars (c ∷ cs) true = (kept_char c).whole (encodes cs) ∙ ap (λ zs. encode c ++ zs) (plain_chars cs false) ∙ ap encodes (sym (escaped c cs))
plain_chars (c ∷ cs) false = plain_char c cs (eqb c 92) refl (plain_chars cs true) (plain_chars cs false)

scalars_more : (c : ℕ) (cs : List ℕ) → scalar c ≡ true → scalars cs ≡ true → scalars (c ∷ cs) ≡ true
scalars_more c cs h k = rw h k

plain_scalar : (c : ℕ) (cs : List ℕ) (b : Bool) → eqb c 92 ≡ b → scalar c ≡ true → scalars (plain true cs) ≡ true → scalars (plain false cs) ≡ true → scalars (plain false (c ∷ cs)) ≡ true
plain_scalar c cs true e s h k = subst (λ n. scalars (plain false (n ∷ cs)) ≡ true) (sym (is_backslash c e)) (ap scalars (begins_escape cs) ∙ h)
plain_scalar c cs false e s h k = ap scalars (not_escape c cs (no_backslash c e)) ∙ scalars_more c (plain false cs) s k

plain_scalars : (cs : List ℕ) (b : Bool) → scalars cs ≡ true → scalars (plain b cs) ≡ true
plain_scalars [] b s = ap scalars (plain_none b)
plain_scalars (c ∷ cs) true s = let p = and_parts (scalar c) (scalars cs) s in ap scalars (escaped c cs) ∙ scalars_more c (plain false cs) p.0 (plain_scalars cs false p.1)
plain_scalars (c ∷ cs) false s = let p = and_parts (scalar c) (scalars cs) s in plain_scalar c cs (eqb c 92) refl p.0 (plain_scalars cs true p.1) (plain_scalars cs false p.1)

pub plain_utf8 : (bs : List ℕ) → IsUtf8 bs → IsUtf8 (plain false bs)
plain_utf8 bs (cs, (s, e)) = (plain false cs, (plain_scalars cs false s, sym (plain_chars cs false) ∙ ap (plain false) e))
