-- The items at positions from one up to and without another.
use Rattle.std.proofs.Common.{◌≡◌, ℕ, zero, suc, ◌+◌, ◌-◌, ◌<◌, ◌≤◌, min, List, [], ◌∷◌, ◌++◌, length, map, take, drop, Bor, append_assoc, refl, sym, ap, ◌∙◌, arith}

abbrev part : {T : Type 0} → ℕ → ℕ → List T → List T
part from to xs = take (to - from) (drop from xs)

take_none : {T : Type 0} (n : ℕ) → take {A = T} n [] ≡ []
take_none zero = refl
take_none (suc n) = refl

drop_none : {T : Type 0} (n : ℕ) → drop {A = T} n [] ≡ []
drop_none zero = refl
drop_none (suc n) = refl

pub part-none : {T : Type 0} (from to : ℕ) (xs : List T) → to ≤ from → part from to xs ≡ []
part-none from to xs le = ap (λ n. take n (drop from xs)) (let e : to - from ≡ 0 = omega arith in e)

part-nil : {T : Type 0} (from to : ℕ) → part {T = T} from to [] ≡ []
part-nil zero to = take_none (to - 0)
part-nil (suc from) to = take_none (to - suc from)

part-first : {T : Type 0} (to : ℕ) (x : T) (xs : List T) → part 0 (suc to) (x ∷ xs) ≡ x ∷ part 0 to xs
part-first to x xs = ap (λ n. take n (x ∷ xs)) (let e : suc to - 0 ≡ suc to = omega arith in e) ∙ ap (λ n. x ∷ take n xs) (let e : to ≡ to - 0 = omega arith in e)

part-later : {T : Type 0} (from to : ℕ) (x : T) (xs : List T) → part (suc from) (suc to) (x ∷ xs) ≡ part from to xs
part-later from to x xs = ap (λ n. take n (drop from xs)) (let e : suc to - suc from ≡ to - from = omega arith in e)

-- of two lists, one behind the other
pub part-append : {T : Type 0} (from to : ℕ) (l r : List T) → part from to (l ++ r) ≡ part from (min to (length l)) l ++ part (from - length l) (to - length l) r
part-append {T} from to [] r =
    ap (λ n. part n to r) (let e : from ≡ from - 0 = omega arith in e)
    ∙ ap (λ n. part (from - 0) n r) (let e : to ≡ to - 0 = omega arith in e)
    ∙ ap (λ xs. xs ++ part (from - 0) (to - 0) r) (sym (part-nil {T = T} from (min to 0)))
part-append from zero (y ∷ l) r =
    part-none from 0 (y ∷ (l ++ r)) (omega arith)
    ∙ sym (part-none (from - suc (length l)) (0 - suc (length l)) r (omega arith))
    ∙ ap (λ xs. xs ++ part (from - suc (length l)) (0 - suc (length l)) r) (sym (part-none from (min 0 (suc (length l))) (y ∷ l) (omega arith)))
part-append zero (suc to) (y ∷ l) r =
    part-first to y (l ++ r) ∙ ap (λ xs. y ∷ xs) (part-append 0 to l r)
    ∙ ap (λ xs. xs ++ part (0 - length l) (to - length l) r)
    (sym (part-first (min to (length l)) y l) ∙ ap (λ n. part 0 n (y ∷ l)) (let e : suc (min to (length l)) ≡ min (suc to) (suc (length l)) = omega arith in e))
    ∙ ap (λ n. part 0 (min (suc to) (suc (length l))) (y ∷ l) ++ part n (to - length l) r) (let e : 0 - length l ≡ 0 - suc (length l) = omega arith in e)
    ∙ ap (λ n. part 0 (min (suc to) (suc (length l))) (y ∷ l) ++ part (0 - suc (length l)) n r) (let e : to - length l ≡ suc to - suc (length l) = omega arith in e)
part-append (suc from) (suc to) (y ∷ l) r =
    part-later from to y (l ++ r) ∙ part-append from to l r
    ∙ ap (λ xs. xs ++ part (from - length l) (to - length l) r)
    (sym (part-later from (min to (length l)) y l) ∙ ap (λ n. part (suc from) n (y ∷ l)) (let e : suc (min to (length l)) ≡ min (suc to) (suc (length l)) = omega arith in e))
    ∙ ap (λ n. part (suc from) (min (suc to) (suc (length l))) (y ∷ l) ++ part n (to - length l) r) (let e : from - length l ≡ suc from - suc (length l) = omega arith in e)
    ∙ ap (λ n. part (suc from) (min (suc to) (suc (length l))) (y ∷ l) ++ part (suc from - suc (length l)) n r) (let e : to - length l ≡ suc to - suc (length l) = omega arith in e)

-- one item, at position at
pub part-inside : {T : Type 0} (from to at : ℕ) (x : T) → from ≤ at → at < to → part (from - at) (to - at) (x ∷ []) ≡ x ∷ []
part-inside from to at x past before =
    ap (λ n. part n (to - at) (x ∷ [])) (let e : from - at ≡ 0 = omega arith in e)
    ∙ ap (λ n. part 0 n (x ∷ [])) (let e : to - at ≡ suc (to - at - 1) = omega arith in e)
    ∙ part-first (to - at - 1) x [] ∙ ap (λ xs. x ∷ xs) (part-nil 0 (to - at - 1))

pub part-before : {T : Type 0} (from to at : ℕ) (x : T) → at < from → part (from - at) (to - at) (x ∷ []) ≡ []
part-before {T} from to at x past =
    ap (λ n. part n (to - at) (x ∷ [])) (let e : from - at ≡ suc (from - at - 1) = omega arith in e)
    ∙ ap (λ xs. take (to - at - suc (from - at - 1)) xs) (drop_none {T = T} (from - at - 1)) ∙ take_none {T = T} (to - at - suc (from - at - 1))

pub part-past : {T : Type 0} (from to at : ℕ) (x : T) → to ≤ at → part (from - at) (to - at) (x ∷ []) ≡ []
part-past from to at x past = part-none (from - at) (to - at) (x ∷ []) (omega arith)

-- ---- around an item

part-cons : {T : Type 0} (from to : ℕ) (x : T) (r : List T) → part from to (x ∷ r) ≡ part from to (x ∷ []) ++ part (from - 1) (to - 1) r
part-cons from zero x r =
    part-none from 0 (x ∷ r) (omega arith) ∙ sym (part-none (from - 1) (0 - 1) r (omega arith))
    ∙ ap (λ xs. xs ++ part (from - 1) (0 - 1) r) (sym (part-none from 0 (x ∷ []) (omega arith)))
part-cons {T} zero (suc to) x r =
    part-first to x r
    ∙ ap (λ n. x ∷ part n to r) (let e : 0 ≡ 0 - 1 = omega arith in e)
    ∙ ap (λ n. x ∷ part (0 - 1) n r) (let e : to ≡ suc to - 1 = omega arith in e)
    ∙ ap (λ xs. x ∷ xs ++ part (0 - 1) (suc to - 1) r) (sym (part-nil {T = T} 0 to))
    ∙ ap (λ xs. xs ++ part (0 - 1) (suc to - 1) r) (sym (part-first to x []))
part-cons {T} (suc from) (suc to) x r =
    part-later from to x r
    ∙ ap (λ n. part n to r) (let e : from ≡ suc from - 1 = omega arith in e)
    ∙ ap (λ n. part (suc from - 1) n r) (let e : to ≡ suc to - 1 = omega arith in e)
    ∙ ap (λ xs. xs ++ part (suc from - 1) (suc to - 1) r) (sym (part-later from to x [] ∙ part-nil {T = T} from to))

-- what stands before the item, the item, and what stands after it
pub part-between : {T : Type 0} (l : List T) (x : T) (r : List T) (from to : ℕ)
    → part from to (l ++ x ∷ r) ≡ part from (min to (length l)) l ++ (part (from - length l) (to - length l) (x ∷ []) ++ part (from - (length l + 1)) (to - (length l + 1)) r)
part-between l x r from to =
    part-append from to l (x ∷ r)
    ∙ ap (λ xs. part from (min to (length l)) l ++ xs) (part-cons (from - length l) (to - length l) x r)
    ∙ ap (λ n. part from (min to (length l)) l ++ (part (from - length l) (to - length l) (x ∷ []) ++ part n (to - length l - 1) r)) (let e : from - length l - 1 ≡ from - (length l + 1) = omega arith in e)
    ∙ ap (λ n. part from (min to (length l)) l ++ (part (from - length l) (to - length l) (x ∷ []) ++ part (from - (length l + 1)) n r)) (let e : to - length l - 1 ≡ to - (length l + 1) = omega arith in e)

-- four lists, one behind the other
pub appended : {T : Type 0} (f0 p1 p2 p3 f1 f2 f3 : List T) → f1 ≡ f0 ++ p1 → f2 ≡ f1 ++ p2 → f3 ≡ f2 ++ p3 → f3 ≡ f0 ++ (p1 ++ (p2 ++ p3))
appended f0 p1 p2 p3 f1 f2 f3 first second third =
    third ∙ ap (λ xs. xs ++ p3) second ∙ ap (λ xs. (xs ++ p2) ++ p3) first
    ∙ append_assoc (f0 ++ p1) p2 p3 ∙ append_assoc f0 p1 (p2 ++ p3)

-- what stands before the item was put behind what was there, then the item where it is within, and then what stands after it
pub collected : {T : Type 0} (items l r : List T) (x : T) (from to n m a b : ℕ) (f0 f1 f2 f3 : List T) → items ≡ l ++ x ∷ r → n ≡ length l → m ≡ min to n → a ≡ from - (n + 1) → b ≡ to - (n + 1)
    → f1 ≡ f0 ++ take (m - from) (drop from l) → f2 ≡ f1 ++ take (to - n - (from - n)) (drop (from - n) (x ∷ [])) → f3 ≡ f2 ++ take (b - a) (drop a r)
    → f3 ≡ f0 ++ take (to - from) (drop from items)
collected items l r x from to n m a b f0 f1 f2 f3 whole count least past end first second third =
    appended f0 (part from (min to (length l)) l) (part (from - length l) (to - length l) (x ∷ [])) (part (from - (length l + 1)) (to - (length l + 1)) r) f1 f2 f3
    (first ∙ ap (λ k. f0 ++ part from k l) (least ∙ ap (min to) count))
    (second ∙ ap (λ k. f1 ++ part (from - k) (to - k) (x ∷ [])) count)
    (third ∙ ap (λ k. f2 ++ part k b r) (past ∙ ap (λ k. from - (k + 1)) count) ∙ ap (λ k. f2 ++ part (from - (length l + 1)) k r) (end ∙ ap (λ k. to - (k + 1)) count))
    ∙ ap (λ xs. f0 ++ xs) (sym (part-between l x r from to)) ∙ ap (λ xs. f0 ++ part from to xs) (sym whole)

-- what references point to
abbrev pub lent : {T : Type 0} → List (Bor T) → List T
lent xs = map (λ x. x.now) xs
