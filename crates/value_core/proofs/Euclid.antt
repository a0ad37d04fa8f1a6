-- Two ratios compared by repeated division: first their whole parts, then what is left of each.
use Rattle.std.proofs.Common.{◌≡◌, ℕ, ◌+◌, ◌*◌, ◌/◌, ◌%◌, ◌<◌, ◌≤◌, ◌⊎◌, true, false, sym, ap, ◌∙◌, arith, inl, inr}
use Rattle.std.proofs.Math.Nat.{mul-le-mul_right, mul_comm}
use Rattle.std.proofs.lemmas.Nat.{div-add-mod', mod_below}
use Rattle.std.proofs.lemmas.Cmp.{ranked, by_ranked}
use Rattle.std.specs.declared.cmp.Ordering.{Ordering}
use Rattle.std.specs.declared.cmp.Ordering.TheVariants.{Less, Equal, Greater}
use Rattle.std.specs.Cmp.{nat_cmp_is, ranks}
use Rattle.std.specs.Ordering.{nat_cmp, is_ne}

-- the lesser whole part belongs to the lesser ratio
less_by_wholes : (a b c d : ℕ) → 0 < b → 0 < d → a / b < c / d → a * d < c * b
less_by_wholes a b c d p q l =
    let first = div-add-mod' a b in
    let first_rest = mod_below a b p in
    let second = div-add-mod' c d in
    let above : (a / b + 1) * b ≤ c / d * b = mul-le-mul_right b (omega arith) in
    let first_side : (a + 1) * d ≤ (c / d * b) * d = mul-le-mul_right d (omega arith) in
    let second_side : (c / d * d) * b ≤ c * b = mul-le-mul_right b (omega arith) in
    omega arith

pub ratio_apart : (a b c d : ℕ) → 0 < b → 0 < d → (r : Ordering) → r ≡ nat_cmp (a / b) (c / d) → is_ne r ≡ true → r ≡ nat_cmp (a * d) (c * b)
ratio_apart a b c d p q Less e n =
    nat_cmp_is (a * d) (c * b) Less (less_by_wholes a b c d p q (ranked (a / b) (c / d) Less e))
ratio_apart a b c d p q Equal e n = cc
ratio_apart a b c d p q Greater e n =
    nat_cmp_is (a * d) (c * b) Greater (less_by_wholes c d a b q p (ranked (a / b) (c / d) Greater e))

-- what is added to both sides changes nothing
nat_cmp-add : (k x y : ℕ) → nat_cmp x y ≡ nat_cmp (k + x) (k + y)
nat_cmp-add k x y =
    by_ranked (x < y) (x ≡ y) (y < x) (nat_cmp x y) (ranks x y)
    (λ e l. e ∙ nat_cmp_is (k + x) (k + y) Less (omega arith))
    (λ e l. e ∙ nat_cmp_is (k + x) (k + y) Equal (omega arith))
    (λ e l. e ∙ nat_cmp_is (k + x) (k + y) Greater (omega arith))

same_wholes : (x y : ℕ) (r : Ordering) → r ≡ nat_cmp x y → is_ne r ≡ false → x ≡ y
same_wholes x y Less e n = cc
same_wholes x y Equal e n = ranked x y Equal e
same_wholes x y Greater e n = cc

-- with equal whole parts, what is left decides
pub ratio_rests : (a b c d : ℕ) (r : Ordering) → r ≡ nat_cmp (a / b) (c / d) → is_ne r ≡ false → nat_cmp (a % b * d) (c % d * b) ≡ nat_cmp (a * d) (c * b)
ratio_rests a b c d r e n =
    let same = same_wholes (a / b) (c / d) r e n in
    let first : (a / b * b + a % b) * d ≡ a * d = ap (λ n. n * d) (div-add-mod' a b) in
    let second : (c / d * d + c % d) * b ≡ c * b = ap (λ n. n * b) (div-add-mod' c d) in
    let moved : a / b * (b * d) ≡ c / d * (b * d) = ap (λ n. n * (b * d)) same in
    let left : a / b * b * d + a % b * d ≡ a * d = omega arith in
    let right : a / b * b * d + c % d * b ≡ c * b = omega arith in
    nat_cmp-add (a / b * b * d) (a % b * d) (c % d * b) ∙ (λ i. nat_cmp (left i) (right i))

positive_product : (x k : ℕ) → 0 < k → 0 < x → 0 < x * k
positive_product x k p q =
    let times : 1 * k ≤ x * k = mul-le-mul_right k q in
    omega arith

-- where nothing is left of one, the other decides
pub rest_zero : (x y b d : ℕ) → 0 < b → 0 < d → (x ≡ 0) ⊎ (y ≡ 0) → nat_cmp x y ≡ nat_cmp (x * d) (y * b)
rest_zero x y b d p q (inl e) =
    let none : x * d ≡ 0 * d = ap (λ n. n * d) e in
    by_ranked (x < y) (x ≡ y) (y < x) (nat_cmp x y) (ranks x y)
    (λ f l. let some = positive_product y b p (omega arith) in f ∙ nat_cmp_is (x * d) (y * b) Less (omega arith))
    (λ f l. let also : y * b ≡ 0 * b = ap (λ n. n * b) (sym l ∙ e) in f ∙ nat_cmp_is (x * d) (y * b) Equal (omega arith))
    (λ f l. absurd (omega arith))
rest_zero x y b d p q (inr e) =
    let none : y * b ≡ 0 * b = ap (λ n. n * b) e in
    by_ranked (x < y) (x ≡ y) (y < x) (nat_cmp x y) (ranks x y)
    (λ f l. absurd (omega arith))
    (λ f l. let also : x * d ≡ 0 * d = ap (λ n. n * d) (l ∙ e) in f ∙ nat_cmp_is (x * d) (y * b) Equal (omega arith))
    (λ f l. let some = positive_product x d q (omega arith) in f ∙ nat_cmp_is (x * d) (y * b) Greater (omega arith))

-- the reciprocals stand the other way round
pub reciprocals : (x y b d : ℕ) → nat_cmp (d * x) (b * y) ≡ nat_cmp (x * d) (y * b)
reciprocals x y b d = λ i. nat_cmp (mul_comm d x i) (mul_comm b y i)
