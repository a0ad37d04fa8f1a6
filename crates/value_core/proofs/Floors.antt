-- Two fractions compared first by the greatest whole number that isn't above each, then by what stands above it.
use Rattle.std.proofs.Common.{◌≡◌, ℕ, ◌+◌, ◌-◌, ◌*◌, ◌/◌, ◌%◌, ◌<◌, ◌≤◌, true, false, sym, ap, ◌∙◌, refl, arith, ℤ, pos, negsuc, ◌+ℤ◌, ◌*ℤ◌, ◌≤ℤ◌, ◌<ℤ◌, unsigned_abs}
use Rattle.std.proofs.Math.Nat.{mul-le-mul_right, mul_comm}
use Rattle.std.proofs.lemmas.Nat.{div-add-mod', mod_below}
use Rattle.std.proofs.lemmas.Int.{ints}
use Rattle.std.proofs.lemmas.Cmp.{by_ranked}
use Rattle.std.specs.declared.cmp.Ordering.{Ordering}
use Rattle.std.specs.declared.cmp.Ordering.TheVariants.{Less, Equal, Greater}
use Rattle.std.specs.Cmp.{int_cmp_is, int_ranked, ranks}
use Rattle.std.specs.Int.{int_div_euclid, int_rem_euclid}
use Rattle.std.specs.Ordering.{nat_cmp, int_cmp, is_ne}
use borrow.Author.Differences.{up, down}
use Rattle.value_core.specs.FractionLaws.{times_pos}

-- a number is its whole part times the divisor and what is left, which is below the divisor
pub euclid_parts : (a : ℤ) (m : ℕ) → 0 < m → (r : ℕ) × (r < m) × (int_rem_euclid a (pos m) ≡ pos r) × (a ≡ int_div_euclid a (pos m) *ℤ pos m +ℤ pos r)
euclid_parts (pos a) m p = (a % m, mod_below a m p, refl, ap pos (sym (div-add-mod' a m)))
euclid_parts (negsuc a) m p =
    let below = mod_below a m p in
    let whole = div-add-mod' a m in
    (m - 1 - a % m, omega arith, refl, omega (arith, ints, times_pos (negsuc (a / m)) m))

-- the same as sums of numbers that aren't negative: A - A' is a number, Q - Q' its whole part by m and r what is left, and so on
floors_apart : (A A' Q Q' C C' T T' m k r s : ℕ) → A + Q' * m ≡ A' + Q * m + r → C + T' * k ≡ C' + T * k + s → r < m → s < k → Q + T' + 1 ≤ T + Q' → A * k + C' * m < C * m + A' * k
floors_apart A A' Q Q' C C' T T' m k r s e f p q l =
    let first : (A + Q' * m) * k ≡ (A' + Q * m + r) * k = ap (λ n. n * k) e in
    let second : (C + T' * k) * m ≡ (C' + T * k + s) * m = ap (λ n. n * m) f in
    let rest : (r + 1) * k ≤ m * k = mul-le-mul_right k (omega arith) in
    let wholes : (Q + T' + 1) * (m * k) ≤ (T + Q') * (m * k) = mul-le-mul_right (m * k) l in
    omega arith

-- the lesser whole part belongs to the lesser fraction
less_by_floors : (a c q t : ℤ) (m k r s : ℕ) → a ≡ q *ℤ pos m +ℤ pos r → c ≡ t *ℤ pos k +ℤ pos s → r < m → s < k → q <ℤ t → (a *ℤ pos k) <ℤ (c *ℤ pos m)
less_by_floors a c q t m k r s e f p g l =
    let below = floors_apart (up a) (down a) (up q) (down q) (up c) (down c) (up t) (down t) m k r s
    (omega (arith, ints, times_pos q m)) (omega (arith, ints, times_pos t k)) p g (omega (arith, ints)) in
    omega (arith, ints, times_pos a k, times_pos c m)

int_cmp-add : (z : ℤ) (x y : ℕ) → nat_cmp x y ≡ int_cmp (z +ℤ pos x) (z +ℤ pos y)
int_cmp-add z x y =
    by_ranked (x < y) (x ≡ y) (y < x) (nat_cmp x y) (ranks x y)
    (λ e l. e ∙ int_cmp_is (z +ℤ pos x) (z +ℤ pos y) Less (omega (arith, ints)))
    (λ e l. e ∙ int_cmp_is (z +ℤ pos x) (z +ℤ pos y) Equal (omega (arith, ints)))
    (λ e l. e ∙ int_cmp_is (z +ℤ pos x) (z +ℤ pos y) Greater (omega (arith, ints)))

-- a fraction times the other's divisor, by its whole part
scaled_by_floor : (a q : ℤ) (m k r : ℕ) → a ≡ q *ℤ pos m +ℤ pos r → q *ℤ pos (m * k) +ℤ pos (r * k) ≡ a *ℤ pos k
scaled_by_floor a q m k r e =
    let parts : up a + down q * m ≡ down a + up q * m + r = omega (arith, ints, times_pos q m) in
    let times : (up a + down q * m) * k ≡ (down a + up q * m + r) * k = ap (λ n. n * k) parts in
    omega (arith, ints, times_pos a k, times_pos q (m * k))

module _ (a c : ℤ) where
  apart_by : (m k : ℕ) → 0 < m → 0 < k → (o : Ordering) → o ≡ int_cmp (int_div_euclid a (pos m)) (int_div_euclid c (pos k)) → is_ne o ≡ true → o ≡ int_cmp (a *ℤ pos k) (c *ℤ pos m)
  apart_by m k p q Less e n =
      let first = euclid_parts a m p in
      let second = euclid_parts c k q in
      int_cmp_is (a *ℤ pos k) (c *ℤ pos m) Less
      (less_by_floors a c (int_div_euclid a (pos m)) (int_div_euclid c (pos k)) m k first.0 second.0 first.3 second.3 first.1 second.1 (int_ranked _ _ Less e))
  apart_by m k p q Equal e n = cc
  apart_by m k p q Greater e n =
      let first = euclid_parts a m p in
      let second = euclid_parts c k q in
      int_cmp_is (a *ℤ pos k) (c *ℤ pos m) Greater
      (less_by_floors c a (int_div_euclid c (pos k)) (int_div_euclid a (pos m)) k m second.0 first.0 second.3 first.3 second.1 first.1 (int_ranked _ _ Greater e))

same_floors : (x y : ℤ) (r : Ordering) → r ≡ int_cmp x y → is_ne r ≡ false → x ≡ y
same_floors x y Less e n = cc
same_floors x y Equal e n = int_ranked x y Equal e
same_floors x y Greater e n = cc

-- the fractions a / b and c / d stand as their whole parts do, where those differ
pub fraction_apart : (a b c d : ℤ) → pos 1 ≤ℤ b → pos 1 ≤ℤ d → (o : Ordering) → o ≡ int_cmp (int_div_euclid a b) (int_div_euclid c d) → is_ne o ≡ true → o ≡ int_cmp (a *ℤ d) (c *ℤ b)
fraction_apart a (pos m) c (pos k) p q o e n = apart_by a c m k (omega (arith, ints)) (omega (arith, ints)) o e n
fraction_apart a (negsuc m) c d p q o e n = absurd p.le
fraction_apart a (pos m) c (negsuc k) p q o e n = absurd q.le

-- with equal whole parts they stand as what is above these does
pub fraction_rests : (a b c d : ℤ) → pos 1 ≤ℤ b → pos 1 ≤ℤ d → (x y : ℕ) → pos x ≡ int_rem_euclid a b → pos y ≡ int_rem_euclid c d → (o : Ordering) → o ≡ int_cmp (int_div_euclid a b) (int_div_euclid c d) → is_ne o ≡ false → nat_cmp (x * unsigned_abs d) (y * unsigned_abs b) ≡ int_cmp (a *ℤ d) (c *ℤ b)
fraction_rests a (pos m) c (pos k) p q x y e f o g n =
    let first = euclid_parts a m (omega (arith, ints)) in
    let second = euclid_parts c k (omega (arith, ints)) in
    let same = same_floors (int_div_euclid a (pos m)) (int_div_euclid c (pos k)) o g n in
    let w = int_div_euclid a (pos m) in
    let left = scaled_by_floor a w m k x (first.3 ∙ ap (λ z. w *ℤ pos m +ℤ z) (sym first.2 ∙ sym e)) in
    let right = scaled_by_floor c w k m y (second.3 ∙ (λ i. sym same i *ℤ pos k +ℤ (sym second.2 ∙ sym f) i)) in
    let turned = ap (λ n. w *ℤ pos n +ℤ pos (y * m)) (mul_comm m k) in
    int_cmp-add (w *ℤ pos (m * k)) (x * k) (y * m) ∙ (λ i. int_cmp (left i) ((turned ∙ right) i))
fraction_rests a (negsuc m) c d p q x y e f o g n = absurd p.le
fraction_rests a (pos m) c (negsuc k) p q x y e f o g n = absurd q.le
