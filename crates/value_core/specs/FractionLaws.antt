-- Laws of fractions: a fraction has one lowest form, and fractions have one strict total order.
use Rattle.std.specs.Prelude.{◌≡◌, ℕ, ◌+◌, ◌*◌, ◌<◌, ◌≤◌, ◌&&◌, ℤ, pos, negsuc, ◌*ℤ◌, ◌≤ℤ◌, ◌<ℤ◌}
use Rattle.std.specs.declared.cmp.Ordering.TheVariants.{Less, Equal}
use Rattle.std.specs.Cmp.{IsTotalOrder, int_cmp_total, int_ranked, int_cmp_is, signed_Decides, both_ways, Equal-is, tied_itself, first_so, second_so}
use Rattle.std.specs.Ordering.{int_eq, is_eq, eq_by_cmp, eq_of_both, on}
use Rattle.std.proofs.Common.{sym, ap, ◌∙◌, arith, refl}
use Rattle.std.proofs.Math.Nat.{mul-le-mul_right}
use Rattle.std.proofs.lemmas.Int.{ints, by_lt_z}
use borrow.Author.Differences.{up, down}
use lib.IntN.{ℤ_set}
use lib.Dec.{T_prop}
use mathlib.Core.Path.{to_path_p}
use Rattle.value_core.specs.declared.fraction.Fraction.{Fraction}
use Rattle.value_core.specs.Fractions.{IsReduced, IsInReach, fraction_order}

-- ---- products with a positive number

pub times_less : (a b d : ℤ) → pos 1 ≤ℤ d → a <ℤ b → (a *ℤ d) <ℤ (b *ℤ d)
times_less a b (pos k) h l =
    let some : 0 < k = omega (arith, ints) in
    let apart : up a + down b + 1 ≤ up b + down a = omega (arith, ints) in
    let times : (up a + down b + 1) * k ≤ (up b + down a) * k = mul-le-mul_right k apart in
    omega (arith, ints)
times_less a b (negsuc k) h l = absurd h.le

pub times_le : (a b d : ℤ) → pos 1 ≤ℤ d → a ≤ℤ b → (a *ℤ d) ≤ℤ (b *ℤ d)
times_le a b (pos k) h l =
    let apart : up a + down b ≤ up b + down a = omega (arith, ints) in
    let times : (up a + down b) * k ≤ (up b + down a) * k = mul-le-mul_right k apart in
    omega (arith, ints)
times_le a b (negsuc k) h l = absurd h.le

pub times_cancel : (a b d : ℤ) → pos 1 ≤ℤ d → a *ℤ d ≡ b *ℤ d → a ≡ b
times_cancel a b d h e =
    by_lt_z a b
    (λ l. let t = times_less a b d h l in absurd (omega (arith, ints)))
    (λ l. by_lt_z b a
    (λ m. let t = times_less b a d h m in absurd (omega (arith, ints)))
    (λ m. omega (arith, ints)))

pub times_pos : (a : ℤ) (k : ℕ) → up (a *ℤ pos k) + down a * k ≡ up a * k + down (a *ℤ pos k)
times_pos a k = omega (arith, ints)

pub times_swap : (a : ℤ) (p q : ℕ) → (a *ℤ pos p) *ℤ pos q ≡ (a *ℤ pos q) *ℤ pos p
times_swap a p q =
    let first : (up (a *ℤ pos p) + down a * p) * q ≡ (up a * p + down (a *ℤ pos p)) * q = ap (λ x. x * q) (times_pos a p) in
    let second : (up (a *ℤ pos q) + down a * q) * p ≡ (up a * q + down (a *ℤ pos q)) * p = ap (λ x. x * p) (times_pos a q) in
    omega (arith, ints)

-- where a / p is below b / q, and that below c / r, the first is below the last
pub ratio_chain : (a p b q c r : ℤ) → pos 1 ≤ℤ p → pos 1 ≤ℤ q → pos 1 ≤ℤ r → (a *ℤ q) <ℤ (b *ℤ p) → (b *ℤ r) <ℤ (c *ℤ q) → (a *ℤ r) <ℤ (c *ℤ p)
ratio_chain a (pos p) b (pos q) c (pos r) p1 q1 r1 h k =
    let below = times_less (a *ℤ pos q) (b *ℤ pos p) (pos r) r1 h in
    let above = times_less (b *ℤ pos r) (c *ℤ pos q) (pos p) p1 k in
    by_lt_z (a *ℤ pos r) (c *ℤ pos p)
    (λ l. l)
    (λ l. let back = times_le (c *ℤ pos p) (a *ℤ pos r) (pos q) q1 l in absurd (omega (arith, ints, times_swap a q r, times_swap b p r, times_swap c q p)))
ratio_chain a (negsuc p) b q c r p1 q1 r1 h k = absurd p1.le
ratio_chain a (pos p) b (negsuc q) c r p1 q1 r1 h k = absurd q1.le
ratio_chain a (pos p) b (pos q) c (negsuc r) p1 q1 r1 h k = absurd r1.le

-- ---- lowest terms

-- a fraction has one lowest form
pub IsReduced-unique : (n c a d b e : ℤ) → pos 1 ≤ℤ c → IsReduced n c a d → IsReduced n c b e → (a ≡ b) × (d ≡ e)
IsReduced-unique n c a d b e c1 x y =
    let up_to : d ≤ℤ e = x.least b e y.positive y.equal in
    let down_to : e ≤ℤ d = y.least a d x.positive x.equal in
    let same : d ≡ e = omega (arith, ints) in
    (times_cancel a b c c1 (x.equal ∙ ap (λ z. n *ℤ z) same ∙ sym y.equal), same)

IsReduced-prop : (n c a d : ℤ) → IsProp (IsReduced n c a d)
IsReduced-prop n c a d = hlevel (ℤ_set, T_prop)

IsInReach-prop : (z : ℤ) → IsProp (IsInReach z)
IsInReach-prop z = hlevel (T_prop)

-- fractions with equal parts are one
pub Fraction-same : (x y : Fraction) → x.n ≡ y.n → x.d ≡ y.d → x ≡ y
Fraction-same x y p q i = record {
  n = p i;
  d = q i;
  lowest = to_path_p (λ j. IsReduced (p j) (q j) (p j) (q j)) {a = x.lowest} {b = y.lowest} (IsReduced-prop _ _ _ _ _ y.lowest) i;
  n_in_reach = to_path_p (λ j. IsInReach (p j)) {a = x.n_in_reach} {b = y.n_in_reach} (IsInReach-prop _ _ y.n_in_reach) i;
  d_in_reach = to_path_p (λ j. IsInReach (q j)) {a = x.d_in_reach} {b = y.d_in_reach} (IsInReach-prop _ _ y.d_in_reach) i;
}

-- fractions that are the lowest form of one ratio are one
pub Fraction-unique : (n c : ℤ) (x y : Fraction) → pos 1 ≤ℤ c → IsReduced n c x.n x.d → IsReduced n c y.n y.d → x ≡ y
Fraction-unique n c x y c1 h k = let same = IsReduced-unique n c x.n x.d y.n y.d c1 h k in Fraction-same x y same.0 same.1

-- ---- the order

-- fractions that compare equal are one
pub fraction_order-exact : (x y : Fraction) → fraction_order x y ≡ Equal → x ≡ y
unfolding fraction_order
fraction_order-exact x y h =
    let cross : x.n *ℤ y.d ≡ y.n *ℤ x.d = int_ranked (x.n *ℤ y.d) (y.n *ℤ x.d) Equal (sym h) in
    let up_to : x.d ≤ℤ y.d = x.lowest.least y.n y.d y.lowest.positive (sym cross) in
    let down_to : y.d ≤ℤ x.d = y.lowest.least x.n x.d x.lowest.positive cross in
    let same : x.d ≡ y.d = omega (arith, ints) in
    Fraction-same x y (times_cancel x.n y.n x.d x.lowest.positive (ap (λ z. x.n *ℤ z) same ∙ cross)) same

fraction_order-chain : (x y z : Fraction) → fraction_order x y ≡ Less → fraction_order y z ≡ Less → fraction_order x z ≡ Less
unfolding fraction_order
fraction_order-chain x y z h k =
    sym (int_cmp_is (x.n *ℤ z.d) (z.n *ℤ x.d) Less
    (ratio_chain x.n x.d y.n y.d z.n z.d x.lowest.positive y.lowest.positive z.lowest.positive
    (int_ranked (x.n *ℤ y.d) (y.n *ℤ x.d) Less (sym h))
    (int_ranked (y.n *ℤ z.d) (z.n *ℤ y.d) Less (sym k))))

pub fraction_order_total : IsTotalOrder fraction_order
unfolding fraction_order
fraction_order_total = record {
  antisymm = λ x y. int_cmp_total.antisymm (x.n *ℤ y.d) (y.n *ℤ x.d);
  trans = fraction_order-chain;
  congr = λ x y z e. ap (λ w. fraction_order w z) (fraction_order-exact x y e);
}

-- equal by their parts exactly where they compare equal
pub fraction_order-ties : (x y : Fraction) → eq_of_both (on (λ f. f.n) int_eq) (on (λ f. f.d) int_eq) x y ≡ eq_by_cmp fraction_order x y
fraction_order-ties x y =
    both_ways _ _
    (λ e. ap (λ w. is_eq (fraction_order x w)) (sym (Fraction-same x y ((signed_Decides x.n y.n).0 (first_so _ _ e)) ((signed_Decides x.d y.d).0 (second_so _ _ e)))) ∙ ap is_eq (tied_itself fraction_order_total x))
    (λ e. let same = fraction_order-exact x y ((Equal-is (fraction_order x y)).0 e) in λ i. (signed_Decides x.n y.n).1 (ap (λ w. w.n) same) i && (signed_Decides x.d y.d).1 (ap (λ w. w.d) same) i)

pub positive_swap : (a p q : ℤ) → pos 1 ≤ℤ p → pos 1 ≤ℤ q → (a *ℤ p) *ℤ q ≡ (a *ℤ q) *ℤ p
positive_swap a (pos p) (pos q) g h = times_swap a p q
positive_swap a (negsuc p) q g h = absurd g.le
positive_swap a (pos p) (negsuc q) g h = absurd h.le

-- what is in its lowest terms is its own lowest form
pub IsReduced-itself : (n c a d : ℤ) → pos 1 ≤ℤ c → IsReduced n c a d → IsReduced a d a d
IsReduced-itself n c a d c1 x = record {
  positive = x.positive;
  equal = refl;
  least = λ b e some same. x.least b e some
      (times_cancel (b *ℤ c) (n *ℤ e) d x.positive
      (positive_swap b c d c1 x.positive ∙ ap (λ z. z *ℤ c) same ∙ positive_swap a e c some c1 ∙ ap (λ z. z *ℤ e) x.equal ∙ positive_swap n d e x.positive some));
}
