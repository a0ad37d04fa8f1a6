-- Laws of shown values: they have one strict total order, in which two values are equal only where they are one.
use Rattle.std.specs.Prelude.{◌≡◌, ℕ, ◌<◌, Bool, true, false, ℤ, List, [], ◌∷◌}
use Rattle.std.specs.declared.cmp.Ordering.{Ordering}
use Rattle.std.specs.declared.cmp.Ordering.TheVariants.{Less, Equal, Greater}
use Rattle.std.specs.Cmp.{IsTotalOrder, nat_cmp_total, int_cmp_total, bool_cmp_total, int_ranked, ranked, nat_cmp_is, then_flip, alike_right}
use Rattle.std.specs.Cmp.Lexicographic.{slice_cmp, nat_list_cmp_total}
use Rattle.std.specs.Ordering.{nat_cmp, int_cmp, bool_cmp, ordering_then, ordering_reverse}
use Rattle.std.proofs.Common.{sym, ap, ◌∙◌, arith, refl}
use Rattle.value_core.specs.declared.value.Value.{Value}
use Rattle.value_core.specs.declared.value.Value.TheVariants.{Bool as Truth, Whole, Fraction, Date, Moment, Words}
use Rattle.value_core.specs.FractionLaws.{fraction_order_total, fraction_order-exact}
use Rattle.value_core.specs.Values.{kind, order_in_kind, value_order}

-- ---- each kind's own order is equal only at one value

pub bool_cmp-exact : (x y : Bool) → bool_cmp x y ≡ Equal → x ≡ y
bool_cmp-exact false false h = refl
bool_cmp-exact true true h = refl
bool_cmp-exact false true h = cc
bool_cmp-exact true false h = cc

int_cmp-exact : (x y : ℤ) → int_cmp x y ≡ Equal → x ≡ y
int_cmp-exact x y h = int_ranked x y Equal (sym h)

nat_cmp-exact : (x y : ℕ) → nat_cmp x y ≡ Equal → x ≡ y
nat_cmp-exact x y h = ranked x y Equal (sym h)

pub then_left : (a b : Ordering) → ordering_then a b ≡ Equal → a ≡ Equal
then_left Less b h = cc
then_left Equal b h = refl
then_left Greater b h = cc

pub then_right : (a b : Ordering) → ordering_then a b ≡ Equal → b ≡ Equal
then_right Less b h = cc
then_right Equal b h = h
then_right Greater b h = cc

texts-exact : (xs ys : List ℕ) → slice_cmp nat_cmp xs ys ≡ Equal → xs ≡ ys
texts-exact [] [] h = refl
texts-exact [] (y ∷ ys) h = cc
texts-exact (x ∷ xs) [] h = cc
texts-exact (x ∷ xs) (y ∷ ys) h =
    let head = nat_cmp-exact x y (then_left (nat_cmp x y) (slice_cmp nat_cmp xs ys) h) in
    let tail = texts-exact xs ys (then_right (nat_cmp x y) (slice_cmp nat_cmp xs ys) h) in
    cc

-- ---- within a kind

in_kind-flip : (x y : Value) → order_in_kind x y ≡ ordering_reverse (order_in_kind y x)
in_kind-flip (Truth x) (Truth y) = bool_cmp_total.antisymm x y
in_kind-flip (Whole x) (Whole y) = int_cmp_total.antisymm x y
in_kind-flip (Fraction x) (Fraction y) = fraction_order_total.antisymm x y
in_kind-flip (Date x) (Date y) = int_cmp_total.antisymm x y
in_kind-flip (Moment x) (Moment y) = int_cmp_total.antisymm x y
in_kind-flip (Words x) (Words y) = nat_list_cmp_total.antisymm x y
in_kind-flip _ _ = refl

in_kind-exact : (x y : Value) → kind x ≡ kind y → order_in_kind x y ≡ Equal → x ≡ y
in_kind-exact (Truth x) (Truth y) k h = ap Truth (bool_cmp-exact x y h)
in_kind-exact (Whole x) (Whole y) k h = ap Whole (int_cmp-exact x y h)
in_kind-exact (Fraction x) (Fraction y) k h = ap Fraction (fraction_order-exact x y h)
in_kind-exact (Date x) (Date y) k h = ap Date (int_cmp-exact x y h)
in_kind-exact (Moment x) (Moment y) k h = ap Moment (int_cmp-exact x y h)
in_kind-exact (Words x) (Words y) k h = ap Words (texts-exact x y h)
in_kind-exact _ _ k h = absurd (omega arith)

in_kind-chain : (x y z : Value) → order_in_kind x y ≡ Less → order_in_kind y z ≡ Less → order_in_kind x z ≡ Less
in_kind-chain (Truth x) (Truth y) (Truth z) h k = bool_cmp_total.trans x y z h k
in_kind-chain (Whole x) (Whole y) (Whole z) h k = int_cmp_total.trans x y z h k
in_kind-chain (Fraction x) (Fraction y) (Fraction z) h k = fraction_order_total.trans x y z h k
in_kind-chain (Date x) (Date y) (Date z) h k = int_cmp_total.trans x y z h k
in_kind-chain (Moment x) (Moment y) (Moment z) h k = int_cmp_total.trans x y z h k
in_kind-chain (Words x) (Words y) (Words z) h k = nat_list_cmp_total.trans x y z h k
in_kind-chain _ _ _ h k = cc

-- ---- by kind, then by value

-- values that compare equal are one
pub value_order-exact : (x y : Value) → value_order x y ≡ Equal → x ≡ y
unfolding value_order
value_order-exact x y h =
    in_kind-exact x y
    (nat_cmp-exact (kind x) (kind y) (then_left (nat_cmp (kind x) (kind y)) (order_in_kind x y) h))
    (then_right (nat_cmp (kind x) (kind y)) (order_in_kind x y) h)

-- a value of a lesser kind stands first
pub value_order-by_kind : (x y : Value) → kind x < kind y → value_order x y ≡ Less
unfolding value_order
value_order-by_kind x y h = ap (λ o. ordering_then o (order_in_kind x y)) (sym (nat_cmp_is (kind x) (kind y) Less h))

value_order-flip : (x y : Value) → value_order x y ≡ ordering_reverse (value_order y x)
unfolding value_order
value_order-flip x y =
    (λ i. ordering_then (nat_cmp_total.antisymm (kind x) (kind y) i) (in_kind-flip x y i)) ∙ then_flip (nat_cmp (kind y) (kind x)) (order_in_kind y x)

-- one step of "by kind, then by value", where p, q and s say how the values stand
kinds-chain : (a b c : ℕ) (p q s : Ordering) (kept : p ≡ Less → q ≡ Less → s ≡ Less) (r t : Ordering) → nat_cmp a b ≡ r → nat_cmp b c ≡ t → ordering_then r p ≡ Less → ordering_then t q ≡ Less → ordering_then (nat_cmp a c) s ≡ Less
kinds-chain a b c p q s kept Less Less e f h k = ap (λ o. ordering_then o s) (nat_cmp_total.trans a b c e f)
kinds-chain a b c p q s kept Less Equal e f h k =
    ap (λ o. ordering_then o s) (sym (alike_right nat_cmp_total b c a f) ∙ e)
kinds-chain a b c p q s kept Equal Less e f h k = ap (λ o. ordering_then o s) (nat_cmp_total.congr a b c e ∙ f)
kinds-chain a b c p q s kept Equal Equal e f h k =
    ap (λ o. ordering_then o s) (nat_cmp_total.congr a b c e ∙ f) ∙ kept h k
kinds-chain a b c p q s kept Greater t e f h k = cc
kinds-chain a b c p q s kept Less Greater e f h k = cc
kinds-chain a b c p q s kept Equal Greater e f h k = cc

value_order-chain : (x y z : Value) → value_order x y ≡ Less → value_order y z ≡ Less → value_order x z ≡ Less
unfolding value_order
value_order-chain x y z h k =
    kinds-chain (kind x) (kind y) (kind z) (order_in_kind x y) (order_in_kind y z) (order_in_kind x z) (in_kind-chain x y z) (nat_cmp (kind x) (kind y)) (nat_cmp (kind y) (kind z)) refl refl h k

pub value_order_total : IsTotalOrder value_order
value_order_total = record {
  antisymm = value_order-flip;
  trans = value_order-chain;
  congr = λ x y z e. ap (λ w. value_order w z) (value_order-exact x y e);
}
