-- The value of a checked tree is null, or of the tree's type and in range.
use Rattle.std.proofs.Common.{◌≡◌, ℕ, zero, suc, ◌+◌, ◌-◌, ◌*◌, ◌^◌, ◌<◌, ◌≤◌, List, [], ◌∷◌, ◌++◌, length, Bool, true, false, not, ◌&&◌, ◌||◌, Option, Some, None, Result, Ok, Err, refl, sym, ◌∙◌, ap, subst, arith, All, ℤ, pos, negsuc, neg_ℤ, ◌+ℤ◌, ◌-ℤ◌, ◌*ℤ◌, ◌≤ℤ◌, unsigned_abs, nat_eq, nat_lt}
use Rattle.std.proofs.lemmas.Bool.{and_from, and_parts}
use Rattle.std.proofs.lemmas.Int.{ints}
use Rattle.std.proofs.lemmas.List.Elements.{All-nil, All-cons}
use Rattle.std.specs.Prelude.{if◌then◌else◌, int_le, int_lt, slice_index_or}
use Rattle.std.specs.Int.{int_min, int_max, int_rem_euclid}
use Rattle.std.specs.List.{starts_with, ends_with}
use Rattle.std.specs.Option.{option_and_then}
use Rattle.std.specs.Ordering.{is_eq, is_ne, is_lt, is_le, is_gt, is_ge}
use Rattle.std.specs.Str.{chars, chars_after, continuation_len, lead_bits}
use Rattle.std.specs.declared.cmp.Ordering.{Ordering}
use Rattle.jiff_core.proofs.SignedLemmas.{signed_arith, int_div_euclid-parts, int_rem_euclid-parts}
use Rattle.cal_units.specs.declared.buckets.Unit.{Unit as TimeUnit}
use Rattle.cal_units.specs.Buckets.{date_bucket, moment_bucket}
use Rattle.cal_units.specs.Calendar.{IsDay, IsMoment, is_day, is_moment, year_of, month_of, day_of_month, day_at}
use Rattle.cal_units.proofs.BucketLemmas.{date_bucket_by_value, moment_bucket_by_value, day_at-range}
use Rattle.jiff_core.proofs.CalendarLemmas.{days_in_month_bounds}
use Rattle.cal_units.proofs.DayLemmas.{parts_of}
use Rattle.plain_data.specs.Results.{and_then}
use Rattle.cell_core.specs.declared.cell.Cell.{Cell}
use Rattle.cell_core.specs.declared.cell.Cell.TheVariants.{Null, Bool as Truth, Int, Date, Moment, Words}
use Rattle.cell_core.specs.declared.cell.CellType.{CellType}
use Rattle.cell_core.specs.declared.cell.CellType.TheVariants as kind
use Rattle.cell_core.specs.declared.schema.Column.{Column}
use Rattle.cell_core.specs.Cells.{cell_order}
use Rattle.plan_types.specs.declared.tree.UnaryOp.{UnaryOp}
use Rattle.plan_types.specs.declared.tree.UnaryOp.TheVariants as sign
use Rattle.plan_types.specs.declared.tree.BinaryOp.{BinaryOp}
use Rattle.plan_types.specs.declared.tree.BinaryOp.TheVariants as op
use Rattle.row_batch.specs.declared.refused.RowCause.{RowCause}
use Rattle.row_batch.specs.declared.refused.RowCause.TheVariants as cause
use Rattle.row_batch.specs.Checks.{is_integer, is_null, unless_in, cell_fault, kind_at}
use Rattle.expr_spec.specs.declared.function.Function.{Function}
use Rattle.expr_spec.specs.declared.function.Function.TheVariants as function
use Rattle.expr_spec.specs.declared.refused.TreeCause.{TreeCause}
use Rattle.expr_spec.specs.declared.refused.TreeCause.TheVariants as tree
use Rattle.expr_spec.specs.declared.refused.TreeRefused.{TreeRefused}
use Rattle.expr_spec.specs.Functions.{function_named, unit_named, date_unit}
use Rattle.expr_spec.specs.TreeData.{TreeData, column, number, truth, words, unary, binary, call, Arguments, no_arguments, argument}
use Rattle.expr_spec.specs.Typing as t
use Rattle.expr_spec.specs.Values as v
use Rattle.expr_spec.specs.Values.{IsOnCalendar}
use Rattle.row_batch.specs.Changes.{FitsColumns}

abbrev Fits : CellType → Cell → Type 0
Fits k c = cell_fault k c ≡ None

-- ---- tests and facts

int_le-true : (a b : ℤ) → a ≤ℤ b → int_le a b ≡ true
int_le-true a b h = grind (arith, ints)

true-int_le : (a b : ℤ) → int_le a b ≡ true → a ≤ℤ b
true-int_le a b h = grind (arith, ints)

in-range : (b : Bool) (why : RowCause) → b ≡ true → unless_in b why ≡ None
in-range b why h = rw h refl

pub range-in : (b : Bool) (why : RowCause) → unless_in b why ≡ None → b ≡ true
range-in true why h = refl
range-in false why h = cc

day-fits : (d : ℤ) → IsDay d → Fits kind.Date (Date d)
day-fits d h = in-range (is_day d) cause.Range (and_from _ _ (int_le-true _ _ h.0) (int_le-true _ _ h.1))

fits-day : (d : ℤ) → Fits kind.Date (Date d) → IsDay d
fits-day d h = let both = and_parts _ _ (range-in (is_day d) cause.Range h) in (true-int_le _ _ both.0, true-int_le _ _ both.1)

moment-fits : (m : ℤ) → IsMoment m → Fits kind.Moment (Moment m)
moment-fits m h = in-range (is_moment m) cause.Range (and_from _ _ (int_le-true _ _ h.0) (int_le-true _ _ h.1))

fits-moment : (m : ℤ) → Fits kind.Moment (Moment m) → IsMoment m
fits-moment m h = let both = and_parts _ _ (range-in (is_moment m) cause.Range h) in (true-int_le _ _ both.0, true-int_le _ _ both.1)

nat_lt-true : (a b : ℕ) → a < b → nat_lt a b ≡ true
nat_lt-true a b h = grind arith

small-fits : (n : ℕ) → n < 2 ^ 53 → Fits kind.Integer (Int (pos n))
small-fits n h = in-range (is_integer (pos n)) cause.Range (nat_lt-true n (2 ^ 53) h)

null-fits : (k : CellType) → Fits k Null
null-fits kind.Integer = refl
null-fits kind.Boolean = refl
null-fits kind.Date = refl
null-fits kind.Moment = refl
null-fits kind.Words = refl

-- ---- a whole number in range, or null

whole-by : (z : ℤ) (b : Bool) → is_integer z ≡ b → Fits kind.Integer (if b then Int z else Null)
whole-by z true h = in-range (is_integer z) cause.Range h
whole-by z false h = refl

whole : (z : ℤ) → Fits kind.Integer (v.whole z)
whole z = whole-by z (is_integer z) refl

chosen : (k : CellType) (b : Bool) (x y : Cell) → Fits k x → Fits k y → Fits k (if b then x else y)
chosen k true x y p q = p
chosen k false x y p q = q

quotient : (a b : ℤ) → Fits kind.Integer (v.quotient a b)
quotient a (pos zero) = refl
quotient a (pos (suc n)) = whole (v.floor_div a (pos (suc n)))
quotient a (negsuc n) = whole (v.floor_div a (negsuc n))

rest : (a b : ℤ) → Fits kind.Integer (v.rest a b)
rest a (pos zero) = refl
rest a (pos (suc n)) = whole (a -ℤ (pos (suc n) *ℤ v.floor_div a (pos (suc n))))
rest a (negsuc n) = whole (a -ℤ (negsuc n *ℤ v.floor_div a (negsuc n)))

number_bucket : (a n : ℤ) → Fits kind.Integer (v.number_bucket a n)
number_bucket a (pos zero) = refl
number_bucket a (pos (suc n)) = whole (a -ℤ int_rem_euclid a (pos (suc n)))
number_bucket a (negsuc n) = whole (a -ℤ int_rem_euclid a (negsuc n))

-- ---- forms of arguments that aren't null

on_truth : (k : CellType) (f : Bool → Cell) → ((b : Bool) → Fits k (f b)) → (c : Cell) → Fits k (v.on_truth f c)
on_truth k f h (Truth b) = h b
on_truth k f h c = null-fits k

on_number : (k : CellType) (f : ℤ → Cell) → ((z : ℤ) → Fits k (f z)) → (c : Cell) → Fits k (v.on_number f c)
on_number k f h (Int z) = h z
on_number k f h c = null-fits k

on_date : (k : CellType) (f : ℤ → Cell) → ((d : ℤ) → IsDay d → Fits k (f d)) → (c : Cell) → Fits kind.Date c → Fits k (v.on_date f c)
on_date k f h (Date d) p = h d (fits-day d p)
on_date k f h c p = null-fits k

on_moment : (k : CellType) (f : ℤ → Cell) → ((m : ℤ) → IsMoment m → Fits k (f m)) → (c : Cell) → Fits kind.Moment c → Fits k (v.on_moment f c)
on_moment k f h (Moment m) p = h m (fits-moment m p)
on_moment k f h c p = null-fits k

on_text : (k : CellType) (f : List ℕ → Cell) → ((s : List ℕ) → Fits kind.Words (Words s) → Fits k (f s)) → (c : Cell) → Fits kind.Words c → Fits k (v.on_text f c)
on_text k f h (Words s) p = h s p
on_text k f h c p = null-fits k

on_any_text : (k : CellType) (f : List ℕ → Cell) → ((s : List ℕ) → Fits k (f s)) → (c : Cell) → Fits k (v.on_text f c)
on_any_text k f h (Words s) = h s
on_any_text k f h c = null-fits k

on_numbers : (k : CellType) (f : ℤ → ℤ → Cell) → ((x y : ℤ) → Fits k (f x y)) → (a b : Cell) → Fits k (v.on_numbers f a b)
on_numbers k f h a b = on_number k (λ x. v.on_number (f x) b) (λ x. on_number k (f x) (h x) b) a

on_texts : (k : CellType) (f : List ℕ → List ℕ → Cell) → ((s u : List ℕ) → Fits k (f s u)) → (a b : Cell) → Fits kind.Words a → Fits kind.Words b → Fits k (v.on_texts f a b)
on_texts k f h a b p q = on_text k (λ s. v.on_text (f s) b) (λ s _. on_text k (f s) (λ u _. h s u) b q) a p

-- ---- operators

if-some : (b : Bool) (x y : CellType) → (if b then Some x else None) ≡ Some y → (b ≡ true) × (x ≡ y)
if-some true x y h = (refl, cc)
if-some false x y h = cc

same-kind : (a b : CellType) → t.same_kind a b ≡ true → a ≡ b
same-kind kind.Integer kind.Integer h = refl
same-kind kind.Boolean kind.Boolean h = refl
same-kind kind.Date kind.Date h = refl
same-kind kind.Moment kind.Moment h = refl
same-kind kind.Words kind.Words h = refl
same-kind a b h = cc

compared : (test : Ordering → Bool) (a b : Cell) → Fits kind.Boolean (v.compared test a b)
compared test a b = chosen kind.Boolean (is_null a || is_null b) Null (Truth (test (cell_order a b))) refl refl

and_value : (a b : Cell) → Fits kind.Boolean (v.and_value a b)
and_value (Truth false) b = refl
and_value a (Truth false) = refl
and_value (Truth true) (Truth true) = refl
and_value a b = refl

or_value : (a b : Cell) → Fits kind.Boolean (v.or_value a b)
or_value (Truth true) b = refl
or_value a (Truth true) = refl
or_value (Truth false) (Truth false) = refl
or_value a b = refl

along : (k l : CellType) (c : Cell) → k ≡ l → Fits k c → Fits l c
along k l c e p = let P : CellType → Type 0 = λ x. Fits x c in subst P e p

unary_value : (o : UnaryOp) (k gives : CellType) (c : Cell) → t.unary_kind o k ≡ Some gives → Fits gives (v.unary_value o c)
unary_value sign.Not k gives c e = along kind.Boolean gives _ (if-some _ _ _ e).1 (on_truth kind.Boolean (λ b. Truth (not b)) (λ b. refl) c)
unary_value sign.Minus k gives c e = along kind.Integer gives _ (if-some _ _ _ e).1 (on_number kind.Integer (λ z. v.whole (neg_ℤ z)) (λ z. whole (neg_ℤ z)) c)

binary_value : (o : BinaryOp) (k l gives : CellType) (a b : Cell) → t.binary_kind o k l ≡ Some gives → Fits gives (v.binary_value o a b)
binary_value op.Or k l gives a b e = along kind.Boolean gives _ (if-some _ _ _ e).1 (or_value a b)
binary_value op.And k l gives a b e = along kind.Boolean gives _ (if-some _ _ _ e).1 (and_value a b)
binary_value op.Equal k l gives a b e = along kind.Boolean gives _ (if-some _ _ _ e).1 (compared is_eq a b)
binary_value op.Unequal k l gives a b e = along kind.Boolean gives _ (if-some _ _ _ e).1 (compared is_ne a b)
binary_value op.Less k l gives a b e = along kind.Boolean gives _ (if-some _ _ _ e).1 (compared is_lt a b)
binary_value op.AtMost k l gives a b e = along kind.Boolean gives _ (if-some _ _ _ e).1 (compared is_le a b)
binary_value op.Greater k l gives a b e = along kind.Boolean gives _ (if-some _ _ _ e).1 (compared is_gt a b)
binary_value op.AtLeast k l gives a b e = along kind.Boolean gives _ (if-some _ _ _ e).1 (compared is_ge a b)
binary_value op.Plus k l gives a b e = along kind.Integer gives _ (if-some _ _ _ e).1 (on_numbers kind.Integer (λ x y. v.whole (x +ℤ y)) (λ x y. whole (x +ℤ y)) a b)
binary_value op.Minus k l gives a b e = along kind.Integer gives _ (if-some _ _ _ e).1 (on_numbers kind.Integer (λ x y. v.whole (x -ℤ y)) (λ x y. whole (x -ℤ y)) a b)
binary_value op.Times k l gives a b e = along kind.Integer gives _ (if-some _ _ _ e).1 (on_numbers kind.Integer (λ x y. v.whole (x *ℤ y)) (λ x y. whole (x *ℤ y)) a b)
binary_value op.Quotient k l gives a b e = along kind.Integer gives _ (if-some _ _ _ e).1 (on_numbers kind.Integer v.quotient quotient a b)
binary_value op.Rest k l gives a b e = along kind.Integer gives _ (if-some _ _ _ e).1 (on_numbers kind.Integer v.rest rest a b)

-- ---- functions

chars_after-length : (n c : ℕ) (bs : List ℕ) → length (chars_after n c bs) ≤ length bs + 1
chars_after-length zero c [] = omega arith
chars_after-length zero c (b ∷ bs) = omega (arith, chars_after-length (continuation_len b) (lead_bits b) bs)
chars_after-length (suc n) c [] = omega arith
chars_after-length (suc n) c (b ∷ bs) = omega (arith, chars_after-length n (c * 64 + (b - 128)) bs)

chars-length : (bs : List ℕ) → length (chars bs) ≤ length bs
unfolding chars
chars-length [] = omega arith
chars-length (b ∷ bs) = omega (arith, chars_after-length (continuation_len b) (lead_bits b) bs)

short-by : (s : List ℕ) (b : Bool) → nat_lt 256 (length s) ≡ b → (if b then Some cause.Long else None) ≡ None → length s ≤ 256
short-by s true e h = cc
short-by s false e h = grind arith

length_value : (s : List ℕ) → Fits kind.Words (Words s) → Fits kind.Integer (v.length_value s)
length_value s h = small-fits (length (chars s)) (omega (arith, chars-length s, short-by s (nat_lt 256 (length s)) refl h))

concat-by : (s : List ℕ) (b : Bool) → nat_lt 256 (length s) ≡ b → Fits kind.Words (if b then Null else Words s)
concat-by s true e = refl
concat-by s false e = rw e refl

concat_value : (s u : List ℕ) → Fits kind.Words (v.concat_value s u)
concat_value s u = concat-by (s ++ u) (nat_lt 256 (length (s ++ u))) refl

year : (d : ℤ) → IsDay d → Fits kind.Integer (Int (pos (year_of d)))
year d h = let calendar = (parts_of d h).calendar in small-fits (year_of d) (omega arith)

month : (d : ℤ) → IsDay d → Fits kind.Integer (Int (pos (month_of d)))
month d h = let calendar = (parts_of d h).calendar in small-fits (month_of d) (omega arith)

day : (d : ℤ) → IsDay d → Fits kind.Integer (Int (pos (day_of_month d)))
day d h = let calendar = (parts_of d h).calendar in small-fits (day_of_month d) (omega (arith, days_in_month_bounds (pos (year_of d)) (month_of d)))

low-fits : (z : ℤ) → pos 0 ≤ℤ z → z ≤ℤ pos 1000 → Fits kind.Integer (Int z)
low-fits (pos n) h k = small-fits n (omega (arith, signed_arith))
low-fits (negsuc n) h k = absurd (omega (arith, signed_arith))

hour : (m : ℤ) → Fits kind.Integer (Int (v.hour_of m))
hour m =
    let rem = int_rem_euclid-parts m 86_400_000 (omega arith) in
    let quot = int_div_euclid-parts (int_rem_euclid m (pos 86_400_000)) 3_600_000 (omega arith) in
    low-fits (v.hour_of m) (omega (arith, signed_arith)) (omega (arith, signed_arith))

either : (b : Bool) (x y : ℤ) → Fits kind.Integer (Int x) → Fits kind.Integer (Int y) → Fits kind.Integer (Int (if b then x else y))
either true x y p q = p
either false x y p q = q

least : (x y : ℤ) → Fits kind.Integer (Int x) → Fits kind.Integer (Int y) → Fits kind.Integer (Int (int_min x y))
least x y p q = either (int_lt y x) y x q p

greatest : (x y : ℤ) → Fits kind.Integer (Int x) → Fits kind.Integer (Int y) → Fits kind.Integer (Int (int_max x y))
greatest x y p q = either (int_lt y x) x y p q

date_in : (u : Option TimeUnit) (d : ℤ) → IsDay d → Fits kind.Date (v.date_in u d)
date_in None d p = refl
date_in (Some u) d p = day-fits (date_bucket u d) (date_bucket_by_value u d (date_bucket u d) p refl).in_range

moment_in : (u : Option TimeUnit) (m : ℤ) → IsMoment m → Fits kind.Moment (v.moment_in u m)
moment_in None m p = refl
moment_in (Some u) m p = moment-fits (moment_bucket u m) (moment_bucket_by_value u m (moment_bucket u m) p refl).in_range

bucket_number : (a u : Cell) → Fits kind.Integer a → Fits kind.Integer (v.bucket_value a u)
bucket_number Null u p = refl
bucket_number (Truth b) u p = refl
bucket_number (Int a) u p = on_number kind.Integer (v.number_bucket a) (number_bucket a) u
bucket_number (Date d) u p = cc
bucket_number (Moment m) u p = cc
bucket_number (Words s) u p = refl

bucket_day : (a u : Cell) → Fits kind.Date a → Fits kind.Date (v.bucket_value a u)
bucket_day Null u p = refl
bucket_day (Truth b) u p = refl
bucket_day (Int a) u p = cc
bucket_day (Date d) u p = on_any_text kind.Date (λ s. v.date_in (option_and_then date_unit (unit_named s)) d) (λ s. date_in (option_and_then date_unit (unit_named s)) d (fits-day d p)) u
bucket_day (Moment m) u p = cc
bucket_day (Words s) u p = refl

bucket_time : (a u : Cell) → Fits kind.Moment a → Fits kind.Moment (v.bucket_value a u)
bucket_time Null u p = refl
bucket_time (Truth b) u p = refl
bucket_time (Int a) u p = cc
bucket_time (Date d) u p = cc
bucket_time (Moment m) u p = on_any_text kind.Moment (λ s. v.moment_in (unit_named s) m) (λ s. moment_in (unit_named s) m (fits-moment m p)) u
bucket_time (Words s) u p = refl

if_value : (k : CellType) (c a b : Cell) → Fits k a → Fits k b → Fits k (v.if_value c a b)
if_value k (Truth true) a b p q = p
if_value k c a b p q = q

extreme : (f : ℤ → ℤ → ℤ) → ((x y : ℤ) → Fits kind.Integer (Int x) → Fits kind.Integer (Int y) → Fits kind.Integer (Int (f x y)))
    → (a b : Cell) → Fits kind.Integer a → Fits kind.Integer b → Fits kind.Integer (v.on_numbers (λ x y. Int (f x y)) a b)
extreme f h (Int x) (Int y) p q = h x y p q
extreme f h (Int x) b p q = refl
extreme f h a b p q = refl

-- ---- calls

-- each cell is null or of its type and in range
abbrev FitEach : List CellType → List Cell → Type 0
FitEach [] [] = Unit {0}
FitEach [] (c ∷ cells) = ⊥
FitEach (k ∷ ks) [] = ⊥
FitEach (k ∷ ks) (c ∷ cells) = Fits k c × FitEach ks cells

one_argument : (f : Function) (want gives : CellType) (ks : List CellType) (out : CellType) (cells : List Cell)
    → ((c : Cell) → Fits want c → Fits gives (v.one_value f c))
    → t.takes_one want gives ks ≡ Some out → FitEach ks cells → Fits out (v.function_value f cells)
one_argument f want gives [] out cells h e fit = cc
one_argument f want gives (k ∷ []) out [] h e fit = absurd fit
one_argument f want gives (k ∷ []) out (c ∷ []) h e fit =
    let is = if-some (t.same_kind k want) gives out e in
    along gives out _ is.1 (h c (along k want c (same-kind k want is.0) fit.0))
one_argument f want gives (k ∷ []) out (c ∷ d ∷ more) h e fit = absurd fit.1
one_argument f want gives (k ∷ l ∷ ks) out cells h e fit = cc

two_arguments : (f : Function) (want gives : CellType) (ks : List CellType) (out : CellType) (cells : List Cell)
    → ((a b : Cell) → Fits want a → Fits want b → Fits gives (v.two_value f a b))
    → t.takes_two want gives ks ≡ Some out → FitEach ks cells → Fits out (v.function_value f cells)
two_arguments f want gives [] out cells h e fit = cc
two_arguments f want gives (k ∷ []) out cells h e fit = cc
two_arguments f want gives (k ∷ l ∷ []) out [] h e fit = absurd fit
two_arguments f want gives (k ∷ l ∷ []) out (a ∷ []) h e fit = absurd fit.1
two_arguments f want gives (k ∷ l ∷ []) out (a ∷ b ∷ []) h e fit =
    let is = if-some (t.same_kind k want && t.same_kind l want) gives out e in
    let both = and_parts (t.same_kind k want) (t.same_kind l want) is.0 in
    along gives out _ is.1 (h a b (along k want a (same-kind k want both.0) fit.0) (along l want b (same-kind l want both.1) fit.1.0))
two_arguments f want gives (k ∷ l ∷ []) out (a ∷ b ∷ c ∷ more) h e fit = absurd fit.1.1
two_arguments f want gives (k ∷ l ∷ m ∷ ks) out cells h e fit = cc

any_argument : (f : Function) (ks : List CellType) (out : CellType) (cells : List Cell)
    → ((c : Cell) → Fits kind.Boolean (v.one_value f c))
    → t.takes_any ks ≡ Some out → FitEach ks cells → Fits out (v.function_value f cells)
any_argument f [] out cells h e fit = cc
any_argument f (k ∷ []) out [] h e fit = absurd fit
any_argument f (k ∷ []) out (c ∷ []) h e fit = along kind.Boolean out _ (cc) (h c)
any_argument f (k ∷ []) out (c ∷ d ∷ more) h e fit = absurd fit.1
any_argument f (k ∷ l ∷ ks) out cells h e fit = cc

if_cells : (k l m out : CellType) (cells : List Cell) → t.if_kind (k ∷ l ∷ m ∷ []) ≡ Some out → FitEach (k ∷ l ∷ m ∷ []) cells → Fits out (v.function_value function.If cells)
if_cells kind.Boolean l m out (c ∷ a ∷ b ∷ []) e fit =
    let is = if-some (t.same_kind l m) l out e in
    let same = same-kind l m is.0 in
    along l out _ is.1 (if_value l c a b fit.1.0 (along m l b (sym same) fit.1.1.0))
if_cells kind.Boolean l m out [] e fit = absurd fit
if_cells kind.Boolean l m out (c ∷ []) e fit = absurd fit.1
if_cells kind.Boolean l m out (c ∷ a ∷ []) e fit = absurd fit.1.1
if_cells kind.Boolean l m out (c ∷ a ∷ b ∷ d ∷ more) e fit = absurd fit.1.1.1
if_cells k l m out cells e fit = cc

bucket_cells : (k l out : CellType) (cells : List Cell) → t.bucket_kind (k ∷ l ∷ []) ≡ Some out → FitEach (k ∷ l ∷ []) cells → Fits out (v.function_value function.Bucket cells)
bucket_cells kind.Integer l out (a ∷ u ∷ []) e fit = along kind.Integer out _ (cc) (bucket_number a u fit.0)
bucket_cells kind.Date l out (a ∷ u ∷ []) e fit = along kind.Date out _ (cc) (bucket_day a u fit.0)
bucket_cells kind.Moment l out (a ∷ u ∷ []) e fit = along kind.Moment out _ (cc) (bucket_time a u fit.0)
bucket_cells k l out [] e fit = absurd fit
bucket_cells k l out (a ∷ []) e fit = absurd fit.1
bucket_cells k l out (a ∷ u ∷ d ∷ more) e fit = absurd fit.1.1
bucket_cells k l out cells e fit = cc

if_call : (ks : List CellType) (out : CellType) (cells : List Cell) → t.if_kind ks ≡ Some out → FitEach ks cells → Fits out (v.function_value function.If cells)
if_call (k ∷ l ∷ m ∷ []) out cells e fit = if_cells k l m out cells e fit
if_call [] out cells e fit = cc
if_call (kind.Boolean ∷ []) out cells e fit = cc
if_call (kind.Boolean ∷ l ∷ []) out cells e fit = cc
if_call (kind.Boolean ∷ l ∷ m ∷ n ∷ more) out cells e fit = cc
if_call (k ∷ ks) out cells e fit = cc

bucket_call : (ks : List CellType) (out : CellType) (cells : List Cell) → t.bucket_kind ks ≡ Some out → FitEach ks cells → Fits out (v.function_value function.Bucket cells)
bucket_call (k ∷ l ∷ []) out cells e fit = bucket_cells k l out cells e fit
bucket_call [] out cells e fit = cc
bucket_call (kind.Integer ∷ ks) out cells e fit = cc
bucket_call (kind.Date ∷ ks) out cells e fit = cc
bucket_call (kind.Moment ∷ ks) out cells e fit = cc
bucket_call (k ∷ ks) out cells e fit = cc

function_value : (f : Function) (ks : List CellType) (out : CellType) (cells : List Cell) → t.call_kind f ks ≡ Some out → FitEach ks cells → Fits out (v.function_value f cells)
function_value function.Abs ks out cells e fit = one_argument function.Abs kind.Integer kind.Integer ks out cells (λ c p. on_number kind.Integer (λ z. v.whole (pos (unsigned_abs z))) (λ z. whole (pos (unsigned_abs z))) c) e fit
function_value function.Min ks out cells e fit = two_arguments function.Min kind.Integer kind.Integer ks out cells (extreme int_min least) e fit
function_value function.Max ks out cells e fit = two_arguments function.Max kind.Integer kind.Integer ks out cells (extreme int_max greatest) e fit
function_value function.If ks out cells e fit = if_call ks out cells e fit
function_value function.IsNull ks out cells e fit = any_argument function.IsNull ks out cells (λ c. refl) e fit
function_value function.IsNotNull ks out cells e fit = any_argument function.IsNotNull ks out cells (λ c. refl) e fit
function_value function.Length ks out cells e fit = one_argument function.Length kind.Words kind.Integer ks out cells (λ c p. on_text kind.Integer v.length_value length_value c p) e fit
function_value function.Concat ks out cells e fit = two_arguments function.Concat kind.Words kind.Words ks out cells (on_texts kind.Words v.concat_value concat_value) e fit
function_value function.Contains ks out cells e fit = two_arguments function.Contains kind.Words kind.Boolean ks out cells (on_texts kind.Boolean (λ s u. Truth (v.stands_within u s)) (λ s u. refl)) e fit
function_value function.Begins ks out cells e fit = two_arguments function.Begins kind.Words kind.Boolean ks out cells (on_texts kind.Boolean (λ s u. Truth (starts_with nat_eq s u)) (λ s u. refl)) e fit
function_value function.Ends ks out cells e fit = two_arguments function.Ends kind.Words kind.Boolean ks out cells (on_texts kind.Boolean (λ s u. Truth (ends_with nat_eq s u)) (λ s u. refl)) e fit
function_value function.Bucket ks out cells e fit = bucket_call ks out cells e fit
function_value function.Year ks out cells e fit = one_argument function.Year kind.Date kind.Integer ks out cells (λ c p. on_date kind.Integer (λ d. Int (pos (year_of d))) year c p) e fit
function_value function.Month ks out cells e fit = one_argument function.Month kind.Date kind.Integer ks out cells (λ c p. on_date kind.Integer (λ d. Int (pos (month_of d))) month c p) e fit
function_value function.Day ks out cells e fit = one_argument function.Day kind.Date kind.Integer ks out cells (λ c p. on_date kind.Integer (λ d. Int (pos (day_of_month d))) day c p) e fit
function_value function.DateOf ks out cells e fit = one_argument function.DateOf kind.Moment kind.Date ks out cells (λ c p. on_moment kind.Date (λ m. Date (day_at m)) (λ m h. day-fits (day_at m) (day_at-range m h)) c p) e fit
function_value function.Hour ks out cells e fit = one_argument function.Hour kind.Moment kind.Integer ks out cells (λ c p. on_moment kind.Integer (λ m. Int (v.hour_of m)) (λ m h. hour m) c p) e fit

-- ---- trees

found : {X Y : Type 0} (r : Result X TreeRefused) (next : X → Result Y TreeRefused) (y : Y) → and_then r next ≡ Ok y → (x : X) × (r ≡ Ok x) × (next x ≡ Ok y)
found (Ok x) next y e = (x, refl, e)
found (Err fault) next y e = cc

no-fault : {X : Type 0} (why : TreeCause) (at : ℕ) (o : Option X) (x : X) → t.or_fault why at o ≡ Ok x → o ≡ Some x
no-fault why at None x e = cc
no-fault why at (Some y) x e = cc

-- a good unit leaves the type as it is
unit-same : (f : Function) (args : Arguments) (k out : CellType) → t.unit_kind f args k ≡ Some out → k ≡ out
unit-same function.Bucket no_arguments k out e = cc
unit-same function.Bucket (argument a no_arguments) k out e = cc
unit-same function.Bucket (argument a (argument b more)) k out e = (if-some (t.is_unit k b) k out e).1
unit-same f args k out e = cc

-- the type of a call that has no fault
named : (at : ℕ) (name : List ℕ) (args : Arguments) (ks : List CellType) (out : CellType) (cells : List Cell)
    → t.named_kind at name args ks ≡ Ok out → FitEach ks cells → Fits out (v.call_value (function_named name) cells)
named at name args ks out cells e fit = by_function (function_named name) e
  where
    by_function : (f : Option Function)
        → and_then (t.or_fault tree.Unknown at f) (λ f. and_then (t.or_fault tree.BadType at (t.call_kind f ks)) (λ k. t.or_fault tree.Unit at (t.unit_kind f args k))) ≡ Ok out
        → Fits out (v.call_value f cells)
    by_function None e = cc
    by_function (Some f) e =
        let called = found (t.or_fault tree.BadType at (t.call_kind f ks)) (λ k. t.or_fault tree.Unit at (t.unit_kind f args k)) out e in
        let kinded = no-fault tree.BadType at (t.call_kind f ks) called.0 called.1 in
        let unit = no-fault tree.Unit at (t.unit_kind f args called.0) out called.2 in
        along called.0 out _ (unit-same f args called.0 out unit) (function_value f ks called.0 cells kinded fit)

cell_at : (columns : List Column) (row : List Cell) (i : ℕ) (k : CellType) → FitsColumns columns row → kind_at columns i ≡ Some k → Fits k (slice_index_or row i Null)
cell_at [] [] i k fit e = null-fits k
cell_at [] (x ∷ row) i k fit e = absurd fit
cell_at (c ∷ columns) [] i k fit e = null-fits k
cell_at (c ∷ columns) (x ∷ row) zero k fit e = along c.kind k x (cc) fit.0
cell_at (c ∷ columns) (x ∷ row) (suc i) k fit e = cell_at columns row i k fit.1 e

column_value : (columns : List Column) (row : List Cell) (at : ℕ) (place : Option ℕ) (k : CellType) → FitsColumns columns row
    → t.or_fault tree.Unknown at (option_and_then (kind_at columns) place) ≡ Ok k → Fits k (v.column_value place row)
column_value columns row at None k fit e = cc
column_value columns row at (Some i) k fit e = cell_at columns row i k fit (no-fault tree.Unknown at (kind_at columns i) k e)

at-place : (columns : List Column) (row : List Cell) (at : ℕ) (p i : Option ℕ) (k : CellType) → p ≡ i → FitsColumns columns row
    → t.or_fault tree.Unknown at (option_and_then (kind_at columns) p) ≡ Ok k → Fits k (v.column_value i row)
at-place columns row at p i k same fit e = rw (← same) (column_value columns row at p k fit e)

words-by : (s : List ℕ) (k : CellType) (b : Bool) → nat_lt 256 (length s) ≡ b → (if b then None else Some kind.Words) ≡ Some k → Fits k (Words s)
words-by s k true h e = cc
words-by s k false h e = along kind.Words k (Words s) (cc) (rw h refl)

mutual
  pub value_in : (columns : List Column) (row : List Cell) (whole_tree : TreeData) (k : CellType) → FitsColumns columns row
      → t.kind_of columns whole_tree ≡ Ok k → t.numbered columns whole_tree ≡ whole_tree → Fits k (v.value_in whole_tree row)
  value_in columns row (column at name i) k fit e n = at-place columns row at (t.column_named columns name) i k (cc) fit e
  value_in columns row (number at z) k fit e n = along kind.Integer k _ (cc) (whole z)
  value_in columns row (truth at b) k fit e n = along kind.Boolean k (Truth b) (cc) refl
  value_in columns row (words at s) k fit e n = words-by s k (nat_lt 256 (length s)) refl (no-fault tree.BadType at (t.words_kind s) k e)
  value_in columns row (unary at o a) k fit e n =
      let inner = found (t.kind_of columns a) (λ x. t.or_fault tree.BadType at (t.unary_kind o x)) k e in
      unary_value o inner.0 k (v.value_in a row) (no-fault tree.BadType at (t.unary_kind o inner.0) k inner.2)
  value_in columns row (binary at o a b) k fit e n =
      let left = found (t.kind_of columns a) (λ x. and_then (t.kind_of columns b) (λ y. t.or_fault tree.BadType at (t.binary_kind o x y))) k e in
      let right = found (t.kind_of columns b) (λ y. t.or_fault tree.BadType at (t.binary_kind o left.0 y)) k left.2 in
      binary_value o left.0 right.0 k (v.value_in a row) (v.value_in b row) (no-fault tree.BadType at (t.binary_kind o left.0 right.0) k right.2)
  value_in columns row (call at name args) k fit e n =
      let inner = found (t.kinds_of columns args) (t.named_kind at name args) k e in
      named at name args inner.0 k (v.values_in args row) inner.2 (values_in columns row args inner.0 fit inner.1 (cc))

  values_in : (columns : List Column) (row : List Cell) (args : Arguments) (ks : List CellType) → FitsColumns columns row
      → t.kinds_of columns args ≡ Ok ks → t.numbered_all columns args ≡ args → FitEach ks (v.values_in args row)
  values_in columns row no_arguments [] fit e n = tt
  values_in columns row no_arguments (k ∷ ks) fit e n = cc
  values_in columns row (argument a more) [] fit e n =
      let first = found (t.kind_of columns a) (λ x. and_then (t.kinds_of columns more) (λ xs. Ok (x ∷ xs))) [] e in
      let later = found (t.kinds_of columns more) (λ xs. Ok (first.0 ∷ xs)) [] first.2 in
      cc
  values_in columns row (argument a more) (k ∷ ks) fit e n =
      let first = found (t.kind_of columns a) (λ x. and_then (t.kinds_of columns more) (λ xs. Ok (x ∷ xs))) (k ∷ ks) e in
      let later = found (t.kinds_of columns more) (λ xs. Ok (first.0 ∷ xs)) (k ∷ ks) first.2 in
      let same : first.0 ≡ k = cc in
      let others : later.0 ≡ ks = cc in
      (value_in columns row a k fit (first.1 ∙ ap Ok same) (cc), values_in columns row more ks fit (later.1 ∙ ap Ok others) (cc))

-- a row that fits has its dates and moments on the calendar
on-calendar : (k : CellType) (c : Cell) → Fits k c → IsOnCalendar c
on-calendar kind.Date (Date d) h = fits-day d h
on-calendar kind.Moment (Moment m) h = fits-moment m h
on-calendar k (Date d) h = cc
on-calendar k (Moment m) h = cc
on-calendar k c h = tt

pub fitting_row : (columns : List Column) (row : List Cell) → FitsColumns columns row → All IsOnCalendar row
fitting_row [] [] fit = All-nil IsOnCalendar
fitting_row [] (x ∷ row) fit = absurd fit
fitting_row (c ∷ columns) [] fit = absurd fit
fitting_row (c ∷ columns) (x ∷ row) fit = All-cons IsOnCalendar x row (on-calendar c.kind x fit.0) (fitting_row columns row fit.1)
