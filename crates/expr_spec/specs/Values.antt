-- The cell that an expression tree gives on a row.
use Rattle.std.specs.Prelude.{ℕ, zero, suc, nat_eq, nat_lt, ℤ, pos, negsuc, neg_ℤ, ◌+ℤ◌, ◌-ℤ◌, ◌*ℤ◌, unsigned_abs, List, [], ◌∷◌, ◌++◌, length, slice_index_or, Bool, true, false, not, ◌||◌, Option, Some, None, if◌then◌else◌}
use Rattle.std.specs.Int.{int_min, int_max, int_div_euclid, int_rem_euclid}
use Rattle.std.specs.List.{starts_with, ends_with}
use Rattle.std.specs.Option.{option_and_then}
use Rattle.std.specs.Ordering.{is_eq, is_ne, is_lt, is_le, is_gt, is_ge}
use Rattle.std.specs.Str.{chars}
use Rattle.std.specs.declared.cmp.Ordering.{Ordering}
use Rattle.cal_units.specs.Buckets.{date_bucket, moment_bucket}
use Rattle.cal_units.specs.Calendar.{IsDay, IsMoment, year_of, month_of, day_of_month, day_at, day_millis, hour_millis}
use Rattle.cal_units.specs.declared.buckets.Unit.{Unit as TimeUnit}
use Rattle.cell_core.specs.declared.cell.Cell.{Cell}
use Rattle.cell_core.specs.declared.cell.Cell.TheVariants.{Null, Bool as Truth, Int, Date, Moment, Words}
use Rattle.cell_core.specs.Cells.{cell_order, is_null}
use Rattle.cell_core.specs.Limits.{is_integer, max_text}
use Rattle.plan_types.specs.declared.tree.UnaryOp.{UnaryOp}
use Rattle.plan_types.specs.declared.tree.UnaryOp.TheVariants as sign
use Rattle.plan_types.specs.declared.tree.BinaryOp.{BinaryOp}
use Rattle.plan_types.specs.declared.tree.BinaryOp.TheVariants as op
use Rattle.expr_spec.specs.declared.function.Function.{Function}
use Rattle.expr_spec.specs.declared.function.Function.TheVariants as function
use Rattle.expr_spec.specs.Functions.{function_named, unit_named, date_unit}
use Rattle.expr_spec.specs.TreeData.{TreeData, column, number, truth, words, unary, binary, call, Arguments, no_arguments, argument}

-- ---- a form of arguments that aren't null, and null where one is null

abbrev pub on_truth : (Bool → Cell) → Cell → Cell
on_truth f (Truth b) = f b
on_truth f other = Null

abbrev pub on_number : (ℤ → Cell) → Cell → Cell
on_number f (Int z) = f z
on_number f other = Null

abbrev pub on_date : (ℤ → Cell) → Cell → Cell
on_date f (Date day) = f day
on_date f other = Null

abbrev pub on_moment : (ℤ → Cell) → Cell → Cell
on_moment f (Moment ms) = f ms
on_moment f other = Null

abbrev pub on_text : (List ℕ → Cell) → Cell → Cell
on_text f (Words s) = f s
on_text f other = Null

abbrev pub on_numbers : (ℤ → ℤ → Cell) → Cell → Cell → Cell
on_numbers f a b = on_number (λ x. on_number (f x) b) a

abbrev pub on_texts : (List ℕ → List ℕ → Cell) → Cell → Cell → Cell
on_texts f a b = on_text (λ s. on_text (f s) b) a

-- ---- numbers

-- a whole number in range, and else null
abbrev pub whole : ℤ → Cell
whole z = if is_integer z then Int z else Null

-- the quotient rounded toward minus infinity; below zero, a divisor is turned with what it divides
abbrev pub floor_div : ℤ → ℤ → ℤ
floor_div a (pos n) = int_div_euclid a (pos n)
floor_div a (negsuc n) = int_div_euclid (neg_ℤ a) (pos (suc n))

-- null for a divisor of zero
abbrev pub quotient : ℤ → ℤ → Cell
quotient a (pos zero) = Null
quotient a b = whole (floor_div a b)

-- what the quotient leaves
abbrev pub rest : ℤ → ℤ → Cell
rest a (pos zero) = Null
rest a b = whole (a -ℤ (b *ℤ floor_div a b))

-- the greatest multiple of n that is at most a: a less what it is past that multiple
abbrev pub number_bucket : ℤ → ℤ → Cell
number_bucket a (pos zero) = Null
number_bucket a n = whole (a -ℤ int_rem_euclid a n)

-- ---- operators

abbrev pub unary_value : UnaryOp → Cell → Cell
unary_value sign.Not a = on_truth (λ b. Truth (not b)) a
unary_value sign.Minus a = on_number (λ z. whole (neg_ℤ z)) a

-- false decides; else null where one is null
abbrev pub and_value : Cell → Cell → Cell
and_value (Truth false) b = Truth false
and_value a (Truth false) = Truth false
and_value (Truth true) (Truth true) = Truth true
and_value a b = Null

-- true decides; else null where one is null
abbrev pub or_value : Cell → Cell → Cell
or_value (Truth true) b = Truth true
or_value a (Truth true) = Truth true
or_value (Truth false) (Truth false) = Truth false
or_value a b = Null

-- by the order of cells
abbrev pub compared : (Ordering → Bool) → Cell → Cell → Cell
compared test a b = if is_null a || is_null b then Null else Truth (test (cell_order a b))

abbrev pub binary_value : BinaryOp → Cell → Cell → Cell
binary_value op.Or a b = or_value a b
binary_value op.And a b = and_value a b
binary_value op.Equal a b = compared is_eq a b
binary_value op.Unequal a b = compared is_ne a b
binary_value op.Less a b = compared is_lt a b
binary_value op.AtMost a b = compared is_le a b
binary_value op.Greater a b = compared is_gt a b
binary_value op.AtLeast a b = compared is_ge a b
binary_value op.Plus a b = on_numbers (λ x y. whole (x +ℤ y)) a b
binary_value op.Minus a b = on_numbers (λ x y. whole (x -ℤ y)) a b
binary_value op.Times a b = on_numbers (λ x y. whole (x *ℤ y)) a b
binary_value op.Quotient a b = on_numbers quotient a b
binary_value op.Rest a b = on_numbers rest a b

-- ---- functions

-- a where the condition is true, else b, also where the condition is null
abbrev pub if_value : Cell → Cell → Cell → Cell
if_value (Truth true) a b = a
if_value other a b = b

-- the number of characters
abbrev pub length_value : List ℕ → Cell
length_value s = Int (pos (length (chars s)))

-- joined; null where a cell may not have so many bytes
abbrev pub concat_value : List ℕ → List ℕ → Cell
concat_value s t = if nat_lt max_text (length (s ++ t)) then Null else Words (s ++ t)

-- t stands somewhere within s
abbrev pub stands_within : List ℕ → List ℕ → Bool
stands_within t [] = starts_with nat_eq [] t
stands_within t (b ∷ s) = starts_with nat_eq (b ∷ s) t || stands_within t s

-- the hour of a moment, in UTC
abbrev pub hour_of : ℤ → ℤ
hour_of ms = int_div_euclid (int_rem_euclid ms (pos day_millis)) (pos hour_millis)

abbrev pub date_in : Option TimeUnit → ℤ → Cell
date_in None day = Null
date_in (Some unit) day = Date (date_bucket unit day)

abbrev pub moment_in : Option TimeUnit → ℤ → Cell
moment_in None ms = Null
moment_in (Some unit) ms = Moment (moment_bucket unit ms)

-- the start of the unit in which a day or a moment lies, and for a number the multiple below it
abbrev pub bucket_value : Cell → Cell → Cell
bucket_value (Int a) u = on_number (number_bucket a) u
bucket_value (Date day) u = on_text (λ s. date_in (option_and_then date_unit (unit_named s)) day) u
bucket_value (Moment ms) u = on_text (λ s. moment_in (unit_named s) ms) u
bucket_value other u = Null

abbrev pub one_value : Function → Cell → Cell
one_value function.Abs a = on_number (λ z. whole (pos (unsigned_abs z))) a
one_value function.IsNull a = Truth (is_null a)
one_value function.IsNotNull a = Truth (not (is_null a))
one_value function.Length a = on_text length_value a
one_value function.Year a = on_date (λ day. Int (pos (year_of day))) a
one_value function.Month a = on_date (λ day. Int (pos (month_of day))) a
one_value function.Day a = on_date (λ day. Int (pos (day_of_month day))) a
one_value function.DateOf a = on_moment (λ ms. Date (day_at ms)) a
one_value function.Hour a = on_moment (λ ms. Int (hour_of ms)) a
one_value other a = Null

abbrev pub two_value : Function → Cell → Cell → Cell
two_value function.Min a b = on_numbers (λ x y. Int (int_min x y)) a b
two_value function.Max a b = on_numbers (λ x y. Int (int_max x y)) a b
two_value function.Concat a b = on_texts concat_value a b
two_value function.Contains a b = on_texts (λ s t. Truth (stands_within t s)) a b
two_value function.Begins a b = on_texts (λ s t. Truth (starts_with nat_eq s t)) a b
two_value function.Ends a b = on_texts (λ s t. Truth (ends_with nat_eq s t)) a b
two_value function.Bucket a b = bucket_value a b
two_value other a b = Null

abbrev pub three_value : Function → Cell → Cell → Cell → Cell
three_value function.If c a b = if_value c a b
three_value other a b c = Null

abbrev pub function_value : Function → List Cell → Cell
function_value f (a ∷ []) = one_value f a
function_value f (a ∷ b ∷ []) = two_value f a b
function_value f (a ∷ b ∷ c ∷ []) = three_value f a b c
function_value f other = Null

abbrev pub call_value : Option Function → List Cell → Cell
call_value None cells = Null
call_value (Some f) cells = function_value f cells

-- ---- trees

-- the row's cell in that column
abbrev pub column_value : Option ℕ → List Cell → Cell
column_value None row = Null
column_value (Some i) row = slice_index_or row i Null

abbrev mutual
  pub value_in : TreeData → List Cell → Cell
  value_in (column at name i) row = column_value i row
  value_in (number at n) row = whole n
  value_in (truth at b) row = Truth b
  value_in (words at s) row = Words s
  value_in (unary at op a) row = unary_value op (value_in a row)
  value_in (binary at op a b) row = binary_value op (value_in a row) (value_in b row)
  value_in (call at name args) row = call_value (function_named name) (values_in args row)

  pub values_in : Arguments → List Cell → List Cell
  values_in no_arguments row = []
  values_in (argument a more) row = value_in a row ∷ values_in more row

-- ---- rows that fit

-- a date or a moment in it lies on the days from 0001-01-01 to 9999-12-31
abbrev pub IsOnCalendar : Cell → Type 0
IsOnCalendar (Date day) = IsDay day
IsOnCalendar (Moment ms) = IsMoment ms
IsOnCalendar other = Unit {0}
