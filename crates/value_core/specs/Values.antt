-- The one order of all shown values: by kind, then by value.
use Rattle.std.specs.Prelude.{ℕ}
use Rattle.std.specs.declared.cmp.Ordering.{Ordering}
use Rattle.std.specs.declared.cmp.Ordering.TheVariants.{Equal}
use Rattle.std.specs.Ordering.{ordering_then, nat_cmp, int_cmp, bool_cmp}
use Rattle.std.specs.Cmp.Lexicographic.{slice_cmp}
use Rattle.value_core.specs.Fractions.{fraction_order}
use Rattle.value_core.specs.declared.value.Value.{Value}
use Rattle.value_core.specs.declared.value.Value.TheVariants.{Bool, Whole, Fraction, Date, Moment, Words}

-- the place of a value's kind among all kinds, where null, which is no value, has the place 0
abbrev pub kind : Value → ℕ
kind (Bool x) = 1
kind (Whole x) = 2
kind (Fraction x) = 3
kind (Date x) = 4
kind (Moment x) = 5
kind (Words x) = 6

-- two values of one kind by value, false before true and texts by their bytes
abbrev pub order_in_kind : Value → Value → Ordering
order_in_kind (Bool x) (Bool y) = bool_cmp x y
order_in_kind (Whole x) (Whole y) = int_cmp x y
order_in_kind (Fraction x) (Fraction y) = fraction_order x y
order_in_kind (Date x) (Date y) = int_cmp x y
order_in_kind (Moment x) (Moment y) = int_cmp x y
order_in_kind (Words x) (Words y) = slice_cmp nat_cmp x y
order_in_kind _ _ = Equal

-- by kind, then by value
unfoldable pub value_order : Value → Value → Ordering
value_order x y = ordering_then (nat_cmp (kind x) (kind y)) (order_in_kind x y)
