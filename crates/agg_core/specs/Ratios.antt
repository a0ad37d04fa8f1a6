-- The lowest form of a whole number over a count, as two numbers.
use Rattle.std.specs.Prelude.{ℕ, zero, suc, ◌*◌, ◌/◌, ◌%◌, ◌==◌, ℤ, pos, negsuc, neg_ℤ, unsigned_abs, if◌then◌else◌}

-- the first denominator from d on over which n over c has a whole numerator, or else that past `more` others
unfoldable pub denominator_from : ℕ → ℕ → ℕ → ℕ → ℕ
denominator_from n c zero d = d
denominator_from n c (suc more) d = if (n * d) % c == 0 then d else denominator_from n c more (suc d)

-- the least positive denominator over which n over c has a whole numerator: c is one
abbrev pub lowest_denominator : ℤ → ℕ → ℕ
lowest_denominator n c = denominator_from (unsigned_abs n) c c 1

-- a size with the sign of a number
abbrev pub with_sign_of : ℤ → ℕ → ℤ
with_sign_of (pos n) size = pos size
with_sign_of (negsuc n) size = neg_ℤ (pos size)

-- the numerator over that denominator
abbrev pub lowest_numerator : ℤ → ℕ → ℤ
lowest_numerator n c = with_sign_of n (unsigned_abs n * lowest_denominator n c / c)
