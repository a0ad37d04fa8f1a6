-- Texts of decimal digits in fixed places.
use Rattle.std.specs.Prelude.{ℕ, ◌+◌, ◌/◌, ◌%◌, Bool, true, false, ◌&&◌, ◌==◌, if◌then◌else◌, List, [], ◌∷◌, slice_range}
use Rattle.std.specs.Char.{is_ascii_digit}
use Rattle.std.specs.Str.Parse.{digits_value}

-- in a pattern `d` stands for any decimal digit, and every other byte for itself
abbrev pub fits_byte : ℕ → ℕ → Bool
fits_byte p c = if p == 100 then is_ascii_digit c else p == c

-- the text has the pattern's length, and each of its bytes is what the pattern has there
unfoldable pub fits : List ℕ → List ℕ → Bool
fits [] [] = true
fits [] (c ∷ cs) = false
fits (p ∷ ps) [] = false
fits (p ∷ ps) (c ∷ cs) = fits_byte p c && fits ps cs

-- the number that the digits from one place up to another write
abbrev pub number_in : List ℕ → ℕ → ℕ → ℕ
number_in text from to = digits_value 10 (slice_range text from to)

-- a number below 100 in two digits, and one below 10,000 in four
abbrev pub two_digits : ℕ → List ℕ
two_digits n = (48 + n / 10) ∷ (48 + n % 10) ∷ []

abbrev pub four_digits : ℕ → List ℕ
four_digits n = (48 + n / 1000) ∷ (48 + n / 100 % 10) ∷ (48 + n / 10 % 10) ∷ (48 + n % 10) ∷ []
