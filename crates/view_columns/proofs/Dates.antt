-- The text of a date is ASCII.
use Rattle.std.proofs.Common.{◌≡◌, ℕ, ◌<◌, ℤ, List, [], ◌∷◌, Bool, true, false, cond, nat_lt, codes, Option, Some, None, refl, arith}
use Rattle.std.specs.List.{list_all}
use Rattle.std.specs.Str.{IsAscii, IsUtf8}
use Rattle.std.proofs.lemmas.Bool.{and_parts}
use Rattle.std.proofs.lemmas.Bool.Decides.{nat_tests}
use Rattle.std.proofs.lemmas.Str.{IsUtf8-from_ascii}
use Rattle.std.proofs.lemmas.Str.Ascii.{IsAscii-nil, IsAscii-cons}
use Rattle.cal_units.specs.DateText.{date_of}
use Rattle.cal_units.specs.Digits.{fits_byte, fits}

fits_byte-ascii : (p c : ℕ) → nat_lt p 128 ≡ true → fits_byte p c ≡ true → c < 128
fits_byte-ascii p c h e = grind (arith, nat_tests)

fits-ascii : (ps cs : List ℕ) → list_all (λ p. nat_lt p 128) ps ≡ true → fits ps cs ≡ true → IsAscii cs
unfolding fits
fits-ascii [] [] a e = IsAscii-nil
fits-ascii [] (c ∷ cs) a e = cc
fits-ascii (p ∷ ps) [] a e = IsAscii-nil
fits-ascii (p ∷ ps) (c ∷ cs) a e =
    let small = and_parts (nat_lt p 128) (list_all (λ q. nat_lt q 128) ps) a in
    let fit = and_parts (fits_byte p c) (fits ps cs) e in
    IsAscii-cons c cs (fits_byte-ascii p c small.0 fit.0) (fits-ascii ps cs small.1 fit.1)

passed : (b : Bool) (o : Option ℤ) (day : ℤ) → cond b o None ≡ Some day → b ≡ true
passed true o day e = refl
passed false o day e = cc

pub IsUtf8-date : (text : List ℕ) (day : ℤ) → date_of text ≡ Some day → IsUtf8 text
unfolding date_of
IsUtf8-date text day e = IsUtf8-from_ascii text (fits-ascii (codes "dddd-dd-dd") text refl (passed (fits (codes "dddd-dd-dd") text) _ day e))
