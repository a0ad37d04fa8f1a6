-- A number that is read digit by digit, and no further once it is too large.
use Rattle.std.proofs.Common.{◌≡◌, ℕ, ◌+◌, ◌-◌, ◌*◌, ◌<◌, ◌≤◌, List, [], ◌∷◌, length, get_or, drop, sym, ◌∙◌, arith}
use Rattle.std.specs.Prelude.{fold}
use Rattle.std.proofs.lemmas.List.{at_drop_more}

abbrev pub more_digits : ℕ → List ℕ → ℕ
more_digits n ds = fold (λ n d. n * 10 + (d - 48)) n ds

grows : (ds : List ℕ) (n : ℕ) → n ≤ more_digits n ds
grows [] n = omega arith
grows (d ∷ ds) n = let h = grows ds (n * 10 + (d - 48)) in omega arith

pub record Capped (n : ℕ) (rest : List ℕ) (total : ℕ) : Type 0 where
  pub exact : n ≤ 9007199254740991 → more_digits n rest ≡ total
  pub large : 9007199254740991 < n → 9007199254740991 < total
  pub bound : n ≤ 90071992547410165

pub capped_more : (ds : List ℕ) (i n total : ℕ) → i < length ds → get_or ds i 0 < 256 → n ≤ 9007199254740991 → Capped n (drop i ds) total → Capped (n * 10 + (get_or ds i 0 - 48)) (drop (i + 1) ds) total
capped_more ds i n total lt low small c =
    let e : more_digits n (drop i ds) ≡ more_digits (n * 10 + (get_or ds i 0 - 48)) (drop (i + 1) ds) = at_drop_more (more_digits n) ds i 0 lt in
    let g = grows (drop (i + 1) ds) (n * 10 + (get_or ds i 0 - 48)) in
    let t = c.exact small in
    record { exact = λ h. sym e ∙ t; large = λ h. omega arith; bound = omega arith }

pub capped_stays : (ds : List ℕ) (i n total : ℕ) → 9007199254740991 < n → Capped n (drop i ds) total → Capped n (drop (i + 1) ds) total
capped_stays ds i n total large c = record { exact = λ h. absurd (omega arith); large = c.large; bound = c.bound }
