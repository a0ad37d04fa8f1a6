-- The lines of bytes, and their laws.
use Rattle.std.specs.Prelude.{◌≡◌, ℕ, ◌==◌, ◌<◌, Bool, true, false, ◌||◌, List, [], ◌∷◌, ◌++◌, length, if◌then◌else◌, refl}
use Rattle.std.specs.List.{list_any, onto_first}
use Rattle.std.proofs.Common.{arith}
use Rattle.std.proofs.lemmas.List.Folds.{list_any-append}

-- whether byte 10, which ends a line, is among the bytes
abbrev pub has_end : List ℕ → Bool
has_end bytes = list_any (λ b. b == 10) bytes

abbrev pub NoEnd : List ℕ → Type 0
NoEnd bytes = has_end bytes ≡ false

-- the lines: each ends at byte 10, which is no part of it, and an empty rest is no line
abbrev pub lines : List ℕ → List (List ℕ)
lines [] = []
lines (b ∷ bytes) = if b == 10 then [] ∷ lines bytes else onto_first b (lines bytes)

-- a byte put before the first line, where there is one
abbrev pub onto_ended : ℕ → List (List ℕ) → List (List ℕ)
onto_ended b [] = []
onto_ended b (line ∷ others) = (b ∷ line) ∷ others

-- the lines that ended by byte 10
abbrev pub ended_lines : List ℕ → List (List ℕ)
ended_lines [] = []
ended_lines (b ∷ bytes) = if b == 10 then [] ∷ ended_lines bytes else onto_ended b (ended_lines bytes)

-- nothing has no line
pub lines-nil : lines [] ≡ []
lines-nil = refl

pub ended_lines-nil : ended_lines [] ≡ []
ended_lines-nil = refl

-- no line ends in two texts one after the other, where none ends in either
pub no_end-append : (front rest : List ℕ) → NoEnd front → NoEnd rest → NoEnd (front ++ rest)
no_end-append front rest p q = rw (list_any-append (λ b. b == 10) front rest, p) q

or-parts : (x y : Bool) → (x || y) ≡ false → (x ≡ false) × (y ≡ false)
or-parts false y p = (refl, p)
or-parts true y p = cc

-- where no line ends in a text, its first byte ends none, and none ends in the rest
pub no_end-parts : (b : ℕ) (text : List ℕ) → NoEnd (b ∷ text) → ((b == 10) ≡ false) × NoEnd text
no_end-parts b text p = or-parts (b == 10) (has_end text) p

-- a line that byte 10 ends is the first
pub lines_at : (text rest : List ℕ) → NoEnd text → lines (text ++ 10 ∷ rest) ≡ text ∷ lines rest
lines_at [] rest p = refl
lines_at (b ∷ text) rest p = let h = no_end-parts b text p in rw (h.0, lines_at text rest h.1) refl

-- a last line without byte 10
pub lines_one : (text : List ℕ) → NoEnd text → 0 < length text → lines text ≡ text ∷ []
lines_one [] p some = absurd (omega arith)
lines_one (b ∷ []) p some = let h = no_end-parts b [] p in rw h.0 refl
lines_one (b ∷ (c ∷ text)) p some = let h = no_end-parts b (c ∷ text) p in rw (h.0, lines_one (c ∷ text) h.1 (omega arith)) refl

-- a line that byte 10 ends is the first of those that ended
pub ended_at : (text rest : List ℕ) → NoEnd text → ended_lines (text ++ 10 ∷ rest) ≡ text ∷ ended_lines rest
ended_at [] rest p = refl
ended_at (b ∷ text) rest p = let h = no_end-parts b text p in rw (h.0, ended_at text rest h.1) refl

-- without byte 10 no line ended
pub ended_none : (text : List ℕ) → NoEnd text → ended_lines text ≡ []
ended_none [] p = refl
ended_none (b ∷ text) p = let h = no_end-parts b text p in rw (h.0, ended_none text h.1) refl
