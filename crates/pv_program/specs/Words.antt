-- The forms of the command line.
use Rattle.std.specs.Prelude.{ℕ, List, [], ◌∷◌, codes, Bool, false}
use Rattle.std.specs.Str.{bytes_eq}

-- `script` is the only form
abbrev pub is_form : List (List ℕ) → Bool
is_form [] = false
is_form (word ∷ []) = bytes_eq word (codes "script")
is_form (word ∷ (other ∷ words)) = false
