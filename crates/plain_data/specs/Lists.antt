-- Words on lists.
use Rattle.std.specs.Prelude.{List, [], ◌∷◌, Bool, true, false}

abbrev pub is_empty : {X : Type 0} → List X → Bool
is_empty [] = true
is_empty (x ∷ xs) = false
