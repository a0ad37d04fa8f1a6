-- Lists of items that have view keys.
use Rattle.std.specs.Prelude.{◌≡◌, ℕ, ◌+◌, List, [], ◌∷◌, Bool, Option, Some, None, option_map, if◌then◌else◌}
use Rattle.std.specs.Map.{lookup}
use Rattle.view_types.specs.Keys.{same_key}
use Rattle.view_types.specs.declared.key.ViewKey.{ViewKey}

-- whether two items have one key
abbrev pub same_by : {X : Type 0} → (X → ViewKey) → X → X → Bool
same_by key a b = same_key (key a) (key b)

-- the position of the first item with that key
abbrev pub index_of : {X : Type 0} → (X → ViewKey) → ViewKey → List X → Option ℕ
index_of key k [] = None
index_of key k (x ∷ xs) = if same_key (key x) k then Some 0 else option_map (λ i. i + 1) (index_of key k xs)

-- the entries have the position of each key
abbrev pub GivesPositions : {X : Type 0} → (X → ViewKey) → List (ViewKey × ℕ) → List X → Type 0
GivesPositions key entries xs = (k : ViewKey) → lookup (same_key k) entries ≡ index_of key k xs
