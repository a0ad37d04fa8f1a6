-- Shown rows by their keys.
use Rattle.std.specs.Prelude.{ℕ, ◌+◌, List, [], ◌∷◌, Bool, Option, Some, None, find, option_map, is_some, if◌then◌else◌}
use Rattle.view_types.specs.Keys.{same_key}
use Rattle.view_types.specs.declared.key.ViewKey.{ViewKey}
use Rattle.view_types.specs.declared.shown.ShownRow.{ShownRow}

-- what stands under a key
abbrev pub at_key : {X : Type 0} → (X → ViewKey) → ViewKey → List X → Option X
at_key key_of k xs = find (λ x. same_key (key_of x) k) xs

abbrev pub row_at : ViewKey → List ShownRow → Option ShownRow
row_at k rows = at_key (λ r. r.key) k rows

abbrev pub has_row : ViewKey → List ShownRow → Bool
has_row k rows = is_some (row_at k rows)

-- the position of the row with that key
abbrev pub position_of : ViewKey → List ShownRow → Option ℕ
position_of k [] = None
position_of k (r ∷ rows) = if same_key r.key k then Some 0 else option_map (λ i. i + 1) (position_of k rows)
