-- Entries of a map by their keys.
use Rattle.std.specs.Prelude.{◌≡◌, ℕ, ◌+◌, Bool, cond, List, [], ◌∷◌, map, Option, is_some, unwrap_or}
use Rattle.std.specs.Map.{lookup, update}
use Rattle.cell_core.specs.declared.cell.Cell.{Cell}
use Rattle.cell_core.specs.Cells.{same_cell}
use Rattle.row_batch.specs.declared.batch.Pair.{Pair}
use Rattle.row_batch.specs.Batches.{pair_of}

-- a map's entries as rows under keys
abbrev pub pairs_of : List (Cell × List Cell) → List Pair
pairs_of entries = map (λ e. pair_of e.0 e.1) entries

-- the key has this value, or none, and each other key what it had
abbrev pub ChangesKey : {V : Type 0} → List (Cell × V) → Cell → Option V → List (Cell × V) → Type 0
ChangesKey old key value new = (q : Cell) → lookup (same_cell q) new ≡ update same_cell (λ k. lookup (same_cell k) old) key value q

abbrev pub one_if : Bool → ℕ
one_if b = cond b 1 0

-- how many keys get a row
abbrev pub puts_in : List (Cell × Option (List Cell)) → ℕ
puts_in [] = 0
puts_in (e ∷ es) = one_if (is_some e.1) + puts_in es

-- the row at a key, once the keys of the first list have got theirs
abbrev pub settled_row : List (Cell × Option (List Cell)) → List (Cell × List Cell) → Cell → Option (List Cell)
settled_row finals rows q = unwrap_or (lookup (same_cell q) finals) (lookup (same_cell q) rows)
