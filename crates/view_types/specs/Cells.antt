-- The cells of a shown row.
use Rattle.std.specs.Prelude.{ℕ, List}
use Rattle.std.specs.BTreeMap.{insert_entry}
use Rattle.std.specs.Cmp.Lexicographic.{slice_cmp}
use Rattle.std.specs.Ordering.{nat_cmp}
use Rattle.value_core.specs.declared.value.Value.{Value}

-- the cells with the value under the column's text, ascending by text
abbrev pub put_cell : List (List ℕ × Value) → List ℕ → Value → List (List ℕ × Value)
put_cell cells column value = insert_entry (slice_cmp nat_cmp) cells column value
