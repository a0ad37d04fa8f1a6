-- When two shown rows, or two headers, are the same.
use Rattle.std.specs.Prelude.{ℕ, List, [], ◌∷◌, Bool, true, false, ◌&&◌, not}
use Rattle.std.specs.Cmp.Lexicographic.{slice_cmp}
use Rattle.std.specs.Ordering.{is_eq, nat_cmp}
use Rattle.value_core.specs.Values.{value_order}
use Rattle.value_core.specs.declared.value.Value.{Value}
use Rattle.view_types.specs.Keys.{same_key}
use Rattle.view_types.specs.Types.{shown_type_name}
use Rattle.view_types.specs.declared.shown.HeaderColumn.{HeaderColumn}
use Rattle.view_types.specs.declared.shown.ShownRow.{ShownRow}

abbrev pub same_text : List ℕ → List ℕ → Bool
same_text a b = is_eq (slice_cmp nat_cmp a b)

abbrev pub same_value : Value → Value → Bool
same_value a b = is_eq (value_order a b)

abbrev pub same_mark : Bool → Bool → Bool
same_mark true b = b
same_mark false b = not b

-- the same texts, and the same value under each
abbrev pub same_cells : List (List ℕ × Value) → List (List ℕ × Value) → Bool
same_cells [] [] = true
same_cells [] (b ∷ bs) = false
same_cells (a ∷ as_) [] = false
same_cells (a ∷ as_) (b ∷ bs) = same_text a.0 b.0 && same_value a.1 b.1 && same_cells as_ bs

abbrev pub same_row : ShownRow → ShownRow → Bool
same_row a b = same_key a.key b.key && same_mark a.mark b.mark && same_cells a.cells b.cells

-- the same texts and types in the same order
abbrev pub same_header : List HeaderColumn → List HeaderColumn → Bool
same_header [] [] = true
same_header [] (b ∷ bs) = false
same_header (a ∷ as_) [] = false
same_header (a ∷ as_) (b ∷ bs) = same_text a.text b.text && same_text (shown_type_name a.kind) (shown_type_name b.kind) && same_header as_ bs
