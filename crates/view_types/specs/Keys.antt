-- The order of keys.
use Rattle.std.specs.Cmp.Lexicographic.{slice_cmp}
use Rattle.std.specs.Prelude.{Bool}
use Rattle.std.specs.declared.cmp.Ordering.{Ordering}
use Rattle.std.specs.declared.cmp.Ordering.TheVariants.{Less, Greater}
use Rattle.std.specs.Ordering.{is_eq}
use Rattle.cell_core.specs.Cells.{cell_order}
use Rattle.view_types.specs.declared.key.ViewKey.{ViewKey}
use Rattle.view_types.specs.declared.key.ViewKey.TheVariants.{Row, Group}

-- rows before groups, rows by cell, groups value by value with a prefix first
abbrev pub key_order : ViewKey → ViewKey → Ordering
key_order (Row a) (Row b) = cell_order a b
key_order (Row a) (Group b) = Less
key_order (Group a) (Row b) = Greater
key_order (Group a) (Group b) = slice_cmp cell_order a b

abbrev pub same_key : ViewKey → ViewKey → Bool
same_key a b = is_eq (key_order a b)
