-- Shown rows at their places.
use Rattle.std.specs.Prelude.{List}
use Rattle.std.specs.BTreeMap.{insert_entry}
use Rattle.place_order.specs.Places.{place_order}
use Rattle.place_order.specs.declared.rank.Rank.{Rank}
use Rattle.view_types.specs.declared.shown.ShownRow.{ShownRow}
use Rattle.view_spec.specs.declared.placed.PlacedRow.{PlacedRow}

-- a row at its place, in a map of rows by place
abbrev pub put_entry : List (List Rank × ShownRow) → PlacedRow → List (List Rank × ShownRow)
put_entry entries x = insert_entry place_order entries x.place x.row
