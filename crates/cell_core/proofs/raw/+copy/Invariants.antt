use Rattle.std.proofs.Common.{◌≡◌, List, ◌++◌, take, map}
use Rattle.cell_core.specs.RawViews.{raw_view}
use Rattle.cell_core.proofs.Members.{Entry, entries_view}
use Rattle.cell_core.proofs.raw.+copy.Given as goal

abbrev pub invariant-copy_of_list-loop-item : goal.invariant-copy_of_list-loop-item
invariant-copy_of_list-loop-item l = map raw_view l.items ≡ map raw_view (take l.item-index l.item-items)

-- what is done is copied
abbrev pub invariant-copy_of_map-loop-name : goal.invariant-copy_of_map-loop-name
invariant-copy_of_map-loop-name l =
    (done : List Entry) × (l.map.entries.entries ≡ done ++ l.name-iterator) × (entries_view l.entries.entries ≡ entries_view done)
