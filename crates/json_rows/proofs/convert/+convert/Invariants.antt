use Rattle.std.proofs.Common.{◌≡◌, List, ◌++◌, length, map}
use Rattle.std.specs.Vec.Iter.{into_iter_items, into_iter_len}
use Rattle.serde_json.specs.View.{view, members_view}
use Rattle.serde_json.proofs.Views.{Entry}
use Rattle.cell_core.specs.RawViews.{raw_view}
use Rattle.json_rows.specs.RawOf.{raw_data, members_data}
use Rattle.cell_core.proofs.Members.{entries_view}
use Rattle.json_rows.proofs.convert.+convert.Given as goal

-- what is found, and then what is left, is the whole
abbrev pub invariant-raw_list-loop-item : goal.invariant-raw_list-loop-item
invariant-raw_list-loop-item l =
    (map raw_view l.found ++ map (λ v. raw_data (view v)) (into_iter_items l.item-iterator) ≡ map (λ v. raw_data (view v)) l.fn.items.items)
    × (length (into_iter_items l.item-iterator) ≡ into_iter_len l.item-iterator)

-- what is done has been found
abbrev pub invariant-raw_map-loop-name : goal.invariant-raw_map-loop-name
invariant-raw_map-loop-name l =
    (done : List Entry) × (l.fn.members.entries ≡ done ++ l.name-iterator) × (entries_view l.found.entries ≡ members_data (members_view done))
