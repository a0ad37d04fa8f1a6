use Rattle.std.proofs.Common.{◌≡◌, map}
use Rattle.cell_core.specs.RawViews.{raw_view, members_of}
use Rattle.json_rows.specs.Reading.{are_lists}
use Rattle.json_rows.proofs.across.are_lists.Given as goal

abbrev pub invariant-loop-value : goal.invariant-loop-value
invariant-loop-value l =
    are_lists (members_of (map (λ m. (m.0, raw_view m.1)) l.value-iterator))
    ≡ are_lists (members_of (map (λ m. (m.0, raw_view m.1)) l.members.entries))
