use Rattle.std.proofs.Common.{◌≡◌, map}
use Rattle.cell_core.specs.RawViews.{raw_view, members_of}
use Rattle.json_rows.specs.Reading.{have_len}
use Rattle.json_rows.proofs.across.have_len.Given as goal

abbrev pub invariant-loop-value : goal.invariant-loop-value
invariant-loop-value l =
    have_len l.count (members_of (map (λ m. (m.0, raw_view m.1)) l.value-iterator))
    ≡ have_len l.count (members_of (map (λ m. (m.0, raw_view m.1)) l.members.entries))
