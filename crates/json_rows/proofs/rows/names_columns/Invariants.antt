use Rattle.std.proofs.Common.{◌≡◌, map}
use Rattle.cell_core.specs.RawViews.{raw_view, members_of}
use Rattle.json_rows.specs.Reading.{names_columns}
use Rattle.json_rows.proofs.rows.names_columns.Given as goal

abbrev pub invariant-loop-name : goal.invariant-loop-name
invariant-loop-name l =
    names_columns l.schema.columns (members_of (map (λ m. (m.0, raw_view m.1)) l.name-iterator))
    ≡ names_columns l.schema.columns (members_of (map (λ m. (m.0, raw_view m.1)) l.members.entries))
