use Rattle.std.proofs.Common.{◌≡◌, take}
use Rattle.std.specs.List.{flat_map}
use Rattle.view_columns.specs.declared.headers.SplitColumns.{SplitColumns}
use Rattle.view_columns.proofs.headers.header_of.Given as goal

abbrev pub invariant-loop-one : goal.invariant-loop-one
invariant-loop-one l = l.header.items ≡ flat_map (λ (s : SplitColumns). s.columns) (take l.one-index l.splits)
