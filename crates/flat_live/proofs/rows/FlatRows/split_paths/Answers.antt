use Rattle.std.proofs.Common.{◌≡◌, List, subst}
use Rattle.std.specs.Prelude.{IfOk}
use Rattle.std.specs.List.{list_any}
use Rattle.std.specs.Map.{keys_of}
use Rattle.view_spec.specs.Paths.{same_path}
use Rattle.flat_live.specs.FlatRows.{FlatRow, is_counted}
use Rattle.flat_live.proofs.Splits.{ascend_ok, told_ok}
use Rattle.flat_live.proofs.rows.FlatRows.split_paths.Goals as goal

pub returns-clause-ascend : goal.returns-clause-ascend
returns-clause-ascend c = ascend_ok c.counted_paths.result (λ paths. paths.items) (keys_of c.self.inside.counts.entries) c.counted_paths.ensures.ascend c.counted_paths.ensures.paths

pub returns-clause-told : goal.returns-clause-told
returns-clause-told c = λ path.
    subst (λ (rows : List FlatRow). IfOk c.counted_paths.result (λ paths. list_any (same_path path) paths.items ≡ is_counted rows path)) c.self.view_is
    (told_ok c.counted_paths.result (λ paths. paths.items) c.self.inside.list c.self.inside.counts.entries path c.self.invariant c.counted_paths.ensures.paths)
