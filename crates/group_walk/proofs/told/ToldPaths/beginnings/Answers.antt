use Rattle.std.proofs.Common.{ap, ◌∙◌}
use Rattle.std.specs.List.{list_any}
use Rattle.std.proofs.lemmas.Map.Keys.{IsDistinct-from_sorted}
use Rattle.std.proofs.lemmas.Result.{IfOk-weaker}
use Rattle.view_spec.specs.Paths.{path_order, same_path}
use Rattle.pivot_tree.proofs.Found.{any-keys}
use Rattle.group_walk.specs.Walks.{is_told}
use Rattle.group_walk.proofs.told.ToldPaths.beginnings.Goals as goal

pub returns-clause-each : goal.returns-clause-each
returns-clause-each c =
    IfOk-weaker c.paths_of.result _ _
    (λ paths is q.
    ap (list_any (same_path q)) is ∙ any-keys (same_path q) c.self.inside.beginnings.entries ∙ c.self.invariant.each q ∙ ap (λ told. is_told told q) c.self.view_is)
    c.paths_of.ensures.paths

pub returns-clause-distinct : goal.returns-clause-distinct
returns-clause-distinct c = IfOk-weaker c.paths_of.result _ _ (λ paths up. IsDistinct-from_sorted path_order paths.items up) c.paths_of.ensures.ascend
