use Rattle.std.proofs.Common.{ap, ◌∙◌}
use Rattle.std.proofs.lemmas.Result.{IfOk-weaker}
use Rattle.agg_core.specs.Aggregates.{aggregate}
use Rattle.agg_core.specs.Any.{any_name}
use Rattle.pivot_tree.specs.Groups.{pairs_in}
use Rattle.pivot_tree.proofs.ColumnSteps.{cells-pairs_in}
use Rattle.pivot_tree.proofs.column.ColumnAggregate.value.Goals as goal

pub returns : goal.returns
returns c =
    let h = c.args.self.now in
    IfOk-weaker c.value.result _ _ (λ value is rows holds. is (pairs_in h.column rows) holds ∙ ap (aggregate (any_name h.aggregate)) (cells-pairs_in h.column rows)) c.value.ensures
