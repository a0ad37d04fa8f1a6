use Rattle.std.proofs.lemmas.Result.{on_ok_weaker}
use Rattle.agg_core.specs.Rows.{end_name}
use Rattle.agg_core.proofs.KeyedRows.{AreRowsOf-with_pair}
use Rattle.agg_core.proofs.end_row.EndRowAggregate.add.Goals as goal

pub returns-clause-ok : goal.returns-clause-ok
returns-clause-ok c = on_ok_weaker c.add.result (AreRowsOf-with_pair (end_name c.args.self.now.end) _ _ _ _) c.add.ensures.ok
