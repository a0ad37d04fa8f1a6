use Rattle.agg_core.specs.Rows.{end_name}
use Rattle.agg_core.proofs.KeyedRows.{AreRowsOf-without_key}
use Rattle.agg_core.proofs.end_row.EndRowAggregate.take_off.Goals as goal

pub returns-clause-stands : goal.returns-clause-stands
returns-clause-stands c = AreRowsOf-without_key (end_name c.args.self.now.end) _ _ _ _ c.take_off.ensures
