use Rattle.cell_core.specs.RawViews.{raw_view}
use Rattle.json_rows.proofs.Taken.{read_rows-checked}
use Rattle.json_rows.proofs.rows.batch_rows.Goals as goal

pub returns-clause-checked : goal.returns-clause-checked
returns-clause-checked c = read_rows-checked c.args.schema.now (raw_view c.args.rows.now) c.read_rows.result c.read_rows.ensures.ok
