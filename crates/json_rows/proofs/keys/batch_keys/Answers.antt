use Rattle.cell_core.specs.RawViews.{raw_view}
use Rattle.json_rows.proofs.Taken.{read_keys-checked}
use Rattle.json_rows.proofs.keys.batch_keys.Goals as goal

pub returns-clause-checked : goal.returns-clause-checked
returns-clause-checked c = read_keys-checked c.args.schema.now (raw_view c.args.keys.now) c.read_keys.result c.requires c.read_keys.ensures.ok
