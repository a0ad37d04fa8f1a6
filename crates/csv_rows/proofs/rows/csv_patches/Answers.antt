use Rattle.csv_rows.proofs.Taken.{read_csv-checked}
use Rattle.csv_rows.proofs.rows.csv_patches.Goals as goal

pub returns-clause-checked : goal.returns-clause-checked
returns-clause-checked c = read_csv-checked c.args.schema.now c.args.text.now c.read_csv.result c.read_csv.ensures.ok
