use Rattle.std.proofs.Common.{sym, ap}
use Rattle.cell_core.specs.declared.schema.Column.{Column}
use Rattle.view_columns.proofs.AbsentColumns.{column_past}
use Rattle.view_columns.proofs.columns.column_name.Goals as goal

pub returns-in-None : goal.returns-in-None
returns-in-None c = sym (ap (λ (column : Column). column.name) (column_past c.args.columns.now c.args.plan.now c.args.i c.if-i-columns.false c.in-None.ensures.value))
