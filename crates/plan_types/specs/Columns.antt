-- The columns of a plan.
use Rattle.std.specs.Prelude.{List, ◌++◌, map}
use Rattle.cell_core.specs.declared.schema.Column.{Column}
use Rattle.plan_types.specs.declared.plan.Expression.{Expression}

abbrev pub expression_column : Expression → Column
expression_column e = record { name = e.name; kind = e.kind }

-- the schema's columns, and then the expressions'
abbrev pub all_columns : List Column → List Expression → List Column
all_columns columns expressions = columns ++ map expression_column expressions
