-- The expressions of a plan: what their texts are read as, and the columns that they make.
use Rattle.std.specs.Prelude.{ℕ, nat_lt, List, [], length, ◌||◌, is_some, Result, Ok, Err}
use Rattle.plain_data.specs.Results.{and_then}
use Rattle.cell_core.specs.Schemas.{is_bad_name}
use Rattle.cell_core.specs.declared.cell.CellType.{CellType}
use Rattle.cell_core.specs.declared.schema.Column.{Column}
use Rattle.cell_core.specs.declared.schema.Numbers.TheVariants.{One, Two}
use Rattle.plan_types.specs.declared.plan.Expression.{Expression}
use Rattle.plan_types.specs.declared.tree.Tree.{Tree}
use Rattle.expr_parse.specs.Faults.{most_nested}
use Rattle.expr_parse.specs.Machine.{Fault, run}
use Rattle.expr_parse.specs.Tokens.{tokens}
use Rattle.expr_parse.specs.declared.frame.Want.TheVariants as want
use Rattle.expr_parse.specs.declared.refusal.ParseCause.{ParseCause}
use Rattle.expr_parse.specs.declared.refusal.ParseCause.TheVariants as parse
use Rattle.expr_spec.specs.TreeViews.{tree_view}
use Rattle.expr_spec.specs.Typing.{column_named, kind_of, numbered}
use Rattle.expr_spec.specs.declared.refused.TreeCause.{TreeCause}
use Rattle.expr_spec.specs.declared.refused.TreeCause.TheVariants as typing
use Rattle.expr_spec.specs.declared.refused.TreeRefused.{TreeRefused}
use Rattle.row_cells.specs.Rows.{read_each}
use Rattle.plan_json.specs.declared.named.NamedText.{NamedText}
use Rattle.plan_check.specs.Faults.{fault, unless, at_most}
use Rattle.plan_check.specs.Trees.{tree_of}
use Rattle.plan_json.specs.declared.words.PlanCause.{PlanCause}
use Rattle.plan_json.specs.declared.words.PlanCause.TheVariants as cause
use Rattle.plan_check.specs.declared.refused.PlanFault.{PlanFault}
use Rattle.plan_json.specs.declared.words.PlanPart.TheVariants as part

-- the most expressions of a plan
abbrev pub max_expressions : ℕ
max_expressions = 16

-- the most bytes of an expression's text
abbrev pub max_expression : ℕ
max_expression = 1024

-- the tree of a text, or its first fault, with its byte place
abbrev pub parsed : List ℕ → Result Tree Fault
parsed text = run most_nested (length text) (want.Operand, []) (tokens text)

abbrev pub parse_cause : ParseCause → PlanCause
parse_cause parse.Number = cause.Number
parse_cause parse.Nesting = cause.Nesting
parse_cause parse.Syntax = cause.Syntax

abbrev pub typing_cause : TreeCause → PlanCause
typing_cause typing.Unknown = cause.Unknown
typing_cause typing.BadType = cause.BadType
typing_cause typing.Unit = cause.Unit

-- what expression i is read as
abbrev pub parse_answer : ℕ → Result Tree Fault → Result Tree PlanFault
parse_answer i (Ok x) = Ok x
parse_answer i (Err (at, why)) = Err (fault part.Expressions (parse_cause why) (Two i at))

-- and its type
abbrev pub kind_answer : ℕ → Result CellType TreeRefused → Result CellType PlanFault
kind_answer i (Ok kind) = Ok kind
kind_answer i (Err why) = Err (fault part.Expressions (typing_cause why.cause) (Two i why.at))

-- expression i, with its columns numbered
abbrev pub expression : List Column → NamedText → Tree → CellType → Expression
expression columns named x kind =
    record { name = named.name; kind = kind; tree = tree_of (numbered columns (tree_view x)) }

abbrev pub expression_at : List Column → ℕ → NamedText → Result Expression PlanFault
expression_at columns i named =
    unless (is_bad_name named.name || is_some (column_named columns named.name)) (fault part.Expressions cause.Name (One i))
    (unless (nat_lt max_expression (length named.text)) (fault part.Expressions cause.Long (One i))
    (and_then (parse_answer i (parsed named.text)) (λ x.
    and_then (kind_answer i (kind_of columns (tree_view x))) (λ kind.
    Ok (expression columns named x kind)))))

abbrev pub expressions_of : List Column → List NamedText → Result (List Expression) PlanFault
expressions_of columns texts = at_most max_expressions part.Expressions texts (read_each (expression_at columns) 0 texts)
