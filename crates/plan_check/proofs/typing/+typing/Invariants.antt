use Rattle.std.proofs.Common.{◌≡◌, drop, map}
use Rattle.expr_spec.specs.TreeViews.{tree_view, arguments_of}
use Rattle.expr_spec.specs.Typing.{kinds_of}
use Rattle.plan_check.specs.declared.kinds.Kinds.TheVariants as kinds
use Rattle.plan_check.specs.Kinds.{found_after}
use Rattle.plan_check.proofs.typing.+typing.Given as goal

-- the types so far, and then those of the arguments that are left, are the types of all
abbrev pub invariant-argument_kinds-loop-argument : goal.invariant-argument_kinds-loop-argument
invariant-argument_kinds-loop-argument l =
    found_after l.kinds (kinds_of l.schema.columns (arguments_of (map tree_view (drop l.argument-index l.arguments))))
    ≡ found_after kinds.Zero (kinds_of l.schema.columns (arguments_of (map tree_view l.arguments)))
