use Rattle.std.proofs.Common.{map}
use Rattle.expr_spec.specs.TreeViews.{tree_view, arguments_of}
use Rattle.expr_spec.specs.Typing.{kinds_of}
use Rattle.plan_check.proofs.KindLemmas.{view_call, call_typed}
use Rattle.plan_check.proofs.typing.+typing.Goals as goal

pub tree_kind-returns-in_ok-kinds-in-Call : goal.tree_kind-returns-in_ok-kinds-in-Call
tree_kind-returns-in_ok-kinds-in-Call t c =
    let args = arguments_of (map tree_view c.in-Call.arguments) in
    let found = rw c.as_slice.ensures at c.in_ok-kinds-in-Call.ensures in
    let answered = rw c.as_slice-in-Call.ensures at c.named_kind.ensures in
    let typed = call_typed c.args.tree.now.at c.in-Call.name args (kinds_of c.args.schema.now.columns args) c.in_ok-kinds-in-Call.kinds c.named_kind.result found answered in
    rw (view_call c.args.tree.now c.in-Call.name c.in-Call.arguments c.in-Call.is) typed
