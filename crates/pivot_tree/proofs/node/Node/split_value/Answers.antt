use Rattle.std.proofs.Common.{◌≡◌, [], length, sym, ap, ◌∙◌, subst}
use Rattle.std.proofs.lemmas.Result.{IfOk-weaker}
use Rattle.view_spec.specs.Columns.{aggregate_at}
use Rattle.view_spec.specs.Members.{members, within}
use Rattle.view_spec.specs.Places.{rows_value}
use Rattle.pivot_tree.specs.Families.{at_path}
use Rattle.pivot_tree.specs.Groups.{IsGroupOf}
use Rattle.pivot_tree.proofs.Families.{At-none, At-some, found_path}
use Rattle.pivot_tree.proofs.SplitSteps.{rows_under-some, rows_under-there, within-split, within-unsplit}
use Rattle.pivot_tree.proofs.node.Node.split_value.Goals as goal
use Rattle.pivot_tree.proofs.node.Node.split_value.Goals.{else-is_empty-via-then-is_empty+else-is_empty-2, else-is_empty-via-else-is_empty}

pub returns-in-Some : goal.returns-in-Some
returns-in-Some c =
    let splits = c.args.self.now.splits.entries in
    let split = c.args.split.now in
    IfOk-weaker c.value.result _ _
    (λ value gives columns plan path rows is used.
    let mine = within plan split (members plan rows path) in
    let at = At-some (IsGroupOf is.used) (at_path splits split) _ _ (c.in-Some.ensures.value ∙ found_path split splits) (is.node_of.splits split) in
    gives is.used mine (aggregate_at columns plan c.args.column)
    (subst (λ rs. IsGroupOf is.used c.in-Some.group.now rs) (rows_under-there split mine at.1) at.0) (is.uses.has c.args.column used))
    c.value.ensures

pub returns-then-is_empty-2 : goal.returns-then-is_empty-2
returns-then-is_empty-2 c =
    let splits = c.args.self.now.splits.entries in
    let none = c.is_empty.ensures.0 c.if-is_empty.true in
    let empty = c.is_empty-then-is_empty.ensures.0 c.if-is_empty-2.true in
    IfOk-weaker c.value-then-is_empty-2.result _ _
    (λ value gives columns plan path rows is used.
    let ms = members plan rows path in
    gives is.used ms (aggregate_at columns plan c.args.column) is.node_of.all (is.uses.has c.args.column used)
    ∙ ap (λ rs. rows_value columns plan rs c.args.column) (within-unsplit (IsGroupOf is.used) plan splits ms is.node_of.splits c.args.split.now none empty))
    c.value-then-is_empty-2.ensures

pub returns : goal.returns
returns c columns plan path rows is used =
    let splits = c.args.self.now.splits.entries in
    let split = c.args.split.now in
    let ms = members plan rows path in
    let gives = c.value_of_none.ensures is.used ms (aggregate_at columns plan c.args.column) is.node_of.all (is.uses.has c.args.column used) in
    let none : [] ≡ within plan split ms = elim c.else-is_empty.branch [
      | else-is_empty-via-then-is_empty+else-is_empty-2 w ↦
          let some : length splits ≡ 0 → ⊥ = λ e. let t = w.is_empty-then-is_empty.ensures.1 e in let f = w.if-is_empty-2.false in absurd (cc) in
          within-split (IsGroupOf is.used) plan splits ms is.node_of.splits split (c.is_empty.ensures.0 w.if-is_empty.true) some
      | else-is_empty-via-else-is_empty w ↦
          let some = λ (e : split ≡ []). let t = c.is_empty.ensures.1 e in let f = w.if-is_empty.false in absurd (cc) in
          let gone = At-none (IsGroupOf is.used) (at_path splits split) _ (c.in_default.ensures.value ∙ found_path split splits) (is.node_of.splits split) in
          sym (sym (rows_under-some split (within plan split ms) some) ∙ gone)
    ] in
    gives ∙ ap (λ rs. rows_value columns plan rs c.args.column) none
