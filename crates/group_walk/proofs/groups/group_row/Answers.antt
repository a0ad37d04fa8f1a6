use Rattle.std.proofs.Common.{◌≡◌, ◌∙◌, true, false, ◌&&◌, length, ap, sym, arith}
use Rattle.std.specs.Prelude.{nat_lt}
use Rattle.std.proofs.lemmas.Bool.{and_left, le-ltb, lt-ltb}
use Rattle.view_spec.specs.Members.{splits}
use Rattle.view_spec.specs.Openings.{is_open, mark_of}
use Rattle.group_walk.proofs.ShownGroups.{same_row}
use Rattle.group_walk.proofs.groups.group_row.Goals as goal
use Rattle.group_walk.proofs.groups.group_row.Goals.{then-len, else-len}

pub returns : goal.returns
returns c columns rows is each place =
    let plan = c.args.plan.now in
    let path = c.args.path in
    let opening = c.args.opening.now in
    let cells = c.in_ok-cells.ensures columns path rows (splits plan rows) is each in
    let long = c.len.ensures in
    let wide = c.len-2.ensures in
    let mark : c.if-len.mark ≡ mark_of plan opening path = elim c.if-len.branch [
      | then-len w ↦
          let shorter : nat_lt (length path) (length plan.group_by) ≡ true = lt-ltb (length path) (length plan.group_by) (let less = w.if-len.true in omega arith) in
          w.mark-is ∙ w.is_open-mark.ensures ∙ ap (λ b. b && is_open opening path) (sym shorter)
      | else-len w ↦
          let longer : nat_lt (length path) (length plan.group_by) ≡ false = le-ltb (length path) (length plan.group_by) (let past = w.if-len.false in omega arith) in
          w.mark-is ∙ le-ltb c.len.result c.len-2.result w.if-len.false ∙ sym (and_left (nat_lt (length path) (length plan.group_by)) (is_open opening path) longer)
    ] in
    same_row columns plan opening rows path c.args.place c.if-len.mark c.in_ok-cells.cells place mark cells
