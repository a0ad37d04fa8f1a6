use Rattle.std.proofs.Common.{◌-◌, Some, None, ◌∙◌}
use Rattle.pivot_tree.specs.Families.{IsCountOf, at_cell}
use Rattle.pivot_tree.proofs.Families.{At-same, cell_turned, count_last, count_less, found_cell, is_some}
use Rattle.pivot_tree.specs.Groups.{without_row}
use Rattle.pivot_tree.proofs.count.count_down.Goals as goal

pub returns-then-count-gt1-clause-here : goal.returns-then-count-gt1-clause-here
returns-then-count-gt1-clause-here c rows p at has =
    let old = c.args.counts.now in
    let cell = c.args.cell.now in
    let n = c.in-Some.count.now in
    let written = c.get_mut.follows.holds (n - 1) in
    let turned = cell_turned cell old (c.get_mut.follows.lender (n - 1)) (Some (n - 1)) (written.3 (is_some n _ c.in-Some.ensures.value)) in
    At-same IsCountOf _ (Some (n - 1)) (without_row rows p) turned.0 (count_less (at_cell old.entries cell) n rows p (c.in-Some.ensures.value ∙ found_cell cell old.entries) c.if-count-gt1.true at has)

pub returns-then-count-gt1-clause-others : goal.returns-then-count-gt1-clause-others
returns-then-count-gt1-clause-others c =
    let old = c.args.counts.now in
    let cell = c.args.cell.now in
    let n = c.in-Some.count.now in
    let written = c.get_mut.follows.holds (n - 1) in
    (cell_turned cell old (c.get_mut.follows.lender (n - 1)) (Some (n - 1)) (written.3 (is_some n _ c.in-Some.ensures.value))).1

pub returns-else-count-gt1-clause-here : goal.returns-else-count-gt1-clause-here
returns-else-count-gt1-clause-here c rows p at has =
    let old = c.args.counts.now in
    let cell = c.args.cell.now in
    let n = c.in-Some.count.now in
    let turned = cell_turned cell (c.get_mut.follows.lender n) c.remove.new.self None c.remove.ensures.updates in
    At-same IsCountOf _ None (without_row rows p) turned.0 (count_last (at_cell old.entries cell) n rows p (c.in-Some.ensures.value ∙ found_cell cell old.entries) c.if-count-gt1.false at has)

pub returns-else-count-gt1-clause-others : goal.returns-else-count-gt1-clause-others
returns-else-count-gt1-clause-others c q apart =
    let old = c.args.counts.now in
    let cell = c.args.cell.now in
    let n = c.in-Some.count.now in
    let written = c.get_mut.follows.holds n in
    (cell_turned cell (c.get_mut.follows.lender n) c.remove.new.self None c.remove.ensures.updates).1 q apart
    ∙ (cell_turned cell old (c.get_mut.follows.lender n) (Some n) (written.3 (is_some n _ c.in-Some.ensures.value))).1 q apart
