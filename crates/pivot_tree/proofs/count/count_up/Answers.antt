use Rattle.std.proofs.Common.{◌+◌, Some, ◌∙◌, arith}
use Rattle.pivot_tree.specs.Families.{IsCountOf, at_cell}
use Rattle.pivot_tree.proofs.Families.{At-same, cell_inserted, cell_turned, count_first, count_more, count_small, found_cell, is_some}
use Rattle.pivot_tree.specs.Groups.{with_row}
use Rattle.pivot_tree.proofs.count.count_up.Goals as goal

pub overflow_add-count : goal.overflow_add-count
overflow_add-count c =
    let old = c.args.counts.now.entries in
    let cell = c.args.cell.now in
    let small = count_small (at_cell old cell) c.in-Some.count.now c.requires.0 (c.in-Some.ensures.value ∙ found_cell cell old) c.requires.1 c.requires.2 in
    omega arith

pub returns-in-Some-clause-here : goal.returns-in-Some-clause-here
returns-in-Some-clause-here c rows p at =
    let old = c.args.counts.now in
    let cell = c.args.cell.now in
    let n = c.in-Some.count.now in
    let written = c.get_mut.follows.holds (n + 1) in
    let turned = cell_turned cell old (c.get_mut.follows.lender (n + 1)) (Some (n + 1)) (written.3 (is_some n _ c.in-Some.ensures.value)) in
    At-same IsCountOf _ (Some (n + 1)) (with_row rows p) turned.0 (count_more (at_cell old.entries cell) n rows p (c.in-Some.ensures.value ∙ found_cell cell old.entries) at)

pub returns-in-Some-clause-others : goal.returns-in-Some-clause-others
returns-in-Some-clause-others c =
    let old = c.args.counts.now in
    let cell = c.args.cell.now in
    let n = c.in-Some.count.now in
    let written = c.get_mut.follows.holds (n + 1) in
    (cell_turned cell old (c.get_mut.follows.lender (n + 1)) (Some (n + 1)) (written.3 (is_some n _ c.in-Some.ensures.value))).1

pub returns-clause-here : goal.returns-clause-here
returns-clause-here c rows p at =
    let old = c.args.counts.now in
    let cell = c.args.cell.now in
    let turned = cell_inserted cell c.in_ok-copy.field-0 old _ c.insert.new.self (Some 1) c.in_ok-copy.ensures c.get_mut.follows.holds-at-none c.in_ok-insert.ensures.updates in
    At-same IsCountOf _ (Some 1) (with_row rows p) turned.0 (count_first (at_cell old.entries cell) rows p (c.in_default.ensures.value ∙ found_cell cell old.entries) at)

pub returns-clause-others : goal.returns-clause-others
returns-clause-others c =
    let old = c.args.counts.now in
    let cell = c.args.cell.now in
    (cell_inserted cell c.in_ok-copy.field-0 old _ c.insert.new.self (Some 1) c.in_ok-copy.ensures c.get_mut.follows.holds-at-none c.in_ok-insert.ensures.updates).1
