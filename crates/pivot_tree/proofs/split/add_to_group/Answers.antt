use Rattle.std.proofs.Common.{Some, sym, ◌∙◌, subst}
use Rattle.std.proofs.lemmas.Result.{on_ok_weaker}
use Rattle.row_batch.specs.Batches.{pair_of}
use Rattle.pivot_tree.specs.Families.{at_path}
use Rattle.pivot_tree.specs.Groups.{IsGroupOf, with_row}
use Rattle.pivot_tree.proofs.Families.{At-none, At-same, At-some, At-with, found_path, is_some, path_inserted, path_turned}
use Rattle.pivot_tree.proofs.split.add_to_group.Goals as goal

pub add-requires : goal.add-requires
add-requires c =
    let old = c.args.splits.now.entries in
    let split = c.args.split.now in
    (c.args.used.now, c.requires.0, (At-some (IsGroupOf c.args.used.now) (at_path old split) _ c.requires.0 (c.in-Some.ensures.value ∙ found_path split old) c.requires.1).0, c.requires.2)

pub returns-in-Some-clause-here : goal.returns-in-Some-clause-here
returns-in-Some-clause-here c =
    let old = c.args.splits.now in
    let split = c.args.split.now in
    let used = c.args.used.now in
    let p = pair_of c.args.key.now c.args.row.now in
    let written = c.get_mut.follows.holds c.add.new.self in
    let turned = path_turned split old (c.get_mut.follows.lender c.add.new.self) (Some c.add.new.self) (written.3 (is_some _ _ c.in-Some.ensures.value)) in
    on_ok_weaker c.add.result
    (λ step rows at can.
    At-same (IsGroupOf used) _ (Some c.add.new.self) (with_row rows p) turned.0
    (At-with (IsGroupOf used) c.add.new.self rows p
    (step used rows (At-some (IsGroupOf used) (at_path old.entries split) _ rows (c.in-Some.ensures.value ∙ found_path split old.entries) at).0 can)))
    c.add.ensures

pub returns-in-Some-clause-others : goal.returns-in-Some-clause-others
returns-in-Some-clause-others c =
    let old = c.args.splits.now in
    let split = c.args.split.now in
    let written = c.get_mut.follows.holds c.add.new.self in
    let turned = path_turned split old (c.get_mut.follows.lender c.add.new.self) (Some c.add.new.self) (written.3 (is_some _ _ c.in-Some.ensures.value)) in
    on_ok_weaker c.add.result (λ step. turned.1) c.add.ensures

pub returns-clause-here : goal.returns-clause-here
returns-clause-here c rows at can =
    let old = c.args.splits.now in
    let split = c.args.split.now in
    let used = c.args.used.now in
    let p = pair_of c.args.key.now c.args.row.now in
    let g = c.add-2.new.self in
    let turned = path_inserted split c.in_ok-copy.field-0 old _ c.insert.new.self (Some g) c.in_ok-copy.ensures c.get_mut.follows.holds-at-none c.in_ok-insert.ensures.updates in
    let none = At-none (IsGroupOf used) (at_path old.entries split) rows (c.in_default.ensures.value ∙ found_path split old.entries) at in
    let empty = c.in_ok-group.ensures in
    let grown : IsGroupOf used g (with_row rows p) = c.in_ok-add.ensures used rows (subst (IsGroupOf used _) (sym none) empty) can in
    At-same (IsGroupOf used) _ (Some g) (with_row rows p) turned.0 (At-with (IsGroupOf used) g rows p grown)

pub returns-clause-others : goal.returns-clause-others
returns-clause-others c =
    let old = c.args.splits.now in
    let split = c.args.split.now in
    (path_inserted split c.in_ok-copy.field-0 old _ c.insert.new.self _ c.in_ok-copy.ensures c.get_mut.follows.holds-at-none c.in_ok-insert.ensures.updates).1
