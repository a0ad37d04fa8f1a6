use Rattle.std.proofs.Common.{◌<◌, length, Some, None, sym, ◌∙◌, arith}
use Rattle.row_batch.specs.Batches.{pair_of}
use Rattle.pivot_tree.specs.Families.{at_path}
use Rattle.pivot_tree.specs.Groups.{IsGroupOf, without_row}
use Rattle.pivot_tree.proofs.Families.{At-has, At-same, At-some, found_path, is_some, nil_from_length, path_turned}
use Rattle.pivot_tree.proofs.split.take_from_group.Goals as goal

pub take_off-requires : goal.take_off-requires
take_off-requires c =
    let old = c.args.splits.now.entries in
    let split = c.args.split.now in
    let r = c.requires in
    (r.0, r.1, (At-some (IsGroupOf r.0) (at_path old split) _ r.1 (c.in-Some.ensures.value ∙ found_path split old) r.2).0, r.3)

pub returns-then-group-eq0-clause-here : goal.returns-then-group-eq0-clause-here
returns-then-group-eq0-clause-here c used rows at has =
    let old = c.args.splits.now in
    let split = c.args.split.now in
    let p = pair_of c.args.key.now c.args.row.now in
    let g = c.take_off.new.self in
    let turned = path_turned split (c.get_mut.follows.lender g) c.remove.new.self None c.remove.ensures.updates in
    let less = c.take_off.ensures used rows (At-some (IsGroupOf used) (at_path old.entries split) _ rows (c.in-Some.ensures.value ∙ found_path split old.entries) at).0 has in
    At-same (IsGroupOf used) _ None (without_row rows p) turned.0 (nil_from_length (without_row rows p) (sym less.count ∙ c.if-group-eq0.true))

pub returns-then-group-eq0-clause-others : goal.returns-then-group-eq0-clause-others
returns-then-group-eq0-clause-others c q apart =
    let old = c.args.splits.now in
    let split = c.args.split.now in
    let g = c.take_off.new.self in
    let written = c.get_mut.follows.holds g in
    (path_turned split (c.get_mut.follows.lender g) c.remove.new.self None c.remove.ensures.updates).1 q apart
    ∙ (path_turned split old (c.get_mut.follows.lender g) (Some g) (written.3 (is_some _ _ c.in-Some.ensures.value))).1 q apart

pub returns-else-group-eq0-clause-here : goal.returns-else-group-eq0-clause-here
returns-else-group-eq0-clause-here c used rows at has =
    let old = c.args.splits.now in
    let split = c.args.split.now in
    let p = pair_of c.args.key.now c.args.row.now in
    let g = c.take_off.new.self in
    let written = c.get_mut.follows.holds g in
    let turned = path_turned split old (c.get_mut.follows.lender g) (Some g) (written.3 (is_some _ _ c.in-Some.ensures.value)) in
    let less : IsGroupOf used g (without_row rows p) =
    c.take_off.ensures used rows (At-some (IsGroupOf used) (at_path old.entries split) _ rows (c.in-Some.ensures.value ∙ found_path split old.entries) at).0 has in
    let some : 0 < length (without_row rows p) = let count = less.count in let apart = c.if-group-eq0.false in omega arith in
    At-same (IsGroupOf used) _ (Some g) (without_row rows p) turned.0 (less, some)

pub returns-else-group-eq0-clause-others : goal.returns-else-group-eq0-clause-others
returns-else-group-eq0-clause-others c =
    let old = c.args.splits.now in
    let split = c.args.split.now in
    let g = c.take_off.new.self in
    let written = c.get_mut.follows.holds g in
    (path_turned split old (c.get_mut.follows.lender g) (Some g) (written.3 (is_some _ _ c.in-Some.ensures.value))).1

pub returns-in_default-clause-here : goal.returns-in_default-clause-here
returns-in_default-clause-here c used rows at has =
    let old = c.args.splits.now.entries in
    let split = c.args.split.now in
    absurd (At-has (IsGroupOf used) (at_path old split) rows _ (c.in_default.ensures.value ∙ found_path split old) at has)
