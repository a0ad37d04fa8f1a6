use Rattle.std.proofs.Common.{◌≡◌, [], sym, subst}
use Rattle.std.proofs.lemmas.Result.{on_ok_weaker}
use Rattle.row_batch.specs.Batches.{pair_of}
use Rattle.pivot_tree.specs.Families.{At, at_path}
use Rattle.pivot_tree.specs.Groups.{IsGroupOf, with_row}
use Rattle.pivot_tree.proofs.SplitSteps.{rows_under-none, rows_under-some}
use Rattle.pivot_tree.proofs.split.add_to_split.Goals as goal

pub returns-then-is_empty-clause-here : goal.returns-then-is_empty-clause-here
returns-then-is_empty-clause-here c rows at can =
    let split = c.args.split.now in
    subst (λ rs. At (IsGroupOf c.args.used.now) (at_path c.args.splits.now.entries split) rs)
    (rows_under-none split rows (with_row rows (pair_of c.args.key.now c.args.row.now)) (c.is_empty.ensures.0 c.if-is_empty.true)) at

pub add_to_group-requires : goal.add_to_group-requires
add_to_group-requires c =
    let split = c.args.split.now in
    let r = c.requires in
    let some = λ (e : split ≡ []). let t = c.is_empty.ensures.1 e in let f = c.if-is_empty.false in absurd (cc) in
    (r.0, subst (λ rs. At (IsGroupOf c.args.used.now) (at_path c.args.splits.now.entries split) rs) (rows_under-some split r.0 some) r.1, r.2)

pub returns-clause-here : goal.returns-clause-here
returns-clause-here c =
    let split = c.args.split.now in
    let used = c.args.used.now in
    let some = λ (e : split ≡ []). let t = c.is_empty.ensures.1 e in let f = c.if-is_empty.false in absurd (cc) in
    on_ok_weaker c.add_to_group.result
    (λ step rows at can.
    subst (λ rs. At (IsGroupOf used) (at_path c.add_to_group.new.splits.entries split) rs) (sym (rows_under-some split (with_row rows (pair_of c.args.key.now c.args.row.now)) some))
    (step rows (subst (λ rs. At (IsGroupOf used) (at_path c.args.splits.now.entries split) rs) (rows_under-some split rows some) at) can))
    c.add_to_group.ensures.here
