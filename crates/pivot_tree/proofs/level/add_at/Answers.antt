use Rattle.std.proofs.Common.{Some, sym, ◌∙◌, subst}
use Rattle.std.proofs.lemmas.Result.{on_ok_weaker}
use Rattle.row_batch.specs.Batches.{pair_of}
use Rattle.pivot_tree.specs.Families.{at_path}
use Rattle.pivot_tree.specs.Groups.{with_row}
use Rattle.pivot_tree.specs.Nodes.{IsNodeOf}
use Rattle.pivot_tree.specs.Trees.{NodeAt}
use Rattle.pivot_tree.proofs.Families.{At-none, At-some, found_path, is_some, path_inserted, path_turned}
use Rattle.pivot_tree.proofs.TreeSteps.{NodeAt-put}
use Rattle.pivot_tree.proofs.level.add_at.Goals as goal

pub add-requires : goal.add-requires
add-requires c =
    let old = c.args.nodes.now.entries in
    let path = c.args.path.now in
    let r = c.requires in
    let used = c.args.used.now in
    (r.0, path, r.1, (At-some (λ node ms. IsNodeOf r.0 used path node r.1) (at_path old path) _ _ (c.in-Some.ensures.value ∙ found_path path old) r.2).0, r.3, r.4, r.5)

pub add-requires-2 : goal.add-requires-2
add-requires-2 c =
    let old = c.args.nodes.now.entries in
    let path = c.args.path.now in
    let r = c.requires in
    let used = c.args.used.now in
    let none = At-none (λ node ms. IsNodeOf r.0 used path node r.1) (at_path old path) _ (c.in_default.ensures.value ∙ found_path path old) r.2 in
    (r.0, path, r.1, c.in_ok-node.ensures r.0 path r.1 none, r.3, r.4, r.5)

pub returns-in-Some-clause-here : goal.returns-in-Some-clause-here
returns-in-Some-clause-here c =
    let old = c.args.nodes.now in
    let path = c.args.path.now in
    let used = c.args.used.now in
    let p = pair_of c.args.key.now c.args.row.now in
    let g = c.add.new.self in
    let written = c.get_mut.follows.holds g in
    let turned = path_turned path old (c.get_mut.follows.lender g) (Some g) (written.3 (is_some _ _ c.in-Some.ensures.value)) in
    on_ok_weaker c.add.result
    (λ step plan rows at up can stands.
    subst (λ o. NodeAt plan used (with_row rows p) o path) (sym turned.0)
    (NodeAt-put plan used rows p path c.args.split.now _ g stands up
    (step plan path rows (At-some (λ node ms. IsNodeOf plan used path node rows) (at_path old.entries path) _ _ (c.in-Some.ensures.value ∙ found_path path old.entries) at).0 up can stands)))
    c.add.ensures

pub returns-in-Some-clause-others : goal.returns-in-Some-clause-others
returns-in-Some-clause-others c =
    let old = c.args.nodes.now in
    let path = c.args.path.now in
    let g = c.add.new.self in
    let written = c.get_mut.follows.holds g in
    let turned = path_turned path old (c.get_mut.follows.lender g) (Some g) (written.3 (is_some _ _ c.in-Some.ensures.value)) in
    on_ok_weaker c.add.result (λ step. turned.1) c.add.ensures

pub returns-clause-here : goal.returns-clause-here
returns-clause-here c plan rows at up can stands =
    let old = c.args.nodes.now in
    let path = c.args.path.now in
    let used = c.args.used.now in
    let p = pair_of c.args.key.now c.args.row.now in
    let g = c.add-2.new.self in
    let turned = path_inserted path c.in_ok-copy.field-0 old _ c.insert.new.self (Some g) c.in_ok-copy.ensures c.get_mut.follows.holds-at-none c.in_ok-insert.ensures.updates in
    let none = At-none (λ node ms. IsNodeOf plan used path node rows) (at_path old.entries path) _ (c.in_default.ensures.value ∙ found_path path old.entries) at in
    subst (λ o. NodeAt plan used (with_row rows p) o path) (sym turned.0)
    (NodeAt-put plan used rows p path c.args.split.now _ g stands up (c.in_ok-add.ensures plan path rows (c.in_ok-node.ensures plan path rows none) up can stands))

pub returns-clause-others : goal.returns-clause-others
returns-clause-others c =
    let old = c.args.nodes.now in
    let path = c.args.path.now in
    (path_inserted path c.in_ok-copy.field-0 old _ c.insert.new.self _ c.in_ok-copy.ensures c.get_mut.follows.holds-at-none c.in_ok-insert.ensures.updates).1
