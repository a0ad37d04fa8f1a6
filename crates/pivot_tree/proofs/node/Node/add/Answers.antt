use Rattle.std.proofs.Common.{◌++◌, ◌∷◌, [], refl, subst, arith}
use Rattle.std.specs.Option.{option_copied}
use Rattle.row_batch.specs.Batches.{pair_of}
use Rattle.view_spec.specs.Members.{is_member, members, split_of, within}
use Rattle.view_spec.specs.Paths.{same_path}
use Rattle.pivot_tree.specs.Nodes.{StandsAt}
use Rattle.pivot_tree.proofs.Rows.{length-filter}
use Rattle.pivot_tree.proofs.NodeSteps.{CanPut-filter, IsNodeOf-with, IsNodeOf-with_last}
use Rattle.pivot_tree.proofs.node.Node.add.Goals as goal

pub add-requires : goal.add-requires
add-requires c =
    let r = c.requires in
    (c.args.used.now, members r.0 r.2 r.1, r.3.all, CanPut-filter (is_member r.0 r.1) c.args.used.now r.2 _ r.5)

pub add_to_split-requires : goal.add_to_split-requires
add_to_split-requires c =
    let r = c.requires in
    let split = c.args.split.now in (
      within r.0 split (members r.0 r.2 r.1),
      r.3.splits split,
      CanPut-filter (λ q. same_path split (split_of r.0 q)) c.args.used.now (members r.0 r.2 r.1) _ (CanPut-filter (is_member r.0 r.1) c.args.used.now r.2 _ r.5),
    )

pub count_up-requires : goal.count_up-requires
count_up-requires c =
    let r = c.requires in
    let cell = c.in-Some.cell.now in
    (members r.0 r.2 (r.1 ++ cell ∷ []), r.3.next cell, let less = length-filter (is_member r.0 (r.1 ++ cell ∷ [])) r.2 in let room = r.5.room in omega arith)

pub returns-in_ok-count_up : goal.returns-in_ok-count_up
returns-in_ok-count_up c plan path rows is up can at =
    let used = c.args.used.now in
    let split = c.args.split.now in
    let cell = c.in-Some.cell.now in
    let p = pair_of c.args.key.now c.args.row.now in
    let stands = subst (λ o. StandsAt plan path split (option_copied o) p) c.in-Some.is at in
    let ms = members plan rows path in
    let can_all = CanPut-filter (is_member plan path) used rows p can in
    IsNodeOf-with plan path p split cell stands used rows c.args.self.now _ up is
    (c.in_ok-add.ensures used ms is.all can_all)
    (c.in_ok-add_to_split.ensures.here (within plan split ms) (is.splits split) (CanPut-filter (λ q. same_path split (split_of plan q)) used ms p can_all))
    c.in_ok-add_to_split.ensures.others
    (c.in_ok-count_up.ensures.here (members plan rows (path ++ cell ∷ [])) p (is.next cell))
    c.in_ok-count_up.ensures.others

pub returns-in_default : goal.returns-in_default
returns-in_default c plan path rows is up can at =
    let used = c.args.used.now in
    let split = c.args.split.now in
    let p = pair_of c.args.key.now c.args.row.now in
    let stands = subst (λ o. StandsAt plan path split (option_copied o) p) c.in_default.is at in
    let ms = members plan rows path in
    let can_all = CanPut-filter (is_member plan path) used rows p can in
    IsNodeOf-with_last plan path p split stands used rows c.args.self.now _ up is
    (c.in_ok-add.ensures used ms is.all can_all)
    (c.in_ok-add_to_split.ensures.here (within plan split ms) (is.splits split) (CanPut-filter (λ q. same_path split (split_of plan q)) used ms p can_all))
    c.in_ok-add_to_split.ensures.others
    refl
