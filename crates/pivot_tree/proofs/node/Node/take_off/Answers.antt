use Rattle.std.proofs.Common.{◌++◌, ◌∷◌, [], Some, refl, subst}
use Rattle.std.specs.Option.{option_copied}
use Rattle.row_batch.specs.Batches.{pair_of}
use Rattle.view_spec.specs.Members.{members, within}
use Rattle.pivot_tree.specs.Nodes.{StandsAt}
use Rattle.pivot_tree.proofs.NodeSteps.{IsNodeOf-without, IsNodeOf-without_last, members-has, next-has, same_cell_itself, within-has}
use Rattle.pivot_tree.proofs.node.Node.take_off.Goals as goal

pub take_off-requires : goal.take_off-requires
take_off-requires c =
    let r = c.requires in
    let p = pair_of c.args.key.now c.args.row.now in
    (r.1, members r.0 r.3 r.2, r.4.all, members-has r.0 r.2 p c.args.split.now _ r.6 r.1 r.3 r.5)

pub take_from_split-requires : goal.take_from_split-requires
take_from_split-requires c =
    let r = c.requires in
    let p = pair_of c.args.key.now c.args.row.now in
    let split = c.args.split.now in
    (r.1, within r.0 split (members r.0 r.3 r.2), r.4.splits split, within-has r.0 r.2 p split _ r.6 r.1 r.3 r.5)

pub returns-in-Some : goal.returns-in-Some
returns-in-Some c plan used path rows is has at =
    let split = c.args.split.now in
    let cell = c.in-Some.cell.now in
    let p = pair_of c.args.key.now c.args.row.now in
    let stands = subst (λ o. StandsAt plan path split (option_copied o) p) c.in-Some.is at in
    let ms = members plan rows path in
    IsNodeOf-without plan path p split cell stands used rows c.args.self.now _ has is
    (c.take_off.ensures used ms is.all (members-has plan path p split (Some cell) stands used rows has))
    (c.take_from_split.ensures.here used (within plan split ms) (is.splits split) (within-has plan path p split (Some cell) stands used rows has))
    c.take_from_split.ensures.others
    (c.count_down.ensures.here (members plan rows (path ++ cell ∷ [])) p (is.next cell) (next-has plan path p split (Some cell) stands used rows has cell (same_cell_itself cell)))
    c.count_down.ensures.others

pub returns-in_default : goal.returns-in_default
returns-in_default c plan used path rows is has at =
    let split = c.args.split.now in
    let p = pair_of c.args.key.now c.args.row.now in
    let stands = subst (λ o. StandsAt plan path split (option_copied o) p) c.in_default.is at in
    let ms = members plan rows path in
    IsNodeOf-without_last plan path p split stands used rows c.args.self.now _ has is
    (c.take_off.ensures used ms is.all (members-has plan path p split _ stands used rows has))
    (c.take_from_split.ensures.here used (within plan split ms) (is.splits split) (within-has plan path p split _ stands used rows has))
    c.take_from_split.ensures.others
    refl
