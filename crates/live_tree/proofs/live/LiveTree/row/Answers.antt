use Rattle.std.proofs.Common.{ap, sym, ◌∙◌}
use Rattle.row_batch.specs.Changes.{row_at}
use Rattle.live_tree.specs.Trees.{LiveTreeData}
use Rattle.live_tree.proofs.MapRows.{row_at-pairs_of}
use Rattle.live_tree.proofs.live.LiveTree.row.Goals as goal

pub returns : goal.returns
returns c =
    c.get.ensures.value ∙ sym (row_at-pairs_of c.self.inside.rows.entries c.args.key.now)
    ∙ ap (λ (t : LiveTreeData). row_at t.rows c.args.key.now) c.self.view_is
