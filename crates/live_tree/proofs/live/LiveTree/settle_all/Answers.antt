use Rattle.std.proofs.Common.{◌≡◌, ap, sym, ◌∙◌}
use Rattle.table_core.specs.Lookups.{pairs_of}
use Rattle.view_spec.specs.Kept.{kept}
use Rattle.live_tree.specs.Trees.{LiveTreeData}
use Rattle.live_tree.proofs.KeptChanges.{few_after, passes_after, rows_after}
use Rattle.live_tree.proofs.live.LiveTree.settle_all.Goals as goal

pub returns-clause-stands : goal.returns-clause-stands
returns-clause-stands g c s stands step =
    let own : c.self.inside.plan ≡ s.plan = ap (λ (t : LiveTreeData). t.plan) c.self.view_is ∙ stands.plan in
    let was : pairs_of c.replace-rows.result.entries ≡ kept s.plan s.pairs =
    ap (λ m. pairs_of m.entries) c.replace-rows.ensures.value ∙ ap (λ (t : LiveTreeData). t.rows) c.self.view_is ∙ stands.rows in
    record {
      columns = ap (λ (t : LiveTreeData). t.columns) c.self.view_is ∙ stands.columns ∙ sym step.columns;
      plan = own;
      rows = rows_after s.plan c.self.inside.plan s.pairs c.args.table.now.store.pairs _ _ c.args.changes.now own was c.in_ok-settle_each.ensures.rows step.keys c.len-size.ensures.table.distinct step.lead;
    }

pub returns-clause-passes : goal.returns-clause-passes
returns-clause-passes g c s path stands step =
    let own : c.self.inside.plan ≡ s.plan = ap (λ (t : LiveTreeData). t.plan) c.self.view_is ∙ stands.plan in
    let was : pairs_of c.replace-rows.result.entries ≡ kept s.plan s.pairs =
    ap (λ m. pairs_of m.entries) c.replace-rows.ensures.value ∙ ap (λ (t : LiveTreeData). t.rows) c.self.view_is ∙ stands.rows in
    passes_after s.plan c.self.inside.plan path s.pairs _ c.args.changes.now c.args.paths.now.items _ own was c.in_ok-settle_each.ensures.paths step.keys step.fit

pub returns-clause-few : goal.returns-clause-few
returns-clause-few g c = few_after c.self.inside.plan _ c.args.changes.now c.args.paths.now.items _ c.in_ok-settle_each.ensures.paths
