use Rattle.std.proofs.Common.{◌≡◌, ◌-◌, ◌∷◌, [], ◌++◌, length, take, drop, sym, ap, ◌∙◌}
use Rattle.rank_list.specs.Tree.{items_and_height}
use Rattle.rank_list.specs.declared.tree.Fork.{Fork}
use Rattle.rank_list.proofs.Windows.{collected, lent}
use Rattle.rank_list.proofs.tree.Tree.+collect.Goals as goal

pub returns : goal.returns
returns g t c =
    let fork : Fork g.row.T.Denot = c.in-Some.fork.value in
    collected c.args.self.now.0 fork.left.0 fork.right.0 fork.item c.args.from c.args.to c.len-before.result c.min.result c.saturating_sub-from.result c.saturating_sub-to.result
    (lent c.args.found.now.items) (lent c.collect.new.found.items) (lent c.put_within.new.found.items) (lent c.collect-2.new.found.items)
    (ap (λ p. p.0) (sym c.self.view_is) ∙ ap (λ root. (items_and_height root).0) c.in-Some.is)
    (c.len-before.ensures ∙ ap (λ (f : Fork g.row.T.Denot). length f.left.0) c.deref.ensures)
    c.min.ensures c.saturating_sub-from.ensures c.saturating_sub-to.ensures
    (c.in_ok-collect.ensures ∙ ap (λ (f : Fork g.row.T.Denot). lent c.args.found.now.items ++ take (c.min.result - c.args.from) (drop c.args.from f.left.0)) c.deref-2.ensures)
    (c.in_ok-put_within.ensures
    ∙ ap (λ (f : Fork g.row.T.Denot). lent c.collect.new.found.items ++ take (c.args.to - c.len-before.result - (c.args.from - c.len-before.result)) (drop (c.args.from - c.len-before.result) (f.item ∷ []))) c.deref-3.ensures)
    (c.in_ok-collect-2.ensures ∙ ap (λ (f : Fork g.row.T.Denot). lent c.put_within.new.found.items ++ take (c.saturating_sub-to.result - c.saturating_sub-from.result) (drop c.saturating_sub-from.result f.right.0)) c.deref-4.ensures)
