use Rattle.std.proofs.Common.{[], refl, ◌∙◌, subst}
use Rattle.pivot_tree.specs.Nodes.{IsNodeOf}
use Rattle.pivot_tree.proofs.Found.{no_nodes, nil_rows_ascend}
use Rattle.pivot_tree.proofs.tree.PivotTree.make.Goals as goal

pub returns : goal.returns
returns c = record {
  group_by = c.in_ok-to_vec.ensures.items_if_clones_equal (λ x y is. is) ∙ c.as_slice.ensures;
  split_by = c.in_ok-to_vec-2.ensures.items_if_clones_equal (λ x y is. is) ∙ c.as_slice-2.ensures;
  uses = c.in_ok-used.ensures;
  ascending = nil_rows_ascend;
  total = subst (λ us. IsNodeOf c.args.plan.now us [] c.in_ok-make.field-0 []) c.deref.ensures.value (c.in_ok-make.ensures c.args.plan.now [] [] refl);
  nodes = no_nodes c.args.plan.now c.in_ok-used.used.items c.new.result.entries c.new.ensures.empty;
}
