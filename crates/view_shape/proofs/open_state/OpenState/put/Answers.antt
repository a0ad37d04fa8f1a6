use Rattle.std.proofs.Common.{List, Bool, ap, ◌∙◌}
use Rattle.cell_core.specs.declared.cell.Cell.{Cell}
use Rattle.view_spec.specs.Openings.{Opening}
use Rattle.view_shape.specs.Singles.{with_single}
use Rattle.view_shape.proofs.SingleLaws.{single_put}
use Rattle.view_shape.proofs.open_state.OpenState.put.Goals as goal

pub returns-clause-ok : goal.returns-clause-ok
returns-clause-ok c =
    ap (λ (singles : List (List Cell × Bool)). let o : Opening = record { depth = c.self.inside.depth; singles = singles } in o)
    (single_put c.self.inside.singles.entries c.insert.new.self.entries c.args.path c.args.opened c.in_ok-insert.ensures.entries)
    ∙ ap (λ o. with_single o c.args.path.items c.args.opened) c.self.view_is
