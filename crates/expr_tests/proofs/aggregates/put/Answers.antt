use Rattle.std.proofs.Common.{◌≡◌, refl, sym, ap, ◌∙◌, subst, rules}
use Rattle.std.specs.BTreeMap.{insert_entry}
use Rattle.cell_core.specs.contracts.cell.CellOrd.TheImpl.{ghosts}
use Rattle.agg_core.specs.Pairs.{with_pair}
use Rattle.agg_core.specs.Standing.{CanAdd}
use Rattle.agg_core.proofs.Cells.{of_map}
use Rattle.expr_tests.proofs.aggregates.put.Goals as goal

pub returns-clause-stands : goal.returns-clause-stands
returns-clause-stands g c =
    let old = c.args.rows.now.entries in
    let key = c.args.key.now in
    let cell = c.args.cell.now in
    let can : CanAdd (g.A.Aggregate.name c.args.aggregate.now) old key cell = search rules in
    let same : insert_entry ghosts.cmp old key cell ≡ with_pair old key cell = of_map (λ R. insert_entry R old key cell ≡ with_pair old key cell) refl in
    let inserted = c.in_ok-insert.ensures.entries ∙ ap (λ k. insert_entry ghosts.cmp old k c.in_ok-copy-2.field-0) c.in_ok-copy.ensures ∙ ap (λ v. insert_entry ghosts.cmp old key v) c.in_ok-copy-2.ensures ∙ same in
    subst (λ pairs. g.A.Aggregate.stands_for c.add.new.self pairs) (sym inserted) (c.in_ok-add.ensures.ok old c.requires.stands can)
