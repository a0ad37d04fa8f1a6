use Rattle.std.proofs.Common.{◌≡◌, Some, refl, sym, ◌∙◌, subst}
use Rattle.std.specs.BTreeMap.{is_at}
use Rattle.std.specs.Map.{remove_entry}
use Rattle.cell_core.specs.contracts.cell.CellOrd.TheImpl.{ghosts}
use Rattle.agg_core.specs.Pairs.{cell_at, without_key}
use Rattle.agg_core.proofs.Cells.{of_map}
use Rattle.agg_core.proofs.MapSteps.{same_lookup}
use Rattle.expr_tests.proofs.aggregates.take.Goals as goal

pub take_off-requires : goal.take_off-requires
take_off-requires g c =
    let old = c.args.rows.now.entries in
    (old, c.requires, sym (c.in-Some.ensures.value ∙ same_lookup c.args.key.now old))

pub returns-in-Some-clause-stands : goal.returns-in-Some-clause-stands
returns-in-Some-clause-stands g c =
    let old = c.args.rows.now.entries in
    let key = c.args.key.now in
    let there : cell_at old key ≡ Some c.in-Some.cell = sym (c.in-Some.ensures.value ∙ same_lookup key old) in
    let same : remove_entry (is_at (ghosts.cmp key)) old ≡ without_key old key = of_map (λ R. remove_entry (is_at (R key)) old ≡ without_key old key) refl in
    let removed = c.remove.ensures.entries ∙ same in
    subst (λ pairs. g.A.Aggregate.stands_for c.take_off.new.self pairs) (sym removed) (c.take_off.ensures.stands old c.requires there)
