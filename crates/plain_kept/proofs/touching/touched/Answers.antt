use Rattle.std.proofs.Common.{◌∙◌, false, true, List, ap}
use Rattle.std.specs.Prelude.{not}
use Rattle.delta_core.specs.DirtySets.{joined}
use Rattle.view_spec.specs.LookUps.{has_placed, keys_where, stays_in}
use Rattle.view_spec.specs.Touching.{key_of}
use Rattle.view_spec.specs.declared.placed.PlacedRow.{PlacedRow}
use Rattle.view_spec.proofs.StepLaws.{added_both, touched_by_rows}
use Rattle.plain_kept.proofs.KeyedLaws.{keys_apart}
use Rattle.plain_kept.proofs.touching.touched.Goals as goal

pub returns-clause-keys : goal.returns-clause-keys
returns-clause-keys c =
    let was = c.args.before.now.rows in
    let now = c.args.after.now.rows in
    added_both was now c.new-keys.result c.add_changed.new.keys c.add_new.new.keys c.new-keys.ensures
    (c.in_ok-add_changed.ensures ∙ ap (λ (xs : List PlacedRow). joined c.new-keys.result (keys_where (λ r. not (stays_in now r)) true xs)) c.as_slice-was.ensures.rows)
    (c.in_ok-add_new.ensures ∙ ap (λ (ys : List PlacedRow). joined c.add_changed.new.keys (keys_where (λ r. not (has_placed (key_of r) was)) false ys)) c.as_slice-now.ensures.rows)
    ∙ touched_by_rows was now (keys_apart was c.as_slice-was.ensures.shown) (keys_apart now c.as_slice-now.ensures.shown)
