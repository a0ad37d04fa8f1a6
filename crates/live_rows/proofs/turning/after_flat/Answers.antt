use Rattle.std.proofs.Common.{ap, map, ◌∙◌}
use Rattle.view_kept.specs.Steps.{side_of}
use Rattle.plain_kept.specs.declared.keyed.KeyedView.{KeyedView}
use Rattle.plain_kept.proofs.PlainLaws.{keys_between}
use Rattle.view_columns.specs.Headers.{under}
use Rattle.flat_live.specs.Rows.{as_placed}
use Rattle.live_rows.proofs.turning.after_flat.Goals as goal

pub returns-clause-keys : goal.returns-clause-keys
returns-clause-keys g c = λ s stood of.
    keys_between s (side_of c.args.plan c.args.opening.now c.args.table.now) c.in_ok-was.was'.rows c.keyed.result.now.rows c.in_ok-touched_now.field-0.keys
    (c.in_ok-was.ensures.rows ∙ (λ i. map (as_placed (under (stood.columns i) (stood.plan i))) c.args.view.now.rows) ∙ stood.rows) (ap (λ (k : KeyedView). k.rows) c.keyed.ensures ∙ c.in_ok-other-2.ensures.rows) c.in_ok-touched_now.ensures.keys
