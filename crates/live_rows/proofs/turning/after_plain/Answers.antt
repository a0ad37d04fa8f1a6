use Rattle.std.proofs.Common.{ap, map, ◌∙◌}
use Rattle.view_kept.specs.Steps.{side_of}
use Rattle.view_kept.proofs.StepLaws.{header_between}
use Rattle.plain_kept.specs.declared.keyed.KeyedView.{KeyedView}
use Rattle.plain_kept.proofs.PlainLaws.{keys_between}
use Rattle.view_columns.specs.Headers.{under}
use Rattle.flat_live.specs.Rows.{as_placed}
use Rattle.live_rows.proofs.turning.after_plain.Goals as goal

pub returns-clause-keys : goal.returns-clause-keys
returns-clause-keys g c = λ s stood of.
    let other = c.in_ok-other-2.ensures c.args.opening.now in
    keys_between s (side_of c.args.plan c.args.opening.now c.args.table.now) c.keyed.result.now.rows c.in_ok-now.now.rows c.in_ok-touched_now.field-0.keys
    (ap (λ (k : KeyedView). k.rows) c.keyed.ensures ∙ stood.rows) (c.in_ok-now.ensures.rows ∙ (λ i. map (as_placed (under (other.columns i) (other.plan i))) c.in_ok-other-2.other.rows) ∙ other.rows) c.in_ok-touched_now.ensures.keys

pub returns-clause-header : goal.returns-clause-header
returns-clause-header g c = λ s stood of.
    header_between s (side_of c.args.plan c.args.opening.now c.args.table.now) c.keyed.result.now.header c.in_ok-now.now.header c.in_ok-touched_now.field-0.header
    (ap (λ (k : KeyedView). k.header) c.keyed.ensures ∙ stood.header) (c.in_ok-now.ensures.header ∙ (c.in_ok-other-2.ensures c.args.opening.now).header) c.in_ok-touched_now.ensures.header
