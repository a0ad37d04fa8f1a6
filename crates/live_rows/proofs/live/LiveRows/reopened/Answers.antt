use Rattle.std.proofs.Common.{sym, ◌∙◌, subst}
use Rattle.view_kept.specs.Steps.{side_of}
use Rattle.flat_live.specs.Flat.{StandsFlat}
use Rattle.live_rows.specs.Live.{StandsLive}
use Rattle.live_rows.proofs.Openings.{flat_head, flat_keys, flat_stands, no_head}
use Rattle.live_rows.proofs.live.LiveRows.reopened.Goals as goal

pub returns-in-Flat-clause-stands : goal.returns-in-Flat-clause-stands
returns-in-Flat-clause-stands g c = λ s stood of.
    let h : StandsFlat c.in-Flat.field-0 s = subst (λ r. StandsLive r s) c.in-Flat.is stood in
    subst (λ r. StandsLive r (side_of s.plan c.args.opening.now c.args.table.now)) (sym c.in-Flat.is) (flat_stands c.in-Flat.field-0 s c.args.opening.now c.args.table.now h of)

pub returns-in-Flat-clause-keys : goal.returns-in-Flat-clause-keys
returns-in-Flat-clause-keys g c = λ s stood of.
    let h : StandsFlat c.in-Flat.field-0 s = subst (λ r. StandsLive r s) c.in-Flat.is stood in
    c.requires.empty ∙ flat_keys c.in-Flat.field-0 s c.args.opening.now c.args.table.now h of

pub returns-in-Flat-clause-header : goal.returns-in-Flat-clause-header
returns-in-Flat-clause-header g c = λ s stood of.
    c.requires.clear ∙ sym (flat_head s c.args.opening.now c.args.table.now of ∙ no_head s)
