use Rattle.std.proofs.Common.{ap, map, ◌∙◌}
use Rattle.delta_core.specs.Rows.{position_of}
use Rattle.key_map.proofs.Keyed.{position_of-shown}
use Rattle.view_spec.specs.declared.placed.PlacedRow.{PlacedRow}
use Rattle.plain_kept.specs.Plain.{PlainData}
use Rattle.plain_kept.proofs.plain.PlainViewShownNow.position.Goals as goal

pub returns-clause-position : goal.returns-clause-position
returns-clause-position c =
    c.position.ensures ∙ position_of-shown (λ (p : PlacedRow). p.row) c.args.key.now c.self.inside.shown.rows
    ∙ ap (λ (v : PlainData). position_of c.args.key.now (map (λ (p : PlacedRow). p.row) v.shown.rows)) c.self.view_is
