use Rattle.std.proofs.Common.{Some, ap, map, ◌∙◌}
use Rattle.std.specs.Option.{option_map}
use Rattle.delta_core.specs.Rows.{row_at}
use Rattle.key_map.proofs.Keyed.{row_at-shown}
use Rattle.view_spec.specs.declared.placed.PlacedRow.{PlacedRow}
use Rattle.plain_kept.specs.Plain.{PlainData}
use Rattle.plain_kept.proofs.plain.PlainViewShownNow.row.Goals as goal

pub returns-in_ok-copy-in-Some : goal.returns-in_ok-copy-in-Some
returns-in_ok-copy-in-Some c =
    ap Some c.in_ok-copy-in-Some.ensures ∙ ap (option_map (λ (p : PlacedRow). p.row)) c.in-Some.ensures
    ∙ row_at-shown (λ (p : PlacedRow). p.row) c.args.key.now c.self.inside.shown.rows
    ∙ ap (λ (v : PlainData). row_at c.args.key.now (map (λ (p : PlacedRow). p.row) v.shown.rows)) c.self.view_is

pub returns-in-None : goal.returns-in-None
returns-in-None c =
    ap (option_map (λ (p : PlacedRow). p.row)) c.in-None.ensures ∙ row_at-shown (λ (p : PlacedRow). p.row) c.args.key.now c.self.inside.shown.rows
    ∙ ap (λ (v : PlainData). row_at c.args.key.now (map (λ (p : PlacedRow). p.row) v.shown.rows)) c.self.view_is
