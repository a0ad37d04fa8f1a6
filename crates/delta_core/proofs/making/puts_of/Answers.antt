use Rattle.std.proofs.Common.{◌∙◌, sym, ap, subst, map, ℕ}
use Rattle.view_types.specs.Rows.{AreShownRows}
use Rattle.view_types.specs.declared.shown.ShownRow.{ShownRow}
use Rattle.delta_core.specs.Deltas.{puts_from}
use Rattle.delta_core.specs.declared.delta.Put.{Put}
use Rattle.std.specs.Map.{keys_of}
use Rattle.delta_core.proofs.PutRows.{put_of, puts_of_places, rows_of_puts}
use Rattle.delta_core.proofs.making.puts_of.Goals as goal

pub from_listed-requires : goal.from_listed-requires
from_listed-requires g c =
    let entries = c.in_ok-by_place.by_place.entries in
    subst (λ rows. AreShownRows rows) (sym (ap (λ ps. map (λ (p : Put). p.row) ps) (c.from_vec.ensures ∙ c.in_ok-puts.ensures) ∙ rows_of_puts entries)) c.in_ok-by_place.ensures.shown

pub returns : goal.returns
returns g c =
    let entries = c.in_ok-by_place.by_place.entries in
    c.from_listed.ensures ∙ c.from_vec.ensures ∙ c.in_ok-puts.ensures
    ∙ ap (λ es. map (λ (e : ℕ × ShownRow). put_of e) es) c.in_ok-by_place.ensures.rows
    ∙ puts_of_places (puts_from (keys_of c.args.keys.now.entries) 0 (g.V.ShownNow.shown c.args.view.now).rows)
