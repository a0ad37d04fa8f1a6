use Rattle.std.proofs.Common.{◌≡◌, ◌-◌, List, map, take, drop, sym, ap, ◌∙◌, subst}
use Rattle.view_types.specs.Rows.{AreShownRows}
use Rattle.view_types.specs.declared.shown.ShownRow.{ShownRow}
use Rattle.view_spec.specs.declared.placed.PlacedRow.{PlacedRow}
use Rattle.view_kept.proofs.PartLaws.{shown_part}
use Rattle.plain_kept.proofs.plain.PlainViewKeptView.window.Goals as goal

pub from_listed-requires : goal.from_listed-requires
from_listed-requires c =
    let all : List ShownRow = map (λ (p : PlacedRow). p.row) c.self.inside.shown.rows in
    let copied : c.from_vec.result ≡ take (c.args.to - c.args.from) (drop c.args.from all) =
    c.from_vec.ensures ∙ c.in_ok-rows.ensures ∙ ap (λ (xs : List PlacedRow). take (c.args.to - c.args.from) (drop c.args.from (map (λ (p : PlacedRow). p.row) xs))) c.as_slice.ensures.rows in
    subst AreShownRows (sym copied) (shown_part all (c.args.to - c.args.from) c.args.from c.as_slice.ensures.shown)
