use Rattle.std.proofs.Common.{◌≡◌, refl, ap, ◌∙◌}
use Rattle.view_kept.specs.Steps.{side_of}
use Rattle.view_spec.specs.Cells.{header_of}
use Rattle.view_spec.specs.Kept.{kept}
use Rattle.view_spec.specs.Members.{splits}
use Rattle.view_spec.specs.Views.{Side}
use Rattle.flat_live.proofs.Steps.{placed_kept}
use Rattle.flat_live.proofs.building.build.Goals as goal

pub returns : goal.returns
returns g c = λ opening.
    let s : Side = side_of c.args.plan opening c.args.table.now in
    let columns : c.in_ok-columns.columns.items ≡ c.args.table.now.schema.columns
    = c.in_ok-columns.ensures ∙ c.columns.ensures ∙ ap (λ z. z.columns) c.schema.ensures in
    record {
      columns = c.from_vec.ensures ∙ columns;
      plan = refl;
      fits = c.requires;
      header = c.in_ok-header.ensures c.args.table.now.store.pairs c.in_ok-rows.ensures c.len-size.ensures.table.distinct
          ∙ ap (λ cs. header_of cs c.args.plan (splits c.args.plan (kept c.args.plan c.args.table.now.store.pairs))) (c.deref.ensures.value ∙ columns);
      kept = c.in_ok-rows.ensures;
      rows = placed_kept s c.in_ok-rows.rows c.requires.flat c.len-size.ensures.table.distinct c.len-count.ensures.live c.in_ok-rows.ensures;
    }
