use Rattle.std.proofs.Common.{◌≡◌, None, sym, ap, ◌∙◌}
use Rattle.std.specs.List.{slice_get}
use Rattle.std.specs.Option.{option_map}
use Rattle.row_batch.specs.Batches.{pair_of}
use Rattle.view_spec.specs.Filters.{keeps}
use Rattle.flat_show.proofs.RowLaws.{no_place, row_dropped, row_kept}
use Rattle.flat_show.proofs.kept.keep_row.Goals as goal

pub returns-in_ok-push : goal.returns-in_ok-push
returns-in_ok-push g c =
    row_kept c.args.plan.now c.args.table.now.store.pairs c.args.i (pair_of c.in-Some.key.now c.in-Some.row.now) c.in_ok-copy.field-0 c.in_ok-row.row c.args.rows.now.items c.push.new.self.items
    (sym c.in-Some.ensures.pair) c.in_ok-copy.ensures c.in_ok-row.ensures
    (sym (ap (keeps c.args.plan.now.filters) c.as_slice.ensures) ∙ sym c.keeps.ensures ∙ c.if-keeps.true) c.in_ok-push.ensures.items

pub returns-else-keeps : goal.returns-else-keeps
returns-else-keeps g c =
    row_dropped c.args.plan.now c.args.table.now.store.pairs c.args.i (pair_of c.in-Some.key.now c.in-Some.row.now) c.in_ok-row.row c.args.rows.now.items
    (sym c.in-Some.ensures.pair) c.in_ok-row.ensures
    (sym (ap (keeps c.args.plan.now.filters) c.as_slice.ensures) ∙ sym c.keeps.ensures ∙ c.if-keeps.false)

pub returns-in_default : goal.returns-in_default
returns-in_default g c =
    let none : slice_get c.args.table.now.store.pairs c.args.i ≡ None =
    sym c.at.ensures.pair ∙ ap (option_map (λ p. pair_of p.0.now p.1.now)) c.in_default.is in
    absurd (no_place c.args.table.now.store.pairs c.args.i none c.requires)
