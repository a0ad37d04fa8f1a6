use Rattle.std.proofs.Common.{◌≡◌, ◌+◌, None, take, refl, sym, ap, ◌∙◌, subst}
use Rattle.std.specs.List.{slice_get}
use Rattle.std.specs.Option.{option_map}
use Rattle.row_batch.specs.Batches.{pair_of}
use Rattle.view_spec.specs.Filters.{keeps}
use Rattle.view_spec.specs.Kept.{kept}
use Rattle.pivot_tree.specs.Trees.{IsTreeOf}
use Rattle.flat_show.proofs.RowLaws.{no_place}
use Rattle.group_show.proofs.KeptRows.{can_add, row_dropped, row_kept}
use Rattle.group_show.proofs.kept.keep_row.Goals as goal
use Rattle.group_show.proofs.kept.keep_row.Goals.{then-keeps+in_ok-add_row, else-keeps}

pub add_row-requires : goal.add_row-requires
add_row-requires g c =
    let table = c.args.table.now in
    let p = pair_of c.in-Some.key.now c.in-Some.row.now in (
      table.schema.columns,
      c.args.plan.now,
      kept c.args.plan.now (take c.args.i table.store.pairs),
      c.requires.tree,
      can_add table.schema c.args.plan.now table.store c.args.i p c.in-Some.key.now c.in_ok-full.full c.requires.fits c.len-count.ensures.table (sym c.in-Some.ensures.pair) refl c.in_ok-full.ensures,
    )

pub returns-after-keeps : goal.returns-after-keeps
returns-after-keeps g c =
    let table = c.args.table.now in
    let plan = c.args.plan.now in
    let i = c.args.i in
    let p = pair_of c.in-Some.key.now c.in-Some.row.now in
    let full = c.in_ok-full.full in
    let tested : keeps plan.filters full ≡ c.keeps.result = sym (ap (keeps plan.filters) c.as_slice.ensures) ∙ sym c.keeps.ensures in
    let ready = can_add table.schema plan table.store i p c.in-Some.key.now full c.requires.fits c.len-count.ensures.table (sym c.in-Some.ensures.pair) refl c.in_ok-full.ensures in
    elim c.if-keeps.branch [
      | then-keeps+in_ok-add_row w ↦
          subst (λ t. IsTreeOf table.schema.columns plan t (kept plan (take (i + 1) table.store.pairs))) (sym w.tree-is)
          (subst (IsTreeOf table.schema.columns plan w.add_row.new.self) (row_kept plan table.store.pairs i p c.in-Some.key.now full (sym c.in-Some.ensures.pair) refl c.in_ok-full.ensures (tested ∙ w.if-keeps.true))
          (w.in_ok-add_row.ensures.stands table.schema.columns plan (kept plan (take i table.store.pairs)) c.requires.tree ready))
      | else-keeps w ↦
          subst (λ t. IsTreeOf table.schema.columns plan t (kept plan (take (i + 1) table.store.pairs))) (sym w.tree-is)
          (subst (IsTreeOf table.schema.columns plan c.args.tree.now) (row_dropped plan table.store.pairs i p full (sym c.in-Some.ensures.pair) c.in_ok-full.ensures (tested ∙ w.if-keeps.false)) c.requires.tree)
    ]

pub returns-in_default : goal.returns-in_default
returns-in_default g c =
    let none : slice_get c.args.table.now.store.pairs c.args.i ≡ None = sym c.at.ensures.pair ∙ ap (option_map (λ p. pair_of p.0.now p.1.now)) c.in_default.is in
    absurd (no_place c.args.table.now.store.pairs c.args.i none c.requires.within)
