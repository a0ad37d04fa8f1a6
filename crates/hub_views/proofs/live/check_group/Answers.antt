use Rattle.std.proofs.Common.{length, inl, inr, sym, ap, ◌∙◌}
use Rattle.std.specs.Prelude.{is_some, not}
use Rattle.std.proofs.lemmas.Bool.{eq-eqb, ne_eqb}
use Rattle.delta_core.specs.Rows.{position_of}
use Rattle.delta_core.proofs.ShownKeys.{position_has}
use Rattle.plan_types.specs.declared.plan.Plan.{Plan}
use Rattle.view_types.specs.declared.key.ViewKey.TheVariants.{Group}
use Rattle.live_rows.specs.Live.{live_shown}
use Rattle.hub_views.proofs.live.check_group.Goals as goal

pub returns-then-is_none : goal.returns-then-is_none
returns-then-is_none c =
    let rows = (live_shown c.args.rows.now).rows in
    inl (
      sym (position_has (Group c.args.path.now) rows)
          ∙ sym (ap is_some (c.position.ensures.position ∙ ap (λ p. position_of (Group p) rows) c.in_ok-copy.ensures)) ∙ c.is_none.ensures ∙ ap not c.if-is_none.true,
      c.no_row.ensures,
    )

pub returns-then-len : goal.returns-then-len
returns-then-len c =
    let rows = (live_shown c.args.rows.now).rows in
    inr (inl (
      sym (position_has (Group c.args.path.now) rows)
          ∙ sym (ap is_some (c.position.ensures.position ∙ ap (λ p. position_of (Group p) rows) c.in_ok-copy.ensures)) ∙ c.is_none.ensures ∙ ap not c.if-is_none.false,
      λ s stood. eq-eqb (length c.args.path.now) (length s.plan.group_by)
          (sym c.len.ensures ∙ c.if-len.true ∙ c.len-2.ensures ∙ ap (λ (p : Plan). length p.group_by) (c.plan.ensures s stood)),
      c.not_a_group.ensures,
    ))

pub returns : goal.returns
returns c =
    let rows = (live_shown c.args.rows.now).rows in (
      sym (position_has (Group c.args.path.now) rows)
          ∙ sym (ap is_some (c.position.ensures.position ∙ ap (λ p. position_of (Group p) rows) c.in_ok-copy.ensures)) ∙ c.is_none.ensures ∙ ap not c.if-is_none.false,
      λ s stood. ne_eqb (length c.args.path.now) (length s.plan.group_by)
          (λ e. c.if-len.false (c.len.ensures ∙ e ∙ sym (c.len-2.ensures ∙ ap (λ (p : Plan). length p.group_by) (c.plan.ensures s stood)))),
    )
