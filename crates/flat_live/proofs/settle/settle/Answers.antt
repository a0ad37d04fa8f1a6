use Rattle.std.proofs.Common.{None, cond, ap, ◌∙◌}
use Rattle.delta_core.specs.Rows.{at_key}
use Rattle.view_types.specs.Keys.{same_key}
use Rattle.view_types.specs.declared.key.ViewKey.TheVariants.{Row}
use Rattle.live_list.specs.Live.{live_key}
use Rattle.view_columns.specs.Headers.{under}
use Rattle.flat_live.specs.Rows.{live_of}
use Rattle.flat_live.proofs.Options.{itself, ok_map, ok_plain}
use Rattle.flat_live.proofs.RowCounts.{then_noted}
use Rattle.flat_live.proofs.Settles.{noted}
use Rattle.flat_live.proofs.settle.settle.Goals as goal

pub keep_new-requires : goal.keep_new-requires
keep_new-requires c = record {
  absent = c.take-was.ensures.told (Row c.args.change.now.key)
      ∙ ap (λ z. cond (same_key (Row z) (Row c.args.change.now.key)) None (at_key live_key (Row c.args.change.now.key) c.args.rows.now)) c.in_ok-copy.ensures
      ∙ itself (Row c.args.change.now.key) None (at_key live_key (Row c.args.change.now.key) c.args.rows.now);
}

pub returns-clause-touched : goal.returns-clause-touched
returns-clause-touched c = λ k.
    ok_map c.note.result
    (λ h. h
    ∙ noted (under c.args.columns.now c.args.plan.now) c.args.change.now.key c.in_ok-copy.field-0 k _ _ (λ q. at_key live_key q c.args.rows.now) (live_of c.args.plan.now c.args.change.now) _ c.in_ok-copy.ensures
    (c.as_ref.ensures.value ∙ c.take-was.ensures.taken)
    (c.get-now.ensures ∙ c.in_ok-keep_new.ensures.rows (Row c.in_ok-copy.field-0)
    ∙ ap (λ z. cond (same_key (Row c.args.change.now.key) (Row z)) (live_of c.args.plan.now c.args.change.now) (at_key live_key (Row c.in_ok-copy.field-0) c.take-was.new.self)) c.in_ok-copy.ensures
    ∙ itself (Row c.args.change.now.key) _ _))
    (c.note.ensures k)

pub returns-clause-splits : goal.returns-clause-splits
returns-clause-splits c =
    ok_plain c.note.result
    (then_noted c.args.touched.now.header c.take-was.new.splits_moved c.keep_new.new.splits_moved c.args.rows.now c.take-was.new.self c.keep_new.new.rows c.take-was.ensures.splits c.in_ok-keep_new.ensures.splits)
