use Rattle.std.proofs.Common.{cond, refl, ap, sym, ◌∙◌}
use Rattle.delta_core.specs.Rows.{at_key}
use Rattle.view_types.specs.Keys.{same_key}
use Rattle.view_types.specs.declared.key.ViewKey.TheVariants.{Row}
use Rattle.view_spec.specs.Filters.{keeps}
use Rattle.live_list.specs.Live.{live_key}
use Rattle.flat_live.proofs.Keeps.{live_dropped}
use Rattle.flat_live.proofs.Options.{none_there}
use Rattle.flat_live.proofs.RowCounts.{still}
use Rattle.flat_live.proofs.keep.keep.Goals as goal

pub returns-then-not-keeps : goal.returns-then-not-keeps
returns-then-not-keeps c = record {
  rows = λ k.
      none_there (λ q. at_key live_key q c.args.rows.now) (Row c.args.key.now) k c.requires.absent
      ∙ ap (λ o. cond (same_key (Row c.args.key.now) k) o (at_key live_key k c.args.rows.now))
      (sym (live_dropped c.args.plan.now c.args.key.now c.args.row.now c.in_ok-full.full c.in_ok-full.ensures (ap (keeps c.args.plan.now.filters) (sym c.as_slice.ensures) ∙ sym c.keeps.ensures ∙ c.if-not-keeps.true)));
  splits = still c.args.splits_moved.now c.args.rows.now c.args.rows.now (λ path. refl);
}
