use Rattle.std.proofs.Common.{cond, refl, ap, sym, ◌∙◌}
use Rattle.std.specs.Option.{option_map}
use Rattle.row_batch.specs.Batches.{pair_of}
use Rattle.delta_core.specs.Rows.{at_key}
use Rattle.view_types.specs.Keys.{same_key}
use Rattle.view_types.specs.declared.key.ViewKey.TheVariants.{Row}
use Rattle.live_list.specs.Live.{live_key}
use Rattle.flat_live.specs.Rows.{live_at}
use Rattle.flat_live.proofs.Options.{none_there, ok_map}
use Rattle.flat_live.proofs.RowCounts.{still}
use Rattle.flat_live.proofs.settle.keep_new.Goals as goal

pub returns-in-None : goal.returns-in-None
returns-in-None c = record {
  rows = λ k.
      none_there (λ q. at_key live_key q c.args.rows.now) (Row c.args.change.now.key) k c.requires.absent
      ∙ ap (λ o. cond (same_key (Row c.args.change.now.key) k) (live_at c.args.plan.now (option_map (pair_of c.args.change.now.key) o)) (at_key live_key k c.args.rows.now)) (sym c.in-None.is);
  splits = still c.args.splits_moved.now c.args.rows.now c.args.rows.now (λ path. refl);
}

pub returns-in-Some : goal.returns-in-Some
returns-in-Some c = record {
  rows = λ k.
      ok_map c.keep.result
      (λ h. h ∙ ap (λ o. cond (same_key (Row c.args.change.now.key) k) (live_at c.args.plan.now (option_map (pair_of c.args.change.now.key) o)) (at_key live_key k c.args.rows.now)) (sym c.in-Some.is))
      (c.keep.ensures.rows k);
  splits = c.keep.ensures.splits;
}
