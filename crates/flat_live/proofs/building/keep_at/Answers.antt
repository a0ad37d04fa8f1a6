use Rattle.std.proofs.Common.{◌+◌, List, drop, sym, subst, ◌∙◌}
use Rattle.std.specs.Prelude.{OnOk}
use Rattle.row_batch.specs.Batches.{pair_of}
use Rattle.row_batch.specs.Tables.{keys_of_rows}
use Rattle.row_batch.specs.declared.batch.Pair.{Pair}
use Rattle.plain_data.specs.Distinct.{AreDistinct}
use Rattle.view_types.specs.declared.key.ViewKey.TheVariants.{Row}
use Rattle.flat_show.proofs.RowLaws.{no_place}
use Rattle.flat_live.specs.Rows.{IsKeptOf}
use Rattle.flat_live.proofs.Builds.{absent_later, distinct_from, kept_more_ok}
use Rattle.flat_live.proofs.Drops.{next_item}
use Rattle.flat_live.proofs.building.keep_at.Goals as goal

pub keep-requires : goal.keep-requires
keep-requires g c = record {
  absent = c.requires.kept.rows (Row c.in-Some.key.now)
      ∙ absent_later c.args.plan.now (pair_of c.in-Some.key.now c.in-Some.row.now) (drop (c.args.at + 1) c.args.table.now.store.pairs)
      (subst (λ (ps : List Pair). AreDistinct (keys_of_rows ps)) (next_item c.args.table.now.store.pairs c.args.at (pair_of c.in-Some.key.now c.in-Some.row.now) (sym c.in-Some.ensures.pair))
      (distinct_from c.args.table.now.store.pairs c.args.at c.len-size.ensures.table.distinct));
}

pub returns-in-Some : goal.returns-in-Some
returns-in-Some g c =
    subst (λ (ps : List Pair). OnOk c.keep.result (IsKeptOf c.args.plan.now ps c.keep.new.rows))
    (sym (next_item c.args.table.now.store.pairs c.args.at (pair_of c.in-Some.key.now c.in-Some.row.now) (sym c.in-Some.ensures.pair)))
    (kept_more_ok c.keep.result c.args.plan.now (pair_of c.in-Some.key.now c.in-Some.row.now) (drop (c.args.at + 1) c.args.table.now.store.pairs) c.args.rows.now c.keep.new.rows c.requires.kept c.keep.ensures.rows)

pub returns-in-None : goal.returns-in-None
returns-in-None g c = absurd (no_place c.args.table.now.store.pairs c.args.at (sym c.in-None.ensures.pair) c.requires.within)
