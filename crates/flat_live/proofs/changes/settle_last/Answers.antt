use Rattle.std.proofs.Common.{◌+◌, true, List, Some, cond, drop, is_some, ap, sym, subst, ◌∙◌}
use Rattle.std.specs.Prelude.{OnOk}
use Rattle.std.specs.Map.{lookup}
use Rattle.row_batch.specs.declared.change.RowChange.{RowChange}
use Rattle.view_types.specs.Keys.{same_key}
use Rattle.view_types.specs.declared.key.ViewKey.TheVariants.{Row}
use Rattle.view_columns.specs.Headers.{under}
use Rattle.flat_live.specs.Rows.{IsSettled}
use Rattle.flat_live.proofs.Acts.{acted_ok, skipped, unknown}
use Rattle.flat_live.proofs.Drops.{next_read}
use Rattle.flat_live.proofs.Options.{copied_some}
use Rattle.flat_live.proofs.changes.settle_last.Goals as goal

pub returns-then-is_some : goal.returns-then-is_some
returns-then-is_some c = λ first h.
    subst (λ (cs : List RowChange). IsSettled c.args.plan.now (under c.args.columns.now c.args.plan.now) first cs c.args.seen.now c.args.rows.now c.args.touched.now.keys c.args.touched.now.header)
    (sym (next_read c.args.changes.now c.args.at c.index-changes-at.result c.requires.within c.index-changes-at.is))
    (skipped c.args.plan.now (under c.args.columns.now c.args.plan.now) first c.index-changes-at.result (drop (c.args.at + 1) c.args.changes.now) c.args.seen.now c.args.rows.now c.args.touched.now.keys c.args.touched.now.header h
    (ap (λ z. is_some (lookup (same_key (Row z)) c.args.seen.now)) (sym c.in_ok-copy.ensures) ∙ ap is_some (sym c.get.ensures) ∙ copied_some c.get.result ∙ sym c.is_some.ensures ∙ c.if-is_some.true))

pub settle-requires : goal.settle-requires
settle-requires c = record {
  unknown = unknown c.args.plan.now (under c.args.columns.now c.args.plan.now) (c.requires.settled).0 c.index-changes-at.result (drop (c.args.at + 1) c.args.changes.now) c.args.seen.now c.args.rows.now c.args.touched.now.keys c.args.touched.now.header (c.requires.settled).1
      (ap (λ z. is_some (lookup (same_key (Row z)) c.args.seen.now)) (sym c.in_ok-copy.ensures) ∙ ap is_some (sym c.get.ensures) ∙ copied_some c.get.result ∙ sym c.is_some.ensures ∙ c.if-is_some.false);
}

pub returns : goal.returns
returns c = λ first h.
    subst (λ (cs : List RowChange). OnOk c.settle.result (IsSettled c.args.plan.now (under c.args.columns.now c.args.plan.now) first cs c.insert.new.self c.settle.new.rows c.settle.new.touched.keys c.settle.new.touched.header))
    (sym (next_read c.args.changes.now c.args.at c.index-changes-at.result c.requires.within c.index-changes-at.is))
    (acted_ok c.settle.result c.args.plan.now (under c.args.columns.now c.args.plan.now) first c.index-changes-at.result (drop (c.args.at + 1) c.args.changes.now) c.args.seen.now c.insert.new.self c.args.rows.now c.settle.new.rows c.args.touched.now.keys c.settle.new.touched.keys c.args.touched.now.header c.settle.new.touched.header h
    (ap (λ z. is_some (lookup (same_key (Row z)) c.args.seen.now)) (sym c.in_ok-copy.ensures) ∙ ap is_some (sym c.get.ensures) ∙ copied_some c.get.result ∙ sym c.is_some.ensures ∙ c.if-is_some.false)
    (λ k. c.in_ok-insert.ensures.ok k ∙ ap (λ z. cond (same_key (Row z) k) (Some true) (lookup (same_key k) c.args.seen.now)) c.in_ok-copy.ensures)
    c.settle.ensures.rows c.settle.ensures.touched c.settle.ensures.splits)
