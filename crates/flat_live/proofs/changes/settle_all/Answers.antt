use Rattle.std.proofs.Common.{◌≡◌, ◌+◌, ◌-◌, Ordering, List, drop, length, ap, subst, ◌∙◌, arith}
use Rattle.std.specs.List.Sorted.{IsStrictlySortedBy}
use Rattle.std.specs.Map.{keys_of}
use Rattle.delta_core.specs.Rows.{at_key}
use Rattle.delta_core.specs.declared.touched.Touch.{Touch}
use Rattle.view_types.specs.contracts.key.ViewKeyOrd.TheImpl.{ghosts}
use Rattle.view_types.specs.declared.key.ViewKey.{ViewKey}
use Rattle.view_types.proofs.KeyOrder.{derived}
use Rattle.live_list.specs.Live.{live_key}
use Rattle.view_columns.specs.Headers.{under}
use Rattle.flat_live.specs.Rows.{IsSettled, settled, told}
use Rattle.flat_live.proofs.Acts.{settled_none}
use Rattle.flat_live.proofs.Drops.{all_dropped, none_dropped}
use Rattle.flat_live.proofs.changes.settle_all.Goals as goal

pub loop-i-init : goal.loop-i-init
loop-i-init c =
    rw (all_dropped c.args.changes.now, c.new-seen.ensures, c.requires.empty) (settled_none c.args.plan.now (under c.args.columns.now c.args.plan.now) c.args.rows.now c.args.touched.now.header)

pub settle_last-requires-clause-settled : goal.settle_last-requires-clause-settled
settle_last-requires-clause-settled c = (
  c.args.rows.now,
  subst (λ n. IsSettled c.args.plan.now (under c.args.columns.now c.args.plan.now) c.args.rows.now (drop n c.args.changes.now) c.loop-i.seen c.loop-i.rows c.loop-i.touched.keys c.loop-i.touched.header)
      (let e : length c.args.changes.now - c.loop-i.i ≡ length c.args.changes.now - 1 - c.loop-i.i + 1 = omega arith in e) c.loop-i.invariant,
)

pub loop-i-preserved : goal.loop-i-preserved
loop-i-preserved c =
    subst (λ n. IsSettled c.args.plan.now (under c.args.columns.now c.args.plan.now) c.args.rows.now (drop n c.args.changes.now) c.settle_last.new.seen c.settle_last.new.rows c.settle_last.new.touched.keys c.settle_last.new.touched.header)
    (let e : length c.args.changes.now - 1 - c.loop-i.i ≡ length c.args.changes.now - (c.loop-i.i + 1) = omega arith in e)
    (c.in_ok-settle_last.ensures c.args.rows.now
    (subst (λ n. IsSettled c.args.plan.now (under c.args.columns.now c.args.plan.now) c.args.rows.now (drop n c.args.changes.now) c.loop-i.seen c.loop-i.rows c.loop-i.touched.keys c.loop-i.touched.header)
    (let e : length c.args.changes.now - c.loop-i.i ≡ length c.args.changes.now - 1 - c.loop-i.i + 1 = omega arith in e) c.loop-i.invariant))

pub returns-clause-rows : goal.returns-clause-rows
returns-clause-rows c = λ k. c.loop-i.invariant.rows k ∙ ap (λ cs. settled c.args.plan.now c.args.rows.now cs k) (none_dropped c.args.changes.now c.loop-i.i c.loop-i-test.false)

pub returns-clause-touched : goal.returns-clause-touched
returns-clause-touched c = λ k.
    c.loop-i.invariant.touched k
    ∙ ap (λ cs. told (under c.args.columns.now c.args.plan.now) (under c.args.columns.now c.args.plan.now) (at_key live_key k c.args.rows.now) (settled c.args.plan.now c.args.rows.now cs k)) (none_dropped c.args.changes.now c.loop-i.i c.loop-i-test.false)

pub returns-clause-ascending : goal.returns-clause-ascending
returns-clause-ascending c =
    subst (λ (R : ViewKey → ViewKey → Ordering). IsStrictlySortedBy R (keys_of c.loop-i.touched.keys)) derived
    (subst (λ (es : List (ViewKey × Touch)). IsStrictlySortedBy ghosts.cmp (keys_of es)) c.entries.ensures c.len-count.ensures.ordered)

pub returns-clause-splits : goal.returns-clause-splits
returns-clause-splits c = record { before = λ none. c.requires.clear; same = c.loop-i.invariant.splits }
