use Rattle.std.proofs.Common.{◌≡◌, ◌+◌, ◌-◌, List, Ordering, drop, length, subst, arith}
use Rattle.std.specs.List.Sorted.{IsStrictlySortedBy}
use Rattle.std.specs.Map.{keys_of}
use Rattle.delta_core.specs.declared.touched.Touch.{Touch}
use Rattle.view_types.specs.contracts.key.ViewKeyOrd.TheImpl.{ghosts}
use Rattle.view_types.specs.declared.key.ViewKey.{ViewKey}
use Rattle.view_types.proofs.KeyOrder.{derived}
use Rattle.view_columns.specs.Headers.{under}
use Rattle.flat_live.specs.Rows.{TellsNew}
use Rattle.flat_live.proofs.Compares.{new_none}
use Rattle.flat_live.proofs.comparing.compare_new.Goals as goal

pub loop-i-init : goal.loop-i-init
loop-i-init c = new_none (under c.args.was.now.columns c.args.was.now.plan) (under c.args.now.now.columns c.args.now.now.plan) c.args.was.now.rows c.args.now.now.rows c.args.touched.now c.requires

pub note_new-requires-clause-tells : goal.note_new-requires-clause-tells
note_new-requires-clause-tells c =
    subst (λ n. TellsNew (under c.args.was.now.columns c.args.was.now.plan) (under c.args.now.now.columns c.args.now.now.plan) c.args.was.now.rows c.args.now.now.rows (drop n c.args.now.now.rows) c.loop-i.touched)
    (let e : length c.args.now.now.rows - c.loop-i.i ≡ c.len-count.result - 1 - c.loop-i.i + 1 = omega arith in e) c.loop-i.invariant

pub loop-i-preserved : goal.loop-i-preserved
loop-i-preserved c =
    subst (λ n. TellsNew (under c.args.was.now.columns c.args.was.now.plan) (under c.args.now.now.columns c.args.now.now.plan) c.args.was.now.rows c.args.now.now.rows (drop n c.args.now.now.rows) c.note_new.new.touched)
    (let e : c.len-count.result - 1 - c.loop-i.i ≡ length c.args.now.now.rows - (c.loop-i.i + 1) = omega arith in e) c.in_ok-note_new.ensures

pub returns-clause-tells : goal.returns-clause-tells
returns-clause-tells c =
    subst (λ n. TellsNew (under c.args.was.now.columns c.args.was.now.plan) (under c.args.now.now.columns c.args.now.now.plan) c.args.was.now.rows c.args.now.now.rows (drop n c.args.now.now.rows) c.loop-i.touched)
    (let e : length c.args.now.now.rows - c.loop-i.i ≡ 0 = omega arith in e) c.loop-i.invariant

pub returns-clause-ascending : goal.returns-clause-ascending
returns-clause-ascending c =
    subst (λ (R : ViewKey → ViewKey → Ordering). IsStrictlySortedBy R (keys_of c.loop-i.touched)) derived
    (subst (λ (es : List (ViewKey × Touch)). IsStrictlySortedBy ghosts.cmp (keys_of es)) c.entries.ensures c.len-count-2.ensures.ordered)
