use Rattle.std.proofs.Common.{◌≡◌, ◌+◌, ◌-◌, drop, length, subst, arith}
use Rattle.view_columns.specs.Headers.{under}
use Rattle.flat_live.specs.Rows.{TellsOld}
use Rattle.flat_live.proofs.Compares.{old_none}
use Rattle.flat_live.proofs.comparing.compare_old.Goals as goal

pub loop-i-init : goal.loop-i-init
loop-i-init c = old_none (under c.args.was.now.columns c.args.was.now.plan) (under c.args.now.now.columns c.args.now.now.plan) c.args.was.now.rows c.args.now.now.rows c.args.touched.now c.requires

pub note_old-requires-clause-tells : goal.note_old-requires-clause-tells
note_old-requires-clause-tells c =
    subst (λ n. TellsOld (under c.args.was.now.columns c.args.was.now.plan) (under c.args.now.now.columns c.args.now.now.plan) c.args.was.now.rows c.args.now.now.rows (drop n c.args.was.now.rows) c.loop-i.touched)
    (let e : length c.args.was.now.rows - c.loop-i.i ≡ c.len-count.result - 1 - c.loop-i.i + 1 = omega arith in e) c.loop-i.invariant

pub loop-i-preserved : goal.loop-i-preserved
loop-i-preserved c =
    subst (λ n. TellsOld (under c.args.was.now.columns c.args.was.now.plan) (under c.args.now.now.columns c.args.now.now.plan) c.args.was.now.rows c.args.now.now.rows (drop n c.args.was.now.rows) c.note_old.new.touched)
    (let e : c.len-count.result - 1 - c.loop-i.i ≡ length c.args.was.now.rows - (c.loop-i.i + 1) = omega arith in e) c.in_ok-note_old.ensures

pub returns : goal.returns
returns c =
    subst (λ n. TellsOld (under c.args.was.now.columns c.args.was.now.plan) (under c.args.now.now.columns c.args.now.now.plan) c.args.was.now.rows c.args.now.now.rows (drop n c.args.was.now.rows) c.loop-i.touched)
    (let e : length c.args.was.now.rows - c.loop-i.i ≡ 0 = omega arith in e) c.loop-i.invariant
