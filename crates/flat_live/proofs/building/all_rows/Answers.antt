use Rattle.std.proofs.Common.{◌≡◌, ◌+◌, ◌-◌, drop, length, subst, arith}
use Rattle.flat_live.specs.Rows.{IsKeptOf}
use Rattle.flat_live.proofs.Builds.{kept_at_end}
use Rattle.flat_live.proofs.Drops.{all_dropped}
use Rattle.flat_live.proofs.building.all_rows.Goals as goal

pub loop-i-init : goal.loop-i-init
loop-i-init g c = kept_at_end c.args.plan.now _ _ (all_dropped c.args.table.now.store.pairs) c.new-rows.ensures

pub keep_at-requires-clause-kept : goal.keep_at-requires-clause-kept
keep_at-requires-clause-kept g c =
    subst (λ n. IsKeptOf c.args.plan.now (drop n c.args.table.now.store.pairs) c.loop-i.rows)
    (let e : length c.args.table.now.store.pairs - c.loop-i.i ≡ c.len-count.result - 1 - c.loop-i.i + 1 = omega arith in e) c.loop-i.invariant

pub loop-i-preserved : goal.loop-i-preserved
loop-i-preserved g c =
    subst (λ n. IsKeptOf c.args.plan.now (drop n c.args.table.now.store.pairs) c.keep_at.new.rows)
    (let e : c.len-count.result - 1 - c.loop-i.i ≡ length c.args.table.now.store.pairs - (c.loop-i.i + 1) = omega arith in e) c.in_ok-keep_at.ensures

pub returns : goal.returns
returns g c =
    subst (λ n. IsKeptOf c.args.plan.now (drop n c.args.table.now.store.pairs) c.loop-i.rows)
    (let e : length c.args.table.now.store.pairs - c.loop-i.i ≡ 0 = omega arith in e) c.loop-i.invariant
