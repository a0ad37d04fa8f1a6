use Rattle.std.proofs.Common.{◌≡◌, ℕ, suc, ◌-◌, ◌<◌, Some, sym, ap, ◌∙◌, arith}
use Rattle.std.specs.Map.{remove_entry}
use Rattle.std.specs.BTreeMap.{is_at}
use Rattle.std.proofs.lemmas.Map.Views.{All-map-remove_entry, All-values-set_value}
use Rattle.std.proofs.lemmas.Map.Steps.{set_value_same}
use Rattle.cell_core.specs.contracts.cell.CellOrd.TheImpl.{ghosts}
use Rattle.agg_core.proofs.MapSteps.{count_lowered, count_ended, count_absent, some_count}
use Rattle.agg_core.proofs.bag.count_out.Goals as goal

pub returns-in_default-clause-repeated : goal.returns-in_default-clause-repeated
returns-in_default-clause-repeated c =
    let kept = c.get_mut.follows.holds-at-none in
    rw kept (count_absent c.args.cell.now c.args.counts.now.entries c.in_default.ensures.value)

pub returns-then-count-gt1-clause-repeated : goal.returns-then-count-gt1-clause-repeated
returns-then-count-gt1-clause-repeated c =
    let one_less : c.in-Some.count.now ≡ suc (c.in-Some.count.now - 1) = omega arith in
    count_lowered c.args.cell.now c.args.counts.now.entries _ (c.in-Some.count.now - 1) (c.get_mut.follows.holds (c.in-Some.count.now - 1)).0 (sym (ap Some one_less) ∙ c.in-Some.ensures.value)

pub returns-then-count-gt1-clause-some : goal.returns-then-count-gt1-clause-some
returns-then-count-gt1-clause-some c =
    let is = (c.get_mut.follows.holds (c.in-Some.count.now - 1)).0 in
    rw is (All-values-set_value _ (λ (n : ℕ). 0 < n) c.args.counts.now.entries (c.in-Some.count.now - 1) c.requires (omega arith))

pub returns-else-count-gt1-clause-repeated : goal.returns-else-count-gt1-clause-repeated
returns-else-count-gt1-clause-repeated c =
    let old = c.args.counts.now.entries in
    let some = some_count c.args.cell.now old c.in-Some.count.now c.requires c.in-Some.ensures.value in
    let one : c.in-Some.count.now ≡ 1 = omega arith in
    let kept = (c.get_mut.follows.holds c.in-Some.count.now).0 ∙ set_value_same (is_at (ghosts.cmp c.args.cell.now)) old c.in-Some.count.now (sym c.in-Some.ensures.value) in
    count_ended c.args.cell.now old _ (c.remove.ensures.entries ∙ ap (remove_entry (is_at (ghosts.cmp c.args.cell.now))) kept) (sym (ap Some one) ∙ c.in-Some.ensures.value)

pub returns-else-count-gt1-clause-some : goal.returns-else-count-gt1-clause-some
returns-else-count-gt1-clause-some c =
    let old = c.args.counts.now.entries in
    let kept = (c.get_mut.follows.holds c.in-Some.count.now).0 ∙ set_value_same (is_at (ghosts.cmp c.args.cell.now)) old c.in-Some.count.now (sym c.in-Some.ensures.value) in
    let removed = c.remove.ensures.entries ∙ ap (remove_entry (is_at (ghosts.cmp c.args.cell.now))) kept in
    rw removed (All-map-remove_entry (is_at (ghosts.cmp c.args.cell.now)) (λ e. e.1) (λ (n : ℕ). 0 < n) old c.requires)
