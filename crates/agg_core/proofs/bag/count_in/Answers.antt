use Rattle.std.proofs.Common.{◌≡◌, ℕ, ◌+◌, ◌<◌, ◌^◌, IfSome, sym, ap, ◌∙◌, subst, arith}
use Rattle.std.specs.BTreeMap.{insert_entry}
use Rattle.std.proofs.lemmas.Map.Views.{All-values-insert_entry, All-values-set_value}
use Rattle.cell_core.specs.contracts.cell.CellOrd.TheImpl.{ghosts}
use Rattle.agg_core.proofs.MapSteps.{count_raised, count_begun, same_lookup}
use Rattle.agg_core.proofs.bag.count_in.Goals as goal

pub overflow_add-count : goal.overflow_add-count
overflow_add-count c =
    let there = c.in-Some.ensures.value ∙ same_lookup c.args.cell.now c.args.counts.now.entries in
    let small : c.in-Some.count.now < 2 ^ 63 = subst (λ o. IfSome o (λ n. n < 2 ^ 63)) (sym there) c.requires in
    omega arith

pub returns-in-Some-clause-ok : goal.returns-in-Some-clause-ok
returns-in-Some-clause-ok c =
    count_raised c.args.cell.now c.args.counts.now.entries _ c.in-Some.count.now (c.get_mut.follows.holds (c.in-Some.count.now + 1)).0 c.in-Some.ensures.value c.in-Some.ensures.ordered

pub returns-in-Some-clause-some : goal.returns-in-Some-clause-some
returns-in-Some-clause-some c all =
    let is = (c.get_mut.follows.holds (c.in-Some.count.now + 1)).0 in
    rw is (All-values-set_value _ (λ (n : ℕ). 0 < n) c.args.counts.now.entries (c.in-Some.count.now + 1) all (omega arith))

pub returns-clause-ok : goal.returns-clause-ok
returns-clause-ok c =
    let kept = c.get_mut.follows.holds-at-none in
    let copied = c.in_ok-copy.ensures in
    let old = c.args.counts.now.entries in
    let inserted : c.insert.new.self.entries ≡ insert_entry ghosts.cmp old c.args.cell.now 1 = c.in_ok-insert.ensures.entries ∙ ap (λ m. insert_entry ghosts.cmp m.entries c.in_ok-copy.copy 1) kept ∙ ap (λ k. insert_entry ghosts.cmp old k 1) copied in
    count_begun c.args.cell.now old _ inserted c.in_default.ensures.value c.in_default.ensures.ordered

pub returns-clause-some : goal.returns-clause-some
returns-clause-some c all =
    let kept = c.get_mut.follows.holds-at-none in
    let inserted = c.in_ok-insert.ensures.entries ∙ ap (λ m. insert_entry ghosts.cmp m.entries c.in_ok-copy.copy 1) kept in
    rw inserted (All-values-insert_entry ghosts.cmp c.in_ok-copy.copy 1 (λ (n : ℕ). 0 < n) c.args.counts.now.entries all (omega arith))
