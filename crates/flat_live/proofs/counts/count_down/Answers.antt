use Rattle.std.proofs.Common.{◌≡◌, ◌-◌, ◌<◌, ◌∷◌, Some, None, sym, ap, subst, ◌∙◌, arith}
use Rattle.flat_live.specs.FlatRows.{AreCounted, some_rows}
use Rattle.flat_live.proofs.RowCounts.{counted_down, found_path, number_turned, one_counts, skipped_down, some_rows-positive, some_there, still, turned, twice_turned}
use Rattle.flat_live.proofs.counts.count_down.Goals as goal

pub returns-then-count-gt1-clause-counts : goal.returns-then-count-gt1-clause-counts
returns-then-count-gt1-clause-counts c = λ rows row mine h.
    let old = c.args.counts.now in
    let split = c.args.split.now in
    let n = c.in-Some.count.now in
    let written = c.get_mut.follows.holds (n - 1) in
    let some : 0 < n - 1 = omega arith in
    counted_down rows row old.entries (c.get_mut.follows.lender (n - 1)).entries split n (Some (n - 1)) mine h (c.in-Some.ensures.value ∙ found_path split old.entries) (sym (some_rows-positive (n - 1) some))
    (turned split old (c.get_mut.follows.lender (n - 1)) (Some (n - 1)) (written.3 (some_there n _ c.in-Some.ensures.value)))

pub returns-then-count-gt1-clause-moved : goal.returns-then-count-gt1-clause-moved
returns-then-count-gt1-clause-moved c = λ rows row mine h.
    let old = c.args.counts.now in
    let split = c.args.split.now in
    let n = c.in-Some.count.now in
    let written = c.get_mut.follows.holds (n - 1) in
    still c.args.moved.now (row ∷ rows) rows
    (number_turned (row ∷ rows) rows old.entries (c.get_mut.follows.lender (n - 1)).entries split n (n - 1) h (returns-then-count-gt1-clause-counts c rows row mine h) (c.in-Some.ensures.value ∙ found_path split old.entries)
    (turned split old (c.get_mut.follows.lender (n - 1)) (Some (n - 1)) (written.3 (some_there n _ c.in-Some.ensures.value))))

pub returns-else-count-gt1-clause-counts : goal.returns-else-count-gt1-clause-counts
returns-else-count-gt1-clause-counts c = λ rows row mine h.
    let old = c.args.counts.now in
    let split = c.args.split.now in
    let n = c.in-Some.count.now in
    let lent = c.get_mut.follows.lender n in
    let written = c.get_mut.follows.holds n in
    let none : n - 1 ≡ 0 = omega arith in
    counted_down rows row old.entries c.remove.new.self.entries split n None mine h (c.in-Some.ensures.value ∙ found_path split old.entries) (sym (ap some_rows none))
    (twice_turned old.entries lent.entries c.remove.new.self.entries split (Some n) None
    (turned split old lent (Some n) (written.3 (some_there n _ c.in-Some.ensures.value))) (turned split lent c.remove.new.self None c.remove.ensures.updates))

pub returns-in_default-clause-counts : goal.returns-in_default-clause-counts
returns-in_default-clause-counts c = λ rows row mine h.
    let old = c.args.counts.now in
    let split = c.args.split.now in
    subst (λ m. AreCounted rows m.entries) (sym c.get_mut.follows.holds-at-none) (skipped_down rows row old.entries split mine h (c.in_default.ensures.value ∙ found_path split old.entries))

pub returns-in_default-clause-moved : goal.returns-in_default-clause-moved
returns-in_default-clause-moved c = λ rows row mine h.
    let old = c.args.counts.now in
    let split = c.args.split.now in
    still c.args.moved.now (row ∷ rows) rows (one_counts (row ∷ rows) rows old.entries h (skipped_down rows row old.entries split mine h (c.in_default.ensures.value ∙ found_path split old.entries)))
