use Rattle.std.proofs.Common.{◌≡◌, ◌+◌, ◌∷◌, [], Some, None, subst, ◌∙◌}
use Rattle.flat_live.proofs.RowCounts.{Turns, counted_up, found_path, inserted, number_turned, some_there, still, sum_read, turned}
use Rattle.flat_live.proofs.counts.count_up.Goals as goal

pub returns-in-Some-clause-counts : goal.returns-in-Some-clause-counts
returns-in-Some-clause-counts c = λ rows row mine h.
    let old = c.args.counts.now in
    let split = c.args.split.now in
    let n = c.in-Some.count.now in
    let m = c.in_ok-count.field-0 in
    let written = c.get_mut.follows.holds m in
    let some : split ≡ [] → ⊥ = λ (e : split ≡ []). let t = c.is_empty.ensures.1 e in let f = c.if-is_empty.false in absurd (cc) in
    let more : m ≡ n + 1 = sum_read c.checked_add.result (n + 1) m _ c.in_ok-count.ensures.ok_part c.checked_add.ensures in
    counted_up rows row old.entries (c.get_mut.follows.lender m).entries split (Some n) mine some h (c.in-Some.ensures.value ∙ found_path split old.entries)
    (subst (λ k. Turns old.entries (c.get_mut.follows.lender m).entries split (Some k)) more (turned split old (c.get_mut.follows.lender m) (Some m) (written.3 (some_there n _ c.in-Some.ensures.value))))

pub returns-in-Some-clause-moved : goal.returns-in-Some-clause-moved
returns-in-Some-clause-moved c = λ rows row mine h.
    let old = c.args.counts.now in
    let split = c.args.split.now in
    let n = c.in-Some.count.now in
    let m = c.in_ok-count.field-0 in
    let written = c.get_mut.follows.holds m in
    still c.args.moved.now rows (row ∷ rows)
    (number_turned rows (row ∷ rows) old.entries (c.get_mut.follows.lender m).entries split n m h (returns-in-Some-clause-counts c rows row mine h) (c.in-Some.ensures.value ∙ found_path split old.entries)
    (turned split old (c.get_mut.follows.lender m) (Some m) (written.3 (some_there n _ c.in-Some.ensures.value))))

pub returns-clause-counts : goal.returns-clause-counts
returns-clause-counts c = λ rows row mine h.
    let old = c.args.counts.now in
    let split = c.args.split.now in
    let some : split ≡ [] → ⊥ = λ (e : split ≡ []). let t = c.is_empty.ensures.1 e in let f = c.if-is_empty.false in absurd (cc) in
    counted_up rows row old.entries c.insert.new.self.entries split None mine some h (c.in_default.ensures.value ∙ found_path split old.entries)
    (inserted split c.in_ok-copy.field-0 old _ c.insert.new.self (Some 1) c.in_ok-copy.ensures c.get_mut.follows.holds-at-none c.in_ok-insert.ensures.updates)
