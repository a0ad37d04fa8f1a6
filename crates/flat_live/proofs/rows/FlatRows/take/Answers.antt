use Rattle.std.proofs.Common.{◌∷◌, List, None, cond, sym, ap, subst, refl, ◌∙◌}
use Rattle.std.proofs.lemmas.List.Sorted.{IsPermutation-refl}
use Rattle.delta_core.specs.Rows.{at_key}
use Rattle.view_types.specs.Keys.{same_key}
use Rattle.live_list.specs.Live.{live_key}
use Rattle.flat_live.specs.FlatRows.{FlatRow, NotesSplits}
use Rattle.flat_live.proofs.ByKey.{taken, untaken}
use Rattle.flat_live.proofs.RowCounts.{counted-permuted, is_counted-permuted, noted-permuted, still}
use Rattle.flat_live.proofs.rows.FlatRows.take.Goals as goal

pub invariant_of-self : goal.invariant_of-self
invariant_of-self c =
    let first = c.self.inside.list in
    let last = c.take-taken.new.self in
    counted-permuted first last c.self.inside.counts.entries
    (untaken live_key first last c.args.key.now c.len-first.ensures.live.differ c.len-last.ensures.live.differ (sym c.in_err-row.ensures.taken) c.take-taken.ensures.told) c.self.invariant

pub returns-in_err-row-clause-splits : goal.returns-in_err-row-clause-splits
returns-in_err-row-clause-splits c =
    let first = c.self.inside.list in
    let last = c.take-taken.new.self in
    subst (λ (rows : List FlatRow). NotesSplits c.args.splits_moved.now c.args.splits_moved.now rows last) c.self.view_is
    (still c.args.splits_moved.now first last
    (λ path. is_counted-permuted first last path
    (untaken live_key first last c.args.key.now c.len-first.ensures.live.differ c.len-last.ensures.live.differ (sym c.in_err-row.ensures.taken) c.take-taken.ensures.told)))

pub invariant_of-self-2 : goal.invariant_of-self-2
invariant_of-self-2 c =
    let first = c.self.inside.list in
    let last = c.take-taken.new.self in
    let row : FlatRow = c.in_ok-row.row in
    c.count_down.ensures.counts last row refl
    (counted-permuted first (row ∷ last) c.self.inside.counts.entries
    (taken live_key first last c.args.key.now row c.len-first.ensures.live.differ c.len-last.ensures.live.differ (sym c.in_ok-row.ensures.taken) c.take-taken.ensures.told) c.self.invariant)

pub returns-clause-told : goal.returns-clause-told
returns-clause-told c = λ k. c.take-taken.ensures.told k ∙ ap (λ (rows : List FlatRow). cond (same_key c.args.key.now k) None (at_key live_key k rows)) c.self.view_is

pub returns-clause-splits : goal.returns-clause-splits
returns-clause-splits c =
    let first = c.self.inside.list in
    let last = c.take-taken.new.self in
    let row : FlatRow = c.in_ok-row.row in
    let moved = taken live_key first last c.args.key.now row c.len-first.ensures.live.differ c.len-last.ensures.live.differ (sym c.in_ok-row.ensures.taken) c.take-taken.ensures.told in
    subst (λ (rows : List FlatRow). NotesSplits c.args.splits_moved.now c.count_down.new.moved rows last) c.self.view_is
    (noted-permuted c.args.splits_moved.now c.count_down.new.moved (row ∷ last) first last last moved (IsPermutation-refl last)
    (c.count_down.ensures.moved last row refl (counted-permuted first (row ∷ last) c.self.inside.counts.entries moved c.self.invariant)))
