use Rattle.std.proofs.Common.{sym, ap, ◌∙◌, subst}
use Rattle.std.proofs.Math.ListN.{set}
use Rattle.std.proofs.lemmas.Cmp.{nat_list_cmp_total}
use Rattle.std.specs.Cmp.Lexicographic.{slice_cmp}
use Rattle.std.specs.List.Sorted.{IsStrictlySortedBy}
use Rattle.std.specs.Map.{keys_of}
use Rattle.std.specs.Ordering.{nat_cmp}
use Rattle.view_types.specs.Cells.{put_cell}
use Rattle.view_types.proofs.PutCells.{insert_entry-ascends, put_at_gap, put_at_place, searchable}
use Rattle.view_types.proofs.shown.ShownCells.put.Goals as goal

pub returns-in-Ok-clause-ok : goal.returns-in-Ok-clause-ok
returns-in-Ok-clause-ok c =
    let es = c.self.inside.cells.items in
    let within = rw c.deref.ensures.value at c.in-Ok.ensures.within in
    let place = rw c.deref.ensures.value at c.in-Ok.ensures.place in
    ap (λ e. set es c.in-Ok.at (e.0, c.args.value)) c.index_mut.ensures.value
    ∙ put_at_place nat_list_cmp_total es c.args.column c.args.value c.in-Ok.at c.index_mut.result.now within c.self.invariant place
    ∙ ap (λ cells. put_cell cells c.args.column c.args.value) c.self.view_is

pub invariant_of-self : goal.invariant_of-self
invariant_of-self c =
    let es = c.self.inside.cells.items in
    let within = rw c.deref.ensures.value at c.in-Ok.ensures.within in
    let place = rw c.deref.ensures.value at c.in-Ok.ensures.place in
    subst (λ cells. IsStrictlySortedBy (slice_cmp nat_cmp) (keys_of cells))
    (sym (ap (λ e. set es c.in-Ok.at (e.0, c.args.value)) c.index_mut.ensures.value
    ∙ put_at_place nat_list_cmp_total es c.args.column c.args.value c.in-Ok.at c.index_mut.result.now within c.self.invariant place))
    (insert_entry-ascends nat_list_cmp_total es c.args.column c.args.value c.self.invariant)

pub returns-in_ok-insert-in-Err-clause-ok : goal.returns-in_ok-insert-in-Err-clause-ok
returns-in_ok-insert-in-Err-clause-ok c =
    let es = c.self.inside.cells.items in
    let within = rw c.deref.ensures.value at c.in-Err.ensures.within in
    let place = rw c.deref.ensures.value at c.in-Err.ensures.place in
    let parts = place (searchable nat_list_cmp_total es c.args.column c.self.invariant) in
    c.in_ok-insert-in-Err.ensures.items
    ∙ put_at_gap nat_list_cmp_total es c.args.column c.args.value c.in-Err.at within parts.0 parts.1
    ∙ ap (λ cells. put_cell cells c.args.column c.args.value) c.self.view_is

pub invariant_of-self-in-Continue-1 : goal.invariant_of-self-in-Continue-1
invariant_of-self-in-Continue-1 c =
    let es = c.self.inside.cells.items in
    let within = rw c.deref.ensures.value at c.in-Err.ensures.within in
    let place = rw c.deref.ensures.value at c.in-Err.ensures.place in
    let parts = place (searchable nat_list_cmp_total es c.args.column c.self.invariant) in
    subst (λ cells. IsStrictlySortedBy (slice_cmp nat_cmp) (keys_of cells))
    (sym (c.in_ok-insert-in-Err.ensures.items ∙ put_at_gap nat_list_cmp_total es c.args.column c.args.value c.in-Err.at within parts.0 parts.1))
    (insert_entry-ascends nat_list_cmp_total es c.args.column c.args.value c.self.invariant)
