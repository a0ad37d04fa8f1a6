use Rattle.std.proofs.Common.{◌≡◌, [], ◌∷◌, ◌++◌, sym, ap, ◌∙◌, subst, append_assoc}
use Rattle.std.specs.List.Sorted.{IsStrictlySortedBy}
use Rattle.std.specs.Map.{keys_of}
use Rattle.std.specs.Ordering.{nat_cmp}
use Rattle.std.specs.Cmp.Lexicographic.{slice_cmp}
use Rattle.cell_core.proofs.Members.{Entry, entries_view, entries_view-insert_entry, put_last}
use Rattle.cell_core.proofs.raw.+copy.Goals as goal

pub copy_of_map-loop-name-preserved : goal.copy_of_map-loop-name-preserved
copy_of_map-loop-name-preserved t c =
    let l = c.loop-name in
    let done = l.invariant.0 in
    let e : Entry = (c.in-Some.name.now, c.in-Some.value.now) in
    let left = c.next.new.self in
    let all : c.args.map.now.entries.entries ≡ done ++ e ∷ left = l.invariant.1 ∙ ap (λ es. done ++ es) c.in-Some.ensures.steps in
    let last = put_last done e left (subst (λ es. IsStrictlySortedBy (slice_cmp nat_cmp) (keys_of es)) all c.iter-name-items.ensures.ordered) in (
      done ++ e ∷ [],
      all ∙ sym (append_assoc done (e ∷ []) left),
      ap entries_view c.in_ok-insert.ensures.entries ∙ entries_view-insert_entry l.entries.entries c.in_ok-name.name c.in_ok-copy_of.field-0
          ∙ rw (c.in_ok-name.ensures, c.in_ok-copy_of.ensures, l.invariant.2) last,
    )
