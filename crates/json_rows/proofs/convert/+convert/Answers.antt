use Rattle.std.proofs.Common.{◌≡◌, [], ◌∷◌, ◌++◌, string_bytes, sym, ap, ◌∙◌, subst, append_assoc, append-nil, map}
use Rattle.std.proofs.lemmas.List.{nil_from_length}
use Rattle.std.specs.List.Sorted.{IsStrictlySortedBy}
use Rattle.std.specs.Map.{keys_of}
use Rattle.std.specs.String.{string_cmp}
use Rattle.std.specs.Vec.Iter.{into_iter_items}
use Rattle.serde_json.specs.View.{view, members_view}
use Rattle.serde_json.proofs.Views.{Entry, put_last}
use Rattle.cell_core.specs.RawViews.{raw_view, items_of}
use Rattle.json_rows.specs.RawOf.{raw_data, members_data}
use Rattle.cell_core.proofs.Members.{entries_view, entries_view-insert_entry}
use Rattle.json_rows.proofs.Members.{items_of-map, members_data-put}
use Rattle.json_rows.proofs.convert.+convert.Goals as goal

pub raw_list-returns : goal.raw_list-returns
raw_list-returns t c =
    let found = map raw_view c.loop-item.found in
    let none : into_iter_items c.loop-item.item-iterator ≡ [] = nil_from_length _ (c.loop-item.invariant.1 ∙ c.in-None.ensures.steps.0) in
    let whole : found ++ [] ≡ map (λ v. raw_data (view v)) c.args.items.items =
    ap (λ vs. found ++ map (λ v. raw_data (view v)) vs) (sym none) ∙ c.loop-item.invariant.0 in
    let same : found ≡ map (λ v. raw_data (view v)) c.args.items.items = sym (append-nil found) ∙ whole in
    c.from_items.ensures ∙ ap items_of same ∙ items_of-map c.args.items.items

pub raw_map-loop-name-preserved : goal.raw_map-loop-name-preserved
raw_map-loop-name-preserved t c =
    let l = c.loop-name in
    let done = l.invariant.0 in
    let e : Entry = (c.in-Some.name, c.in-Some.member) in
    let left = c.next.new.self in
    let all : c.args.members.entries ≡ done ++ e ∷ left = l.invariant.1 ∙ ap (λ es. done ++ es) c.in-Some.ensures.steps in
    let last = put_last done e left (subst (λ es. IsStrictlySortedBy string_cmp (keys_of es)) all c.len-count.ensures.ordered) in (
      done ++ e ∷ [],
      all ∙ sym (append_assoc done (e ∷ []) left),
      ap entries_view c.in_ok-insert.ensures.entries ∙ entries_view-insert_entry l.found.entries c.from_string.result c.in_ok-raw_of.field-0
          ∙ rw (c.from_string.ensures, c.in_ok-raw_of.ensures, l.invariant.2) (sym (members_data-put (string_bytes e.0) (view e.1) (members_view done)) ∙ ap members_data last),
    )
