-- A map of JSON members beside the data that it stands for.
use Rattle.std.proofs.Common.{◌≡◌, ℕ, List, [], ◌∷◌, ◌++◌, Option, Some, None, option_map, Ordering, Less, Equal, Greater, nat_cmp, is_eq, cond, Bor, map, refl, ap, ◌∙◌}
use Rattle.std.proofs.lemmas.Cmp.{nat_list_cmp_total}
use Rattle.std.specs.List.{AllByRecursion}
use Rattle.std.specs.List.Sorted.{IsStrictlySortedBy}
use Rattle.std.specs.Cmp.Lexicographic.{slice_cmp}
use Rattle.std.specs.Map.{keys_of, lookup}
use Rattle.std.specs.Ordering.{match_ordering, ordering_reverse}
use Rattle.std.specs.BTreeMap.{insert_entry, is_at}
use Rattle.cell_core.specs.RawData.{RawData, RawMembers, no_raw_members, raw_member, get_raw}
use Rattle.cell_core.specs.RawViews.{raw_view, members_of}
use Rattle.cell_core.specs.declared.raw.Raw.{Raw}

abbrev pub Entry : Type 0
Entry = List ℕ × Raw

abbrev pub entries_view : List Entry → RawMembers
entries_view es = members_of (map (λ m. (m.0, raw_view m.1)) es)

found_or : (o : Ordering) (v : Raw) (rest : Option Raw) (d : Option RawData) → option_map raw_view rest ≡ d
    → option_map raw_view (cond (is_eq o) (Some v) rest) ≡ match_ordering o d (Some (raw_view v)) d
found_or Less v rest d e = e
found_or Equal v rest d e = refl
found_or Greater v rest d e = e

pub lookup-view : (name : List ℕ) (es : List Entry) → option_map raw_view (lookup (is_at (λ k. slice_cmp nat_cmp name k)) es) ≡ get_raw name (members_of (map (λ m. (m.0, raw_view m.1)) es))
lookup-view name [] = refl
lookup-view name (e ∷ es) = found_or (slice_cmp nat_cmp name e.0) e.1 _ _ (lookup-view name es)

pub view_of_ref : (r : Option (Bor Raw)) → option_map (λ x. raw_view x.now) r ≡ option_map raw_view (option_map (λ x. x.now) r)
view_of_ref None = refl
view_of_ref (Some x) = refl

-- ---- members that are put

-- the members, with d at k
abbrev pub raw_put : List ℕ → RawData → RawMembers → RawMembers
raw_put k d no_raw_members = raw_member k d no_raw_members
raw_put k d (raw_member l e ms) = match_ordering (slice_cmp nat_cmp k l) (raw_member k d (raw_member l e ms)) (raw_member l d ms) (raw_member l e (raw_put k d ms))

entries_view-match_ordering : (o : Ordering) (a b c : List Entry) → entries_view (match_ordering o a b c) ≡ match_ordering o (entries_view a) (entries_view b) (entries_view c)
entries_view-match_ordering Less a b c = refl
entries_view-match_ordering Equal a b c = refl
entries_view-match_ordering Greater a b c = refl

pub entries_view-insert_entry : (es : List Entry) (k : List ℕ) (v : Raw) → entries_view (insert_entry (slice_cmp nat_cmp) es k v) ≡ raw_put k (raw_view v) (entries_view es)
entries_view-insert_entry [] k v = refl
entries_view-insert_entry (e ∷ es) k v = entries_view-match_ordering (slice_cmp nat_cmp k e.0) _ _ _ ∙ rw (entries_view-insert_entry es k v)

below_middle : (first : Entry) (es : List Entry) (e : Entry) (more : List Entry) → AllByRecursion (λ y. slice_cmp nat_cmp first.0 y ≡ Less) (keys_of (es ++ e ∷ more)) → slice_cmp nat_cmp first.0 e.0 ≡ Less
below_middle first [] e more h = h.0
below_middle first (x ∷ es) e more h = below_middle first es e more h.1

-- a name that is above those before it goes last
pub put_last : (done : List Entry) (e : Entry) (more : List Entry) → IsStrictlySortedBy (slice_cmp nat_cmp) (keys_of (done ++ e ∷ more))
    → raw_put e.0 (raw_view e.1) (entries_view done) ≡ entries_view (done ++ e ∷ [])
unfolding IsStrictlySortedBy
put_last [] e more h = refl
put_last (first ∷ done) e more h =
    let above : slice_cmp nat_cmp e.0 first.0 ≡ Greater =
    nat_list_cmp_total.antisymm e.0 first.0 ∙ ap ordering_reverse (below_middle first done e more h.0) in
    rw above (ap (raw_member first.0 (raw_view first.1)) (put_last done e more h.1))
