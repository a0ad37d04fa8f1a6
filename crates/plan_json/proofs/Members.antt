-- Members of objects, one after another.
use Rattle.std.proofs.Common.{◌≡◌, ℕ, List, [], ◌∷◌, ◌++◌, cond, Some, Ordering, Less, Equal, Greater, nat_cmp, is_eq, map, refl, sym, ap, ◌∙◌}
use Rattle.std.proofs.lemmas.Cmp.{nat_list_cmp_total}
use Rattle.std.proofs.lemmas.Map.Text.{is_eq-slice_cmp}
use Rattle.std.specs.List.{AllByRecursion}
use Rattle.std.specs.List.Sorted.{IsStrictlySortedBy}
use Rattle.std.specs.Cmp.Lexicographic.{slice_cmp}
use Rattle.std.specs.Ordering.{match_ordering, ordering_reverse}
use Rattle.std.specs.Str.{bytes_eq}
use Rattle.cell_core.specs.RawData.{RawData, raw_words, raw_map, RawItems, RawMembers, raw_member, get_raw}
use Rattle.cell_core.specs.RawViews.{raw_view, map_view, members_of, view_step, list_step, map_step}
use Rattle.cell_core.specs.declared.raw.Raw.TheFolds.{fold-roll-Raw}
use Rattle.cell_core.specs.declared.raw.Raw.TheOpen.{Raw-F}
use Rattle.cell_core.specs.declared.raw.Raw.TheVariants as raw
use Rattle.cell_core.specs.declared.raw.RawMap.{RawMap}
use Rattle.cell_core.proofs.Members.{raw_put}
use Rattle.plan_json.specs.Names.{NamesAscend}
use Rattle.plan_json.specs.declared.named.NamedText.{NamedText}

match-equal : {X : Type 0} (o : Ordering) (a b : X) → match_ordering o a b a ≡ cond (is_eq o) b a
match-equal Less a b = refl
match-equal Equal a b = refl
match-equal Greater a b = refl

-- the first member, where it has the name
pub get_raw-member : (name l : List ℕ) (e : RawData) (ms : RawMembers) → get_raw name (raw_member l e ms) ≡ cond (bytes_eq name l) (Some e) (get_raw name ms)
get_raw-member name l e ms =
    match-equal (slice_cmp nat_cmp name l) (get_raw name ms) (Some e) ∙ ap (λ b. cond b (Some e) (get_raw name ms)) (is_eq-slice_cmp name l)

-- ---- texts as members

abbrev pub text_members : List NamedText → RawMembers
text_members texts = members_of (map (λ n. (n.name, raw_words n.text)) texts)

below_middle : (first : NamedText) (done : List NamedText) (n : NamedText) (more : List NamedText)
    → AllByRecursion (λ y. slice_cmp nat_cmp first.name y ≡ Less) (map (λ n. n.name) (done ++ n ∷ more)) → slice_cmp nat_cmp first.name n.name ≡ Less
below_middle first [] n more h = h.0
below_middle first (x ∷ done) n more h = below_middle first done n more h.1

-- an object is seen as its members
pub raw_view-map : (m : RawMap) → raw_view (raw.Map m) ≡ raw_map (map_view m)
raw_view-map m = ap raw_view (sym (raw.rolls-Map m)) ∙ fold-roll-Raw RawData RawItems RawMembers view_step list_step map_step (Raw-F.Map m)

-- a text whose name is above those before it goes last
pub put_last : (done : List NamedText) (n : NamedText) (more : List NamedText) → NamesAscend (done ++ n ∷ more)
    → raw_put n.name (raw_words n.text) (text_members done) ≡ text_members (done ++ n ∷ [])
unfolding IsStrictlySortedBy
put_last [] n more h = refl
put_last (first ∷ done) n more h =
    let above : slice_cmp nat_cmp n.name first.name ≡ Greater =
    nat_list_cmp_total.antisymm n.name first.name ∙ ap ordering_reverse (below_middle first done n more h.0) in
    rw above (ap (raw_member first.name (raw_words first.text)) (put_last done n more h.1))
