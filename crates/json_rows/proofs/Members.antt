-- Members of an object beside the values that are judged later.
use Rattle.std.proofs.Common.{◌≡◌, ℕ, List, [], ◌∷◌, Ordering, Less, Equal, Greater, nat_cmp, map, refl, ap, ◌∙◌}
use Rattle.std.specs.Cmp.Lexicographic.{slice_cmp}
use Rattle.std.specs.Ordering.{match_ordering}
use Rattle.serde_json.specs.Data.{Data, Members, no_members, member, put}
use Rattle.serde_json.specs.View.{view, items_view}
use Rattle.serde_json.specs.declared.value.Value.{Value}
use Rattle.cell_core.specs.RawData.{raw_item}
use Rattle.cell_core.specs.RawViews.{items_of}
use Rattle.cell_core.proofs.Members.{raw_put}
use Rattle.json_rows.specs.RawOf.{raw_data, items_data, members_data}

pub items_of-map : (vs : List Value) → items_of (map (λ v. raw_data (view v)) vs) ≡ items_data (items_view vs)
items_of-map [] = refl
items_of-map (v ∷ vs) = ap (raw_item (raw_data (view v))) (items_of-map vs)

-- a function of what an ordering chooses
pub at-match_ordering : {X Y : Type 0} (f : X → Y) (o : Ordering) (a b c : X) → f (match_ordering o a b c) ≡ match_ordering o (f a) (f b) (f c)
at-match_ordering f Less a b c = refl
at-match_ordering f Equal a b c = refl
at-match_ordering f Greater a b c = refl

pub members_data-put : (k : List ℕ) (d : Data) (ms : Members) → members_data (put k d ms) ≡ raw_put k (raw_data d) (members_data ms)
members_data-put k d no_members = refl
members_data-put k d (member l e ms) = at-match_ordering members_data (slice_cmp nat_cmp k l) _ _ _ ∙ rw (members_data-put k d ms)
