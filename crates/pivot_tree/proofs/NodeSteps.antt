-- Nodes as rows come and go.
use Rattle.std.proofs.Common.{◌≡◌, Bool, true, false, ◌&&◌, List, [], ◌∷◌, ◌++◌, filter, Option, Some, None, refl, sym, ap, ◌∙◌, subst, arith}
use Rattle.std.specs.List.Sorted.{IsStrictlySortedBy}
use Rattle.std.proofs.lemmas.List.Kept.{IsStrictlySortedBy-filter}
use Rattle.cell_core.specs.Cells.{same_cell}
use Rattle.cell_core.specs.declared.cell.Cell.{Cell}
use Rattle.row_batch.specs.declared.batch.Pair.{Pair}
use Rattle.plan_types.specs.declared.plan.Named.{Named}
use Rattle.plan_types.specs.declared.plan.Plan.{Plan}
use Rattle.place_order.specs.PlaceLaws.{is_equal}
use Rattle.cell_core.proofs.CellOrder as order
use Rattle.agg_core.proofs.Cells.{itself}
use Rattle.std.specs.Ordering.{is_eq}
use Rattle.view_spec.specs.Kept.{by_key}
use Rattle.view_spec.specs.Members.{group_of, is_member, members, split_of, within}
use Rattle.view_spec.specs.Paths.{begins_with, same_path}
use Rattle.view_spec.proofs.PathLaws.{same_path_is_equal, same_path_itself}
use Rattle.pivot_tree.specs.Families.{At, IsCountOf, at_cell, at_path, rows_under}
use Rattle.pivot_tree.specs.Groups.{CanPut, HasRow, IsGroupOf, with_row, without_row}
use Rattle.pivot_tree.specs.Nodes.{IsNodeOf, StandsAt, is_next}
use Rattle.pivot_tree.specs.declared.group.Group.{Group}
use Rattle.pivot_tree.specs.declared.node.Node.{Node}
use Rattle.pivot_tree.proofs.SplitSteps.{rows_under-nil}
use Rattle.pivot_tree.proofs.Rows.{HasRow-filter, IsApart-filter, filter-with_other, filter-with_row, filter-without_other, filter-without_row, length-filter}

-- ---- one key of a family changes

pub At-changed : {K G : Type 0} (P : G → List Pair → Type 0) (k q : K) (b : Bool) (f g : K → Option G) (R S : K → List Pair) → (b ≡ true → k ≡ q)
    → At P (g k) (S k) → (b ≡ false → g q ≡ f q) → (b ≡ false → S q ≡ R q) → At P (f q) (R q) → At P (g q) (S q)
At-changed P k q true f g R S same here values rows old = subst (λ z. At P (g z) (S z)) (same refl) here
At-changed P k q false f g R S same here values rows old = subst (λ o. At P o (S q)) (sym (values refl)) (subst (λ rs. At P (f q) rs) (sym (rows refl)) old)

pub same_cell_is_equal : (a b : Cell) → same_cell a b ≡ true → a ≡ b
same_cell_is_equal a b h = order.exact a b (is_equal _ h)

pub same_cell_itself : (a : Cell) → same_cell a a ≡ true
same_cell_itself a = ap is_eq (itself a)

other_way : (a b : List Cell) (s : Bool) → same_path b a ≡ s → same_path a b ≡ false → s ≡ false
other_way a b false at h = refl
other_way a b true at h =
    absurd (let wrong : true ≡ false = sym (same_path_itself a) ∙ ap (same_path a) (sym (same_path_is_equal b a at)) ∙ h in cc)

pub apart_sym : (a b : List Cell) → same_path a b ≡ false → same_path b a ≡ false
apart_sym a b h = other_way a b (same_path b a) refl h

-- ---- longer paths have no more members

begins_longer : (path more q : List Cell) → begins_with path q ≡ false → begins_with (path ++ more) q ≡ false
begins_longer [] more q h = absurd (cc)
begins_longer (c ∷ cs) more [] h = refl
begins_longer (c ∷ cs) more (d ∷ ds) h = by (same_cell c d) h (begins_longer cs more ds)
  where
    by : (b : Bool) → (b && begins_with cs ds) ≡ false → (begins_with cs ds ≡ false → begins_with (cs ++ more) ds ≡ false) → (b && begins_with (cs ++ more) ds) ≡ false
    by true h later = later h
    by false h later = refl

none_step : (plan : Plan) (path more : List Cell) (p : Pair) (rows : List Pair) (b : Bool) → is_member plan path p ≡ b → members plan (p ∷ rows) path ≡ []
    → (members plan rows path ≡ [] → members plan rows (path ++ more) ≡ []) → members plan (p ∷ rows) (path ++ more) ≡ []
none_step plan path more p rows true at h later = absurd (let wrong : p ∷ members plan rows path ≡ [] = rw at at h in cc)
none_step plan path more p rows false at h later =
    let longer = begins_longer path more (group_of plan p) at in
    let fewer : members plan rows path ≡ [] = rw at at h in
    rw longer (later fewer)

pub none_longer : (plan : Plan) (path more : List Cell) (rows : List Pair) → members plan rows path ≡ [] → members plan rows (path ++ more) ≡ []
none_longer plan path more [] h = refl
none_longer plan path more (p ∷ rows) h = none_step plan path more p rows (is_member plan path p) refl h (none_longer plan path more rows)

pub IsNodeOf-empty : (plan : Plan) (used : List Named) (path : List Cell) (rows : List Pair) (node : Node) → members plan rows path ≡ []
    → IsGroupOf used node.all [] → node.splits.entries ≡ [] → node.next.entries ≡ [] → IsNodeOf plan used path node rows
IsNodeOf-empty plan used path rows node none all splits next = record {
  all = subst (IsGroupOf used node.all) (sym none) all;
  splits = λ s. subst (λ es. At (IsGroupOf used) (at_path es s) (rows_under s (within plan s (members plan rows path)))) (sym splits) (ap (λ ms. rows_under s (within plan s ms)) none ∙ rows_under-nil s);
  next = λ c. subst (λ es. At IsCountOf (at_cell es c) (members plan rows (path ++ c ∷ []))) (sym next) (none_longer plan path (c ∷ []) rows none);
}

-- ---- a row that comes

pub CanPut-filter : (t : Pair → Bool) (used : List Named) (rows : List Pair) (p : Pair) → CanPut used rows p → CanPut used (filter t rows) p
CanPut-filter t used rows p can = record {
  absent = IsApart-filter t p.key rows can.absent;
  room = let less = length-filter t rows in let room = can.room in omega arith;
  taken = can.taken;
}

module _ (plan : Plan) (path : List Cell) (p : Pair) (split : List Cell) (next : Option Cell) (at : StandsAt plan path split next p) where
  here : same_path split (split_of plan p) ≡ true
  here = subst (λ s. same_path split s ≡ true) at.split_is (same_path_itself split)

  not_here : (s : List Cell) → same_path split s ≡ false → same_path s (split_of plan p) ≡ false
  not_here s apart = subst (λ z. same_path s z ≡ false) at.split_is (apart_sym split s apart)

  module _ (used : List Named) (rows : List Pair) (up : IsStrictlySortedBy by_key rows) where
    pub members-with : members plan (with_row rows p) path ≡ with_row (members plan rows path) p
    members-with = filter-with_row (is_member plan path) rows p at.member up

    pub within-with : within plan split (members plan (with_row rows p) path) ≡ with_row (within plan split (members plan rows path)) p
    within-with =
        ap (within plan split) members-with
        ∙ filter-with_row (λ q. same_path split (split_of plan q)) (members plan rows path) p here (IsStrictlySortedBy-filter by_key (is_member plan path) rows up)

    pub within-others : (s : List Cell) → same_path split s ≡ false → within plan s (members plan (with_row rows p) path) ≡ within plan s (members plan rows path)
    within-others s apart =
        ap (within plan s) members-with ∙ filter-with_other (λ q. same_path s (split_of plan q)) (members plan rows path) p (not_here s apart)

    pub next-with : (c : Cell) → is_next next c ≡ true → members plan (with_row rows p) (path ++ c ∷ []) ≡ with_row (members plan rows (path ++ c ∷ [])) p
    next-with c is = filter-with_row (is_member plan (path ++ c ∷ [])) rows p (at.next_is c ∙ is) up

    pub next-others : (c : Cell) → is_next next c ≡ false → members plan (with_row rows p) (path ++ c ∷ []) ≡ members plan rows (path ++ c ∷ [])
    next-others c is = filter-with_other (is_member plan (path ++ c ∷ [])) rows p (at.next_is c ∙ is)

    -- what is over all and per split, with the row
    pub splits-with : (old new : List (List Cell × Group)) → At (IsGroupOf used) (at_path new split) (rows_under split (with_row (within plan split (members plan rows path)) p))
        → ((s : List Cell) → same_path split s ≡ false → at_path new s ≡ at_path old s)
        → ((s : List Cell) → At (IsGroupOf used) (at_path old s) (rows_under s (within plan s (members plan rows path))))
        → (s : List Cell) → At (IsGroupOf used) (at_path new s) (rows_under s (within plan s (members plan (with_row rows p) path)))
    splits-with old new one others olds s =
        At-changed (IsGroupOf used) split s (same_path split s) (at_path old) (at_path new) (λ z. rows_under z (within plan z (members plan rows path))) (λ z. rows_under z (within plan z (members plan (with_row rows p) path)))
        (same_path_is_equal split s) (subst (λ rs. At (IsGroupOf used) (at_path new split) rs) (sym (ap (rows_under split) within-with)) one) (others s) (λ apart. ap (rows_under s) (within-others s apart)) (olds s)

  -- ---- a row that goes

  module _ (used : List Named) (rows : List Pair) (has : HasRow rows p) where
    pub members-has : HasRow (members plan rows path) p
    members-has = HasRow-filter (is_member plan path) rows p at.member has

    pub members-without : members plan (without_row rows p) path ≡ without_row (members plan rows path) p
    members-without = filter-without_row (is_member plan path) rows p

    pub within-has : HasRow (within plan split (members plan rows path)) p
    within-has = HasRow-filter (λ q. same_path split (split_of plan q)) (members plan rows path) p here members-has

    pub within-without : (s : List Cell) → within plan s (members plan (without_row rows p) path) ≡ without_row (within plan s (members plan rows path)) p
    within-without s = ap (within plan s) members-without ∙ filter-without_row (λ q. same_path s (split_of plan q)) (members plan rows path) p

    pub within-left : (s : List Cell) → same_path split s ≡ false → within plan s (members plan (without_row rows p) path) ≡ within plan s (members plan rows path)
    within-left s apart =
        ap (within plan s) members-without ∙ filter-without_other (λ q. same_path s (split_of plan q)) (members plan rows path) p (not_here s apart) members-has

    pub next-has : (c : Cell) → is_next next c ≡ true → HasRow (members plan rows (path ++ c ∷ [])) p
    next-has c is = HasRow-filter (is_member plan (path ++ c ∷ [])) rows p (at.next_is c ∙ is) has

    pub next-without : (c : Cell) → members plan (without_row rows p) (path ++ c ∷ []) ≡ without_row (members plan rows (path ++ c ∷ [])) p
    next-without c = filter-without_row (is_member plan (path ++ c ∷ [])) rows p

    pub next-left : (c : Cell) → is_next next c ≡ false → members plan (without_row rows p) (path ++ c ∷ []) ≡ members plan rows (path ++ c ∷ [])
    next-left c is = filter-without_other (is_member plan (path ++ c ∷ [])) rows p (at.next_is c ∙ is) has

    pub splits-without : (old new : List (List Cell × Group)) → At (IsGroupOf used) (at_path new split) (rows_under split (without_row (within plan split (members plan rows path)) p))
        → ((s : List Cell) → same_path split s ≡ false → at_path new s ≡ at_path old s)
        → ((s : List Cell) → At (IsGroupOf used) (at_path old s) (rows_under s (within plan s (members plan rows path))))
        → (s : List Cell) → At (IsGroupOf used) (at_path new s) (rows_under s (within plan s (members plan (without_row rows p) path)))
    splits-without old new one others olds s =
        At-changed (IsGroupOf used) split s (same_path split s) (at_path old) (at_path new) (λ z. rows_under z (within plan z (members plan rows path))) (λ z. rows_under z (within plan z (members plan (without_row rows p) path)))
        (same_path_is_equal split s) (subst (λ rs. At (IsGroupOf used) (at_path new split) rs) (sym (ap (rows_under split) (within-without split))) one) (others s) (λ apart. ap (rows_under s) (within-left s apart)) (olds s)

-- ---- a whole node

pub IsNodeOf-with : (plan : Plan) (path : List Cell) (p : Pair) (split : List Cell) (cell : Cell) (at : StandsAt plan path split (Some cell) p) (used : List Named) (rows : List Pair)
    (old new : Node) → IsStrictlySortedBy by_key rows → IsNodeOf plan used path old rows
    → IsGroupOf used new.all (with_row (members plan rows path) p)
    → At (IsGroupOf used) (at_path new.splits.entries split) (rows_under split (with_row (within plan split (members plan rows path)) p))
    → ((s : List Cell) → same_path split s ≡ false → at_path new.splits.entries s ≡ at_path old.splits.entries s)
    → At IsCountOf (at_cell new.next.entries cell) (with_row (members plan rows (path ++ cell ∷ [])) p)
    → ((c : Cell) → same_cell cell c ≡ false → at_cell new.next.entries c ≡ at_cell old.next.entries c)
    → IsNodeOf plan used path new (with_row rows p)
IsNodeOf-with plan path p split cell at used rows old new up is all one others count rest = record {
  all = subst (IsGroupOf used new.all) (sym (members-with plan path p split (Some cell) at used rows up)) all;
  splits = splits-with plan path p split (Some cell) at used rows up old.splits.entries new.splits.entries one others is.splits;
  next = λ c. At-changed IsCountOf cell c (same_cell cell c) (at_cell old.next.entries) (at_cell new.next.entries)
      (λ z. members plan rows (path ++ z ∷ [])) (λ z. members plan (with_row rows p) (path ++ z ∷ [])) (same_cell_is_equal cell c)
      (subst (λ rs. At IsCountOf (at_cell new.next.entries cell) rs) (sym (next-with plan path p split (Some cell) at used rows up cell (same_cell_itself cell))) count)
      (rest c) (next-others plan path p split (Some cell) at used rows up c) (is.next c);
}

pub IsNodeOf-with_last : (plan : Plan) (path : List Cell) (p : Pair) (split : List Cell) (at : StandsAt plan path split None p) (used : List Named) (rows : List Pair)
    (old new : Node) → IsStrictlySortedBy by_key rows → IsNodeOf plan used path old rows
    → IsGroupOf used new.all (with_row (members plan rows path) p)
    → At (IsGroupOf used) (at_path new.splits.entries split) (rows_under split (with_row (within plan split (members plan rows path)) p))
    → ((s : List Cell) → same_path split s ≡ false → at_path new.splits.entries s ≡ at_path old.splits.entries s)
    → new.next.entries ≡ old.next.entries
    → IsNodeOf plan used path new (with_row rows p)
IsNodeOf-with_last plan path p split at used rows old new up is all one others rest = record {
  all = subst (IsGroupOf used new.all) (sym (members-with plan path p split None at used rows up)) all;
  splits = splits-with plan path p split None at used rows up old.splits.entries new.splits.entries one others is.splits;
  next = λ c. subst (λ es. At IsCountOf (at_cell es c) (members plan (with_row rows p) (path ++ c ∷ []))) (sym rest)
      (subst (λ rs. At IsCountOf (at_cell old.next.entries c) rs) (sym (next-others plan path p split None at used rows up c refl)) (is.next c));
}

pub IsNodeOf-without : (plan : Plan) (path : List Cell) (p : Pair) (split : List Cell) (cell : Cell) (at : StandsAt plan path split (Some cell) p) (used : List Named) (rows : List Pair)
    (old new : Node) → HasRow rows p → IsNodeOf plan used path old rows
    → IsGroupOf used new.all (without_row (members plan rows path) p)
    → At (IsGroupOf used) (at_path new.splits.entries split) (rows_under split (without_row (within plan split (members plan rows path)) p))
    → ((s : List Cell) → same_path split s ≡ false → at_path new.splits.entries s ≡ at_path old.splits.entries s)
    → At IsCountOf (at_cell new.next.entries cell) (without_row (members plan rows (path ++ cell ∷ [])) p)
    → ((c : Cell) → same_cell cell c ≡ false → at_cell new.next.entries c ≡ at_cell old.next.entries c)
    → IsNodeOf plan used path new (without_row rows p)
IsNodeOf-without plan path p split cell at used rows old new has is all one others count rest = record {
  all = subst (IsGroupOf used new.all) (sym (members-without plan path p split (Some cell) at used rows has)) all;
  splits = splits-without plan path p split (Some cell) at used rows has old.splits.entries new.splits.entries one others is.splits;
  next = λ c. At-changed IsCountOf cell c (same_cell cell c) (at_cell old.next.entries) (at_cell new.next.entries)
      (λ z. members plan rows (path ++ z ∷ [])) (λ z. members plan (without_row rows p) (path ++ z ∷ [])) (same_cell_is_equal cell c)
      (subst (λ rs. At IsCountOf (at_cell new.next.entries cell) rs) (sym (next-without plan path p split (Some cell) at used rows has cell)) count)
      (rest c) (next-left plan path p split (Some cell) at used rows has c) (is.next c);
}

pub IsNodeOf-without_last : (plan : Plan) (path : List Cell) (p : Pair) (split : List Cell) (at : StandsAt plan path split None p) (used : List Named) (rows : List Pair)
    (old new : Node) → HasRow rows p → IsNodeOf plan used path old rows
    → IsGroupOf used new.all (without_row (members plan rows path) p)
    → At (IsGroupOf used) (at_path new.splits.entries split) (rows_under split (without_row (within plan split (members plan rows path)) p))
    → ((s : List Cell) → same_path split s ≡ false → at_path new.splits.entries s ≡ at_path old.splits.entries s)
    → new.next.entries ≡ old.next.entries
    → IsNodeOf plan used path new (without_row rows p)
IsNodeOf-without_last plan path p split at used rows old new has is all one others rest = record {
  all = subst (IsGroupOf used new.all) (sym (members-without plan path p split None at used rows has)) all;
  splits = splits-without plan path p split None at used rows has old.splits.entries new.splits.entries one others is.splits;
  next = λ c. subst (λ es. At IsCountOf (at_cell es c) (members plan (without_row rows p) (path ++ c ∷ []))) (sym rest)
      (subst (λ rs. At IsCountOf (at_cell old.next.entries c) rs) (sym (next-left plan path p split None at used rows has c refl)) (is.next c));
}
