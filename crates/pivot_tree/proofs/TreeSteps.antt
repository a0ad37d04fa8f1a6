-- The nodes on a row's way, as it comes or goes.
use Rattle.std.proofs.Common.{◌≡◌, ℕ, zero, suc, ◌+◌, ◌<◌, ◌≤◌, Bool, true, false, ◌&&◌, List, [], ◌∷◌, ◌++◌, map, take, get_or, length, Option, Some, None, refl, sym, ap, ◌∙◌, subst, arith}
use Rattle.std.specs.Prelude.{◌||◌, All, nat_eq, slice_get}
use Rattle.std.specs.List.{list_any}
use Rattle.std.proofs.lemmas.List.Elements.{All-head, All-tail, All-weaker}
use Rattle.cell_core.specs.declared.schema.Column.{Column}
use Rattle.agg_core.specs.Types.{IsTaken}
use Rattle.view_spec.specs.Columns.{aggregate_at}
use Rattle.std.specs.List.Sorted.{IsStrictlySortedBy}
use Rattle.std.specs.Ordering.{is_eq, ordering_reverse}
use Rattle.std.specs.declared.cmp.Ordering.{Ordering}
use Rattle.std.specs.declared.cmp.Ordering.TheVariants.{Less, Equal, Greater}
use Rattle.std.proofs.lemmas.List.{length-take-le, take_more}
use Rattle.std.proofs.lemmas.Bool.{cases_eq, cases_lt, eqb-true}
use mathlib.Core.Logic.{⊎_elim}
use Rattle.cell_core.proofs.CellOrder as order
use Rattle.cell_core.specs.Cells.{cell_order, same_cell}
use Rattle.cell_core.specs.declared.cell.Cell.{Cell}
use Rattle.row_batch.specs.declared.batch.Pair.{Pair}
use Rattle.plan_types.specs.declared.plan.Named.{Named}
use Rattle.plan_types.specs.declared.plan.Plan.{Plan}
use Rattle.place_order.specs.PlaceLaws.{both}
use Rattle.view_spec.specs.Filters.{cell_in}
use Rattle.view_spec.specs.Kept.{by_key}
use Rattle.view_spec.specs.Members.{group_of, is_member, members, split_of, within}
use Rattle.view_spec.specs.Paths.{begins_with, same_path}
use Rattle.view_spec.proofs.PathLaws.{same_path_is_equal, same_path_itself}
use Rattle.pivot_tree.specs.Families.{At, IsCountOf, at_cell, at_path, rows_under}
use Rattle.pivot_tree.specs.Groups.{CanPut, HasRow, IsGroupOf, Takes, with_row, without_row}
use Rattle.pivot_tree.specs.Nodes.{IsNodeOf, StandsAt, is_next}
use Rattle.pivot_tree.specs.Columns.{Uses, is_used, used_columns}
use Rattle.pivot_tree.specs.Trees.{CanAddRow, NodeAt, NodesOf}
use Rattle.pivot_tree.specs.declared.node.Node.{Node}
use Rattle.pivot_tree.proofs.NodeSteps.{members-with, same_cell_is_equal, same_cell_itself}
use Rattle.pivot_tree.proofs.Rows.{filter-with_other, filter-without_other, length-with_row}

-- ---- the beginnings of a path

reversed : (o : Ordering) → is_eq (ordering_reverse o) ≡ is_eq o
reversed Less = refl
reversed Equal = refl
reversed Greater = refl

pub same_cell_sym : (a b : Cell) → same_cell a b ≡ same_cell b a
same_cell_sym a b = ap is_eq (order.total.antisymm a b) ∙ reversed (cell_order b a)

and_true : (b : Bool) → (b && true) ≡ b
and_true true = refl
and_true false = refl

pub begins-take : (n : ℕ) (path : List Cell) → begins_with (take n path) path ≡ true
begins-take zero path = refl
begins-take (suc n) [] = refl
begins-take (suc n) (c ∷ cs) = rw (same_cell_itself c) (begins-take n cs)

pub begins-next : (n : ℕ) (path : List Cell) (c : Cell) → begins_with (take n path ++ c ∷ []) path ≡ is_next (slice_get path n) c
begins-next zero [] c = refl
begins-next zero (d ∷ ds) c = and_true (same_cell c d) ∙ same_cell_sym c d
begins-next (suc n) [] c = refl
begins-next (suc n) (d ∷ ds) c = rw (same_cell_itself d) (begins-next n ds c)

pub is_take : (q path : List Cell) → begins_with q path ≡ true → q ≡ take (length q) path
is_take [] path h = refl
is_take (c ∷ cs) [] h = absurd (cc)
is_take (c ∷ cs) (d ∷ ds) h =
    let parts = both (same_cell c d) (begins_with cs ds) h in
    let first = same_cell_is_equal c d parts.0 in
    let later = is_take cs ds parts.1 in
    λ i. first i ∷ later i

pub not_longer : (q path : List Cell) → length path < length q → begins_with q path ≡ false
not_longer [] path h = absurd (omega arith)
not_longer (c ∷ cs) [] h = refl
not_longer (c ∷ cs) (d ∷ ds) h = and_false (same_cell c d) (begins_with cs ds) (not_longer cs ds (omega arith))
  where
    and_false : (a b : Bool) → b ≡ false → (a && b) ≡ false
    and_false true b h = h
    and_false false b h = refl

-- two paths of other lengths, and a path that is another beginning
apart_lengths : (a b : List Cell) (s : Bool) → same_path a b ≡ s → (length a ≡ length b → ⊥) → s ≡ false
apart_lengths a b false at h = refl
apart_lengths a b true at h = absurd (h (ap length (same_path_is_equal a b at)))

pub apart_by_length : (a b : List Cell) → (length a ≡ length b → ⊥) → same_path a b ≡ false
apart_by_length a b h = apart_lengths a b (same_path a b) refl h

pub stands-take : (plan : Plan) (p : Pair) (n : ℕ) (split : List Cell) → split ≡ split_of plan p → StandsAt plan (take n (group_of plan p)) split (slice_get (group_of plan p) n) p
stands-take plan p n split is = record { member = begins-take n (group_of plan p); split_is = is; next_is = λ c. begins-next n (group_of plan p) c }

-- ---- a path without the row keeps its node

not_below : (path q : List Cell) (c : Cell) → begins_with path q ≡ false → begins_with (path ++ c ∷ []) q ≡ false
not_below [] q c h = absurd (cc)
not_below (a ∷ path) [] c h = refl
not_below (a ∷ path) (b ∷ q) c h = by (same_cell a b) h (not_below path q c)
  where
    by : (s : Bool) → (s && begins_with path q) ≡ false → (begins_with path q ≡ false → begins_with (path ++ c ∷ []) q ≡ false) → (s && begins_with (path ++ c ∷ []) q) ≡ false
    by true h later = later h
    by false h later = refl

-- the node depends on the members of its path, and of those one longer
pub NodeAt-same : (plan : Plan) (used : List Named) (before after : List Pair) (o : Option Node) (q : List Cell) → members plan after q ≡ members plan before q
    → ((c : Cell) → members plan after (q ++ c ∷ []) ≡ members plan before (q ++ c ∷ [])) → NodeAt plan used before o q → NodeAt plan used after o q
NodeAt-same plan used before after None q same longer h = same ∙ h
NodeAt-same plan used before after (Some node) q same longer h = (
  record {
    all = subst (IsGroupOf used node.all) (sym same) h.0.all;
    splits = λ s. subst (λ ms. At (IsGroupOf used) (at_path node.splits.entries s) (rows_under s (within plan s ms))) (sym same) (h.0.splits s);
    next = λ c. subst (λ ms. At IsCountOf (at_cell node.next.entries c) ms) (sym (longer c)) (h.0.next c);
  },
  subst (λ ms. 0 < length ms) (sym same) h.1,
)

pub NodeAt-with_other : (plan : Plan) (used : List Named) (rows : List Pair) (p : Pair) (o : Option Node) (q : List Cell) → begins_with q (group_of plan p) ≡ false
    → NodeAt plan used rows o q → NodeAt plan used (with_row rows p) o q
NodeAt-with_other plan used rows p o q apart h =
    NodeAt-same plan used rows (with_row rows p) o q (filter-with_other (is_member plan q) rows p apart)
    (λ c. filter-with_other (is_member plan (q ++ c ∷ [])) rows p (not_below q (group_of plan p) c apart)) h

pub NodeAt-without_other : (plan : Plan) (used : List Named) (rows : List Pair) (p : Pair) (o : Option Node) (q : List Cell) → HasRow rows p → begins_with q (group_of plan p) ≡ false
    → NodeAt plan used rows o q → NodeAt plan used (without_row rows p) o q
NodeAt-without_other plan used rows p o q has apart h =
    NodeAt-same plan used rows (without_row rows p) o q (filter-without_other (is_member plan q) rows p apart has)
    (λ c. filter-without_other (is_member plan (q ++ c ∷ [])) rows p (not_below q (group_of plan p) c apart) has) h

pub NodeAt-put : (plan : Plan) (used : List Named) (rows : List Pair) (p : Pair) (path split : List Cell) (next : Option Cell) (node : Node) → StandsAt plan path split next p
    → IsStrictlySortedBy by_key rows → IsNodeOf plan used path node (with_row rows p) → NodeAt plan used (with_row rows p) (Some node) path
NodeAt-put plan used rows p path split next node at up is =
    (is, let longer = ap length (members-with plan path p split next at used rows up) in let more = length-with_row (members plan rows path) p in omega arith)

-- ---- from one depth to the next

-- up to a depth the nodes are those of the later rows, and below it those of the earlier
pub record AreReached (plan : Plan) (used : List Named) (before after : List Pair) (depth : ℕ) (entries : List (List Cell × Node)) : Type 0 where
  pub upper : (c : Cell) (cs : List Cell) → length (c ∷ cs) ≤ depth → NodeAt plan used after (at_path entries (c ∷ cs)) (c ∷ cs)
  pub lower : (c : Cell) (cs : List Cell) → depth < length (c ∷ cs) → NodeAt plan used before (at_path entries (c ∷ cs)) (c ∷ cs)

pub AreReached-start : (plan : Plan) (used : List Named) (before after : List Pair) (entries : List (List Cell × Node)) → NodesOf plan used before entries → AreReached plan used before after 0 entries
AreReached-start plan used before after entries h = record { upper = λ c cs short. absurd (omega arith); lower = λ c cs long. h c cs }

module _ (plan : Plan) (used : List Named) (before after : List Pair) (p : Pair)
    (other : (o : Option Node) (q : List Cell) → begins_with q (group_of plan p) ≡ false → NodeAt plan used before o q → NodeAt plan used after o q) where
  -- of the paths of one length only the row's own changes
  at_length : (path q : List Cell) (old new : List (List Cell × Node)) → path ≡ take (length path) (group_of plan p) → length q ≡ length path
      → NodeAt plan used after (at_path new path) path → (same_path path q ≡ false → at_path new q ≡ at_path old q) → NodeAt plan used before (at_path old q) q
      → (s : Bool) → same_path path q ≡ s → (b : Bool) → begins_with q (group_of plan p) ≡ b → NodeAt plan used after (at_path new q) q
  at_length path q old new is long here others low true same b begins = subst (λ z. NodeAt plan used after (at_path new z) z) (same_path_is_equal path q same) here
  at_length path q old new is long here others low false same false begins =
      subst (λ o. NodeAt plan used after o q) (sym (others same)) (other (at_path old q) q begins low)
  at_length path q old new is long here others low false same true begins =
      let q_is = is_take q (group_of plan p) begins ∙ ap (λ n. take n (group_of plan p)) long ∙ sym is in
      absurd (let wrong : true ≡ false = sym (same_path_itself path) ∙ ap (same_path path) (sym q_is) ∙ same in cc)

  pub AreReached-more : (depth : ℕ) (path : List Cell) (old new : List (List Cell × Node)) → path ≡ take (depth + 1) (group_of plan p) → length path ≡ depth + 1
      → AreReached plan used before after depth old → NodeAt plan used after (at_path new path) path
      → ((q : List Cell) → same_path path q ≡ false → at_path new q ≡ at_path old q) → AreReached plan used before after (depth + 1) new
  AreReached-more depth path old new is long reached here others = record {
    upper = λ c cs short. ⊎_elim
        (λ (e : length (c ∷ cs) ≡ depth + 1).
        at_length path (c ∷ cs) old new (is ∙ ap (λ n. take n (group_of plan p)) (sym long)) (e ∙ sym long) here (others (c ∷ cs)) (reached.lower c cs (omega arith))
        (same_path path (c ∷ cs)) refl (begins_with (c ∷ cs) (group_of plan p)) refl)
        (λ ne. subst (λ o. NodeAt plan used after o (c ∷ cs)) (sym (others (c ∷ cs) (apart_by_length path (c ∷ cs) (λ e. ne (sym e ∙ long)))))
        (reached.upper c cs (omega arith)))
        (cases_eq (length (c ∷ cs)) (depth + 1));
    lower = λ c cs deep. subst (λ o. NodeAt plan used before o (c ∷ cs)) (sym (others (c ∷ cs) (apart_by_length path (c ∷ cs) (λ e. omega arith)))) (reached.lower c cs (omega arith));
  }

  pub AreReached-end : (entries : List (List Cell × Node)) (depth : ℕ) → length (group_of plan p) ≤ depth → AreReached plan used before after depth entries → NodesOf plan used after entries
  AreReached-end entries depth deep reached c cs = ⊎_elim
      (λ (long : depth < length (c ∷ cs)). other (at_path entries (c ∷ cs)) (c ∷ cs) (not_longer (c ∷ cs) (group_of plan p) (omega arith)) (reached.lower c cs long))
      (λ short. reached.upper c cs short)
      (cases_lt depth (length (c ∷ cs)))

pub lower_at : (plan : Plan) (used : List Named) (before after : List Pair) (depth : ℕ) (entries : List (List Cell × Node)) → AreReached plan used before after depth entries
    → (path : List Cell) → depth < length path → NodeAt plan used before (at_path entries path) path
lower_at plan used before after depth entries reached [] deep = absurd (omega arith)
lower_at plan used before after depth entries reached (c ∷ cs) deep = reached.lower c cs deep

-- ---- the path at one depth

pub path_next : (group items before path : List Cell) (i : ℕ) (x y : Cell) → items ≡ group → i < length items → x ≡ get_or items i x → y ≡ x → before ≡ take i group → path ≡ before ++ y ∷ []
    → path ≡ take (i + 1) group
path_next group items before path i x y same lt read copied so_far is =
    is ∙ (λ j. so_far j ++ copied j ∷ []) ∙ sym (take_more group i x (subst (λ xs. i < length xs) same lt) ∙ ap (λ z. take i group ++ z ∷ []) (sym (read ∙ ap (λ xs. get_or xs i x) same)))

pub length-path_next : (group items path : List Cell) (i : ℕ) → items ≡ group → i < length items → path ≡ take (i + 1) group → length path ≡ i + 1
length-path_next group items path i same lt is =
    let lens = ap length same in
    ap length is ∙ length-take-le (i + 1) group (omega arith)

pub stands_here : (plan : Plan) (p : Pair) (group path split : List Cell) (i n : ℕ) (next : Option Cell) → group ≡ group_of plan p → split ≡ split_of plan p → path ≡ take (i + 1) group → n ≡ i + 1
    → next ≡ slice_get group n → StandsAt plan path split next p
stands_here plan p group path split i n next group_is split_is path_is n_is next_is =
    let at = stands-take plan p (i + 1) split split_is in
    let path_of : path ≡ take (i + 1) (group_of plan p) = path_is ∙ ap (take (i + 1)) group_is in
    let next_of : next ≡ slice_get (group_of plan p) (i + 1) = next_is ∙ (λ j. slice_get (group_is j) (n_is j)) in
    subst (λ z. StandsAt plan z split next p) (sym path_of) (subst (λ o. StandsAt plan (take (i + 1) (group_of plan p)) split o p) (sym next_of) at)

-- ---- the total

pub cells_are : (row : List Cell) (cells : List Cell) (found columns wanted : List ℕ) → cells ≡ map (cell_in row) found → found ≡ columns → columns ≡ wanted → cells ≡ map (cell_in row) wanted
cells_are row cells found columns wanted is same as_wanted = is ∙ ap (map (cell_in row)) (same ∙ as_wanted)

pub stands_total : (plan : Plan) (p : Pair) (group split : List Cell) (next : Option Cell) → group ≡ group_of plan p → split ≡ split_of plan p → next ≡ slice_get group 0 → StandsAt plan [] split next p
stands_total plan p group split next group_is split_is next_is =
    subst (λ o. StandsAt plan [] split o p) (sym (next_is ∙ ap (λ z. slice_get z 0) group_is)) (stands-take plan p 0 split split_is)

-- ---- the columns that a plan uses

among : (P : ℕ → Type 0) (is : List ℕ) (i : ℕ) → All P is → list_any (nat_eq i) is ≡ true → P i
among P [] i all h = absurd (cc)
among P (j ∷ js) i all h = by (nat_eq i j) refl h (among P js i (All-tail P j js all))
  where
    by : (b : Bool) → nat_eq i j ≡ b → (b || list_any (nat_eq i) js) ≡ true → (list_any (nat_eq i) js ≡ true → P i) → P i
    by true at h later = subst P (sym (eqb-true i j at)) (All-head P j js all)
    by false at h later = later h

pub CanPut-from : (columns : List Column) (plan : Plan) (used : List Named) (rows : List Pair) (p : Pair) → Uses columns plan used → CanAddRow columns plan rows p → CanPut used rows p
CanPut-from columns plan used rows p uses can = record {
  absent = can.absent;
  room = can.room;
  taken = All-weaker (λ (u : Named). (is_used plan u.column ≡ true) × (u.aggregate ≡ aggregate_at columns plan u.column)) (Takes p)
      (λ u is. subst (λ name. IsTaken name (cell_in p.row u.column)) (sym is.1)
      (among (λ i. IsTaken (aggregate_at columns plan i) (cell_in p.row i)) (used_columns plan) u.column can.taken is.0))
      used uses.only;
}
