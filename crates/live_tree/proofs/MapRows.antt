-- The rows of a map by key, as rows come and go.
use Rattle.std.proofs.Common.{◌≡◌, ◌<◌, length, Bool, true, false, List, [], ◌∷◌, All, None, Some, Ordering, Less, Equal, Greater, refl, sym, ap, ◌∙◌, subst}
use Rattle.std.specs.BTreeMap.{insert_entry, is_at}
use Rattle.std.specs.List.Sorted.{IsStrictlySortedBy}
use Rattle.std.specs.Map.{lookup, remove_entry}
use Rattle.std.specs.Ordering.{is_eq}
use Rattle.std.proofs.lemmas.List.{length-map}
use Rattle.std.proofs.lemmas.List.Elements.{All-nil, All-head, All-tail, All-from_recursion, All-weaker}
use Rattle.std.proofs.lemmas.Map.Keys.{sorted_head, sorted_tail}
use Rattle.cell_core.proofs.CellOrder as order
use Rattle.cell_core.specs.Cells.{cell_order, same_cell}
use Rattle.cell_core.specs.contracts.cell.CellOrd.TheImpl.{ghosts}
use Rattle.cell_core.specs.Limits.{max_rows}
use Rattle.cell_core.specs.declared.cell.Cell.{Cell}
use Rattle.cell_core.specs.declared.schema.Column.{Column}
use Rattle.place_order.specs.PlaceLaws.{is_equal}
use Rattle.row_batch.specs.Batches.{pair_of, without}
use Rattle.row_batch.specs.Changes.{FitsColumns, entries_of, row_at}
use Rattle.row_batch.specs.declared.batch.Pair.{Pair}
use Rattle.row_batch.proofs.Lookups.{row_at-without}
use Rattle.table_core.specs.Lookups.{pairs_of}
use Rattle.agg_core.proofs.Cells.{of_map, same_itself}
use Rattle.agg_core.proofs.MapSteps.{same_lookup}
use Rattle.plan_types.specs.declared.plan.Plan.{Plan}
use Rattle.view_spec.specs.Kept.{by_key, full_row}
use Rattle.pivot_tree.specs.Groups.{HasRow, IsApart, with_row, without_row}
use Rattle.pivot_tree.specs.Trees.{CanAddRow}
use Rattle.pivot_tree.proofs.Rows.{HasRow-from, IsApart-from, without_row-is}
use Rattle.group_show.specs.Plans.{IsGroupedPlan}
use Rattle.group_show.proofs.CellKinds.{taken_cells}

abbrev Entries : Type 0
Entries = List (Cell × List Cell)

entries_of-pairs_of : (es : Entries) → entries_of (pairs_of es) ≡ es
entries_of-pairs_of [] = refl
entries_of-pairs_of (e ∷ es) = ap (λ (rest : Entries). e ∷ rest) (entries_of-pairs_of es)

-- what the map has under a key
pub row_at-pairs_of : (es : Entries) (key : Cell) → row_at (pairs_of es) key ≡ lookup (is_at (ghosts.cmp key)) es
row_at-pairs_of es key = ap (lookup (same_cell key)) (entries_of-pairs_of es) ∙ sym (same_lookup key es)

-- ---- a row that is put in

with_step : (key : Cell) (row : List Cell) (e : Cell × List Cell) (es : Entries) (o : Ordering) → cell_order key e.0 ≡ o → same_cell key e.0 ≡ false
    → with_row (pairs_of es) (pair_of key row) ≡ pairs_of (insert_entry cell_order es key row)
    → with_row (pairs_of (e ∷ es)) (pair_of key row) ≡ pairs_of (insert_entry cell_order (e ∷ es) key row)
with_step key row e es Less at apart later = rw at refl
with_step key row e es Equal at apart later = absurd (let wrong : true ≡ false = rw at at apart in cc)
with_step key row e es Greater at apart later = rw at (ap (λ (rs : List Pair). pair_of e.0 e.1 ∷ rs) later)

with_row-pairs_of : (es : Entries) (key : Cell) (row : List Cell) → IsApart key (pairs_of es) → with_row (pairs_of es) (pair_of key row) ≡ pairs_of (insert_entry cell_order es key row)
with_row-pairs_of [] key row h = refl
with_row-pairs_of (e ∷ es) key row h =
    with_step key row e es (cell_order key e.0) refl (All-head (λ (q : Pair). same_cell key q.key ≡ false) (pair_of e.0 e.1) (pairs_of es) h)
    (with_row-pairs_of es key row (All-tail (λ (q : Pair). same_cell key q.key ≡ false) (pair_of e.0 e.1) (pairs_of es) h))

pub put_is : (old new : Entries) (key : Cell) (row : List Cell) → IsApart key (pairs_of old) → new ≡ insert_entry ghosts.cmp old key row → pairs_of new ≡ with_row (pairs_of old) (pair_of key row)
put_is old new key row apart is =
    ap pairs_of (is ∙ of_map (λ R. insert_entry R old key row ≡ insert_entry cell_order old key row) refl) ∙ sym (with_row-pairs_of old key row apart)

-- ---- a row that is taken out

-- the first of the rows
without_first : (key : Cell) (row : List Cell) (e : Cell × List Cell) (es : Entries) → same_cell key e.0 ≡ true → IsStrictlySortedBy by_key (pairs_of (e ∷ es))
    → without_row (pairs_of (e ∷ es)) (pair_of key row) ≡ pairs_of es
without_first key row e es at up =
    let key_is : key ≡ e.0 = order.exact key e.0 (is_equal _ at) in
    let first : Pair = pair_of e.0 e.1 in
    let behind : All (λ r. by_key first r ≡ Less) (pairs_of es) = All-from_recursion (λ r. by_key first r ≡ Less) (pairs_of es) (sorted_head by_key first (pairs_of es) up) in
    let has : HasRow (pairs_of (e ∷ es)) first = record {
      before = [];
      behind = pairs_of es;
      is = refl;
      apart_before = All-nil (λ (r : Pair). same_cell e.0 r.key ≡ false);
      apart_behind = All-weaker (λ r. by_key first r ≡ Less) (λ (r : Pair). same_cell e.0 r.key ≡ false) (λ r less. ap is_eq less) (pairs_of es) behind;
    } in
    ap (λ k. without_row (pairs_of (e ∷ es)) (pair_of k row)) key_is ∙ without_row-is (pairs_of (e ∷ es)) first has

without_step : (key : Cell) (e : Cell × List Cell) (es : Entries) (b : Bool) → same_cell key e.0 ≡ b → IsStrictlySortedBy by_key (pairs_of (e ∷ es))
    → without (same_cell key) (pairs_of es) ≡ pairs_of (remove_entry (same_cell key) es)
    → without (same_cell key) (pairs_of (e ∷ es)) ≡ pairs_of (remove_entry (same_cell key) (e ∷ es))
without_step key e es true at up later = rw at (rw at at (without_first key e.1 e es at up))
without_step key e es false at up later = rw at (ap (λ (rs : List Pair). pair_of e.0 e.1 ∷ rs) later)

without-pairs_of : (es : Entries) (key : Cell) → IsStrictlySortedBy by_key (pairs_of es) → without (same_cell key) (pairs_of es) ≡ pairs_of (remove_entry (same_cell key) es)
without-pairs_of [] key up = refl
without-pairs_of (e ∷ es) key up =
    without_step key e es (same_cell key e.0) refl up (without-pairs_of es key (sorted_tail by_key (pair_of e.0 e.1) (pairs_of es) up))

pub taken_is : (old new : Entries) (key : Cell) → IsStrictlySortedBy by_key (pairs_of old) → new ≡ remove_entry (is_at (ghosts.cmp key)) old → pairs_of new ≡ without (same_cell key) (pairs_of old)
taken_is old new key up is =
    ap pairs_of (is ∙ of_map (λ R. remove_entry (is_at (R key)) old ≡ remove_entry (same_cell key) old) refl) ∙ sym (without-pairs_of old key up)

-- and then no row has the key
pub taken_apart : (old now : List Pair) (key : Cell) → now ≡ without (same_cell key) old → IsApart key now
taken_apart old now key is =
    let gone : same_cell key key ≡ true = same_itself key in
    let none : row_at (without (same_cell key) old) key ≡ None = row_at-without (same_cell key) old key ∙ (rw gone refl) in
    subst (IsApart key) (sym is) (IsApart-from (without (same_cell key) old) key none)

-- what is taken out is a row that the tree has
pub taken_row : (es : Entries) (key : Cell) (row : List Cell) → IsStrictlySortedBy by_key (pairs_of es) → Some row ≡ lookup (is_at (ghosts.cmp key)) es → HasRow (pairs_of es) (pair_of key row)
taken_row es key row up there = HasRow-from (pairs_of es) key row up (row_at-pairs_of es key ∙ sym there)

-- ---- a row that a tree may take in

pub may_put : (columns : List Column) (plan : Plan) (es : Entries) (key copy : Cell) (row full : List Cell) → IsGroupedPlan columns plan → IsApart key (pairs_of es) → length es < max_rows
    → FitsColumns columns row → copy ≡ key → full ≡ full_row plan row → CanAddRow columns plan (pairs_of es) (pair_of copy full)
may_put columns plan es key copy row full fits apart room typed same whole =
    let can : CanAddRow columns plan (pairs_of es) (pair_of key (full_row plan row)) = record {
      absent = apart;
      room = subst (λ n. n < max_rows) (sym (length-map es (λ e. pair_of e.0 e.1))) room;
      taken = taken_cells columns plan row fits typed;
    } in
    subst (λ k. CanAddRow columns plan (pairs_of es) (pair_of k full)) (sym same)
    (subst (λ r. CanAddRow columns plan (pairs_of es) (pair_of key r)) (sym whole) can)
