-- The kept rows of one row more of a table, and that a tree of those before takes that row.
use Rattle.std.proofs.Common.{◌≡◌, ◌≢◌, ℕ, zero, suc, ◌+◌, ◌<◌, ◌≤◌, Bool, true, false, cond, List, [], ◌∷◌, ◌++◌, map, filter, length, take, All, Some, sym, ◌∙◌, ap, subst, arith}
use Rattle.std.specs.List.{slice_get}
use Rattle.std.proofs.lemmas.List.{append-nil, get_or-map, length-map, length-take-le, map_push, take_more}
use Rattle.std.proofs.lemmas.List.Elements.{All-nil, All-cons, All-filter, All-map, filter-append}
use Rattle.std.proofs.lemmas.List.Sums.{fold-append}
use Rattle.std.proofs.lemmas.Option.{get_or_from_slice_get, slice_get_within}
use Rattle.plain_data.specs.Distinct.{AreDistinct}
use Rattle.plain_data.specs.Sorting.{insert_by, sorted_by}
use Rattle.cell_core.specs.Cells.{same_cell}
use Rattle.cell_core.specs.Schemas.{SchemaData}
use Rattle.cell_core.specs.declared.cell.Cell.{Cell}
use Rattle.row_batch.specs.Batches.{Store, pair_of}
use Rattle.row_batch.specs.Tables.{IsPairOf, IsTable, keys_of_rows}
use Rattle.row_batch.specs.declared.batch.Pair.{Pair}
use Rattle.row_batch.proofs.Lookups.{not_same}
use Rattle.plan_types.specs.declared.plan.Plan.{Plan}
use Rattle.view_spec.specs.Filters.{keeps}
use Rattle.view_spec.specs.Kept.{by_key, full_pair, full_row, is_kept, kept}
use Rattle.view_spec.proofs.Sorting.{All-sorted_by}
use Rattle.pivot_tree.specs.Groups.{IsApart, with_row}
use Rattle.pivot_tree.specs.Trees.{CanAddRow}
use Rattle.pivot_tree.proofs.Building.{length-sorted}
use Rattle.pivot_tree.proofs.Rows.{length-filter}
use Rattle.group_show.specs.Plans.{IsGroupedPlan}
use Rattle.group_show.proofs.CellKinds.{taken_cells}

-- ---- one row more

abbrev kept_unsorted : Plan → List Pair → List Pair
kept_unsorted plan ps = filter (is_kept plan) (map (full_pair plan) ps)

kept_push : (plan : Plan) (ps : List Pair) (p : Pair) (b : Bool) → is_kept plan (full_pair plan p) ≡ b
    → kept plan (ps ++ p ∷ []) ≡ cond b (with_row (kept plan ps) (full_pair plan p)) (kept plan ps)
kept_push plan ps p b is =
    ap (sorted_by by_key)
    (ap (filter (is_kept plan)) (map_push (full_pair plan) ps p) ∙ filter-append (is_kept plan) (map (full_pair plan) ps) (full_pair plan p ∷ [])
    ∙ ap (λ c. kept_unsorted plan ps ++ cond c (full_pair plan p ∷ []) []) is)
    ∙ by b
  where
    by : (b : Bool) → sorted_by by_key (kept_unsorted plan ps ++ cond b (full_pair plan p ∷ []) []) ≡ cond b (with_row (kept plan ps) (full_pair plan p)) (kept plan ps)
    by true = fold-append (λ sorted x. insert_by by_key x sorted) [] (kept_unsorted plan ps) (full_pair plan p ∷ [])
    by false = ap (sorted_by by_key) (append-nil (kept_unsorted plan ps))

next : (ps : List Pair) (i : ℕ) (p : Pair) → slice_get ps i ≡ Some p → take (i + 1) ps ≡ take i ps ++ p ∷ []
next ps i p at = take_more ps i p (slice_get_within ps i p at) ∙ ap (λ q. take i ps ++ q ∷ []) (get_or_from_slice_get ps i p p at)

kept_is : (plan : Plan) (p : Pair) (full : List Cell) (b : Bool) → full ≡ full_row plan p.row → keeps plan.filters full ≡ b → is_kept plan (full_pair plan p) ≡ b
kept_is plan p full b same is = sym (ap (keeps plan.filters) same) ∙ is

pub row_kept : (plan : Plan) (ps : List Pair) (i : ℕ) (p : Pair) (key : Cell) (full : List Cell) → slice_get ps i ≡ Some p → key ≡ p.key → full ≡ full_row plan p.row
    → keeps plan.filters full ≡ true → with_row (kept plan (take i ps)) (pair_of key full) ≡ kept plan (take (i + 1) ps)
row_kept plan ps i p key full at same_key same is =
    ap (λ k. with_row (kept plan (take i ps)) (pair_of k full)) same_key ∙ ap (λ r. with_row (kept plan (take i ps)) (pair_of p.key r)) same
    ∙ sym (ap (kept plan) (next ps i p at) ∙ kept_push plan (take i ps) p true (kept_is plan p full true same is))

pub row_dropped : (plan : Plan) (ps : List Pair) (i : ℕ) (p : Pair) (full : List Cell) → slice_get ps i ≡ Some p → full ≡ full_row plan p.row
    → keeps plan.filters full ≡ false → kept plan (take i ps) ≡ kept plan (take (i + 1) ps)
row_dropped plan ps i p full at same is =
    sym (ap (kept plan) (next ps i p at) ∙ kept_push plan (take i ps) p false (kept_is plan p full false same is))

-- ---- a row that may be added

found_at : {X : Type 0} (P : X → Type 0) (xs : List X) (i : ℕ) (x : X) → slice_get xs i ≡ Some x → All P xs → P x
found_at P xs i x at all = subst P (get_or_from_slice_get xs i x x at) (all i x (slice_get_within xs i x at))

apart_before : (ps : List Pair) (i : ℕ) (p : Pair) → slice_get ps i ≡ Some p → AreDistinct (keys_of_rows ps) → IsApart p.key (take i ps)
apart_before [] i p at distinct = absurd (let within = slice_get_within [] i p at in omega arith)
apart_before (q ∷ ps) zero p at distinct = All-nil (λ (r : Pair). same_cell p.key r.key ≡ false)
apart_before (q ∷ ps) (suc i) p at distinct =
    let within : i < length ps = slice_get_within ps i p at in
    let listed : i < length (keys_of_rows ps) = rw length-map within in
    let key : p.key ≢ q.key =
    subst (λ (k : Cell). k ≢ q.key) (get_or-map (λ (r : Pair). r.key) ps i p p.key within ∙ ap (λ (r : Pair). r.key) (get_or_from_slice_get ps i p p at)) (distinct.0 i p.key listed) in
    All-cons (λ (r : Pair). same_cell p.key r.key ≡ false) q (take i ps) (not_same p.key q.key (λ same. key (sym same))) (apart_before ps i p at distinct.1)

apart_kept : (plan : Plan) (key : Cell) (ps : List Pair) → IsApart key ps → IsApart key (kept plan ps)
apart_kept plan key ps apart =
    let P : Pair → Type 0 = λ r. same_cell key r.key ≡ false in
    All-sorted_by P by_key (kept_unsorted plan ps) (All-filter (is_kept plan) P (map (full_pair plan) ps) (All-map P (full_pair plan) ps apart))

few_kept : (plan : Plan) (ps : List Pair) (i : ℕ) → i < length ps → length ps ≤ 65536 → length (kept plan (take i ps)) < 65536
few_kept plan ps i within few =
    let sorted = length-sorted (kept_unsorted plan (take i ps)) in
    let filtered = length-filter (is_kept plan) (map (full_pair plan) (take i ps)) in
    let mapped = length-map (take i ps) (full_pair plan) in
    let taken = length-take-le i ps (omega arith) in
    omega arith

pub can_add : (schema : SchemaData) (plan : Plan) (store : Store) (i : ℕ) (p : Pair) (key : Cell) (full : List Cell) → IsGroupedPlan schema.columns plan → IsTable schema store
    → slice_get store.pairs i ≡ Some p → key ≡ p.key → full ≡ full_row plan p.row → CanAddRow schema.columns plan (kept plan (take i store.pairs)) (pair_of key full)
can_add schema plan store i p key full fits table at same_key same =
    let row = found_at (IsPairOf schema store.number) store.pairs i p at table.pairs in
    let made : CanAddRow schema.columns plan (kept plan (take i store.pairs)) (full_pair plan p) = record {
      absent = apart_kept plan p.key (take i store.pairs) (apart_before store.pairs i p at table.distinct);
      room = few_kept plan store.pairs i (slice_get_within store.pairs i p at) table.few;
      taken = taken_cells schema.columns plan p.row fits row.0;
    } in
    subst (λ k. CanAddRow schema.columns plan (kept plan (take i store.pairs)) (pair_of k full)) (sym same_key)
    (subst (λ r. CanAddRow schema.columns plan (kept plan (take i store.pairs)) (pair_of p.key r)) (sym same) made)
