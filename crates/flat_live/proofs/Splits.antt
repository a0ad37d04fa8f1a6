-- The split paths of kept rows.
use Rattle.std.proofs.Common.{◌≡◌, ℕ, ◌+◌, Bool, true, false, cond, List, [], ◌∷◌, map, refl, sym, ◌∙◌, ap, subst, arith, is_some}
use Rattle.std.specs.Prelude.{◌||◌, IfOk, Result, Ok, Err}
use Rattle.std.specs.List.{IsDistinct, count_by, list_any}
use Rattle.std.specs.List.Sorted.{IsStrictlySortedBy}
use Rattle.std.specs.Map.{keys_of}
use Rattle.std.proofs.lemmas.List.Sorted.{list_any-IsPermutation}
use Rattle.std.proofs.lemmas.List.Sums.{sum_by-cons}
use Rattle.std.proofs.lemmas.Map.Made.{is_some-lookup}
use Rattle.plain_data.specs.Distinct.{AreDistinct}
use Rattle.cell_core.specs.declared.cell.Cell.{Cell}
use Rattle.row_batch.specs.Tables.{keys_of_rows}
use Rattle.row_batch.specs.declared.batch.Pair.{Pair}
use Rattle.plan_types.specs.declared.plan.Plan.{Plan}
use Rattle.view_spec.specs.Filters.{cell_in}
use Rattle.view_spec.specs.Kept.{kept}
use Rattle.view_spec.specs.Members.{split_of, splits, splits_by}
use Rattle.view_spec.specs.Paths.{path_order, path_set, same_path}
use Rattle.view_spec.proofs.FlatLaws.{kept_in_order}
use Rattle.view_spec.proofs.PathLaws.{any-map, any-path_set, path_order-exact, path_order-total, path_set-ascends}
use Rattle.view_spec.proofs.SplitLaws.{same_members}
use Rattle.flat_show.proofs.SplitLaws.{splits-in_order}
use Rattle.key_map.specs.Keyed.{same_by}
use Rattle.live_list.specs.Live.{live_key}
use Rattle.flat_live.specs.FlatRows.{AreCounted, FlatRow, has_split, is_counted, some_rows}
use Rattle.flat_live.specs.Rows.{IsKeptOf, live_row}
use Rattle.flat_live.proofs.Builds.{kept_permuted, live_rows}
use Rattle.flat_live.proofs.RowCounts.{Counts, some_rows-more}

-- the rows of one table that a plan keeps
pub record AreKeptRows (plan : Plan) (pairs : List Pair) (rows : List FlatRow) : Type 0 where
  pub keys : AreDistinct (keys_of_rows pairs)
  pub differ : IsDistinct (same_by live_key) rows
  pub kept : IsKeptOf plan pairs rows

some_counted : (t : FlatRow → Bool) (rows : List FlatRow) → is_some (some_rows (count_by t rows)) ≡ list_any t rows
some_counted t [] = refl
some_counted t (x ∷ rows) = ap (λ n. is_some (some_rows n)) (sum_by-cons (λ e. cond (t e) 1 0) x rows) ∙ by (t x) (some_counted t rows)
  where
    by : (b : Bool) → is_some (some_rows (count_by t rows)) ≡ list_any t rows → is_some (some_rows (cond b 1 0 + count_by t rows)) ≡ (b || list_any t rows)
    by true later = ap is_some (some_rows-more (count_by t rows))
    by false later = ap (λ n. is_some (some_rows n)) (let m = count_by t rows in let e : 0 + m ≡ m = omega arith in e) ∙ later

none_empty : (plan : Plan) (rows : List Pair) → (plan.split_by ≡ [] → ⊥) → list_any (λ p. same_path [] (split_of plan p)) rows ≡ false
none_empty plan [] split = refl
none_empty plan (p ∷ rows) split = ap (λ b. b || list_any (λ p. same_path [] (split_of plan p)) rows) (longer plan.split_by split) ∙ none_empty plan rows split
  where
    longer : (by : List ℕ) → (by ≡ [] → ⊥) → same_path [] (map (cell_in p.row) by) ≡ false
    longer [] some = absurd (some refl)
    longer (c ∷ cs) some = refl

-- the split paths under which rows are counted are those of the rows that are kept
counted_splits : (plan : Plan) (pairs : List Pair) (rows : List FlatRow) → (plan.split_by ≡ [] → ⊥) → AreKeptRows plan pairs rows
    → (q : List Cell) → is_counted rows q ≡ list_any (same_path q) (path_set (map (split_of plan) (kept_in_order plan pairs)))
counted_splits plan pairs rows split h q = by q ∙ sym (any-path_set (same_path q) (map (split_of plan) (kept_in_order plan pairs)) ∙ any-map (split_of plan) (same_path q) (kept_in_order plan pairs))
  where
    by : (q : List Cell) → is_counted rows q ≡ list_any (λ p. same_path q (split_of plan p)) (kept_in_order plan pairs)
    by [] = sym (none_empty plan (kept_in_order plan pairs) split)
    by (c ∷ cs) =
        some_counted (has_split (c ∷ cs)) rows
        ∙ list_any-IsPermutation (has_split (c ∷ cs)) rows (live_rows plan pairs) (kept_permuted plan pairs rows h.keys h.differ h.kept)
        ∙ any-map (live_row plan) (has_split (c ∷ cs)) (kept_in_order plan pairs)

splits_some : (plan : Plan) (pairs : List Pair) → (plan.split_by ≡ [] → ⊥) → path_set (map (split_of plan) (kept_in_order plan pairs)) ≡ splits plan (kept plan pairs)
splits_some plan pairs split = by plan.split_by split ∙ splits-in_order plan pairs
  where
    by : (by : List ℕ) → (by ≡ [] → ⊥) → path_set (map (split_of plan) (kept_in_order plan pairs)) ≡ splits_by by (path_set (map (split_of plan) (kept_in_order plan pairs)))
    by [] some = absurd (some refl)
    by (c ∷ cs) some = refl

splits_found : (plan : Plan) (pairs : List Pair) (rows : List FlatRow) (paths : List (List Cell)) → (plan.split_by ≡ [] → ⊥) → AreKeptRows plan pairs rows → IsStrictlySortedBy path_order paths
    → ((q : List Cell) → list_any (same_path q) paths ≡ is_counted rows q) → paths ≡ splits plan (kept plan pairs)
splits_found plan pairs rows paths split h up told =
    same_members path_order path_order-total path_order-exact paths (path_set (map (split_of plan) (kept_in_order plan pairs))) up (path_set-ascends (map (split_of plan) (kept_in_order plan pairs)))
    (λ q. told q ∙ counted_splits plan pairs rows split h q)
    ∙ splits_some plan pairs split

-- where nothing is split the rows make no difference
pub splits_unsplit : (plan : Plan) (rows more : List Pair) → plan.split_by ≡ [] → splits plan rows ≡ splits plan more
splits_unsplit plan rows more none =
    ap (λ by. splits_by by (path_set (map (split_of plan) rows))) none ∙ sym (ap (λ by. splits_by by (path_set (map (split_of plan) more))) none)

-- where no split path came or went
pub splits_stay : (plan : Plan) (first last : List Pair) (was now : List FlatRow) → AreKeptRows plan first was → AreKeptRows plan last now
    → ((q : List Cell) → is_counted was q ≡ is_counted now q) → splits plan (kept plan first) ≡ splits plan (kept plan last)
splits_stay plan first last was now a b same = by plan.split_by refl
  where
    by : (by : List ℕ) → plan.split_by ≡ by → splits plan (kept plan first) ≡ splits plan (kept plan last)
    by [] is = splits_unsplit plan (kept plan first) (kept plan last) is
    by (c ∷ cs) is =
        let some : plan.split_by ≡ [] → ⊥ = λ none. let wrong : c ∷ cs ≡ [] = sym is ∙ none in absurd (cc) in
        sym (splits_some plan first some)
        ∙ splits_found plan last now (path_set (map (split_of plan) (kept_in_order plan first))) some b (path_set-ascends (map (split_of plan) (kept_in_order plan first)))
        (λ q. sym (counted_splits plan first was some a q) ∙ same q)

-- ---- as they are answered

pub found_ok : {V E : Type 0} (r : Result V E) (items : V → List (List Cell)) (plan : Plan) (pairs : List Pair) (rows : List FlatRow) → (plan.split_by ≡ [] → ⊥) → AreKeptRows plan pairs rows
    → IfOk r (λ v. IsStrictlySortedBy path_order (items v)) → ((q : List Cell) → IfOk r (λ v. list_any (same_path q) (items v) ≡ is_counted rows q)) → IfOk r (λ v. items v ≡ splits plan (kept plan pairs))
found_ok (Ok v) items plan pairs rows split h up told = splits_found plan pairs rows (items v) split h up told
found_ok (Err e) items plan pairs rows split h up told = tt

pub told_ok : {V E : Type 0} (r : Result V E) (items : V → List (List Cell)) (rows : List FlatRow) (counts : Counts) (q : List Cell) → AreCounted rows counts
    → IfOk r (λ v. items v ≡ keys_of counts) → IfOk r (λ v. list_any (same_path q) (items v) ≡ is_counted rows q)
told_ok (Ok v) items rows counts q h is = ap (list_any (same_path q)) is ∙ sym (is_some-lookup (same_path q) counts) ∙ ap is_some (h.told q)
told_ok (Err e) items rows counts q h is = tt

pub ascend_ok : {V E : Type 0} (r : Result V E) (items : V → List (List Cell)) (paths : List (List Cell)) → IsStrictlySortedBy path_order paths → IfOk r (λ v. items v ≡ paths)
    → IfOk r (λ v. IsStrictlySortedBy path_order (items v))
ascend_ok (Ok v) items paths up is = subst (IsStrictlySortedBy path_order) (sym is) up
ascend_ok (Err e) items paths up is = tt
