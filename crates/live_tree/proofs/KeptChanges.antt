-- The kept rows after changes, and the groups that the told paths leave out.
use Rattle.std.proofs.Common.{◌≡◌, ℕ, ◌+◌, ◌*◌, ◌≤◌, Bool, true, false, cond, ◌&&◌, ◌||◌, List, [], ◌∷◌, ◌++◌, length, map, filter, take, All, Option, Some, None, refl, sym, ap, ◌∙◌, subst, arith, length-append}
use Rattle.std.specs.Cmp.{eq_by_cmp_equiv}
use Rattle.std.specs.List.{find, list_any, slice_get}
use Rattle.std.specs.List.Sorted.{IsPermutation}
use Rattle.std.specs.Option.{IfSome, option_map}
use Rattle.std.specs.Ordering.{eq_by_cmp}
use Rattle.std.specs.Prelude.{OnOk, Result, Ok, Err}
use Rattle.std.proofs.lemmas.List.Elements.{All-nil, All-cons}
use Rattle.plain_data.specs.Distinct.{AreDistinct}
use Rattle.cell_core.specs.Cells.{same_cell}
use Rattle.cell_core.specs.declared.cell.Cell.{Cell}
use Rattle.row_batch.specs.Batches.{pair_of, without}
use Rattle.row_batch.specs.Changes.{FitRows, changed, changed_all, row_at}
use Rattle.row_batch.specs.Tables.{keys_of_rows}
use Rattle.row_batch.specs.declared.batch.Pair.{Pair}
use Rattle.row_batch.specs.declared.change.RowChange.{RowChange}
use Rattle.row_batch.proofs.ChangeLists.{distinct_changed, distinct_changed_all}
use Rattle.row_batch.proofs.Lookups.{absent_at, same_decides}
use Rattle.plan_types.specs.declared.plan.Plan.{Plan}
use Rattle.view_spec.specs.Entries.{where_it}
use Rattle.view_spec.specs.Filters.{cell_in, keeps}
use Rattle.view_spec.specs.Kept.{by_key, full_pair, full_row, is_kept, kept}
use Rattle.view_spec.specs.Members.{group_of}
use Rattle.view_spec.specs.Paths.{begins_with}
use Rattle.view_spec.specs.Steps.{PassesBy, counts_in}
use Rattle.view_spec.proofs.ChangeLaws.{kept-changed, kept_after}
use Rattle.view_spec.proofs.FindLaws.{PicksOne, find-sorted_by}
use Rattle.view_spec.proofs.KeptLaws.{by_key-total, full_differ, keys_differ, kept-IsPermutation}
use Rattle.view_spec.proofs.Sorting.{IsDistinct-filter}
use Rattle.pivot_tree.specs.Groups.{with_row}
use Rattle.group_show.proofs.KeptRows.{row_dropped, row_kept}
use Rattle.live_tree.specs.Rows.{change_paths, kept_change, kept_changes, kept_of, path_of, paths_along, with_kept}

pub ok_map : {A E P Q : Type 0} → (r : Result A E) → (P → Q) → OnOk r P → OnOk r Q
ok_map (Ok x) f h = f h
ok_map (Err e) f h = tt

-- ---- a row that is kept or not

-- one more row of a table
pub kept_next : (plan : Plan) (ps : List Pair) (i : ℕ) (p : Pair) → slice_get ps i ≡ Some p
    → with_kept (kept plan (take i ps)) p.key (kept_of plan (Some p.row)) ≡ kept plan (take (i + 1) ps)
kept_next plan ps i p at = by (keeps plan.filters (full_row plan p.row)) refl
  where
    by : (b : Bool) → keeps plan.filters (full_row plan p.row) ≡ b → with_kept (kept plan (take i ps)) p.key (where_it b (full_row plan p.row)) ≡ kept plan (take (i + 1) ps)
    by true is = row_kept plan ps i p p.key (full_row plan p.row) at refl refl is
    by false is = row_dropped plan ps i p (full_row plan p.row) at refl is

-- ---- changes

kept_one : (plan : Plan) (key : Cell) (new : Option (List Cell)) (rows : List Pair) → kept_after plan key new rows ≡ with_kept (without (same_cell key) rows) key (kept_of plan new)
kept_one plan key None rows = refl
kept_one plan key (Some row) rows = by (keeps plan.filters (full_row plan row))
  where
    by : (b : Bool) → cond b (with_row (without (same_cell key) rows) (pair_of key (full_row plan row))) (without (same_cell key) rows)
        ≡ with_kept (without (same_cell key) rows) key (where_it b (full_row plan row))
    by true = refl
    by false = refl

kept-change : (plan : Plan) (ps : List Pair) (change : RowChange) → AreDistinct (keys_of_rows ps) → kept plan (changed ps change) ≡ kept_change plan (kept plan ps) change
kept-change plan ps change distinct = kept-changed plan ps change distinct ∙ kept_one plan change.key change.new (kept plan ps)

kept-changes : (plan : Plan) (ps : List Pair) (changes : List RowChange) → AreDistinct (keys_of_rows ps) → kept plan (changed_all ps changes) ≡ kept_changes plan (kept plan ps) changes
kept-changes plan ps [] distinct = refl
kept-changes plan ps (change ∷ changes) distinct =
    kept-changes plan (changed ps change) changes (distinct_changed ps change distinct)
    ∙ ap (λ rows. kept_changes plan rows changes) (kept-change plan ps change distinct)

-- THE KEPT ROWS: where the changes lead from some rows to others, the kept ones of the first become those of the others
kept_there : (plan : Plan) (ps more : List Pair) (changes : List RowChange) → AreDistinct (keys_of_rows ps) → AreDistinct (keys_of_rows more)
    → IsPermutation (changed_all ps changes) more → kept_changes plan (kept plan ps) changes ≡ kept plan more
kept_there plan ps more changes distinct too lead =
    sym (kept-changes plan ps changes distinct) ∙ kept-IsPermutation plan (changed_all ps changes) more (distinct_changed_all ps changes distinct) too lead

-- ---- what is kept under a key

found_step : (key : Cell) (q : Pair) (rows : List Pair) (b : Bool) → same_cell key q.key ≡ b → row_at rows key ≡ option_map (λ (p : Pair). p.row) (find (λ (p : Pair). same_cell key p.key) rows)
    → row_at (q ∷ rows) key ≡ option_map (λ (p : Pair). p.row) (find (λ (p : Pair). same_cell key p.key) (q ∷ rows))
found_step key q rows true is later = rw is refl
found_step key q rows false is later = rw is later

row_at-find : (key : Cell) (rows : List Pair) → row_at rows key ≡ option_map (λ (p : Pair). p.row) (find (λ (p : Pair). same_cell key p.key) rows)
row_at-find key [] = refl
row_at-find key (q ∷ rows) = found_step key q rows (same_cell key q.key) refl (row_at-find key rows)

abbrev kept_unsorted : Plan → List Pair → List Pair
kept_unsorted plan ps = filter (is_kept plan) (map (full_pair plan) ps)

under_step : (plan : Plan) (key : Cell) (p : Pair) (ps : List Pair) (a b : Bool) → same_cell key p.key ≡ a → is_kept plan (full_pair plan p) ≡ b
    → (a ≡ true → row_at ps key ≡ None) → row_at (kept_unsorted plan ps) key ≡ kept_of plan (row_at ps key)
    → row_at (kept_unsorted plan (p ∷ ps)) key ≡ kept_of plan (row_at (p ∷ ps) key)
under_step plan key p ps true true is keeps_it none later = rw (is, keeps_it) (rw is refl)
under_step plan key p ps true false is keeps_it none later = rw (is, keeps_it) (later ∙ ap (kept_of plan) (none refl))
under_step plan key p ps false true is keeps_it none later = rw (is, keeps_it) (rw is later)
under_step plan key p ps false false is keeps_it none later = rw (is, keeps_it) later

kept_under : (plan : Plan) (key : Cell) (ps : List Pair) → AreDistinct (keys_of_rows ps) → row_at (kept_unsorted plan ps) key ≡ kept_of plan (row_at ps key)
kept_under plan key [] distinct = refl
kept_under plan key (p ∷ ps) distinct =
    under_step plan key p ps (same_cell key p.key) (is_kept plan (full_pair plan p)) refl refl
    (λ same. ap (row_at ps) ((same_decides key p.key).0 same) ∙ absent_at ps p.key distinct.0) (kept_under plan key ps distinct.1)

-- the kept row of a key is that of the table's row, where it is kept
row_at-kept : (plan : Plan) (key : Cell) (ps : List Pair) → AreDistinct (keys_of_rows ps) → row_at (kept plan ps) key ≡ kept_of plan (row_at ps key)
row_at-kept plan key ps distinct =
    row_at-find key (kept plan ps)
    ∙ ap (option_map (λ (p : Pair). p.row))
    (find-sorted_by by_key (eq_by_cmp by_key) (eq_by_cmp_equiv by_key-total).symm (λ (p : Pair). same_cell key p.key) one (kept_unsorted plan ps)
    (IsDistinct-filter (eq_by_cmp by_key) (is_kept plan) (map (full_pair plan) ps) (full_differ plan ps (keys_differ ps distinct))))
    ∙ sym (row_at-find key (kept_unsorted plan ps))
    ∙ kept_under plan key ps distinct
  where
    one : PicksOne (eq_by_cmp by_key) (λ (p : Pair). same_cell key p.key)
    one a b h g = subst (λ k. same_cell k b.key ≡ true) ((same_decides key a.key).0 h) g

-- ---- paths that are told

or_false : (a b : Bool) → (a || b) ≡ false → (a ≡ false) × (b ≡ false)
or_false true b h = absurd (let wrong : true ≡ false = h in cc)
or_false false b h = (refl, h)

none_before : (t : List Cell → Bool) (xs ys : List (List Cell)) → list_any t (xs ++ ys) ≡ false → list_any t xs ≡ false
none_before t [] ys h = refl
none_before t (x ∷ xs) ys h =
    let both = or_false (t x) (list_any t (xs ++ ys)) h in
    ap (λ b. b || list_any t xs) both.0 ∙ none_before t xs ys both.1

none_behind : (t : List Cell → Bool) (xs ys : List (List Cell)) → list_any t (xs ++ ys) ≡ false → list_any t ys ≡ false
none_behind t [] ys h = h
none_behind t (x ∷ xs) ys h = none_behind t xs ys (or_false (t x) (list_any t (xs ++ ys)) h).1

-- the path of a row that is found
pub told_path : (plan : Plan) (key : Cell) (row cells path : List Cell) (told now : List (List Cell)) (o : Option (List Cell)) → cells ≡ row → path ≡ map (cell_in cells) plan.group_by
    → now ≡ told ++ path ∷ [] → o ≡ Some row → now ≡ told ++ path_of plan key o
told_path plan key row cells path told now o same is more there =
    more ∙ ap (λ (q : List Cell). told ++ q ∷ []) (is ∙ ap (λ (r : List Cell). map (cell_in r) plan.group_by) same)
    ∙ ap (λ o. told ++ path_of plan key o) (sym there)

-- where no told path of a row begins with the path, the row doesn't count in its group
passes_row : (plan : Plan) (path : List Cell) (key : Cell) (o : Option (List Cell)) → list_any (begins_with path) (path_of plan key (kept_of plan o)) ≡ false
    → IfSome o (λ row. counts_in plan path (pair_of key row) ≡ false)
passes_row plan path key None h = tt
passes_row plan path key (Some row) h = by (keeps plan.filters (full_row plan row)) h
  where
    by : (b : Bool) → list_any (begins_with path) (path_of plan key (where_it b (full_row plan row))) ≡ false
        → (b && begins_with path (group_of plan (pair_of key (full_row plan row)))) ≡ false
    by true h = (or_false (begins_with path (group_of plan (pair_of key (full_row plan row)))) false h).0
    by false h = refl

-- THE PATHS: a group with whose path none of the told paths begins is one in which no changed row counts
passes_all : (plan : Plan) (path : List Cell) (ps : List Pair) (changes : List RowChange) → AreDistinct (keys_of_rows ps) → FitRows ps changes
    → list_any (begins_with path) (paths_along plan (kept plan ps) changes) ≡ false → All (PassesBy (counts_in plan path)) changes
passes_all plan path ps [] distinct fit none = All-nil (PassesBy (counts_in plan path))
passes_all plan path ps (change ∷ changes) distinct fit none =
    let rows = kept plan ps in
    let went : List (List Cell) = path_of plan change.key (row_at rows change.key) in
    let came : List (List Cell) = path_of plan change.key (kept_of plan change.new) in
    let here : list_any (begins_with path) (went ++ came) ≡ false = none_before (begins_with path) (went ++ came) (paths_along plan (kept_change plan rows change) changes) none in
    let later : list_any (begins_with path) (paths_along plan (kept_change plan rows change) changes) ≡ false =
    none_behind (begins_with path) (went ++ came) (paths_along plan (kept_change plan rows change) changes) none in
    let old : kept_of plan change.old ≡ row_at rows change.key = ap (kept_of plan) fit.0 ∙ sym (row_at-kept plan change.key ps distinct) in
    All-cons (PassesBy (counts_in plan path)) change changes
    (record {
      old = passes_row plan path change.key change.old (ap (λ o. list_any (begins_with path) (path_of plan change.key o)) old ∙ none_before (begins_with path) went came here);
      new = passes_row plan path change.key change.new (none_behind (begins_with path) went came here);
    })
    (passes_all plan path (changed ps change) changes (distinct_changed ps change distinct) fit.3
    (ap (λ rs. list_any (begins_with path) (paths_along plan rs changes)) (kept-change plan ps change distinct) ∙ later))

length_path : (plan : Plan) (key : Cell) (o : Option (List Cell)) → length (path_of plan key o) ≤ 1
length_path plan key None = omega arith
length_path plan key (Some row) = omega arith

-- two at most for each change
few_paths : (plan : Plan) (rows : List Pair) (changes : List RowChange) → length (paths_along plan rows changes) ≤ 2 * length changes
few_paths plan rows [] = omega arith
few_paths plan rows (change ∷ changes) =
    let went = length_path plan change.key (row_at rows change.key) in
    let came = length_path plan change.key (kept_of plan change.new) in
    let both = length-append (path_of plan change.key (row_at rows change.key)) (path_of plan change.key (kept_of plan change.new)) in
    let all = length-append (change_paths plan rows change) (paths_along plan (kept_change plan rows change) changes) in
    let later = few_paths plan (kept_change plan rows change) changes in
    omega arith

-- ---- the same, as a call tells of the rows and the paths

pub rows_after : (plan own : Plan) (ps more before now : List Pair) (changes : List RowChange) → own ≡ plan → before ≡ kept plan ps → now ≡ kept_changes own before changes
    → AreDistinct (keys_of_rows ps) → AreDistinct (keys_of_rows more) → IsPermutation (changed_all ps changes) more → now ≡ kept plan more
rows_after plan own ps more before now changes same was is distinct too lead =
    is ∙ ap (λ p. kept_changes p before changes) same ∙ ap (λ rows. kept_changes plan rows changes) was ∙ kept_there plan ps more changes distinct too lead

pub passes_after : (plan own : Plan) (path : List Cell) (ps before : List Pair) (changes : List RowChange) (told now : List (List Cell)) → own ≡ plan → before ≡ kept plan ps
    → now ≡ told ++ paths_along own before changes → AreDistinct (keys_of_rows ps) → FitRows ps changes → list_any (begins_with path) now ≡ false → All (PassesBy (counts_in plan path)) changes
passes_after plan own path ps before changes told now same was is distinct fit none =
    let whole : now ≡ told ++ paths_along plan (kept plan ps) changes = is ∙ ap (λ p. told ++ paths_along p before changes) same ∙ ap (λ rows. told ++ paths_along plan rows changes) was in
    passes_all plan path ps changes distinct fit
    (none_behind (begins_with path) told (paths_along plan (kept plan ps) changes) (sym (ap (list_any (begins_with path)) whole) ∙ none))

pub few_after : (plan : Plan) (before : List Pair) (changes : List RowChange) (told now : List (List Cell)) → now ≡ told ++ paths_along plan before changes
    → length now ≤ length told + 2 * length changes
few_after plan before changes told now is =
    let whole = ap length is in
    let both = length-append told (paths_along plan before changes) in
    let few = few_paths plan before changes in
    omega arith
