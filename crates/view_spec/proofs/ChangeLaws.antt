-- What a change makes of the kept rows, of a group's members and of what stands under a row's key.
use Rattle.std.proofs.Common.{◌≡◌, Bool, true, false, cond, List, [], ◌∷◌, ◌++◌, map, filter, Option, Some, None, refl, sym, ◌∙◌, ap}
use Rattle.std.specs.Prelude.{not, fold}
use Rattle.std.specs.Option.{option_map}
use Rattle.std.specs.Ordering.{eq_by_cmp}
use Rattle.std.proofs.lemmas.List.{append-nil, map-append}
use Rattle.std.proofs.lemmas.List.Elements.{filter-append}
use Rattle.plain_data.specs.Distinct.{AreDistinct}
use Rattle.plain_data.specs.Sorting.{insert_by, sorted_by}
use Rattle.cell_core.specs.Cells.{same_cell}
use Rattle.cell_core.specs.declared.cell.Cell.{Cell}
use Rattle.row_batch.specs.Batches.{pair_of, without}
use Rattle.row_batch.specs.Changes.{changed, row_at}
use Rattle.row_batch.specs.Tables.{keys_of_rows}
use Rattle.row_batch.specs.declared.batch.Pair.{Pair}
use Rattle.row_batch.specs.declared.change.RowChange.{RowChange}
use Rattle.row_batch.proofs.Lookups.{row_at-changed}
use Rattle.plan_types.specs.declared.plan.Plan.{Plan}
use Rattle.view_spec.specs.Entries.{kept_at, row_entry}
use Rattle.view_spec.specs.Kept.{by_key, full_pair, is_kept, kept}
use Rattle.view_spec.specs.Steps.{changed_side}
use Rattle.view_spec.specs.Views.{Side, placed_row}
use Rattle.view_spec.proofs.KeptLaws.{by_key-total, full_differ, keys_differ}
use Rattle.view_spec.proofs.Sorting.{IsDistinct-filter, filter-sorted_by}

fold-append : {X A : Type 0} (f : A → X → A) (a : A) (xs ys : List X) → fold f a (xs ++ ys) ≡ fold f (fold f a xs) ys
fold-append f a [] ys = refl
fold-append f a (x ∷ xs) ys = fold-append f (f a x) xs ys

-- a new row goes to its place by key, where it is kept
pub kept-put : (plan : Plan) (ps : List Pair) (p : Pair)
    → kept plan (ps ++ p ∷ []) ≡ cond (is_kept plan (full_pair plan p)) (insert_by by_key (full_pair plan p) (kept plan ps)) (kept plan ps)
kept-put plan ps p =
    ap (λ xs. sorted_by by_key (filter (is_kept plan) xs)) (map-append (full_pair plan) ps (p ∷ []))
    ∙ ap (sorted_by by_key) (filter-append (is_kept plan) (map (full_pair plan) ps) (full_pair plan p ∷ []))
    ∙ fold-append (λ sorted x. insert_by by_key x sorted) [] (filter (is_kept plan) (map (full_pair plan) ps)) (filter (is_kept plan) (full_pair plan p ∷ []))
    ∙ by (is_kept plan (full_pair plan p))
  where
    by : (b : Bool) → fold (λ sorted x. insert_by by_key x sorted) (kept plan ps) (cond b (full_pair plan p ∷ []) []) ≡ cond b (insert_by by_key (full_pair plan p) (kept plan ps)) (kept plan ps)
    by true = refl
    by false = refl

abbrev other_key : Cell → Pair → Bool
other_key key p = not (same_cell key p.key)

kept_others : (plan : Plan) (key : Cell) (ps : List Pair)
    → filter (is_kept plan) (map (full_pair plan) (filter (other_key key) ps)) ≡ filter (other_key key) (filter (is_kept plan) (map (full_pair plan) ps))
kept_others plan key [] = refl
kept_others plan key (p ∷ ps) = by (same_cell key p.key) (is_kept plan (full_pair plan p)) refl refl (kept_others plan key ps)
  where
    by : (a b : Bool) → same_cell key p.key ≡ a → is_kept plan (full_pair plan p) ≡ b
        → filter (is_kept plan) (map (full_pair plan) (filter (other_key key) ps)) ≡ filter (other_key key) (filter (is_kept plan) (map (full_pair plan) ps))
        → filter (is_kept plan) (map (full_pair plan) (filter (other_key key) (p ∷ ps))) ≡ filter (other_key key) (filter (is_kept plan) (map (full_pair plan) (p ∷ ps)))
    by true true same keeps_it later = rw (same, keeps_it) (rw same later)
    by true false same keeps_it later = rw (same, keeps_it) later
    by false true same keeps_it later = rw (same, keeps_it) (rw same (ap (λ qs. full_pair plan p ∷ qs) later))
    by false false same keeps_it later = rw (same, keeps_it) later

-- the row of a key goes, and no other
pub kept-without : (plan : Plan) (ps : List Pair) (key : Cell) → AreDistinct (keys_of_rows ps)
    → kept plan (without (same_cell key) ps) ≡ filter (other_key key) (kept plan ps)
kept-without plan ps key distinct =
    ap (sorted_by by_key) (kept_others plan key ps)
    ∙ sym (filter-sorted_by by_key by_key-total (other_key key) (filter (is_kept plan) (map (full_pair plan) ps))
    (IsDistinct-filter (eq_by_cmp by_key) (is_kept plan) (map (full_pair plan) ps) (full_differ plan ps (keys_differ ps distinct))))

-- the kept rows after a change
abbrev pub kept_after : Plan → Cell → Option (List Cell) → List Pair → List Pair
kept_after plan key None rows = filter (other_key key) rows
kept_after plan key (Some row) rows =
    cond (is_kept plan (full_pair plan (pair_of key row))) (insert_by by_key (full_pair plan (pair_of key row)) (filter (other_key key) rows)) (filter (other_key key) rows)

pub kept-changed : (plan : Plan) (ps : List Pair) (change : RowChange) → AreDistinct (keys_of_rows ps)
    → kept plan (changed ps change) ≡ kept_after plan change.key change.new (kept plan ps)
kept-changed plan ps change distinct = by change.new
  where
    by : (new : Option (List Cell)) → kept plan (changed ps (record change { new = new })) ≡ kept_after plan change.key new (kept plan ps)
    by None = ap (kept plan) (append-nil (without (same_cell change.key) ps)) ∙ kept-without plan ps change.key distinct
    by (Some row) =
        kept-put plan (without (same_cell change.key) ps) (pair_of change.key row)
        ∙ ap (λ rows. cond (is_kept plan (full_pair plan (pair_of change.key row))) (insert_by by_key (full_pair plan (pair_of change.key row)) rows) rows) (kept-without plan ps change.key distinct)

-- WHAT STANDS UNDER A ROW'S KEY AFTER A CHANGE: the new row where it is the change's key, and else what stood there
pub row_entry-changed : (s : Side) (change : RowChange) (key : Cell)
    → row_entry (changed_side s (change ∷ [])) key
    ≡ option_map (placed_row s.columns s.plan) (kept_at s.plan (option_map (pair_of key) (cond (same_cell change.key key) change.new (row_at s.pairs key))))
row_entry-changed s change key =
    ap (λ o. option_map (placed_row s.columns s.plan) (kept_at s.plan (option_map (pair_of key) o))) (row_at-changed s.pairs change key)
