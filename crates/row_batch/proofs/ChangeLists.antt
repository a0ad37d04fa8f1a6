-- The changes that a batch makes lead to the rows after it.
use Rattle.std.proofs.Common.{◌≡◌, ◌≢◌, ℕ, suc, ◌+◌, ◌≤◌, Bool, true, false, cond, not, List, [], ◌∷◌, ◌++◌, length, fold, All, Option, Some, None, is_some, refl, sym, ap, ◌∙◌, subst, arith, length-append}
use Rattle.std.specs.List.{list_any}
use Rattle.std.specs.Map.{update}
use Rattle.std.specs.Option.{IfSome, option_map, option_to_list}
use Rattle.std.proofs.lemmas.Map.Entries.{All-lookup}
use Rattle.std.proofs.lemmas.List.{length-map}
use Rattle.std.proofs.lemmas.List.Elements.{All-nil, All-cons, All-head, All-tail, All-append, All-push, All-filter, All-map}
use Rattle.std.proofs.lemmas.List.Sorted.{length_permutation}
use Rattle.plain_data.specs.Distinct.{AreDistinct}
use Rattle.cell_core.specs.Cells.{same_cell}
use Rattle.cell_core.specs.Schemas.{SchemaData}
use Rattle.cell_core.specs.declared.cell.Cell.{Cell}
use Rattle.cell_core.specs.declared.schema.Column.{Column}
use Rattle.cell_core.specs.declared.schema.Keeping.{Keeping}
use Rattle.cell_core.specs.declared.schema.Keeping.TheVariants.{Indexed, Limited, Free}
use Rattle.row_batch.specs.declared.batch.PatchCell.{PatchCell}
use Rattle.row_batch.specs.declared.batch.Batch.{Batch}
use Rattle.row_batch.specs.declared.batch.Batch.TheVariants as batch
use Rattle.row_batch.specs.declared.batch.Pair.{Pair}
use Rattle.row_batch.specs.declared.change.RowChange.{RowChange}
use Rattle.row_batch.specs.Batches.{Store, empty_store, pair_of, without, put_patch, put_batch}
use Rattle.row_batch.specs.Changes.{entries_of, row_at, changed, changed_all, FitRows, FitsColumns, HasRowsOf, most_changes, AreChangesOf}
use Rattle.row_batch.specs.Checks.{IsChecked, IsCheckedPatch}
use Rattle.row_batch.specs.Steps.{key_of_step, row_of_step, number_of_step, patched_or_new, change_of_step, after_step, step_changes, removal, removals, clearing, changes_of}
use Rattle.row_batch.specs.Tables.{keys_of_rows, IsCounted}
use Rattle.row_batch.proofs.Checked.{FitsPatch, fits_patch, fits_patched, fits_new, checked_patches}
use Rattle.row_batch.proofs.Keys.{KeepsKeys, patch_keeps, batch_keeps, empty_is_counted, distinct_without, distinct_push, slot_is_free}
use Rattle.row_batch.proofs.Lookups.{SameRows, same_law, row_at-changed, row_at-without, append_none, absent_at, absent_keeps, pulled, permuted}
use Rattle.row_batch.proofs.Steps.{step_of, number_of, alike, SameStore}

-- ---- what a change keeps

distinct_by_new : (ps : List Pair) (key : Cell) (new : Option (List Cell)) → AreDistinct (keys_of_rows ps)
    → AreDistinct (keys_of_rows (without (same_cell key) ps ++ option_to_list (option_map (pair_of key) new)))
distinct_by_new ps key None distinct =
    subst (λ rows. AreDistinct (keys_of_rows rows)) (sym (append_none (without (same_cell key) ps))) (distinct_without (same_cell key) ps distinct)
distinct_by_new ps key (Some row) distinct =
    distinct_push key row (without (same_cell key) ps) (distinct_without (same_cell key) ps distinct) (slot_is_free key ps)

pub distinct_changed : (ps : List Pair) (change : RowChange) → AreDistinct (keys_of_rows ps) → AreDistinct (keys_of_rows (changed ps change))
distinct_changed ps change distinct = distinct_by_new ps change.key change.new distinct

pub distinct_changed_all : (ps : List Pair) (changes : List RowChange) → AreDistinct (keys_of_rows ps) → AreDistinct (keys_of_rows (changed_all ps changes))
distinct_changed_all ps [] distinct = distinct
distinct_changed_all ps (change ∷ changes) distinct = distinct_changed_all (changed ps change) changes (distinct_changed ps change distinct)

abbrev pub one_if : Bool → ℕ
one_if b = cond b 1 0

length_kept : (ps : List Pair) (key : Cell) (o : Option (List Cell)) → row_at ps key ≡ o → AreDistinct (keys_of_rows ps)
    → length (without (same_cell key) ps) + one_if (is_some o) ≡ length ps
length_kept ps key None is distinct = let same = ap length (absent_keeps ps key is) in omega (arith, same)
length_kept ps key (Some row) is distinct = let all = length_permutation ps _ (pulled ps key row distinct is) in omega (arith, all)

length_put : (key : Cell) (new : Option (List Cell)) → length (option_to_list (option_map (pair_of key) new)) ≡ one_if (is_some new)
length_put key None = refl
length_put key (Some row) = refl

-- how many rows there are after a change
pub length_changed : (ps : List Pair) (change : RowChange) → AreDistinct (keys_of_rows ps)
    → length (changed ps change) + one_if (is_some (row_at ps change.key)) ≡ length ps + one_if (is_some change.new)
length_changed ps change distinct =
    let kept = length_kept ps change.key (row_at ps change.key) refl distinct in
    let put = length_put change.key change.new in
    let both = length-append (without (same_cell change.key) ps) (option_to_list (option_map (pair_of change.key) change.new)) in
    omega (arith, kept, put, both)

pub changed_all-append : (ps : List Pair) (cs ds : List RowChange) → changed_all ps (cs ++ ds) ≡ changed_all (changed_all ps cs) ds
changed_all-append ps [] ds = refl
changed_all-append ps (c ∷ cs) ds = changed_all-append (changed ps c) cs ds

pub fit_push : (ps : List Pair) (cs : List RowChange) (c : RowChange) → FitRows ps cs → FitRows (changed_all ps cs) (c ∷ []) → FitRows ps (cs ++ c ∷ [])
fit_push ps [] c fit last = last
fit_push ps (d ∷ cs) c fit last = (fit.0, fit.1, fit.2, fit_push (changed ps d) cs c fit.3 last)

-- ---- updates

pub steps_lead : (keeping : Keeping) (width : ℕ) (s : Store) (patches : List (List PatchCell))
    → changed_all s.pairs (step_changes keeping width s patches) ≡ (fold (after_step keeping width) s patches).pairs
steps_lead keeping width s [] = refl
steps_lead keeping width s (patch ∷ patches) = steps_lead keeping width (after_step keeping width s patch) patches

after_same : (keeping : Keeping) (width : ℕ) (t s : Store) (patch : List PatchCell) → KeepsKeys keeping s → SameStore t s
    → SameStore (after_step keeping width t patch) (put_patch keeping width s patch)
after_same keeping width t s patch hs same =
    let row = row_of_step keeping width patch in
    let at : Cell → ℕ → Option (List Cell) = λ q n. let k = key_of_step keeping n patch in update same_cell (row_at t.pairs) k (Some (row (row_at t.pairs k))) q in (
      λ q. row_at-changed t.pairs (change_of_step keeping width t patch) q ∙ ap (at q) same.1
          ∙ alike (row_at t.pairs) (row_at s.pairs) same.0 row (key_of_step keeping s.number patch) q
          ∙ sym (step_of keeping width s patch hs q),
      ap (number_of_step keeping) same.1 ∙ sym (number_of keeping width s patch),
    )

pub steps_same : (keeping : Keeping) (width : ℕ) (t s : Store) (patches : List (List PatchCell)) → KeepsKeys keeping s → SameStore t s
    → SameStore (fold (after_step keeping width) t patches) (fold (put_patch keeping width) s patches)
steps_same keeping width t s [] hs same = same
steps_same keeping width t s (patch ∷ patches) hs same =
    steps_same keeping width (after_step keeping width t patch) (put_patch keeping width s patch) patches
    (patch_keeps keeping width s patch hs) (after_same keeping width t s patch hs same)

length_steps : (keeping : Keeping) (width : ℕ) (s : Store) (patches : List (List PatchCell)) → length (step_changes keeping width s patches) ≡ length patches
length_steps keeping width s [] = refl
length_steps keeping width s (patch ∷ patches) = ap suc (length_steps keeping width (after_step keeping width s patch) patches)

-- ---- rows that are removed

removed_rows : (ps : List Pair) (key : Cell) (o : Option (List Cell)) → row_at ps key ≡ o
    → changed_all ps (option_to_list (option_map (removal key) o)) ≡ without (same_cell key) ps
removed_rows ps key None is = sym (absent_keeps ps key is)
removed_rows ps key (Some row) is = append_none (without (same_cell key) ps)

pub removed_one : (ps : List Pair) (key : Cell) → changed_all ps (option_to_list (option_map (removal key) (row_at ps key))) ≡ without (same_cell key) ps
removed_one ps key = removed_rows ps key (row_at ps key) refl

any_step : (q key : Cell) (keys : List Cell) (rest : Option (List Cell)) (b : Bool) → same_cell key q ≡ b
    → cond (list_any (same_cell q) keys) None (cond (same_cell key q) None rest) ≡ cond (list_any (same_cell q) (key ∷ keys)) None rest
any_step q key keys rest true is =
    let asked : same_cell q key ≡ true = same_law.symm q key ∙ is in
    rw (is, asked) (nothing (list_any (same_cell q) keys))
  where
    nothing : (b : Bool) → (let none : Option (List Cell) = None in cond b none none ≡ none)
    nothing true = refl
    nothing false = refl
any_step q key keys rest false is =
    let asked : same_cell q key ≡ false = same_law.symm q key ∙ is in
    rw (is, asked) refl

pub removals_lead : (ps : List Pair) (keys : List Cell) (q : Cell)
    → row_at (changed_all ps (removals ps keys)) q ≡ cond (list_any (same_cell q) keys) None (row_at ps q)
removals_lead ps [] q = refl
removals_lead ps (key ∷ keys) q =
    let one = option_to_list (option_map (removal key) (row_at ps key)) in
    let more = removals (without (same_cell key) ps) keys in
    ap (λ rows. row_at rows q) (changed_all-append ps one more)
    ∙ ap (λ rows. row_at (changed_all rows more) q) (removed_one ps key)
    ∙ removals_lead (without (same_cell key) ps) keys q
    ∙ ap (λ r. cond (list_any (same_cell q) keys) None r) (row_at-without (same_cell key) ps q)
    ∙ any_step q key keys (row_at ps q) (same_cell key q) refl

length_option : {X Y : Type 0} (f : X → Y) (o : Option X) → length (option_to_list (option_map f o)) ≤ 1
length_option f None = omega arith
length_option f (Some x) = omega arith

length_removals : (ps : List Pair) (keys : List Cell) → length (removals ps keys) ≤ length keys
length_removals ps [] = omega arith
length_removals ps (key ∷ keys) =
    let one = length_option (removal key) (row_at ps key) in
    let more = length_removals (without (same_cell key) ps) keys in
    let both = length-append (option_to_list (option_map (removal key) (row_at ps key))) (removals (without (same_cell key) ps) keys) in
    omega (arith, one, more, both)

-- ---- and all rows

pub first_gone : (p : Pair) (ps : List Pair) → All (λ k. k ≢ p.key) (keys_of_rows ps) → changed (p ∷ ps) (removal p.key p.row) ≡ ps
first_gone p ps other =
    let mine : same_cell p.key p.key ≡ true = same_law.refl p.key in
    rw mine (append_none (without (same_cell p.key) ps) ∙ absent_keeps ps p.key (absent_at ps p.key other))

pub clearing_leads : (ps : List Pair) → AreDistinct (keys_of_rows ps) → changed_all ps (clearing ps) ≡ []
clearing_leads [] distinct = refl
clearing_leads (p ∷ ps) distinct = ap (λ rows. changed_all rows (clearing ps)) (first_gone p ps distinct.0) ∙ clearing_leads ps distinct.1

-- ---- a batch

pub changes_lead : (schema : SchemaData) (s : Store) (b : Batch) → AreDistinct (keys_of_rows s.pairs) → IsCounted schema.keeping s
    → SameRows (put_batch schema s b).pairs (changed_all s.pairs (changes_of schema s b))
changes_lead schema s (batch.Update patches) distinct counted q =
    let width = length schema.columns in
    let same = steps_same schema.keeping width s s patches (distinct, counted) (λ r. refl, refl) in
    sym (ap (λ rows. row_at rows q) (steps_lead schema.keeping width s patches) ∙ same.0 q)
changes_lead schema s (batch.Remove keys) distinct counted q =
    row_at-without (λ key. list_any (same_cell key) keys) s.pairs q ∙ sym (removals_lead s.pairs keys q)
changes_lead schema s batch.Clear distinct counted q = sym (ap (λ rows. row_at rows q) (clearing_leads s.pairs distinct))
changes_lead schema s (batch.Replace patches) distinct counted q =
    let width = length schema.columns in
    let steps = step_changes schema.keeping width empty_store patches in
    let same = steps_same schema.keeping width empty_store empty_store patches (tt, empty_is_counted schema.keeping) (λ r. refl, refl) in
    sym (ap (λ rows. row_at rows q) (changed_all-append s.pairs (clearing s.pairs) steps)
    ∙ ap (λ rows. row_at (changed_all rows steps) q) (clearing_leads s.pairs distinct)
    ∙ ap (λ rows. row_at rows q) (steps_lead schema.keeping width empty_store patches) ∙ same.0 q)

pub changes_few : (schema : SchemaData) (s : Store) (b : Batch) → length (changes_of schema s b) ≤ most_changes s b
changes_few schema s (batch.Update patches) = omega (arith, length_steps schema.keeping (length schema.columns) s patches)
changes_few schema s (batch.Remove keys) = length_removals s.pairs keys
changes_few schema s batch.Clear = omega (arith, length-map s.pairs (λ p. removal p.key p.row))
changes_few schema s (batch.Replace patches) =
    let steps = step_changes schema.keeping (length schema.columns) empty_store patches in
    let one = length-map s.pairs (λ p. removal p.key p.row) in
    let more = length_steps schema.keeping (length schema.columns) empty_store patches in
    let both = length-append (clearing s.pairs) steps in
    omega (arith, one, more, both)

-- ---- the rows of changes

abbrev pub RowFits : List Column → Pair → Type 0
RowFits cs p = FitsColumns cs p.row

pub row_fits : (cs : List Column) (ps : List Pair) → All (RowFits cs) ps → (q : Cell) → IfSome (row_at ps q) (FitsColumns cs)
row_fits cs ps all q = All-lookup (FitsColumns cs) (same_cell q) (entries_of ps) (All-map (λ e. FitsColumns cs e.1) (λ (p : Pair). (p.key, p.row)) ps all)

all_by_new : (cs : List Column) (ps : List Pair) (key : Cell) (new : Option (List Cell)) → All (RowFits cs) ps → IfSome new (FitsColumns cs)
    → All (RowFits cs) (without (same_cell key) ps ++ option_to_list (option_map (pair_of key) new))
all_by_new cs ps key None all fits =
    subst (All (RowFits cs)) (sym (append_none (without (same_cell key) ps))) (All-filter (λ (p : Pair). not (same_cell key p.key)) (RowFits cs) ps all)
all_by_new cs ps key (Some row) all fits =
    All-push (RowFits cs) (without (same_cell key) ps) (pair_of key row) (All-filter (λ (p : Pair). not (same_cell key p.key)) (RowFits cs) ps all) fits

all_changed : (cs : List Column) (ps : List Pair) (change : RowChange) → All (RowFits cs) ps → IfSome change.new (FitsColumns cs) → All (RowFits cs) (changed ps change)
all_changed cs ps change all fits = all_by_new cs ps change.key change.new all fits

patched_fits : (cs : List Column) (patch : List PatchCell) (old : Option (List Cell)) → FitsPatch cs patch → IfSome old (FitsColumns cs)
    → FitsColumns cs (patched_or_new (length cs) patch old)
patched_fits cs patch None set fits = fits_new cs patch set
patched_fits cs patch (Some old) set fits = fits_patched cs old patch fits set

pub step_fits : (keeping : Keeping) (cs : List Column) (patch : List PatchCell) (old : Option (List Cell)) → FitsPatch cs patch → IfSome old (FitsColumns cs)
    → FitsColumns cs (row_of_step keeping (length cs) patch old)
step_fits (Indexed column) cs patch old set fits = patched_fits cs patch old set fits
step_fits (Limited slots) cs patch old set fits = fits_new cs patch set
step_fits Free cs patch old set fits = fits_new cs patch set

steps_rows : (keeping : Keeping) (cs : List Column) (s : Store) (patches : List (List PatchCell)) → All (FitsPatch cs) patches → All (RowFits cs) s.pairs
    → All (HasRowsOf cs) (step_changes keeping (length cs) s patches)
steps_rows keeping cs s [] set all = All-nil (HasRowsOf cs)
steps_rows keeping cs s (patch ∷ patches) set all =
    let width = length cs in
    let change = change_of_step keeping width s patch in
    let old = row_fits cs s.pairs all change.key in
    let new = step_fits keeping cs patch (row_at s.pairs change.key) (All-head (FitsPatch cs) patch patches set) old in
    All-cons (HasRowsOf cs) change (step_changes keeping width (after_step keeping width s patch) patches) (old, new)
    (steps_rows keeping cs (after_step keeping width s patch) patches (All-tail (FitsPatch cs) patch patches set) (all_changed cs s.pairs change all new))

one_removed : (cs : List Column) (key : Cell) (o : Option (List Cell)) → IfSome o (FitsColumns cs) → All (HasRowsOf cs) (option_to_list (option_map (removal key) o))
one_removed cs key None fits = All-nil (HasRowsOf cs)
one_removed cs key (Some row) fits = All-cons (HasRowsOf cs) (removal key row) [] (fits, tt) (All-nil (HasRowsOf cs))

removals_rows : (cs : List Column) (ps : List Pair) (keys : List Cell) → All (RowFits cs) ps → All (HasRowsOf cs) (removals ps keys)
removals_rows cs ps [] all = All-nil (HasRowsOf cs)
removals_rows cs ps (key ∷ keys) all =
    All-append (HasRowsOf cs) (option_to_list (option_map (removal key) (row_at ps key))) (removals (without (same_cell key) ps) keys)
    (one_removed cs key (row_at ps key) (row_fits cs ps all key))
    (removals_rows cs (without (same_cell key) ps) keys (All-filter (λ (p : Pair). not (same_cell key p.key)) (RowFits cs) ps all))

clearing_rows : (cs : List Column) (ps : List Pair) → All (RowFits cs) ps → All (HasRowsOf cs) (clearing ps)
clearing_rows cs [] all = All-nil (HasRowsOf cs)
clearing_rows cs (p ∷ ps) all =
    All-cons (HasRowsOf cs) (removal p.key p.row) (clearing ps) (All-head (RowFits cs) p ps all, tt) (clearing_rows cs ps (All-tail (RowFits cs) p ps all))

all_fit : (schema : SchemaData) (patches : List (List PatchCell)) → All (IsCheckedPatch schema) patches → All (FitsPatch schema.columns) patches
all_fit schema [] h = All-nil (FitsPatch schema.columns)
all_fit schema (patch ∷ patches) h =
    let one = All-head (IsCheckedPatch schema) patch patches h in
    All-cons (FitsPatch schema.columns) patch patches (fits_patch schema.keeping one.row 0 schema.columns patch one.good)
    (all_fit schema patches (All-tail (IsCheckedPatch schema) patch patches h))

pub changes_rows : (schema : SchemaData) (s : Store) (b : Batch) → IsChecked schema b → All (RowFits schema.columns) s.pairs → All (HasRowsOf schema.columns) (changes_of schema s b)
changes_rows schema s (batch.Update patches) h all =
    steps_rows schema.keeping schema.columns s patches (all_fit schema patches (checked_patches schema (batch.Update patches) h)) all
changes_rows schema s (batch.Remove keys) h all = removals_rows schema.columns s.pairs keys all
changes_rows schema s batch.Clear h all = clearing_rows schema.columns s.pairs all
changes_rows schema s (batch.Replace patches) h all =
    let steps = step_changes schema.keeping (length schema.columns) empty_store patches in
    All-append (HasRowsOf schema.columns) (clearing s.pairs) steps (clearing_rows schema.columns s.pairs all)
    (steps_rows schema.keeping schema.columns empty_store patches (all_fit schema patches (checked_patches schema (batch.Replace patches) h)) (All-nil (RowFits schema.columns)))

-- the changes of a batch, where they never make too many rows
pub are_changes : (schema : SchemaData) (s : Store) (b : Batch) → IsChecked schema b → AreDistinct (keys_of_rows s.pairs) → IsCounted schema.keeping s
    → All (RowFits schema.columns) s.pairs → FitRows s.pairs (changes_of schema s b) → AreChangesOf schema s b (changes_of schema s b)
are_changes schema s b checked distinct counted all fit =
    let changes = changes_of schema s b in
    let after = batch_keeps schema s b distinct counted in
    record {
      fit = fit;
      lead = permuted (put_batch schema s b).pairs (changed_all s.pairs changes) after.0 (distinct_changed_all s.pairs changes distinct) (changes_lead schema s b distinct counted);
      few = changes_few schema s b;
      rows = changes_rows schema s b checked all;
    }
