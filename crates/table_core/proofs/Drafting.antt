-- One more change of a draft.
use Rattle.std.proofs.Common.{◌≡◌, ℕ, zero, suc, ◌+◌, ◌^◌, ◌<◌, ◌≤◌, Bool, true, false, cond, ◌||◌, List, [], ◌∷◌, ◌++◌, length, take, drop, fold, Option, Some, None, is_some, IsTrue, refl, sym, ap, ◌∙◌, subst, arith, append_assoc}
use Rattle.std.specs.List.{slice_get}
use Rattle.std.specs.Map.{lookup, keys_of}
use Rattle.std.specs.Option.{unwrap_or, option_map, option_to_list}
use Rattle.std.proofs.lemmas.List.{length-map, map-append, take_more}
use Rattle.std.proofs.lemmas.Option.{slice_get-map, slice_get_within, get_or_from_slice_get}
use Rattle.plain_data.specs.Distinct.{AreDistinct}
use Rattle.cell_core.specs.declared.cell.Cell.{Cell}
use Rattle.cell_core.specs.Cells.{same_cell}
use Rattle.cell_core.specs.declared.schema.Keeping.{Keeping}
use Rattle.row_batch.specs.declared.batch.Pair.{Pair}
use Rattle.row_batch.specs.declared.batch.PatchCell.{PatchCell}
use Rattle.row_batch.specs.declared.change.RowChange.{RowChange}
use Rattle.row_batch.specs.Batches.{pair_of, without}
use Rattle.row_batch.specs.Changes.{max_rows, row_at, changed, changed_all, FitRows}
use Rattle.row_batch.specs.Steps.{key_of_step, row_of_step, change_of_step, after_step, step_changes, number_of_step, removal, removals, clearing}
use Rattle.row_batch.specs.Tables.{keys_of_rows}
use Rattle.row_batch.proofs.ChangeLists as lists
use Rattle.row_batch.proofs.Lookups.{row_at-changed, same_law}
use Rattle.table_core.specs.declared.draft.DraftedBatch.{DraftedBatch}
use Rattle.table_core.specs.Drafts.{drafted_store, change_at, IsDraftFor}
use Rattle.table_core.specs.Lookups.{pairs_of, ChangesKey, one_if}
use Rattle.table_core.proofs.Entries.{row_at-pairs, keys_of-pairs, drop_at}

-- ---- a change

pub size_changed : (rows : List Pair) (d : DraftedBatch) (key : Cell) (new : Option (List Cell)) → IsDraftFor rows d
    → length (changed (drafted_store rows d).pairs (change_at rows d key new)) + one_if (is_some (row_at (drafted_store rows d).pairs key)) ≡ d.size + one_if (is_some new)
size_changed rows d key new is =
    let distinct = lists.distinct_changed_all rows d.changes.items is.distinct in
    let after = lists.length_changed (drafted_store rows d).pairs (change_at rows d key new) distinct in
    omega (arith, after, is.size)

pub had_row : (rows : List Pair) (d : DraftedBatch) (key : Cell) → IsDraftFor rows d → one_if (is_some (row_at (drafted_store rows d).pairs key)) ≤ d.size
had_row rows d key is = let gone = size_changed rows d key None is in omega (arith, gone)

finals_case : (key q : Cell) (new : Option (List Cell)) (old rest : Option (List Cell)) (more : Option (Option (List Cell))) (b : Bool) → same_cell key q ≡ b
    → rest ≡ unwrap_or more old
    → cond (same_cell key q) new rest ≡ unwrap_or (cond (same_cell key q) (Some new) more) old
finals_case key q new old rest more true is h = rw is refl
finals_case key q new old rest more false is h = rw is h

pub next_draft : (rows : List Pair) (d e : DraftedBatch) (key : Cell) (new : Option (List Cell)) → IsDraftFor rows d
    → IsTrue (is_some (row_at (drafted_store rows d).pairs key) || is_some new)
    → e.changes.items ≡ d.changes.items ++ change_at rows d key new ∷ []
    → ChangesKey d.finals.entries key (Some new) e.finals.entries
    → e.size + one_if (is_some (row_at (drafted_store rows d).pairs key)) ≡ d.size + one_if (is_some new) → e.size ≤ max_rows → e.number ≡ d.number
    → IsDraftFor rows e
next_draft rows d e key new is some changes puts size few number =
    let change = change_at rows d key new in
    let lead : changed_all rows e.changes.items ≡ changed (drafted_store rows d).pairs change =
    ap (changed_all rows) changes ∙ lists.changed_all-append rows d.changes.items (change ∷ []) in
    let after = size_changed rows d key new is in
    let long : length (changed (drafted_store rows d).pairs change) ≤ max_rows = omega (arith, after, size, few) in
    let fit = lists.fit_push rows d.changes.items change is.fit (refl, some, long, tt) in
    record {
      distinct = is.distinct;
      fit = subst (FitRows rows) (sym changes) fit;
      finals = λ q.
          ap (λ ps. row_at ps q) lead ∙ row_at-changed (drafted_store rows d).pairs change q
          ∙ finals_case key q new (row_at rows q) (row_at (drafted_store rows d).pairs q) (lookup (same_cell q) d.finals.entries) (same_cell key q) refl (is.finals q)
          ∙ ap (λ m. unwrap_or m (row_at rows q)) (sym (puts q));
      size = (let same = ap length lead in omega (arith, after, size, same));
      few = few;
      counted = subst (λ n. n < 2 ^ 63) (sym number) is.counted;
    }

pub renumbered : (rows : List Pair) (d e : DraftedBatch) → IsDraftFor rows d → e.changes.items ≡ d.changes.items → e.finals.entries ≡ d.finals.entries → e.size ≡ d.size → e.number < 2 ^ 63
    → IsDraftFor rows e
renumbered rows d e is changes finals size counted =
    let same : (drafted_store rows e).pairs ≡ (drafted_store rows d).pairs = ap (changed_all rows) changes in
    record {
      distinct = is.distinct;
      fit = subst (FitRows rows) (sym changes) is.fit;
      finals = λ q. ap (λ ps. row_at ps q) same ∙ is.finals q ∙ ap (λ es. unwrap_or (lookup (same_cell q) es) (row_at rows q)) (sym finals);
      size = size ∙ is.size ∙ ap length (sym same);
      few = subst (λ n. n ≤ max_rows) (sym size) is.few;
      counted = counted;
    }

-- ---- the first draft

pub first_draft : (es : List (Cell × List Cell)) (d : DraftedBatch) → AreDistinct (keys_of es) → d.changes.items ≡ [] → d.finals.entries ≡ [] → d.size ≡ length es → d.size ≤ max_rows
    → d.number < 2 ^ 63 → IsDraftFor (pairs_of es) d
first_draft es d distinct changes finals size few counted =
    let rows = pairs_of es in
    let same : (drafted_store rows d).pairs ≡ rows = ap (changed_all rows) changes in
    record {
      distinct = subst AreDistinct (sym (keys_of-pairs es)) distinct;
      fit = subst (FitRows rows) (sym changes) tt;
      finals = λ q. ap (λ ps. row_at ps q) same ∙ ap (λ fs. unwrap_or (lookup (same_cell q) fs) (row_at rows q)) (sym finals);
      size = size ∙ sym (length-map es _) ∙ ap length (sym same);
      few = few;
      counted = counted;
    }

-- ---- what stands at a key

pub current_some : (es : List (Cell × List Cell)) (d : DraftedBatch) (key : Cell) (row : Option (List Cell)) → IsDraftFor (pairs_of es) d → lookup (same_cell key) d.finals.entries ≡ Some row
    → row_at (drafted_store (pairs_of es) d).pairs key ≡ row
current_some es d key row is found = is.finals key ∙ ap (λ m. unwrap_or m (row_at (pairs_of es) key)) found

pub current_none : (es : List (Cell × List Cell)) (d : DraftedBatch) (key : Cell) → IsDraftFor (pairs_of es) d → lookup (same_cell key) d.finals.entries ≡ None
    → row_at (drafted_store (pairs_of es) d).pairs key ≡ lookup (same_cell key) es
current_none es d key is found = is.finals key ∙ ap (λ m. unwrap_or m (row_at (pairs_of es) key)) found ∙ row_at-pairs es key

-- ---- updates

pub drafted_step : (rows : List Pair) (d e : DraftedBatch) (keeping : Keeping) (width : ℕ) (patch : List PatchCell)
    → e.changes.items ≡ d.changes.items ++ change_of_step keeping width (drafted_store rows d) patch ∷ [] → e.number ≡ number_of_step keeping d.number
    → drafted_store rows e ≡ after_step keeping width (drafted_store rows d) patch
drafted_step rows d e keeping width patch changes number =
    let change = change_of_step keeping width (drafted_store rows d) patch in
    let pairs : changed_all rows e.changes.items ≡ changed (drafted_store rows d).pairs change =
    ap (changed_all rows) changes ∙ lists.changed_all-append rows d.changes.items (change ∷ []) in
    rw (pairs, number) refl

-- ---- rows that are removed

pub drafted_removal : (rows : List Pair) (d e : DraftedBatch) (key : Cell)
    → e.changes.items ≡ d.changes.items ++ option_to_list (option_map (removal key) (row_at (drafted_store rows d).pairs key))
    → (drafted_store rows e).pairs ≡ without (same_cell key) (drafted_store rows d).pairs
drafted_removal rows d e key changes =
    let one = option_to_list (option_map (removal key) (row_at (drafted_store rows d).pairs key)) in
    ap (changed_all rows) changes ∙ lists.changed_all-append rows d.changes.items one ∙ lists.removed_one (drafted_store rows d).pairs key

-- ---- and all rows

pub clearing_take : (ps : List Pair) (i : ℕ) → AreDistinct (keys_of_rows ps) → changed_all ps (clearing (take i ps)) ≡ drop i ps
clearing_take [] zero distinct = refl
clearing_take [] (suc i) distinct = refl
clearing_take (p ∷ ps) zero distinct = refl
clearing_take (p ∷ ps) (suc i) distinct = ap (λ rows. changed_all rows (clearing (take i ps))) (lists.first_gone p ps distinct.0) ∙ clearing_take ps i distinct.1

place_of-pair : (es : List (Cell × List Cell)) (i : ℕ) (e : Cell × List Cell) → slice_get es i ≡ Some e → slice_get (pairs_of es) i ≡ Some (pair_of e.0 e.1)
place_of-pair es i e at = slice_get-map (λ (x : Cell × List Cell). pair_of x.0 x.1) es i ∙ ap (λ o. option_map (λ (x : Cell × List Cell). pair_of x.0 x.1) o) at

-- the next row stands where all before it are gone
pub clear_key : (es : List (Cell × List Cell)) (d : DraftedBatch) (i : ℕ) (e : Cell × List Cell) → IsDraftFor (pairs_of es) d → d.changes.items ≡ clearing (take i (pairs_of es))
    → slice_get es i ≡ Some e → row_at (drafted_store (pairs_of es) d).pairs e.0 ≡ Some e.1
clear_key es d i e is changes at =
    let rows = pairs_of es in
    let left : (drafted_store rows d).pairs ≡ pair_of e.0 e.1 ∷ drop (i + 1) rows =
    ap (changed_all rows) changes ∙ clearing_take rows i is.distinct ∙ drop_at rows i (pair_of e.0 e.1) (place_of-pair es i e at) in
    ap (λ ps. row_at ps e.0) left ∙ ap (λ b. cond b (Some e.1) (row_at (drop (i + 1) rows) e.0)) (same_law.refl e.0)

pub clear_more : (es : List (Cell × List Cell)) (d : DraftedBatch) (i : ℕ) (e : Cell × List Cell) → IsDraftFor (pairs_of es) d → d.changes.items ≡ clearing (take i (pairs_of es))
    → slice_get es i ≡ Some e → d.changes.items ++ change_at (pairs_of es) d e.0 None ∷ [] ≡ clearing (take (i + 1) (pairs_of es))
clear_more es d i e is changes at =
    let rows = pairs_of es in
    let pair = pair_of e.0 e.1 in
    let place = place_of-pair es i e at in
    let old = clear_key es d i e is changes at in
    let within = slice_get_within rows i pair place in
    let change : Option (List Cell) → RowChange = λ o. record { key = e.0; old = o; new = None } in
    let longer : take (i + 1) rows ≡ take i rows ++ pair ∷ [] = take_more rows i pair within ∙ ap (λ p. take i rows ++ p ∷ []) (get_or_from_slice_get rows i pair pair place) in
    ap (λ o. d.changes.items ++ change o ∷ []) old ∙ ap (λ cs. cs ++ removal e.0 e.1 ∷ []) changes
    ∙ sym (ap clearing longer ∙ map-append (λ (p : Pair). removal p.key p.row) (take i rows) (pair ∷ []))

-- ---- a patch

pub step_change : (rows : List Pair) (d : DraftedBatch) (keeping : Keeping) (width : ℕ) (patch : List PatchCell) (key : Cell) (row : List Cell)
    → key ≡ key_of_step keeping d.number patch → row ≡ row_of_step keeping width patch (row_at (drafted_store rows d).pairs key)
    → change_at rows d key (Some row) ≡ change_of_step keeping width (drafted_store rows d) patch
step_change rows d keeping width patch key row here new =
    ap (λ r. change_at rows d key (Some r)) new
    ∙ ap (λ k. change_at rows d k (Some (row_of_step keeping width patch (row_at (drafted_store rows d).pairs k)))) here

-- ---- one turn of a loop

pub steps_turn : (rows : List Pair) (d e : DraftedBatch) (keeping : Keeping) (width : ℕ) (patch : List PatchCell) (more all : List (List PatchCell)) (total : List RowChange)
    → all ≡ patch ∷ more
    → e.changes.items ≡ d.changes.items ++ change_of_step keeping width (drafted_store rows d) patch ∷ [] → e.number ≡ number_of_step keeping d.number
    → d.changes.items ++ step_changes keeping width (drafted_store rows d) all ≡ total
    → e.changes.items ++ step_changes keeping width (drafted_store rows e) more ≡ total
steps_turn rows d e keeping width patch more all total split changes number inv =
    let change = change_of_step keeping width (drafted_store rows d) patch in
    let after = drafted_step rows d e keeping width patch changes number in
    let whole = rw split at inv in
    rw (after, changes, append_assoc d.changes.items (change ∷ [])) whole

pub numbers_turn : (rows : List Pair) (d e : DraftedBatch) (keeping : Keeping) (width : ℕ) (patch : List PatchCell) (more all : List (List PatchCell)) (last : ℕ)
    → all ≡ patch ∷ more
    → e.changes.items ≡ d.changes.items ++ change_of_step keeping width (drafted_store rows d) patch ∷ [] → e.number ≡ number_of_step keeping d.number
    → (fold (after_step keeping width) (drafted_store rows d) all).number ≡ last → (fold (after_step keeping width) (drafted_store rows e) more).number ≡ last
numbers_turn rows d e keeping width patch more all last split changes number inv =
    let after = drafted_step rows d e keeping width patch changes number in
    let whole = rw split at inv in
    rw after whole

pub removals_turn : (rows : List Pair) (d e : DraftedBatch) (key : Cell) (more all : List Cell) (total : List RowChange) → all ≡ key ∷ more
    → e.changes.items ≡ d.changes.items ++ option_to_list (option_map (removal key) (row_at (drafted_store rows d).pairs key))
    → d.changes.items ++ removals (drafted_store rows d).pairs all ≡ total → e.changes.items ++ removals (drafted_store rows e).pairs more ≡ total
removals_turn rows d e key more all total split changes inv =
    let one = option_to_list (option_map (removal key) (row_at (drafted_store rows d).pairs key)) in
    let after = drafted_removal rows d e key changes in
    let whole = rw split at inv in
    rw (after, changes, append_assoc d.changes.items one) whole
