-- From a draft to what is prepared, and from that to the rows.
use Rattle.std.proofs.Common.{◌≡◌, ℕ, ◌^◌, ◌<◌, ◌≤◌, List, [], ◌∷◌, ◌++◌, length, fold, Option, refl, sym, ap, ◌∙◌, subst, arith}
use Rattle.std.specs.Map.{lookup, keys_of}
use Rattle.std.specs.Option.{unwrap_or}
use Rattle.std.proofs.lemmas.List.Elements.{All-weaker}
use Rattle.std.proofs.lemmas.List.Sorted.{length_permutation}
use Rattle.plain_data.specs.Distinct.{AreDistinct}
use Rattle.cell_core.specs.declared.cell.Cell.{Cell}
use Rattle.cell_core.specs.declared.schema.Keeping.{Keeping}
use Rattle.cell_core.specs.Cells.{same_cell}
use Rattle.cell_core.specs.Schemas.{SchemaData, IsSchema}
use Rattle.row_batch.specs.declared.batch.Batch.{Batch}
use Rattle.row_batch.specs.declared.batch.Batch.TheVariants as batch
use Rattle.row_batch.specs.declared.batch.Pair.{Pair}
use Rattle.row_batch.specs.declared.batch.PatchCell.{PatchCell}
use Rattle.row_batch.specs.declared.change.RowChange.{RowChange}
use Rattle.row_batch.specs.Batches.{Store, empty_store, put_patch, put_batch}
use Rattle.row_batch.specs.Changes.{max_rows, row_at, changed_all, FitRows, AreChangesOf}
use Rattle.row_batch.specs.Checks.{IsChecked}
use Rattle.row_batch.specs.Steps.{after_step, step_changes, number_of_step, clearing, changes_of}
use Rattle.row_batch.specs.Tables.{IsPairOf, IsTable, IsReordered}
use Rattle.row_batch.proofs.ChangeLists as lists
use Rattle.row_batch.proofs.Kept.{counted_table, batch_keeps_table}
use Rattle.row_batch.proofs.Lookups.{permuted}
use Rattle.row_batch.proofs.Steps.{number_of}
use Rattle.table_core.specs.declared.draft.DraftedBatch.{DraftedBatch}
use Rattle.table_core.specs.Drafts.{drafted_store, IsDraftFor}
use Rattle.table_core.specs.Lookups.{pairs_of, puts_in, settled_row}
use Rattle.table_core.specs.Prepared.{IsPrepared}
use Rattle.table_core.specs.Tables.{TableData}
use Rattle.table_core.proofs.Entries.{row_at-pairs, keys_of-pairs}

-- ---- the running number

pub number_after : (keeping : Keeping) (width : ℕ) (t s : Store) (patches : List (List PatchCell)) → t.number ≡ s.number
    → (fold (after_step keeping width) t patches).number ≡ (fold (put_patch keeping width) s patches).number
number_after keeping width t s [] same = same
number_after keeping width t s (patch ∷ patches) same =
    number_after keeping width (after_step keeping width t patch) (put_patch keeping width s patch) patches
    (ap (number_of_step keeping) same ∙ sym (number_of keeping width s patch))

-- ---- a draft with no rows left

pub cleared_store : (rows : List Pair) (d : DraftedBatch) → IsDraftFor rows d → d.changes.items ≡ clearing rows → d.number ≡ 0 → drafted_store rows d ≡ empty_store
cleared_store rows d is changes number =
    let none : (drafted_store rows d).pairs ≡ [] = ap (changed_all rows) changes ∙ lists.clearing_leads rows is.distinct in
    rw (none, number) refl

-- ---- what is prepared

pub prepared : (t : TableData) (b : Batch) (d : DraftedBatch) → IsSchema t.schema → IsChecked t.schema b → IsTable t.schema t.store → IsDraftFor t.store.pairs d
    → d.changes.items ≡ changes_of t.schema t.store b → d.number ≡ (put_batch t.schema t.store b).number → puts_in d.finals.entries ≤ t.room
    → IsPrepared t b d.changes.items d.finals.entries d.number
prepared t b d good checked table is changes number room =
    let s = t.store in
    let counted = counted_table t.schema s table.pairs in
    let rows = All-weaker (IsPairOf t.schema s.number) (lists.RowFits t.schema.columns) (λ p h. h.0) s.pairs table.pairs in
    let made = lists.are_changes t.schema s b checked table.distinct counted rows (subst (FitRows s.pairs) changes is.fit) in
    let long = length_permutation (put_batch t.schema s b).pairs (changed_all s.pairs (changes_of t.schema s b)) made.lead in
    let same = ap (λ cs. length (changed_all s.pairs cs)) changes in
    let few : length (put_batch t.schema s b).pairs ≤ max_rows = omega (arith, long, same, is.size, is.few) in
    let below : (put_batch t.schema s b).number < 2 ^ 63 = subst (λ n. n < 2 ^ 63) number is.counted in
    record {
      changes = subst (AreChangesOf t.schema s b) (sym changes) made;
      kept = batch_keeps_table t.schema s b good checked table few below;
      rows = λ q. lists.changes_lead t.schema s b table.distinct counted q ∙ sym (ap (λ cs. row_at (changed_all s.pairs cs) q) changes) ∙ is.finals q;
      room = room;
      number = number;
    }

-- ---- the rows after it

pub applied : (t : TableData) (b : Batch) (cs : List RowChange) (finals : List (Cell × Option (List Cell))) (n : ℕ) (old new : List (Cell × List Cell))
    → IsPrepared t b cs finals n → t.store.pairs ≡ pairs_of old → AreDistinct (keys_of new) → ((q : Cell) → lookup (same_cell q) new ≡ settled_row finals old q)
    → IsReordered (put_batch t.schema t.store b) (record { pairs = pairs_of new; number = n })
applied t b cs finals n old new is was distinct rows =
    record {
      pairs = permuted (put_batch t.schema t.store b).pairs (pairs_of new) is.kept.distinct (subst AreDistinct (sym (keys_of-pairs new)) distinct)
          (λ q. is.rows q ∙ ap (λ ps. unwrap_or (lookup (same_cell q) finals) (row_at ps q)) was
          ∙ ap (unwrap_or (lookup (same_cell q) finals)) (row_at-pairs old q) ∙ sym (rows q) ∙ sym (row_at-pairs new q));
      number = is.number;
    }

-- ---- the batch of a draft

pub update_number : (schema : SchemaData) (s : Store) (b : Batch) (keeping : Keeping) (width : ℕ) (ps patches : List (List PatchCell)) → keeping ≡ schema.keeping → width ≡ length schema.columns
    → ps ≡ patches → b ≡ batch.Update patches → (fold (put_patch keeping width) s ps).number ≡ (put_batch schema s b).number
update_number schema s b keeping width ps patches ek ew ep eb = rw (ek, ew, ep, eb) refl

pub replace_number : (schema : SchemaData) (s : Store) (b : Batch) (keeping : Keeping) (width : ℕ) (ps patches : List (List PatchCell)) → keeping ≡ schema.keeping → width ≡ length schema.columns
    → ps ≡ patches → b ≡ batch.Replace patches → (fold (put_patch keeping width) empty_store ps).number ≡ (put_batch schema s b).number
replace_number schema s b keeping width ps patches ek ew ep eb = rw (ek, ew, ep, eb) refl

pub replace_changes : (schema : SchemaData) (s : Store) (b : Batch) (keeping : Keeping) (width : ℕ) (ps patches : List (List PatchCell)) → keeping ≡ schema.keeping → width ≡ length schema.columns
    → ps ≡ patches → b ≡ batch.Replace patches → clearing s.pairs ++ step_changes keeping width empty_store ps ≡ changes_of schema s b
replace_changes schema s b keeping width ps patches ek ew ep eb = rw (ek, ew, ep, eb) refl
