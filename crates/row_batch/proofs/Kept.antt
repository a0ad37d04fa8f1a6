-- What every table keeps, it keeps through a batch.
use Rattle.std.proofs.Common.{◌≡◌, ℕ, ◌+◌, ◌<◌, ◌≤◌, ◌%◌, ◌^◌, pos, Bool, true, false, not, List, [], ◌∷◌, length, replicate, fold, All, refl, sym, subst, arith}
use Rattle.std.proofs.lemmas.List.{length-replicate}
use Rattle.std.specs.List.{list_any}
use Rattle.std.proofs.lemmas.List.Elements.{All-nil, All-cons, All-head, All-tail, All-push, All-filter, All-weaker, All-map}
use Rattle.std.proofs.lemmas.List.Sorted.{All-permutation, length_permutation}
use Rattle.cell_core.specs.Cells.{same_cell}
use Rattle.cell_core.specs.Schemas.{SchemaData, IsKeeping, IsSchema}
use Rattle.cell_core.specs.declared.cell.Cell.{Cell}
use Rattle.cell_core.specs.declared.cell.Cell.TheVariants.{Null, Int}
use Rattle.cell_core.specs.declared.schema.Column.{Column}
use Rattle.cell_core.specs.declared.schema.Keeping.{Keeping}
use Rattle.cell_core.specs.declared.schema.Keeping.TheVariants.{Indexed, Limited, Free}
use Rattle.row_batch.specs.declared.batch.PatchCell.{PatchCell}
use Rattle.row_batch.specs.declared.batch.Batch.{Batch}
use Rattle.row_batch.specs.declared.batch.Batch.TheVariants as batch
use Rattle.row_batch.specs.declared.batch.Pair.{Pair}
use Rattle.row_batch.specs.Batches.{Store, empty_store, patched, new_row, pair_of, put_at, key_in, without, put_patch, put_batch}
use Rattle.row_batch.specs.Changes.{FitsColumns, max_rows}
use Rattle.row_batch.specs.Checks.{IsChecked, IsCheckedPatch}
use Rattle.row_batch.specs.Tables.{IsNumberBelow, IsCounted, IsKeyOf, IsPairOf, IsTable, IsReordered}
use Rattle.row_batch.proofs.Checked.{FitsPatch, SetsKey, HasColumn, fits_patch, sets_key, fits_patched, fits_new, fits_length, key_at, key_not_null, checked_patches}
use Rattle.row_batch.proofs.Keys.{below_more, batch_keeps}
use Rattle.row_batch.proofs.Lookups.{same_decides}
use Rattle.row_batch.proofs.Steps.{distinct_reordered}

abbrev IsKept : List Column → Keeping → ℕ → Pair → Type 0
IsKept cs keeping number p = FitsColumns cs p.row × IsKeyOf keeping number p

-- ---- a row patched

put_step : (P : Pair → Type 0) (width : ℕ) (key : Cell) (patch : List PatchCell) (p : Pair) (ps : List Pair) (b : Bool) → same_cell p.key key ≡ b
    → ((row : List Cell) → P (pair_of key row) → P (pair_of key (patched row patch))) → All P (p ∷ ps) → All P (put_at width key patch ps)
    → All P (put_at width key patch (p ∷ ps))
put_step P width key patch p ps true is keeps all more =
    let here : p.key ≡ key = (same_decides p.key key).0 is in
    let old : P (pair_of key p.row) = subst (λ k. P (pair_of k p.row)) here (All-head P p ps all) in
    let new : P (pair_of p.key (patched p.row patch)) = subst (λ k. P (pair_of k (patched p.row patch))) (sym here) (keeps p.row old) in
    rw is (All-cons P (pair_of p.key (patched p.row patch)) ps new (All-tail P p ps all))
put_step P width key patch p ps false is keeps all more = rw is (All-cons P p (put_at width key patch ps) (All-head P p ps all) more)

all_put : (P : Pair → Type 0) (width : ℕ) (key : Cell) (patch : List PatchCell)
    → ((row : List Cell) → P (pair_of key row) → P (pair_of key (patched row patch))) → P (pair_of key (new_row width patch))
    → (ps : List Pair) → All P ps → All P (put_at width key patch ps)
all_put P width key patch keeps new [] all = All-cons P (pair_of key (new_row width patch)) [] new (All-nil P)
all_put P width key patch keeps new (p ∷ ps) all =
    put_step P width key patch p ps (same_cell p.key key) refl keeps all (all_put P width key patch keeps new ps (All-tail P p ps all))

-- ---- one patch

more_numbers : (cs : List Column) (n : ℕ) (p : Pair) → IsKept cs Free n p → IsKept cs Free (n + 1) p
more_numbers cs n p h = (h.0, below_more n p.key h.1)

patch_keeps_pairs : (cs : List Column) (keeping : Keeping) (s : Store) (patch : List PatchCell) → IsKeeping (length cs) keeping → FitsPatch cs patch → SetsKey keeping patch
    → All (IsKept cs keeping s.number) s.pairs
    → (let after = put_patch keeping (length cs) s patch in All (IsKept cs keeping after.number) after.pairs)
patch_keeps_pairs cs (Indexed column) s patch good set key all =
    let P = IsKept cs (Indexed column) s.number in
    let new_fits = fits_new cs patch set in
    let wide : length (replicate (length cs) Null) ≡ length cs = length-replicate (length cs) Null in
    let within : column < length (replicate (length cs) Null) = omega arith in
    let not_null = key_not_null column patch key in
    let new : P (pair_of (key_in column patch) (new_row (length cs) patch)) = (new_fits, (key_at (replicate (length cs) Null) patch column within key, not_null)) in
    all_put P (length cs) (key_in column patch) patch
    (λ row h. let long = fits_length cs row h.0 in let in_row : column < length row = omega arith in (fits_patched cs row patch h.0 set, (key_at row patch column in_row key, not_null)))
    new s.pairs all
patch_keeps_pairs cs (Limited slots) s patch good set key all =
    let P = IsKept cs (Limited slots) (s.number + 1) in
    let slot = Int (pos (s.number % slots)) in
    let some : 0 < slots = good.0 in
    let below : s.number % slots < slots = omega arith in
    All-push P (without (same_cell slot) s.pairs) (pair_of slot (new_row (length cs) patch))
    (All-filter (λ (p : Pair). not (same_cell slot p.key)) P s.pairs all) (fits_new cs patch set, below)
patch_keeps_pairs cs Free s patch good set key all =
    let P = IsKept cs Free (s.number + 1) in
    let last : s.number < s.number + 1 = omega arith in
    All-push P s.pairs (pair_of (Int (pos s.number)) (new_row (length cs) patch))
    (All-weaker (IsKept cs Free s.number) P (more_numbers cs s.number) s.pairs all) (fits_new cs patch set, last)

has_column : (width : ℕ) (keeping : Keeping) → IsKeeping width keeping → HasColumn width keeping
has_column width (Indexed column) good = good
has_column width (Limited slots) good = tt
has_column width Free good = tt

patches_keep_pairs : (schema : SchemaData) (s : Store) (patches : List (List PatchCell)) → IsSchema schema → All (IsCheckedPatch schema) patches
    → All (IsPairOf schema s.number) s.pairs
    → (let after = fold (put_patch schema.keeping (length schema.columns)) s patches in All (IsPairOf schema after.number) after.pairs)
patches_keep_pairs schema s [] good checked all = all
patches_keep_pairs schema s (patch ∷ patches) good checked all =
    let one = All-head (IsCheckedPatch schema) patch patches checked in
    let set = fits_patch schema.keeping one.row 0 schema.columns patch one.good in
    let key = sets_key schema.keeping one.row schema.columns patch (has_column (length schema.columns) schema.keeping good.keeping) one.width one.good in
    patches_keep_pairs schema (put_patch schema.keeping (length schema.columns) s patch) patches good (All-tail (IsCheckedPatch schema) patch patches checked)
    (patch_keeps_pairs schema.columns schema.keeping s patch good.keeping set key all)

-- ---- a batch

pub batch_keeps_pairs : (schema : SchemaData) (s : Store) (b : Batch) → IsSchema schema → IsChecked schema b → All (IsPairOf schema s.number) s.pairs
    → All (IsPairOf schema (put_batch schema s b).number) (put_batch schema s b).pairs
batch_keeps_pairs schema s (batch.Update patches) good checked all =
    patches_keep_pairs schema s patches good (checked_patches schema (batch.Update patches) checked) all
batch_keeps_pairs schema s (batch.Remove keys) good checked all =
    All-filter (λ (p : Pair). not (list_any (same_cell p.key) keys)) (IsPairOf schema s.number) s.pairs all
batch_keeps_pairs schema s batch.Clear good checked all = All-nil (IsPairOf schema 0)
batch_keeps_pairs schema s (batch.Replace patches) good checked all =
    patches_keep_pairs schema empty_store patches good (checked_patches schema (batch.Replace patches) checked) (All-nil (IsPairOf schema 0))

counted_by : (cs : List Column) (keeping : Keeping) (s : Store) → All (IsKept cs keeping s.number) s.pairs → IsCounted keeping s
counted_by cs (Indexed column) s all = tt
counted_by cs (Limited slots) s all = tt
counted_by cs Free s all =
    All-map (IsNumberBelow s.number) (λ (p : Pair). p.key) s.pairs
    (All-weaker (IsKept cs Free s.number) (λ (p : Pair). IsNumberBelow s.number p.key) (λ p h. h.1) s.pairs all)

pub counted_table : (schema : SchemaData) (s : Store) → All (IsPairOf schema s.number) s.pairs → IsCounted schema.keeping s
counted_table schema s all = counted_by schema.columns schema.keeping s all

pub table_reordered : (schema : SchemaData) (s t : Store) → IsReordered s t → IsTable schema s → IsTable schema t
table_reordered schema s t same table =
    let size = length_permutation s.pairs t.pairs same.pairs in
    record {
      distinct = distinct_reordered s.pairs t.pairs same.pairs table.distinct;
      few = omega (arith, size, table.few);
      counted = subst (λ n. n < 2 ^ 63) (sym same.number) table.counted;
      pairs = subst (λ n. All (IsPairOf schema n) t.pairs) (sym same.number) (All-permutation (IsPairOf schema s.number) s.pairs t.pairs same.pairs table.pairs);
    }

-- a batch that makes neither too many rows nor too great a number
pub batch_keeps_table : (schema : SchemaData) (s : Store) (b : Batch) → IsSchema schema → IsChecked schema b → IsTable schema s
    → length (put_batch schema s b).pairs ≤ max_rows → (put_batch schema s b).number < 2 ^ 63 → IsTable schema (put_batch schema s b)
batch_keeps_table schema s b good checked table few counted =
    record {
      distinct = (batch_keeps schema s b table.distinct (counted_table schema s table.pairs)).0;
      few = few;
      counted = counted;
      pairs = batch_keeps_pairs schema s b good checked table.pairs;
    }
