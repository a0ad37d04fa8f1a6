-- Rows and keys that were read are a batch that the table takes.
use Rattle.std.proofs.Common.{◌≡◌, ℕ, List, [], ◌∷◌, length, Bool, true, false, Option, Some, None, Result, Ok, Err, IfOk, refl, sym, ap, ◌∙◌, subst, ltb, cond, option_map}
use Rattle.plain_data.specs.Faults.{first_fault}
use Rattle.cell_core.specs.Keepings.{IsIndexed}
use Rattle.cell_core.specs.RawData.{RawData, raw_null, raw_bool, raw_int, raw_words, raw_list, raw_map, RawMembers, get_raw}
use Rattle.cell_core.specs.Schemas.{SchemaData}
use Rattle.cell_core.specs.declared.cell.Cell.{Cell}
use Rattle.cell_core.specs.declared.cell.Cell.TheVariants as cell
use Rattle.cell_core.specs.declared.cell.CellType.{CellType}
use Rattle.cell_core.specs.declared.cell.CellType.TheVariants.{Integer, Boolean, Date, Moment, Words}
use Rattle.cell_core.specs.declared.schema.Keeping.{Keeping}
use Rattle.cell_core.specs.declared.schema.Keeping.TheVariants.{Indexed, Limited, Free}
use Rattle.row_batch.specs.Checks.{cell_fault, set_fault, kind_at, keys_fault, counted_fault, IsChecked}
use Rattle.row_batch.specs.declared.batch.Batch.TheVariants as batch
use Rattle.row_batch.specs.declared.batch.PatchCell.{PatchCell}
use Rattle.row_batch.specs.declared.batch.PatchCell.TheVariants.{Keep}
use Rattle.row_batch.specs.declared.refused.RowCause.TheVariants as cause
use Rattle.row_batch.specs.declared.refused.RowsRefused.{RowsRefused}
use Rattle.row_cells.specs.Rows.{of_row, read_each, read_batch, read_patch, too_many}
use Rattle.row_cells.proofs.CellFits.{Fits, integer_cell-fits, millis_cell-fits, date_cell-fits, moment_cell-fits, words_cell-fits}
use Rattle.row_cells.proofs.Checked.{SetFits, IsGoodPatch, read_patch-good, read_batch-checked, set_read-fits, unless_refused-ok, unless-ok, read_batch-keys}
use Rattle.json_rows.specs.Reading.{items_in, cell_of, patch_cell_of, member_of, names_columns, read_row, lists_faults, rows_across, row_count, read_rows, index_of, read_key, read_keys}

-- ---- cells

cell_of-fits : (kind : CellType) (d : RawData) → Fits kind (cell_of kind d)
cell_of-fits Integer raw_null c h = let same : cell.Null ≡ c = cc in subst (λ x. cell_fault Integer x ≡ None) same refl
cell_of-fits Boolean raw_null c h = let same : cell.Null ≡ c = cc in subst (λ x. cell_fault Boolean x ≡ None) same refl
cell_of-fits Date raw_null c h = let same : cell.Null ≡ c = cc in subst (λ x. cell_fault Date x ≡ None) same refl
cell_of-fits Moment raw_null c h = let same : cell.Null ≡ c = cc in subst (λ x. cell_fault Moment x ≡ None) same refl
cell_of-fits Words raw_null c h = let same : cell.Null ≡ c = cc in subst (λ x. cell_fault Words x ≡ None) same refl
cell_of-fits Integer (raw_int z) c h = integer_cell-fits z c h
cell_of-fits Boolean (raw_bool b) c h = let same : cell.Bool b ≡ c = cc in subst (λ x. cell_fault Boolean x ≡ None) same refl
cell_of-fits Date (raw_words s) c h = date_cell-fits s c h
cell_of-fits Moment (raw_int ms) c h = millis_cell-fits ms c h
cell_of-fits Moment (raw_words s) c h = moment_cell-fits s c h
cell_of-fits Words (raw_words s) c h = words_cell-fits s c h
cell_of-fits kind other c h = cc

patch_cell-fits : (kind : CellType) (o : Option RawData) → SetFits kind (patch_cell_of kind o)
patch_cell-fits kind None p h = let same : Keep ≡ p = cc in subst (λ x. set_fault kind x ≡ None) same refl
patch_cell-fits kind (Some d) p h = set_read-fits kind (cell_of kind d) (cell_of-fits kind d) p h

-- ---- rows

named_good : (schema : SchemaData) (row : ℕ) (ms : RawMembers) (b : Bool) (patch : List PatchCell)
    → cond b (read_patch schema row (member_of ms)) (Err (of_row cause.Unknown row)) ≡ Ok patch → IsGoodPatch schema row patch
named_good schema row ms true patch h = read_patch-good schema row (member_of ms) (λ c. patch_cell-fits c.kind (get_raw c.name ms)) patch h
named_good schema row ms false patch h = cc

row_good : (schema : SchemaData) (row : ℕ) (d : RawData) (patch : List PatchCell) → read_row schema row d ≡ Ok patch → IsGoodPatch schema row patch
row_good schema row (raw_map ms) patch h = named_good schema row ms (names_columns schema.columns ms) patch h
row_good schema row other patch h = cc

rows_taken : (schema : SchemaData) (d : RawData) (patches : List (List PatchCell)) → read_rows schema d ≡ Ok patches → IsChecked schema (batch.Update patches)
rows_taken schema (raw_list ds) patches h = read_batch-checked schema (read_row schema) (row_good schema) (items_in ds) patches h
rows_taken schema (raw_map ms) patches h =
    read_batch-checked schema (read_row schema) (row_good schema) (rows_across ms 0 (row_count ms)) patches
    (unless_refused-ok (first_fault (lists_faults schema.columns ms)) (read_batch (read_row schema) (rows_across ms 0 (row_count ms))) patches h)
rows_taken schema other patches h = cc

pub read_rows-checked : (schema : SchemaData) (d : RawData) (r : Result (List (List PatchCell)) RowsRefused)
    → IfOk r (λ patches. read_rows schema d ≡ Ok patches) → IfOk r (λ patches. IsChecked schema (batch.Update patches))
read_rows-checked schema d (Ok patches) h = rows_taken schema d patches h
read_rows-checked schema d (Err e) h = tt

-- ---- keys

no_keys : (ds : List RawData) (keys : List Cell) → read_each (read_key None) 0 ds ≡ Ok keys → [] ≡ keys
no_keys [] keys h = cc
no_keys (d ∷ ds) keys h = cc

by_kind : (column : ℕ) (o : Option CellType) (ds : List RawData) (keys : List Cell) → read_batch (read_key (option_map (λ kind. (column, kind)) o)) ds ≡ Ok keys
    → counted_fault (length keys) (keys_fault o column 0 keys) ≡ None
by_kind column (Some kind) ds keys h = read_batch-keys kind column (cell_of kind) (cell_of-fits kind) ds keys h
by_kind column None ds keys h =
    let few = unless-ok (ltb 1024 (length ds)) (too_many (length ds)) (read_each (read_key None) 0 ds) keys h in
    subst (λ x. counted_fault (length x) (keys_fault None column 0 x) ≡ None) (no_keys ds keys few.1) refl

by_keeping : (schema : SchemaData) (keeping : Keeping) → schema.keeping ≡ keeping → IsIndexed keeping → (ds : List RawData) (keys : List Cell)
    → read_batch (read_key (index_of schema)) ds ≡ Ok keys → IsChecked schema (batch.Remove keys)
by_keeping schema (Indexed column) is ix ds keys h =
    let index : index_of schema ≡ option_map (λ kind. (column, kind)) (kind_at schema.columns column) = rw is refl in
    let read = ap (λ o. read_batch (read_key o) ds) (sym index) ∙ h in
    record { shaped = rw is tt; good = rw is (by_kind column (kind_at schema.columns column) ds keys read) }
by_keeping schema (Limited slots) is ix ds keys h = absurd ix
by_keeping schema Free is ix ds keys h = absurd ix

keys_taken : (schema : SchemaData) → IsIndexed schema.keeping → (d : RawData) (keys : List Cell) → read_keys schema d ≡ Ok keys → IsChecked schema (batch.Remove keys)
keys_taken schema ix (raw_list ds) keys h = by_keeping schema schema.keeping refl ix (items_in ds) keys h
keys_taken schema ix other keys h = cc

pub read_keys-checked : (schema : SchemaData) (d : RawData) (r : Result (List Cell) RowsRefused) → IsIndexed schema.keeping
    → IfOk r (λ keys. read_keys schema d ≡ Ok keys) → IfOk r (λ keys. IsChecked schema (batch.Remove keys))
read_keys-checked schema d (Ok keys) ix h = keys_taken schema ix d keys h
read_keys-checked schema d (Err e) ix h = tt
