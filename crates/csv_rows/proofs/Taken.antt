-- Rows that were read are a batch that the table takes.
use Rattle.std.proofs.Common.{◌≡◌, ℕ, eqb, List, [], ◌∷◌, length, Bool, true, false, cond, Option, Some, None, Result, Ok, Err, IfOk, codes, refl, subst}
use Rattle.std.specs.Str.{bytes_eq}
use Rattle.std.specs.Str.Parse.{signed_digits_value}
use Rattle.csv.specs.Reading.{default_config, records, strip_bom}
use Rattle.cell_core.specs.Schemas.{SchemaData}
use Rattle.cell_core.specs.declared.cell.Cell.{Cell}
use Rattle.cell_core.specs.declared.cell.Cell.TheVariants as cell
use Rattle.cell_core.specs.declared.cell.CellType.{CellType}
use Rattle.cell_core.specs.declared.cell.CellType.TheVariants.{Integer, Boolean, Date, Moment, Words}
use Rattle.row_batch.specs.Checks.{cell_fault, set_fault, IsChecked}
use Rattle.row_batch.specs.declared.batch.Batch.TheVariants as batch
use Rattle.row_batch.specs.declared.batch.PatchCell.{PatchCell}
use Rattle.row_batch.specs.declared.batch.PatchCell.TheVariants.{Keep}
use Rattle.row_batch.specs.declared.refused.BatchRefused.{BatchRefused}
use Rattle.row_batch.specs.declared.refused.RowCause.{RowCause}
use Rattle.row_batch.specs.declared.refused.RowCause.TheVariants as cause
use Rattle.row_batch.specs.declared.refused.RowsRefused.{RowsRefused}
use Rattle.row_cells.specs.Rows.{of_whole, read_batch, unless_refused}
use Rattle.row_cells.proofs.CellFits.{Fits, integer_cell-fits, millis_cell-fits, date_cell-fits, moment_cell-fits, words_cell-fits}
use Rattle.row_cells.proofs.Checked.{SetFits, IsGoodPatch, read_patch-good, read_batch-checked, set_read-fits, unless_refused-ok}
use Rattle.csv_rows.specs.Reading.{is_number, integer_field, millis_field, typed_field, field_cell, patch_field, field_under, field_of, read_record, are_even, header_fault, read_records, read_csv}

-- ---- fields

null_fits : (kind : CellType) → Fits kind (Ok cell.Null)
null_fits Integer c h = let same : cell.Null ≡ c = cc in subst (λ x. cell_fault Integer x ≡ None) same refl
null_fits Boolean c h = let same : cell.Null ≡ c = cc in subst (λ x. cell_fault Boolean x ≡ None) same refl
null_fits Date c h = let same : cell.Null ≡ c = cc in subst (λ x. cell_fault Date x ≡ None) same refl
null_fits Moment c h = let same : cell.Null ≡ c = cc in subst (λ x. cell_fault Moment x ≡ None) same refl
null_fits Words c h = let same : cell.Null ≡ c = cc in subst (λ x. cell_fault Words x ≡ None) same refl

truth_fits : (b : Bool) → Fits Boolean (Ok (cell.Bool b))
truth_fits b c h = let same : cell.Bool b ≡ c = cc in subst (λ x. cell_fault Boolean x ≡ None) same refl

refused_fits : (kind : CellType) (why : RowCause) → Fits kind (Err why)
refused_fits kind why c h = cc

if_fits : (kind : CellType) (b : Bool) (r s : Result Cell RowCause) → Fits kind r → Fits kind s → Fits kind (cond b r s)
if_fits kind true r s h k = h
if_fits kind false r s h k = k

typed_field-fits : (kind : CellType) (s : List ℕ) → Fits kind (typed_field kind s)
typed_field-fits Integer s = if_fits Integer (is_number s) (integer_field s) (Err cause.BadType) (integer_cell-fits (signed_digits_value 10 s)) (refused_fits Integer cause.BadType)
typed_field-fits Boolean s =
    if_fits Boolean (bytes_eq s (codes "true")) (Ok (cell.Bool true)) (cond (bytes_eq s (codes "false")) (Ok (cell.Bool false)) (Err cause.BadType)) (truth_fits true)
    (if_fits Boolean (bytes_eq s (codes "false")) (Ok (cell.Bool false)) (Err cause.BadType) (truth_fits false) (refused_fits Boolean cause.BadType))
typed_field-fits Date s = date_cell-fits s
typed_field-fits Moment s = if_fits Moment (is_number s) (millis_field s) _ (millis_cell-fits (signed_digits_value 10 s)) (moment_cell-fits s)
typed_field-fits Words s = words_cell-fits s

field_cell-fits : (kind : CellType) (s : List ℕ) → Fits kind (field_cell kind s)
field_cell-fits kind s = if_fits kind (eqb (length s) 0) (Ok cell.Null) (typed_field kind s) (null_fits kind) (typed_field-fits kind s)

patch_field-fits : (kind : CellType) (o : Option (List ℕ)) → SetFits kind (patch_field kind o)
patch_field-fits kind None p h = let same : Keep ≡ p = cc in subst (λ x. set_fault kind x ≡ None) same refl
patch_field-fits kind (Some s) p h = set_read-fits kind (field_cell kind s) (field_cell-fits kind s) p h

-- ---- rows

record_good : (schema : SchemaData) (names : List (List ℕ)) (row : ℕ) (fields : List (List ℕ)) (patch : List PatchCell)
    → read_record schema names row fields ≡ Ok patch → IsGoodPatch schema row patch
record_good schema names row fields patch h =
    read_patch-good schema row (field_of names fields) (λ c. patch_field-fits c.kind (field_under names fields c.name)) patch h

if_ok : {X : Type 0} (b : Bool) (r : Result X BatchRefused) (why : BatchRefused) (x : X) → cond b r (Err why) ≡ Ok x → r ≡ Ok x
if_ok true r why x h = h
if_ok false r why x h = cc

records_taken : (schema : SchemaData) (rows : List (List (List ℕ))) (patches : List (List PatchCell)) → read_records schema rows ≡ Ok patches → IsChecked schema (batch.Update patches)
records_taken schema [] patches h = cc
records_taken schema (names ∷ rows) patches h =
    let whole = if_ok (are_even (length names) rows) (unless_refused (header_fault schema.columns names) (read_batch (read_record schema names) rows)) (of_whole cause.Csv) patches h in
    read_batch-checked schema (read_record schema names) (record_good schema names) rows patches
    (unless_refused-ok (header_fault schema.columns names) (read_batch (read_record schema names) rows) patches whole)

pub read_csv-checked : (schema : SchemaData) (text : List ℕ) (r : Result (List (List PatchCell)) RowsRefused)
    → IfOk r (λ patches. read_csv schema text ≡ Ok patches) → IfOk r (λ patches. IsChecked schema (batch.Update patches))
read_csv-checked schema text (Ok patches) h = records_taken schema (records default_config (strip_bom text)) patches h
read_csv-checked schema text (Err e) h = tt
