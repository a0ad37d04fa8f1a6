-- What a check says of each row of a batch.
use Rattle.std.proofs.Common.{◌≡◌, ℕ, zero, suc, ◌+◌, ◌<◌, get_or, Bool, true, false, cond, ◌&&◌, List, [], ◌∷◌, length, replicate, All, Option, Some, None, refl, ap, arith, eq-eqb}
use Rattle.std.specs.List.{slice_get}
use Rattle.std.specs.Option.{option_or, option_map}
use Rattle.std.proofs.lemmas.List.Elements.{All-nil, All-cons, All-head, All-tail}
use Rattle.cell_core.specs.declared.cell.Cell.{Cell}
use Rattle.cell_core.specs.declared.cell.Cell.TheVariants.{Null, Bool as Truth, Int, Date, Moment, Words}
use Rattle.cell_core.specs.declared.cell.CellType.{CellType}
use Rattle.cell_core.specs.declared.schema.Column.{Column}
use Rattle.cell_core.specs.declared.schema.Keeping.{Keeping}
use Rattle.cell_core.specs.declared.schema.Keeping.TheVariants.{Indexed, Limited, Free}
use Rattle.cell_core.specs.Schemas.{SchemaData}
use Rattle.row_batch.specs.declared.batch.Batch.{Batch}
use Rattle.row_batch.specs.declared.batch.Batch.TheVariants as batch
use Rattle.row_batch.specs.declared.batch.PatchCell.{PatchCell}
use Rattle.row_batch.specs.declared.batch.PatchCell.TheVariants.{Keep, Set}
use Rattle.row_batch.specs.Batches.{patched_cell, patched, new_row, key_in}
use Rattle.row_batch.specs.Changes.{FitsColumns}
use Rattle.row_batch.specs.Checks.{cell_fault, set_fault, sets_nothing, is_null, is_key_column, without_key, refused, column_fault, patch_fault, patches_fault, HasWidth, IsChecked, IsCheckedPatch, patches_of}

-- ---- where no cause is

parts_of_none : {X : Type 0} (a b : Option X) → option_or a b ≡ None → (a ≡ None) × (b ≡ None)
parts_of_none None b h = (refl, h)
parts_of_none (Some x) b h = absurd (cc)

unmapped : {X Y : Type 0} (f : X → Y) (a : Option X) → option_map f a ≡ None → a ≡ None
unmapped f None h = refl
unmapped f (Some x) h = absurd (cc)

cond_none : {X : Type 0} (b : Bool) (x : X) (rest : Option X) → cond b (Some x) rest ≡ None → (b ≡ false) × (rest ≡ None)
cond_none true x rest h = absurd (cc)
cond_none false x rest h = (refl, h)

column_none : (keeping : Keeping) (row i : ℕ) (c : Column) (p : PatchCell) → column_fault keeping row i c p ≡ None
    → ((is_key_column keeping i && sets_nothing p) ≡ false) × (set_fault c.kind p ≡ None)
column_none keeping row i c p h =
    let both = cond_none (is_key_column keeping i && sets_nothing p) (without_key row) (option_map (λ why. refused why row i) (set_fault c.kind p)) h in
    (both.0, unmapped (λ why. refused why row i) (set_fault c.kind p) both.1)

-- ---- one patch

-- each cell that it sets fits its column
abbrev pub FitsPatch : List Column → List PatchCell → Type 0
FitsPatch [] patch = Unit {0}
FitsPatch (c ∷ cs) [] = Unit {0}
FitsPatch (c ∷ cs) (p ∷ ps) = (set_fault c.kind p ≡ None) × FitsPatch cs ps

-- it sets the index cell
abbrev pub SetsKey : Keeping → List PatchCell → Type 0
SetsKey (Indexed column) patch = sets_nothing (get_or patch column Keep) ≡ false
SetsKey (Limited slots) patch = Unit {0}
SetsKey Free patch = Unit {0}

pub fits_patch : (keeping : Keeping) (row i : ℕ) (cs : List Column) (ps : List PatchCell) → patch_fault keeping row i cs ps ≡ None → FitsPatch cs ps
fits_patch keeping row i [] ps h = tt
fits_patch keeping row i (c ∷ cs) [] h = tt
fits_patch keeping row i (c ∷ cs) (p ∷ ps) h =
    let both = parts_of_none (column_fault keeping row i c p) (patch_fault keeping row (i + 1) cs ps) h in
    ((column_none keeping row i c p both.0).1, fits_patch keeping row (i + 1) cs ps both.1)

and_false : (a b : Bool) → a ≡ true → (a && b) ≡ false → b ≡ false
and_false true b is h = h
and_false false b is h = absurd (cc)

key_set : (column row i : ℕ) (cs : List Column) (ps : List PatchCell) (j : ℕ) → i + j ≡ column → j < length cs → length ps ≡ length cs
    → patch_fault (Indexed column) row i cs ps ≡ None → sets_nothing (get_or ps j Keep) ≡ false
key_set column row i [] ps j at within width h = absurd (omega arith)
key_set column row i (c ∷ cs) [] j at within width h = absurd (omega arith)
key_set column row i (c ∷ cs) (p ∷ ps) zero at within width h =
    let both = parts_of_none (column_fault (Indexed column) row i c p) (patch_fault (Indexed column) row (i + 1) cs ps) h in
    let here : i ≡ column = omega arith in
    and_false (is_key_column (Indexed column) i) (sets_nothing p) (eq-eqb i column here) (column_none (Indexed column) row i c p both.0).0
key_set column row i (c ∷ cs) (p ∷ ps) (suc j) at within width h =
    let both = parts_of_none (column_fault (Indexed column) row i c p) (patch_fault (Indexed column) row (i + 1) cs ps) h in
    key_set column row (i + 1) cs ps j (omega arith) (omega arith) (omega arith) both.1

abbrev pub HasColumn : ℕ → Keeping → Type 0
HasColumn width (Indexed column) = column < width
HasColumn width (Limited slots) = Unit {0}
HasColumn width Free = Unit {0}

pub sets_key : (keeping : Keeping) (row : ℕ) (cs : List Column) (ps : List PatchCell) → HasColumn (length cs) keeping → length ps ≡ length cs
    → patch_fault keeping row 0 cs ps ≡ None → SetsKey keeping ps
sets_key (Indexed column) row cs ps within width h = key_set column row 0 cs ps column (omega arith) within width h
sets_key (Limited slots) row cs ps within width h = tt
sets_key Free row cs ps within width h = tt

-- ---- the rows that it makes

pub fits_length : (cs : List Column) (row : List Cell) → FitsColumns cs row → length row ≡ length cs
fits_length [] [] fits = refl
fits_length [] (x ∷ xs) fits = absurd fits
fits_length (c ∷ cs) [] fits = absurd fits
fits_length (c ∷ cs) (x ∷ xs) fits = ap suc (fits_length cs xs fits.1)

pub fits_nulls : (cs : List Column) → FitsColumns cs (replicate (length cs) Null)
fits_nulls [] = tt
fits_nulls (c ∷ cs) = (null_fits c.kind, fits_nulls cs)
  where
    null_fits : (kind : CellType) → cell_fault kind Null ≡ None
    null_fits kind = refl

cell_patched : (kind : CellType) (old : Cell) (p : PatchCell) → cell_fault kind old ≡ None → set_fault kind p ≡ None → cell_fault kind (patched_cell old p) ≡ None
cell_patched kind old Keep fits set = fits
cell_patched kind old (Set c) fits set = set

pub fits_patched : (cs : List Column) (row : List Cell) (ps : List PatchCell) → FitsColumns cs row → FitsPatch cs ps → FitsColumns cs (patched row ps)
fits_patched [] [] ps fits set = tt
fits_patched [] (x ∷ xs) ps fits set = absurd fits
fits_patched (c ∷ cs) [] ps fits set = absurd fits
fits_patched (c ∷ cs) (x ∷ xs) [] fits set = fits
fits_patched (c ∷ cs) (x ∷ xs) (p ∷ ps) fits set = (cell_patched c.kind x p fits.0 set.0, fits_patched cs xs ps fits.1 set.1)

pub fits_new : (cs : List Column) (ps : List PatchCell) → FitsPatch cs ps → FitsColumns cs (new_row (length cs) ps)
fits_new cs ps set = fits_patched cs (replicate (length cs) Null) ps (fits_nulls cs) set

-- ---- the key that it sets

set_cell : (p : PatchCell) (old : Cell) → sets_nothing p ≡ false → (patched_cell old p ≡ patched_cell Null p) × (is_null (patched_cell Null p) ≡ false)
set_cell Keep old h = absurd (cc)
set_cell (Set Null) old h = absurd (cc)
set_cell (Set (Truth b)) old h = (refl, refl)
set_cell (Set (Int n)) old h = (refl, refl)
set_cell (Set (Date d)) old h = (refl, refl)
set_cell (Set (Moment t)) old h = (refl, refl)
set_cell (Set (Words s)) old h = (refl, refl)

pub key_not_null : (column : ℕ) (ps : List PatchCell) → sets_nothing (get_or ps column Keep) ≡ false → is_null (key_in column ps) ≡ false
key_not_null column ps h = (set_cell (get_or ps column Keep) Null h).1

pub key_at : (row : List Cell) (ps : List PatchCell) (column : ℕ) → column < length row → sets_nothing (get_or ps column Keep) ≡ false
    → slice_get (patched row ps) column ≡ Some (key_in column ps)
key_at [] ps column within h = absurd (omega arith)
key_at (x ∷ xs) [] zero within h = absurd (cc)
key_at (x ∷ xs) [] (suc j) within h = absurd (cc)
key_at (x ∷ xs) (p ∷ ps) zero within h = ap (λ c. Some c) (set_cell p x h).0
key_at (x ∷ xs) (p ∷ ps) (suc j) within h = key_at xs ps j (omega arith) h

-- ---- each patch of a batch

each_patch : (schema : SchemaData) (row : ℕ) (patches : List (List PatchCell)) → All (HasWidth (length schema.columns)) patches → patches_fault schema row patches ≡ None
    → All (IsCheckedPatch schema) patches
each_patch schema row [] shaped h = All-nil (IsCheckedPatch schema)
each_patch schema row (patch ∷ patches) shaped h =
    let both = parts_of_none (patch_fault schema.keeping row 0 schema.columns patch) (patches_fault schema (row + 1) patches) h in
    let P = HasWidth (length schema.columns) in
    All-cons (IsCheckedPatch schema) patch patches (record { width = All-head P patch patches shaped; row = row; good = both.0 })
    (each_patch schema (row + 1) patches (All-tail P patch patches shaped) both.1)

pub checked_patches : (schema : SchemaData) (b : Batch) → IsChecked schema b → All (IsCheckedPatch schema) (patches_of b)
checked_patches schema (batch.Update patches) h = each_patch schema 0 patches h.shaped (cond_none _ _ (patches_fault schema 0 patches) h.good).1
checked_patches schema (batch.Remove keys) h = All-nil (IsCheckedPatch schema)
checked_patches schema batch.Clear h = All-nil (IsCheckedPatch schema)
checked_patches schema (batch.Replace patches) h = each_patch schema 0 patches h.shaped (cond_none _ _ (patches_fault schema 0 patches) h.good).1
