-- A batch that was read row by row, or key by key, is one that a table takes.
use Rattle.std.proofs.Common.{◌≡◌, ℕ, suc, ◌+◌, ltb, List, [], ◌∷◌, length, All, Bool, true, false, ◌&&◌, cond, Option, Some, None, Result, Ok, Err, refl, ap, subst}
use Rattle.std.proofs.lemmas.List.Elements.{All-nil, All-cons}
use Rattle.cell_core.specs.declared.cell.Cell.{Cell}
use Rattle.cell_core.specs.declared.cell.CellType.{CellType}
use Rattle.cell_core.specs.declared.schema.Column.{Column}
use Rattle.cell_core.specs.declared.schema.Keeping.{Keeping}
use Rattle.cell_core.specs.Schemas.{SchemaData}
use Rattle.row_batch.specs.Checks.{without_key, is_key_column, sets_nothing, set_fault, column_fault, patch_fault, patches_fault, is_null, key_fault, keys_fault, counted_fault, HasWidth, IsChecked}
use Rattle.row_batch.specs.declared.batch.Batch.TheVariants as batch
use Rattle.row_batch.specs.declared.batch.PatchCell.{PatchCell}
use Rattle.row_batch.specs.declared.batch.PatchCell.TheVariants.{Set}
use Rattle.row_batch.specs.declared.refused.BatchRefused.{BatchRefused}
use Rattle.row_batch.specs.declared.refused.RowCause.{RowCause}
use Rattle.row_cells.specs.Rows.{in_front, read_each, read_batch, too_many, placed, set_read, unless_refused, read_patch, placed_key}
use Rattle.row_cells.proofs.CellFits.{Fits}

-- what is in front of a list that was read
in_front-ok : {X E : Type 0} (r : Result X E) (rest : Result (List X) E) (all : List X) → in_front r rest ≡ Ok all
    → (x : X) × (xs : List X) × (r ≡ Ok x) × (rest ≡ Ok xs) × (x ∷ xs ≡ all)
in_front-ok (Err why) rest all h = cc
in_front-ok (Ok x) (Err why) all h = cc
in_front-ok (Ok x) (Ok xs) all h = (x, xs, refl, refl, cc)

pub unless-ok : {X E : Type 0} (b : Bool) (e : E) (r : Result X E) (x : X) → cond b (Err e) r ≡ Ok x → (b ≡ false) × (r ≡ Ok x)
unless-ok true e r x h = cc
unless-ok false e r x h = (refl, h)

-- ---- one row

abbrev pub SetFits : CellType → Result PatchCell RowCause → Type 0
SetFits kind r = (p : PatchCell) → r ≡ Ok p → set_fault kind p ≡ None

placed-good : (keeping : Keeping) (row i : ℕ) (c : Column) (r : Result PatchCell RowCause) (p : PatchCell) → SetFits c.kind r
    → placed keeping row i r ≡ Ok p → column_fault keeping row i c p ≡ None
placed-good keeping row i c (Err why) p fits h = cc
placed-good keeping row i c (Ok q) p fits h =
    let is = unless-ok (is_key_column keeping i && sets_nothing q) (without_key row) (Ok q) p h in
    let same : q ≡ p = cc in
    subst (λ x. column_fault keeping row i c x ≡ None) same (rw (is.0, fits q refl) refl)

patch_good : (keeping : Keeping) (row : ℕ) (read : Column → Result PatchCell RowCause) → ((c : Column) → SetFits c.kind (read c))
    → (i : ℕ) (columns : List Column) (patch : List PatchCell) → read_each (λ i c. placed keeping row i (read c)) i columns ≡ Ok patch
    → (length patch ≡ length columns) × (patch_fault keeping row i columns patch ≡ None)
patch_good keeping row read fits i [] patch h =
    let same : [] ≡ patch = cc in subst (λ x. (length x ≡ 0) × (patch_fault keeping row i [] x ≡ None)) same (refl, refl)
patch_good keeping row read fits i (c ∷ columns) patch h =
    let parts = in_front-ok (placed keeping row i (read c)) (read_each (λ i c. placed keeping row i (read c)) (i + 1) columns) patch h in
    let more = patch_good keeping row read fits (i + 1) columns parts.1 parts.3 in
    let here = placed-good keeping row i c (read c) parts.0 (fits c) parts.2 in
    subst (λ x. (length x ≡ suc (length columns)) × (patch_fault keeping row i (c ∷ columns) x ≡ None)) parts.4 (ap suc more.0, rw (here, more.1) refl)

-- a patch of the schema's width, with nothing to be said against it
pub record IsGoodPatch (schema : SchemaData) (row : ℕ) (patch : List PatchCell) : Type 0 where
  pub width : HasWidth (length schema.columns) patch
  pub good : patch_fault schema.keeping row 0 schema.columns patch ≡ None

pub read_patch-good : (schema : SchemaData) (row : ℕ) (read : Column → Result PatchCell RowCause) → ((c : Column) → SetFits c.kind (read c))
    → (patch : List PatchCell) → read_patch schema row read ≡ Ok patch → IsGoodPatch schema row patch
read_patch-good schema row read fits patch h =
    let parts = patch_good schema.keeping row read fits 0 schema.columns patch h in record { width = parts.0; good = parts.1 }

-- ---- rows

rows_good : {A : Type 0} (schema : SchemaData) (read : ℕ → A → Result (List PatchCell) BatchRefused)
    → ((row : ℕ) (a : A) (patch : List PatchCell) → read row a ≡ Ok patch → IsGoodPatch schema row patch)
    → (i : ℕ) (values : List A) (patches : List (List PatchCell)) → read_each read i values ≡ Ok patches
    → (length patches ≡ length values) × All (HasWidth (length schema.columns)) patches × (patches_fault schema i patches ≡ None)
rows_good schema read good i [] patches h =
    let same : [] ≡ patches = cc in
    subst (λ x. (length x ≡ 0) × All (HasWidth (length schema.columns)) x × (patches_fault schema i x ≡ None)) same (refl, All-nil (HasWidth (length schema.columns)), refl)
rows_good schema read good i (a ∷ values) patches h =
    let parts = in_front-ok (read i a) (read_each read (i + 1) values) patches h in
    let more = rows_good schema read good (i + 1) values parts.1 parts.3 in
    let here = good i a parts.0 parts.2 in
    subst (λ x. (length x ≡ suc (length values)) × All (HasWidth (length schema.columns)) x × (patches_fault schema i x ≡ None)) parts.4
    (ap suc more.0, All-cons (HasWidth (length schema.columns)) parts.0 parts.1 here.width more.1, rw (here.good, more.2) refl)

pub read_batch-checked : {A : Type 0} (schema : SchemaData) (read : ℕ → A → Result (List PatchCell) BatchRefused)
    → ((row : ℕ) (a : A) (patch : List PatchCell) → read row a ≡ Ok patch → IsGoodPatch schema row patch)
    → (values : List A) (patches : List (List PatchCell)) → read_batch read values ≡ Ok patches → IsChecked schema (batch.Update patches)
read_batch-checked schema read good values patches h =
    let few = unless-ok (ltb 1024 (length values)) (too_many (length values)) (read_each read 0 values) patches h in
    let parts = rows_good schema read good 0 values patches few.1 in
    record { shaped = parts.1; good = rw (parts.0, few.0, parts.2) refl }

-- ---- keys

placed_key-good : (kind : CellType) (row i : ℕ) (r : Result Cell RowCause) (key : Cell) → Fits kind r
    → placed_key row i r ≡ Ok key → key_fault (Some kind) row i key ≡ None
placed_key-good kind row i (Err why) key fits h = cc
placed_key-good kind row i (Ok c) key fits h =
    let is = unless-ok (is_null c) (without_key row) (Ok c) key h in
    let same : c ≡ key = cc in
    subst (λ x. key_fault (Some kind) row i x ≡ None) same (rw (is.0, fits c refl) refl)

pub keys_good : {A : Type 0} (kind : CellType) (i : ℕ) (read : A → Result Cell RowCause) → ((a : A) → Fits kind (read a))
    → (row : ℕ) (values : List A) (keys : List Cell) → read_each (λ row a. placed_key row i (read a)) row values ≡ Ok keys
    → (length keys ≡ length values) × (keys_fault (Some kind) i row keys ≡ None)
keys_good kind i read fits row [] keys h =
    let same : [] ≡ keys = cc in subst (λ x. (length x ≡ 0) × (keys_fault (Some kind) i row x ≡ None)) same (refl, refl)
keys_good kind i read fits row (a ∷ values) keys h =
    let parts = in_front-ok (placed_key row i (read a)) (read_each (λ row a. placed_key row i (read a)) (row + 1) values) keys h in
    let more = keys_good kind i read fits (row + 1) values parts.1 parts.3 in
    let here = placed_key-good kind row i (read a) parts.0 (fits a) parts.2 in
    subst (λ x. (length x ≡ suc (length values)) × (keys_fault (Some kind) i row x ≡ None)) parts.4 (ap suc more.0, rw (here, more.1) refl)

-- ---- cells that are set, and refusals of the whole

pub set_read-fits : (kind : CellType) (r : Result Cell RowCause) → Fits kind r → SetFits kind (set_read r)
set_read-fits kind (Err why) fits p h = cc
set_read-fits kind (Ok c) fits p h = let same : Set c ≡ p = cc in subst (λ x. set_fault kind x ≡ None) same (fits c refl)

pub unless_refused-ok : {X E : Type 0} (o : Option E) (r : Result X E) (x : X) → unless_refused o r ≡ Ok x → r ≡ Ok x
unless_refused-ok None r x h = h
unless_refused-ok (Some e) r x h = cc

pub length-read_each : {A X E : Type 0} (read : ℕ → A → Result X E) (i : ℕ) (values : List A) (xs : List X) → read_each read i values ≡ Ok xs → length xs ≡ length values
length-read_each read i [] xs h = let same : [] ≡ xs = cc in subst (λ x. length x ≡ 0) same refl
length-read_each read i (a ∷ values) xs h =
    let parts = in_front-ok (read i a) (read_each read (i + 1) values) xs h in
    subst (λ x. length x ≡ suc (length values)) parts.4 (ap suc (length-read_each read (i + 1) values parts.1 parts.3))

-- few keys, with nothing to be said against one
pub read_batch-keys : {A : Type 0} (kind : CellType) (i : ℕ) (read : A → Result Cell RowCause) → ((a : A) → Fits kind (read a))
    → (values : List A) (keys : List Cell) → read_batch (λ row a. placed_key row i (read a)) values ≡ Ok keys
    → counted_fault (length keys) (keys_fault (Some kind) i 0 keys) ≡ None
read_batch-keys kind i read fits values keys h =
    let few = unless-ok (ltb 1024 (length values)) (too_many (length values)) (read_each (λ row a. placed_key row i (read a)) 0 values) keys h in
    let parts = keys_good kind i read fits 0 values keys few.1 in
    rw (parts.0, few.0, parts.1) refl
