-- A list of values as it is seen, and what stands at a place of it.
use Rattle.std.proofs.Common.{◌≡◌, ℕ, zero, suc, List, [], ◌∷◌, length, map, Some, get_or, ◌<◌, ◌≤◌, Ok, Err, refl, sym, ap, ◌∙◌, arith}
use Rattle.std.proofs.lemmas.List.{length-map}
use Rattle.cell_core.specs.RawData.{RawData, raw_null, raw_list, RawItems, RawMembers}
use Rattle.cell_core.specs.RawViews.{raw_view, list_view, items_of, view_step, list_step, map_step}
use Rattle.cell_core.specs.declared.cell.Cell.TheVariants.{Null}
use Rattle.cell_core.specs.declared.cell.CellType.{CellType}
use Rattle.cell_core.specs.declared.cell.CellType.TheVariants.{Integer, Boolean, Date, Moment, Words}
use Rattle.cell_core.specs.declared.raw.Raw.{Raw}
use Rattle.cell_core.specs.declared.raw.Raw.TheVariants as raw
use Rattle.cell_core.specs.declared.raw.Raw.TheFolds.{fold-roll-Raw}
use Rattle.cell_core.specs.declared.raw.Raw.TheOpen.{Raw-F}
use Rattle.cell_core.specs.declared.raw.RawList.{RawList}
use Rattle.cell_core.specs.Schemas.{SchemaData}
use Rattle.cell_core.specs.declared.schema.Keeping.TheVariants.{Indexed}
use Rattle.row_batch.specs.Checks.{kind_at}
use Rattle.row_cells.specs.Rows.{too_many, read_each, read_batch}
use Rattle.row_cells.proofs.Fronts.{read_batch-many, read_batch-few}
use Rattle.json_rows.specs.Reading.{items_in, cell_of, list_len, value_at, read_row, read_rows, index_of, read_key, read_keys}

pub items_in-items_of : (ds : List RawData) → items_in (items_of ds) ≡ ds
items_in-items_of [] = refl
items_in-items_of (d ∷ ds) = ap (λ x. d ∷ x) (items_in-items_of ds)

raw_view-List : (v : RawList) → raw_view (raw.List v) ≡ raw_list (list_view v)
raw_view-List v = ap raw_view (sym (raw.rolls-List v)) ∙ fold-roll-Raw RawData RawItems RawMembers view_step list_step map_step (Raw-F.List v)

-- a value that is a list is seen as its items
pub raw_view-list : (r : Raw) (v : RawList) (xs : List Raw) → r ≡ raw.List v → items_of (map raw_view xs) ≡ list_view v
    → raw_view r ≡ raw_list (items_of (map raw_view xs))
raw_view-list r v xs is same = ap raw_view is ∙ raw_view-List v ∙ ap raw_list (sym same)

pub list_len-list : (r : Raw) (v : RawList) (xs : List Raw) → r ≡ raw.List v → items_of (map raw_view xs) ≡ list_view v → list_len (raw_view r) ≡ length xs
list_len-list r v xs is same =
    ap list_len (raw_view-list r v xs is same) ∙ ap length (items_in-items_of (map raw_view xs)) ∙ length-map xs raw_view

get-here : (xs : List Raw) (k : ℕ) (d : Raw) → k < length xs → get_or (map raw_view xs) k raw_null ≡ raw_view (get_or xs k d)
get-here [] k d h = absurd (omega arith)
get-here (x ∷ xs) zero d h = refl
get-here (x ∷ xs) (suc k) d h = let below : k < length xs = omega arith in get-here xs k d below

get-past : (xs : List Raw) (k : ℕ) → length xs ≤ k → get_or (map raw_view xs) k raw_null ≡ raw_null
get-past [] k h = refl
get-past (x ∷ xs) zero h = absurd (omega arith)
get-past (x ∷ xs) (suc k) h = let past : length xs ≤ k = omega arith in get-past xs k past

value_at-list : (r : Raw) (v : RawList) (xs : List Raw) (k : ℕ) → r ≡ raw.List v → items_of (map raw_view xs) ≡ list_view v
    → value_at k (raw_view r) ≡ get_or (map raw_view xs) k raw_null
value_at-list r v xs k is same =
    ap (value_at k) (raw_view-list r v xs is same) ∙ ap (λ ds. get_or ds k raw_null) (items_in-items_of (map raw_view xs))

-- what stands at a place of the list
pub value_at-here : (r : Raw) (v : RawList) (xs : List Raw) (k : ℕ) (x : Raw) → r ≡ raw.List v → items_of (map raw_view xs) ≡ list_view v
    → k < length xs → x ≡ get_or xs k x → value_at k (raw_view r) ≡ raw_view x
value_at-here r v xs k x is same h found = value_at-list r v xs k is same ∙ get-here xs k x h ∙ ap raw_view (sym found)

-- past its end there is null
pub value_at-past : (r : Raw) (v : RawList) (xs : List Raw) (k : ℕ) → r ≡ raw.List v → items_of (map raw_view xs) ≡ list_view v
    → length xs ≤ k → value_at k (raw_view r) ≡ raw_null
value_at-past r v xs k is same h = value_at-list r v xs k is same ∙ get-past xs k h

pub cell_of-null : (kind : CellType) → cell_of kind raw_null ≡ Ok Null
cell_of-null Integer = refl
cell_of-null Boolean = refl
cell_of-null Date = refl
cell_of-null Moment = refl
cell_of-null Words = refl

-- ---- rows and keys of a list

pub read_rows-list : (schema : SchemaData) (r : Raw) (v : RawList) (xs : List Raw) → r ≡ raw.List v → items_of (map raw_view xs) ≡ list_view v
    → read_rows schema (raw_view r) ≡ read_batch (read_row schema) (map raw_view xs)
read_rows-list schema r v xs is same =
    ap (read_rows schema) (raw_view-list r v xs is same) ∙ ap (read_batch (read_row schema)) (items_in-items_of (map raw_view xs))

read_keys-list : (schema : SchemaData) (r : Raw) (v : RawList) (xs : List Raw) → r ≡ raw.List v → items_of (map raw_view xs) ≡ list_view v
    → read_keys schema (raw_view r) ≡ read_batch (read_key (index_of schema)) (map raw_view xs)
read_keys-list schema r v xs is same =
    ap (read_keys schema) (raw_view-list r v xs is same) ∙ ap (read_batch (read_key (index_of schema))) (items_in-items_of (map raw_view xs))

pub read_keys-many : (schema : SchemaData) (r : Raw) (v : RawList) (xs : List Raw) → r ≡ raw.List v → items_of (map raw_view xs) ≡ list_view v
    → 1024 < length xs → read_keys schema (raw_view r) ≡ Err (too_many (length xs))
read_keys-many schema r v xs is same many =
    read_keys-list schema r v xs is same ∙ read_batch-many (read_key (index_of schema)) (map raw_view xs) (length xs) (length-map xs raw_view) many

index_of-indexed : (schema : SchemaData) (column : ℕ) (kind : CellType) → schema.keeping ≡ Indexed column → kind_at schema.columns column ≡ Some kind
    → index_of schema ≡ Some (column, kind)
index_of-indexed schema column kind e k = rw (e, k) refl

pub read_keys-few : (schema : SchemaData) (column : ℕ) (kind : CellType) (r : Raw) (v : RawList) (xs : List Raw) → schema.keeping ≡ Indexed column
    → kind_at schema.columns column ≡ Some kind → r ≡ raw.List v → items_of (map raw_view xs) ≡ list_view v → length xs ≤ 1024
    → read_keys schema (raw_view r) ≡ read_each (read_key (Some (column, kind))) 0 (map raw_view xs)
read_keys-few schema column kind r v xs e k is same few =
    read_keys-list schema r v xs is same ∙ read_batch-few (read_key (index_of schema)) (map raw_view xs) (length xs) (length-map xs raw_view) few
    ∙ ap (λ o. read_each (read_key o) 0 (map raw_view xs)) (index_of-indexed schema column kind e k)
