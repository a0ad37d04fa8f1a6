-- What every batch keeps: no key stands twice, and running numbers are not given again.
use Rattle.std.proofs.Common.{◌≡◌, ◌≢◌, ℕ, ◌+◌, ◌<◌, ◌≤◌, ◌%◌, pos, negsuc, Bool, true, false, List, [], ◌∷◌, ◌++◌, length, fold, All, refl, sym, ap, ◌∙◌, subst, arith}
use Rattle.std.proofs.lemmas.Cmp.{tied_itself}
use Rattle.std.proofs.lemmas.List.{map-append}
use Rattle.std.proofs.lemmas.List.Elements.{All-nil, All-cons, All-head, All-tail, All-push, All-weaker}
use Rattle.std.specs.Ordering.{is_eq}
use Rattle.plain_data.specs.Distinct.{AreDistinct}
use Rattle.cell_core.proofs.CellOrder as order
use Rattle.cell_core.specs.Cells.{same_cell}
use Rattle.cell_core.specs.Schemas.{SchemaData}
use Rattle.cell_core.specs.declared.cell.Cell.{Cell}
use Rattle.cell_core.specs.declared.cell.Cell.TheVariants.{Null, Bool as Truth, Int, Date, Moment, Words}
use Rattle.cell_core.specs.declared.schema.Keeping.{Keeping}
use Rattle.cell_core.specs.declared.schema.Keeping.TheVariants.{Indexed, Limited, Free}
use Rattle.row_batch.specs.declared.batch.PatchCell.{PatchCell}
use Rattle.row_batch.specs.declared.batch.Batch.{Batch}
use Rattle.row_batch.specs.declared.batch.Batch.TheVariants as batch
use Rattle.row_batch.specs.declared.batch.Pair.{Pair}
use Rattle.row_batch.specs.Batches.{Store, empty_store, new_row, pair_of, put_at, without, key_in, put_patch, put_batch, rows_in}
use Rattle.row_batch.specs.Tables.{keys_of_rows, IsNumberBelow, IsCounted}

-- ---- cells that are told apart

different : (a b : Cell) → same_cell a b ≡ false → b ≢ a
different a b h e =
    let same : same_cell a a ≡ true = ap is_eq (tied_itself order.total a) in
    let other : same_cell a a ≡ false = ap (same_cell a) (sym e) ∙ h in
    let wrong : true ≡ false = sym same ∙ other in
    cc

-- ---- a row under its key

abbrev Row : Type 0
Row = List PatchCell

all_put_step : (P : Cell → Type 0) (width : ℕ) (key : Cell) (patch : Row) (p : Pair) (ps : List Pair) (b : Bool) → same_cell p.key key ≡ b
    → All P (keys_of_rows (p ∷ ps)) → All P (keys_of_rows (put_at width key patch ps)) → All P (keys_of_rows (put_at width key patch (p ∷ ps)))
all_put_step P width key patch p ps true is all more = rw is all
all_put_step P width key patch p ps false is all more = rw is (All-cons P p.key _ (All-head P p.key _ all) more)

all_put : (P : Cell → Type 0) (width : ℕ) (key : Cell) (patch : Row) (ps : List Pair) → P key → All P (keys_of_rows ps) → All P (keys_of_rows (put_at width key patch ps))
all_put P width key patch [] here all = All-cons P key [] here (All-nil P)
all_put P width key patch (p ∷ ps) here all =
    all_put_step P width key patch p ps (same_cell p.key key) refl all (all_put P width key patch ps here (All-tail P p.key _ all))

distinct_put_step : (width : ℕ) (key : Cell) (patch : Row) (p : Pair) (ps : List Pair) (b : Bool) → same_cell p.key key ≡ b
    → AreDistinct (keys_of_rows (p ∷ ps)) → AreDistinct (keys_of_rows (put_at width key patch ps)) → AreDistinct (keys_of_rows (put_at width key patch (p ∷ ps)))
distinct_put_step width key patch p ps true is distinct more = rw is distinct
distinct_put_step width key patch p ps false is distinct more =
    rw is (all_put (λ k. k ≢ p.key) width key patch ps (different p.key key is) distinct.0, more)

distinct_put : (width : ℕ) (key : Cell) (patch : Row) (ps : List Pair) → AreDistinct (keys_of_rows ps) → AreDistinct (keys_of_rows (put_at width key patch ps))
distinct_put width key patch [] distinct = (All-nil (λ k. k ≢ key), tt)
distinct_put width key patch (p ∷ ps) distinct =
    distinct_put_step width key patch p ps (same_cell p.key key) refl distinct (distinct_put width key patch ps distinct.1)

-- ---- rows that are dropped

all_without_step : (P : Cell → Type 0) (drops : Cell → Bool) (p : Pair) (ps : List Pair) (b : Bool) → drops p.key ≡ b → P p.key
    → All P (keys_of_rows (without drops ps)) → All P (keys_of_rows (without drops (p ∷ ps)))
all_without_step P drops p ps true is here more = rw is more
all_without_step P drops p ps false is here more = rw is (All-cons P p.key _ here more)

all_without : (P : Cell → Type 0) (drops : Cell → Bool) (ps : List Pair) → All P (keys_of_rows ps) → All P (keys_of_rows (without drops ps))
all_without P drops [] all = All-nil P
all_without P drops (p ∷ ps) all =
    all_without_step P drops p ps (drops p.key) refl (All-head P p.key _ all) (all_without P drops ps (All-tail P p.key _ all))

distinct_without_step : (drops : Cell → Bool) (p : Pair) (ps : List Pair) (b : Bool) → drops p.key ≡ b → All (λ k. k ≢ p.key) (keys_of_rows ps)
    → AreDistinct (keys_of_rows (without drops ps)) → AreDistinct (keys_of_rows (without drops (p ∷ ps)))
distinct_without_step drops p ps true is here more = rw is more
distinct_without_step drops p ps false is here more = rw is (all_without (λ k. k ≢ p.key) drops ps here, more)

pub distinct_without : (drops : Cell → Bool) (ps : List Pair) → AreDistinct (keys_of_rows ps) → AreDistinct (keys_of_rows (without drops ps))
distinct_without drops [] distinct = tt
distinct_without drops (p ∷ ps) distinct =
    distinct_without_step drops p ps (drops p.key) refl distinct.0 (distinct_without drops ps distinct.1)

slot_step : (slot : Cell) (p : Pair) (ps : List Pair) (b : Bool) → same_cell slot p.key ≡ b → All (λ k. k ≢ slot) (keys_of_rows (without (same_cell slot) ps))
    → All (λ k. k ≢ slot) (keys_of_rows (without (same_cell slot) (p ∷ ps)))
slot_step slot p ps true is more = rw is more
slot_step slot p ps false is more = rw is (All-cons (λ k. k ≢ slot) p.key _ (different slot p.key is) more)

pub slot_is_free : (slot : Cell) (ps : List Pair) → All (λ k. k ≢ slot) (keys_of_rows (without (same_cell slot) ps))
slot_is_free slot [] = All-nil (λ k. k ≢ slot)
slot_is_free slot (p ∷ ps) = slot_step slot p ps (same_cell slot p.key) refl (slot_is_free slot ps)

-- ---- a row at the end

all_push : (P : Cell → Type 0) (key : Cell) (row : List Cell) (ps : List Pair) → All P (keys_of_rows ps) → P key → All P (keys_of_rows (ps ++ pair_of key row ∷ []))
all_push P key row ps all here =
    subst (All P) (sym (map-append (λ (p : Pair). p.key) ps (pair_of key row ∷ []))) (All-push P (keys_of_rows ps) key all here)

pub distinct_push : (key : Cell) (row : List Cell) (ps : List Pair) → AreDistinct (keys_of_rows ps) → All (λ k. k ≢ key) (keys_of_rows ps) → AreDistinct (keys_of_rows (ps ++ pair_of key row ∷ []))
distinct_push key row [] distinct new = (All-nil (λ k. k ≢ key), tt)
distinct_push key row (p ∷ ps) distinct new =
    let here : p.key ≢ key = All-head (λ k. k ≢ key) p.key _ new in
    (all_push (λ k. k ≢ p.key) key row ps distinct.0 (λ e. here (sym e)), distinct_push key row ps distinct.1 (All-tail (λ k. k ≢ key) p.key _ new))

-- ---- running numbers

pub below_is_other : (n : ℕ) (key : Cell) → IsNumberBelow n key → key ≢ Int (pos n)
below_is_other n key below e = let wrong : n < n = subst (IsNumberBelow n) e below in omega arith

pub below_more : (n : ℕ) (key : Cell) → IsNumberBelow n key → IsNumberBelow (n + 1) key
below_more n Null below = below
below_more n (Truth b) below = below
below_more n (Int (pos k)) below = omega arith
below_more n (Int (negsuc k)) below = below
below_more n (Date d) below = below
below_more n (Moment t) below = below
below_more n (Words s) below = below

-- ---- a batch

abbrev pub KeepsKeys : Keeping → Store → Type 0
KeepsKeys keeping s = AreDistinct (keys_of_rows s.pairs) × IsCounted keeping s

pub patch_keeps : (keeping : Keeping) (width : ℕ) (s : Store) (patch : Row) → KeepsKeys keeping s → KeepsKeys keeping (put_patch keeping width s patch)
patch_keeps (Indexed column) width s patch h = (distinct_put width (key_in column patch) patch s.pairs h.0, tt)
patch_keeps (Limited slots) width s patch h =
    let slot = Int (pos (s.number % slots)) in
    (distinct_push slot (new_row width patch) (without (same_cell slot) s.pairs) (distinct_without (same_cell slot) s.pairs h.0) (slot_is_free slot s.pairs), tt)
patch_keeps Free width s patch h =
    let key = Int (pos s.number) in
    let new = All-weaker (IsNumberBelow s.number) (λ k. k ≢ key) (below_is_other s.number) (keys_of_rows s.pairs) h.1 in
    let more = All-weaker (IsNumberBelow s.number) (IsNumberBelow (s.number + 1)) (below_more s.number) (keys_of_rows s.pairs) h.1 in
    let last : IsNumberBelow (s.number + 1) key = omega arith in
    (distinct_push key (new_row width patch) s.pairs h.0 new, all_push (IsNumberBelow (s.number + 1)) key (new_row width patch) s.pairs more last)

patches_keep : (keeping : Keeping) (width : ℕ) (s : Store) (patches : List Row) → KeepsKeys keeping s → KeepsKeys keeping (fold (put_patch keeping width) s patches)
patches_keep keeping width s [] h = h
patches_keep keeping width s (patch ∷ patches) h =
    patches_keep keeping width (put_patch keeping width s patch) patches (patch_keeps keeping width s patch h)

pub empty_is_counted : (keeping : Keeping) → IsCounted keeping empty_store
empty_is_counted (Indexed column) = tt
empty_is_counted (Limited slots) = tt
empty_is_counted Free = All-nil (IsNumberBelow 0)

empty_keeps : (keeping : Keeping) → KeepsKeys keeping empty_store
empty_keeps keeping = (tt, empty_is_counted keeping)

removed_keeps : (keeping : Keeping) (drops : Cell → Bool) (s : Store) → KeepsKeys keeping s → KeepsKeys keeping (record s { pairs = without drops s.pairs })
removed_keeps (Indexed column) drops s h = (distinct_without drops s.pairs h.0, tt)
removed_keeps (Limited slots) drops s h = (distinct_without drops s.pairs h.0, tt)
removed_keeps Free drops s h = (distinct_without drops s.pairs h.0, all_without (IsNumberBelow s.number) drops s.pairs h.1)

pub batch_keeps : (schema : SchemaData) (s : Store) (b : Batch) → AreDistinct (keys_of_rows s.pairs) → IsCounted schema.keeping s → KeepsKeys schema.keeping (put_batch schema s b)
batch_keeps schema s (batch.Update patches) distinct counted = patches_keep schema.keeping (length schema.columns) s patches (distinct, counted)
batch_keeps schema s (batch.Remove keys) distinct counted = removed_keeps schema.keeping _ s (distinct, counted)
batch_keeps schema s batch.Clear distinct counted = empty_keeps schema.keeping
batch_keeps schema s (batch.Replace patches) distinct counted = patches_keep schema.keeping (length schema.columns) empty_store patches (empty_keeps schema.keeping)

-- ---- how far a batch counts

patch_counts : (keeping : Keeping) (width : ℕ) (s : Store) (patch : Row) → (put_patch keeping width s patch).number ≤ s.number + 1
patch_counts (Indexed column) width s patch = omega arith
patch_counts (Limited slots) width s patch = omega arith
patch_counts Free width s patch = omega arith

patches_count : (keeping : Keeping) (width : ℕ) (s : Store) (patches : List Row) → (fold (put_patch keeping width) s patches).number ≤ s.number + length patches
patches_count keeping width s [] = omega arith
patches_count keeping width s (patch ∷ patches) =
    omega (arith, patches_count keeping width (put_patch keeping width s patch) patches, patch_counts keeping width s patch)

pub batch_counts : (schema : SchemaData) (s : Store) (b : Batch) → (put_batch schema s b).number ≤ s.number + rows_in b
batch_counts schema s (batch.Update patches) = patches_count schema.keeping (length schema.columns) s patches
batch_counts schema s (batch.Remove keys) = omega arith
batch_counts schema s batch.Clear = omega arith
batch_counts schema s (batch.Replace patches) = omega (arith, patches_count schema.keeping (length schema.columns) empty_store patches)
