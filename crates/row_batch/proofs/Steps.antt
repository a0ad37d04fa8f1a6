-- A batch taken patch by patch, at rows in any order.
use Rattle.std.proofs.Common.{◌≡◌, ◌≢◌, ℕ, ◌%◌, pos, Bool, true, false, cond, List, [], ◌∷◌, length, fold, All, Option, Some, None, refl, sym, ap, ◌∙◌, subst}
use Rattle.std.specs.List.{AllByRecursion, IsDistinct, list_any}
use Rattle.std.specs.List.Sorted.{IsPermutation}
use Rattle.std.specs.Map.{update}
use Rattle.std.proofs.lemmas.Map.Keys.{IsDistinct-IsPermutation}
use Rattle.std.proofs.lemmas.Map.Views.{All-map-IsPermutation}
use Rattle.std.proofs.lemmas.List.Elements.{All-nil, All-cons}
use Rattle.std.proofs.lemmas.List.Sorted.{IsPermutation-map}
use Rattle.plain_data.specs.Distinct.{AreDistinct}
use Rattle.cell_core.specs.Cells.{same_cell}
use Rattle.cell_core.specs.Schemas.{SchemaData}
use Rattle.cell_core.specs.declared.cell.Cell.{Cell}
use Rattle.cell_core.specs.declared.cell.Cell.TheVariants.{Int}
use Rattle.cell_core.specs.declared.schema.Keeping.{Keeping}
use Rattle.cell_core.specs.declared.schema.Keeping.TheVariants.{Indexed, Limited, Free}
use Rattle.row_batch.specs.declared.batch.PatchCell.{PatchCell}
use Rattle.row_batch.specs.declared.batch.Batch.{Batch}
use Rattle.row_batch.specs.declared.batch.Batch.TheVariants as batch
use Rattle.row_batch.specs.declared.batch.Pair.{Pair}
use Rattle.row_batch.specs.Batches.{Store, new_row, key_in, put_patch, put_batch}
use Rattle.row_batch.specs.Changes.{row_at}
use Rattle.row_batch.specs.Steps.{key_of_step, row_of_step, number_of_step}
use Rattle.row_batch.specs.Tables.{keys_of_rows, IsNumberBelow, IsCounted, IsReordered, OrderDoesNotMatter}
use Rattle.row_batch.proofs.Keys.{KeepsKeys, patch_keeps, batch_keeps}
use Rattle.row_batch.proofs.Lookups.{SameRows, same_law, same_decides, distinct_by, fresh, put_anew, row_at-append, row_at-put, row_at-without, permuted, same_from_permutation}

-- ---- a patch is one change of one key

pub step_of : (keeping : Keeping) (width : ℕ) (s : Store) (patch : List PatchCell) → KeepsKeys keeping s → (q : Cell)
    → row_at (put_patch keeping width s patch).pairs q
    ≡ update same_cell (row_at s.pairs) (key_of_step keeping s.number patch) (Some (row_of_step keeping width patch (row_at s.pairs (key_of_step keeping s.number patch)))) q
step_of (Indexed column) width s patch h q = row_at-put width (key_in column patch) patch s.pairs q
step_of (Limited slots) width s patch h q = put_anew s.pairs (Int (pos (s.number % slots))) (new_row width patch) q
step_of Free width s patch h q = row_at-append s.pairs (Int (pos s.number)) (new_row width patch) q (fresh s.number s.pairs h.1)

pub number_of : (keeping : Keeping) (width : ℕ) (s : Store) (patch : List PatchCell) → (put_patch keeping width s patch).number ≡ number_of_step keeping s.number
number_of (Indexed column) width s patch = refl
number_of (Limited slots) width s patch = refl
number_of Free width s patch = refl

-- ---- two stores with the same rows

pub alike : (f g : Cell → Option (List Cell)) → ((q : Cell) → f q ≡ g q) → (row : Option (List Cell) → List Cell) (k q : Cell)
    → update same_cell f k (Some (row (f k))) q ≡ update same_cell g k (Some (row (g k))) q
alike f g same row k q =
    ap (λ x. cond (same_cell k q) (Some (row x)) (f q)) (same k) ∙ ap (λ y. cond (same_cell k q) (Some (row (g k))) y) (same q)

step_same : (keeping : Keeping) (width : ℕ) (s t : Store) (patch : List PatchCell) → KeepsKeys keeping s → KeepsKeys keeping t → SameRows s.pairs t.pairs → s.number ≡ t.number
    → SameRows (put_patch keeping width s patch).pairs (put_patch keeping width t patch).pairs
step_same keeping width s t patch hs ht same number q =
    let row = row_of_step keeping width patch in
    let at : ℕ → Option (List Cell) = λ n. let k = key_of_step keeping n patch in update same_cell (row_at s.pairs) k (Some (row (row_at s.pairs k))) q in
    step_of keeping width s patch hs q ∙ ap at number
    ∙ alike (row_at s.pairs) (row_at t.pairs) same row (key_of_step keeping t.number patch) q
    ∙ sym (step_of keeping width t patch ht q)

abbrev pub SameStore : Store → Store → Type 0
SameStore s t = SameRows s.pairs t.pairs × (s.number ≡ t.number)

patches_same : (keeping : Keeping) (width : ℕ) (s t : Store) (patches : List (List PatchCell)) → KeepsKeys keeping s → KeepsKeys keeping t → SameStore s t
    → SameStore (fold (put_patch keeping width) s patches) (fold (put_patch keeping width) t patches)
patches_same keeping width s t [] hs ht same = same
patches_same keeping width s t (patch ∷ patches) hs ht same =
    patches_same keeping width (put_patch keeping width s patch) (put_patch keeping width t patch) patches
    (patch_keeps keeping width s patch hs) (patch_keeps keeping width t patch ht) (
      step_same keeping width s t patch hs ht same.0 same.1,
      number_of keeping width s patch ∙ ap (number_of_step keeping) same.1 ∙ sym (number_of keeping width t patch),
    )

pub batch_same : (schema : SchemaData) (s t : Store) (b : Batch) → KeepsKeys schema.keeping s → KeepsKeys schema.keeping t → SameStore s t
    → SameStore (put_batch schema s b) (put_batch schema t b)
batch_same schema s t (batch.Update patches) hs ht same = patches_same schema.keeping (length schema.columns) s t patches hs ht same
batch_same schema s t (batch.Remove keys) hs ht same =
    let drops : Cell → Bool = λ key. list_any (same_cell key) keys in
    (λ q. row_at-without drops s.pairs q ∙ ap (λ r. cond (drops q) None r) (same.0 q) ∙ sym (row_at-without drops t.pairs q), same.1)
batch_same schema s t batch.Clear hs ht same = (λ q. refl, refl)
batch_same schema s t (batch.Replace patches) hs ht same = (λ q. refl, refl)

-- ---- rows in another order

unlike : (x : Cell) (ys : List Cell) → AllByRecursion (λ y. same_cell x y ≡ false) ys → All (λ y. y ≢ x) ys
unlike x [] h = All-nil (λ y. y ≢ x)
unlike x (y ∷ ys) h =
    All-cons (λ z. z ≢ x) y ys (λ e. let same : same_cell x y ≡ true = (same_decides x y).1 (sym e) in let wrong : true ≡ false = sym same ∙ h.0 in cc) (unlike x ys h.1)

pub distinct_from : (ks : List Cell) → IsDistinct same_cell ks → AreDistinct ks
unfolding IsDistinct
distinct_from [] h = tt
distinct_from (k ∷ ks) h = (unlike k ks h.0, distinct_from ks h.1)

pub distinct_reordered : (a b : List Pair) → IsPermutation a b → AreDistinct (keys_of_rows a) → AreDistinct (keys_of_rows b)
distinct_reordered a b moved distinct =
    let keys = IsPermutation-map (λ (p : Pair). p.key) a b moved in
    distinct_from (keys_of_rows b) (IsDistinct-IsPermutation same_cell same_law.symm (keys_of_rows a) (keys_of_rows b) keys (distinct_by (keys_of_rows a) distinct))

counted_reordered : (keeping : Keeping) (s t : Store) → IsReordered s t → IsCounted keeping s → IsCounted keeping t
counted_reordered (Indexed column) s t same counted = tt
counted_reordered (Limited slots) s t same counted = tt
counted_reordered Free s t same counted =
    subst (λ n. All (IsNumberBelow n) (keys_of_rows t.pairs)) (sym same.number)
    (All-map-IsPermutation (λ (p : Pair). p.key) (IsNumberBelow s.number) s.pairs t.pairs same.pairs counted)

pub order_does_not_matter : (schema : SchemaData) (b : Batch) → OrderDoesNotMatter schema b
order_does_not_matter schema b s t distinct counted same =
    let dt = distinct_reordered s.pairs t.pairs same.pairs distinct in
    let ct = counted_reordered schema.keeping s t same counted in
    let rows = same_from_permutation s.pairs t.pairs distinct dt same.pairs in
    let after = batch_same schema s t b (distinct, counted) (dt, ct) (rows, sym same.number) in
    let ks = batch_keeps schema s b distinct counted in
    let kt = batch_keeps schema t b dt ct in
    record {
      pairs = permuted (put_batch schema s b).pairs (put_batch schema t b).pairs ks.0 kt.0 after.0;
      number = sym after.1;
    }
