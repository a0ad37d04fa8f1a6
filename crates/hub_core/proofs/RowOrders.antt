-- What does not depend on the order of a table's rows.
use Rattle.std.proofs.Common.{◌≡◌, ◌+◌, ◌||◌, List, [], ◌∷◌, ◌++◌, fold, refl, sym, ap, ◌∙◌, subst, append_assoc, arith}
use Rattle.std.specs.Prelude.{if◌then◌else◌}
use Rattle.std.specs.List.{list_any}
use Rattle.std.specs.List.Sorted.{IsPermutation}
use Rattle.std.proofs.lemmas.List.{append-nil}
use Rattle.std.proofs.lemmas.List.Elements.{All-nil}
use Rattle.std.proofs.lemmas.List.Sorted.{IsPermutation-refl, IsPermutation-trans, IsPermutation-map, length_permutation, list_any-IsPermutation}
use Rattle.cell_core.specs.Cells.{same_cell}
use Rattle.cell_core.specs.Schemas.{SchemaData}
use Rattle.cell_core.specs.declared.cell.Cell.{Cell}
use Rattle.cell_core.specs.declared.schema.Keeping.{Keeping}
use Rattle.cell_core.specs.declared.schema.Keeping.TheVariants.{Indexed, Limited, Free}
use Rattle.plain_data.specs.Distinct.{AreDistinct}
use Rattle.row_batch.specs.Batches.{Store, empty_store, put_batch}
use Rattle.row_batch.specs.Tables.{keys_of_rows, IsNumberBelow, IsReordered}
use Rattle.row_batch.specs.declared.batch.Batch.{Batch}
use Rattle.row_batch.specs.declared.batch.Pair.{Pair}
use Rattle.row_batch.proofs.Keys.{KeepsKeys, batch_keeps}
use Rattle.row_batch.proofs.Steps.{distinct_reordered, order_does_not_matter}
use Rattle.hub_spec.specs.Past.{PastStep}
use Rattle.hub_spec.specs.Ports.{Applied, batches_applied}
use Rattle.hub_spec.specs.Room.{different, rows_of_all}
use Rattle.hub_spec.specs.Rows.{schema_or_none, put_applied, store}
use Rattle.table_core.specs.Tables.{TableData, IsStill}
use Rattle.hub_core.proofs.Rooms.{any-snoc, different-snoc, different-distinct}

-- ---- how many different keys there are

-- as many different ones, and the same ones
record AreAlike (xs ys : List Cell) : Type 0 where
  count : different xs ≡ different ys
  has : (k : Cell) → list_any (same_cell k) xs ≡ list_any (same_cell k) ys

alike_more : (xs ys : List Cell) (k : Cell) → AreAlike xs ys → AreAlike (xs ++ k ∷ []) (ys ++ k ∷ [])
alike_more xs ys k alike = record {
  count = different-snoc xs k
      ∙ ap (λ b. if b then different xs else different xs + 1) (alike.has k)
      ∙ ap (λ n. if list_any (same_cell k) ys then n else n + 1) alike.count
      ∙ sym (different-snoc ys k);
  has = λ q. any-snoc (same_cell q) xs k ∙ ap (λ b. b || same_cell q k) (alike.has q) ∙ sym (any-snoc (same_cell q) ys k);
}

alike_count : (xs ys ks : List Cell) → AreAlike xs ys → different (xs ++ ks) ≡ different (ys ++ ks)
alike_count xs ys [] alike = ap different (append-nil xs) ∙ alike.count ∙ sym (ap different (append-nil ys))
alike_count xs ys (k ∷ ks) alike =
    sym (ap different (append_assoc xs (k ∷ []) ks)) ∙ alike_count (xs ++ k ∷ []) (ys ++ k ∷ []) ks (alike_more xs ys k alike)
    ∙ ap different (append_assoc ys (k ∷ []) ks)

keys_alike : (xs ys : List Pair) → AreDistinct (keys_of_rows xs) → IsPermutation xs ys → AreAlike (keys_of_rows xs) (keys_of_rows ys)
keys_alike xs ys distinct moved =
    let keys : IsPermutation (keys_of_rows xs) (keys_of_rows ys) = IsPermutation-map (λ (p : Pair). p.key) xs ys moved in
    record {
      count = different-distinct (keys_of_rows xs) distinct
          ∙ sym (length_permutation (keys_of_rows xs) (keys_of_rows ys) keys)
          ∙ sym (different-distinct (keys_of_rows ys) (distinct_reordered xs ys moved distinct));
      has = λ k. list_any-IsPermutation (same_cell k) (keys_of_rows xs) (keys_of_rows ys) keys;
    }

pub rows_of_all-IsPermutation : (keeping : Keeping) (xs ys : List Pair) (bs : List Batch) → AreDistinct (keys_of_rows xs) → IsPermutation xs ys
    → rows_of_all keeping xs bs ≡ rows_of_all keeping ys bs
rows_of_all-IsPermutation (Indexed column) xs ys bs distinct moved =
    alike_count (keys_of_rows xs) (keys_of_rows ys) _ (keys_alike xs ys distinct moved)
rows_of_all-IsPermutation (Limited slots) xs ys bs distinct moved = refl
rows_of_all-IsPermutation Free xs ys bs distinct moved = let size = length_permutation xs ys moved in omega (arith, size)

-- ---- the rows of a history

none_keyed : (keeping : Keeping) → KeepsKeys keeping empty_store
none_keyed (Indexed column) = (tt, tt)
none_keyed (Limited slots) = (tt, tt)
none_keyed Free = (tt, All-nil (IsNumberBelow 0))

keyed : (schema : SchemaData) (s : Store) (done : List Applied) → KeepsKeys schema.keeping s → KeepsKeys schema.keeping (fold (put_applied schema) s done)
keyed schema s [] h = h
keyed schema s (a ∷ done) h = keyed schema (put_batch schema s a.batch) done (batch_keeps schema s a.batch h.0 h.1)

-- no key stands twice, and running numbers were given before
pub store_keyed : (past : List PastStep) → KeepsKeys (schema_or_none past).keeping (store past)
store_keyed past = keyed (schema_or_none past) empty_store (batches_applied past) (none_keyed (schema_or_none past).keeping)

-- ---- the same rows in another order

pub reordered : (s t : Store) → s ≡ t → IsReordered s t
reordered s t same = rw same (record { pairs = IsPermutation-refl t.pairs; number = refl })

-- the batch goes to the same rows in another order, and what it makes of them is put in another order again
pub reordered_more : (schema : SchemaData) (b : Batch) (s t u : Store) → KeepsKeys schema.keeping s → IsReordered s t → IsReordered (put_batch schema t b) u
    → IsReordered (put_batch schema s b) u
reordered_more schema b s t u keyed same put =
    let first = order_does_not_matter schema b s t keyed.0 keyed.1 same in
    record {
      pairs = IsPermutation-trans (put_batch schema s b).pairs (put_batch schema t b).pairs u.pairs first.pairs put.pairs;
      number = put.number ∙ first.number;
    }

-- what a batch makes of the rows at which it was prepared
pub put_still : (before now : TableData) (b prepared : Batch) (u : Store) → IsStill before now → prepared ≡ b → IsReordered (put_batch now.schema now.store prepared) u
    → IsReordered (put_batch before.schema before.store b) u
put_still before now b prepared u still same put =
    subst (λ s. IsReordered s u)
    (ap (λ schema. put_batch schema now.store prepared) still.schema ∙ ap (λ s. put_batch before.schema s prepared) still.store ∙ ap (put_batch before.schema before.store) same)
    put
