-- What a step makes of the table's schema, rows and version.
use Rattle.std.proofs.Common.{◌≡◌, ℕ, ◌+◌, List, [], ◌∷◌, ◌++◌, fold, Some, unwrap_or, refl, sym, ap, ◌∙◌, subst, length-append}
use Rattle.std.proofs.lemmas.List.Sums.{fold-append}
use Rattle.cell_core.specs.Schemas.{SchemaData}
use Rattle.row_batch.specs.Batches.{empty_store, put_batch}
use Rattle.row_batch.specs.Tables.{IsReordered}
use Rattle.row_batch.specs.declared.batch.Batch.{Batch}
use Rattle.row_batch.proofs.Keys.{KeepsKeys}
use Rattle.frame_types.specs.Asks.{Ask}
use Rattle.frame_types.specs.declared.reply.Body.TheVariants as body
use Rattle.hub_spec.specs.Past.{PastStep}
use Rattle.hub_spec.specs.Giving.{with_step}
use Rattle.hub_spec.specs.Ports.{Applied, waiting, taken_count, batches_applied, with_first}
use Rattle.hub_spec.specs.Rows.{no_schema, schema_or_none, put_applied, store}
use Rattle.table_core.specs.Tables.{IsStill, TableData}
use Rattle.hub_views.specs.Tables.{HoldsTable}
use Rattle.hub_core.proofs.RowOrders.{reordered_more, store_keyed}

-- where a batch waits, the oldest one is the one that is applied
first_of_waiting : (batches : List Batch) (batch : Batch) (rest : List Batch) (port seq : ℕ) (done : List Applied) → batches ≡ batch ∷ rest
    → with_first batches port seq done ≡ done ++ record { port = port; seq = seq; batch = batch } ∷ []
first_of_waiting batches batch rest port seq done e = rw e refl

put_first : (schema : SchemaData) (done : List Applied) (a : Applied)
    → fold (put_applied schema) empty_store (done ++ a ∷ []) ≡ put_batch schema (fold (put_applied schema) empty_store done) a.batch
put_first schema done a = fold-append (put_applied schema) empty_store done (a ∷ [])

pub applied_table : (before after : TableData) (number : ℕ) (past : List PastStep) (session : ℕ) (request : Ask) (n version port seq : ℕ) (batch : Batch) (rest : List Batch)
    → HoldsTable before number past → waiting past port ≡ batch ∷ rest
    → after.schema ≡ before.schema → IsReordered (put_batch before.schema before.store batch) after.store
    → HoldsTable after (number + 1) (with_step session request n version (body.Applied port seq) past)
applied_table before after number past session request n version port seq batch rest h first same put =
    let this : Applied = record { port = port; seq = taken_count past port + 1; batch = batch } in
    let now : List PastStep = with_step session request n version (body.Applied port seq) past in
    let done : with_first (waiting past port) port (taken_count past port + 1) (batches_applied past) ≡ batches_applied past ++ this ∷ [] =
    first_of_waiting (waiting past port) batch rest port (taken_count past port + 1) (batches_applied past) first in
    let made : schema_or_none past ≡ before.schema = ap (λ o. unwrap_or o no_schema) h.schema in
    let led : store now ≡ put_batch before.schema (store past) batch = rw (done, h.schema) (put_first before.schema (batches_applied past) this) in
    let keyed : KeepsKeys before.schema.keeping (store past) = subst (λ s. KeepsKeys s.keeping (store past)) made (store_keyed past) in
    record {
      schema = h.schema ∙ ap Some (sym same);
      rows = subst (λ s. IsReordered s after.store) (sym led) (reordered_more before.schema batch (store past) before.store after.store keyed h.rows put);
      number = rw done (ap (λ v. v + 1) h.number ∙ sym (length-append (batches_applied past) (this ∷ [])));
    }

-- the table stays that of the history where more room was made for its rows
pub still_table : (before now : TableData) (number : ℕ) (past : List PastStep) → IsStill before now → HoldsTable before number past → HoldsTable now number past
still_table before now number past still h = record {
  schema = h.schema ∙ ap Some (sym still.schema);
  rows = subst (IsReordered (store past)) (sym still.store) h.rows;
  number = h.number;
}
