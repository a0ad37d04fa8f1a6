-- What a step touches of a header, and the steps that a table's batches are.
use Rattle.std.proofs.Common.{◌≡◌, Bool, List, refl, ◌∙◌, ap, subst}
use Rattle.std.specs.Prelude.{not}
use Rattle.std.specs.List.Sorted.{IsPermutation}
use Rattle.std.proofs.lemmas.List.Sorted.{IsPermutation-refl, IsPermutation-sym, IsPermutation-trans}
use Rattle.plain_data.specs.Distinct.{AreDistinct}
use Rattle.row_batch.specs.Batches.{Store, put_batch}
use Rattle.row_batch.specs.Changes.{AreChangesOf, FitRows, changed_all}
use Rattle.row_batch.specs.Tables.{IsReordered, keys_of_rows}
use Rattle.row_batch.specs.declared.batch.Batch.{Batch}
use Rattle.row_batch.specs.declared.batch.Pair.{Pair}
use Rattle.row_batch.specs.declared.change.RowChange.{RowChange}
use Rattle.table_core.specs.Tables.{IsStill, TableData}
use Rattle.plan_types.specs.declared.plan.Plan.{Plan}
use Rattle.view_types.specs.Same.{same_header}
use Rattle.view_types.specs.declared.shown.HeaderColumn.{HeaderColumn}
use Rattle.view_spec.specs.Openings.{Opening}
use Rattle.view_spec.specs.Touching.{head_touched}
use Rattle.view_spec.specs.Views.{Side, view}
use Rattle.view_kept.specs.Steps.{IsOfTable, IsStep, side_of}

pub header_between : (a b : Side) (was now : List HeaderColumn) (flag : Bool) → was ≡ (view a).header → now ≡ (view b).header → flag ≡ not (same_header was now) → flag ≡ head_touched a b
header_between a b was now flag first last made = made ∙ ap (λ h. not (same_header h now)) first ∙ ap (λ h. not (same_header (view a).header h)) last

pub batch_is_step : (plan : Plan) (opening : Opening) (was ready now : TableData) (batch : Batch) (changes : List RowChange) → AreDistinct (keys_of_rows was.store.pairs)
    → IsStill was ready → now.schema ≡ ready.schema → IsReordered (put_batch ready.schema ready.store batch) now.store → AreChangesOf ready.schema ready.store batch changes
    → IsStep (side_of plan opening was) changes now
batch_is_step plan opening was ready now batch changes distinct still schema moved made =
    let same : ready.store.pairs ≡ was.store.pairs = ap (λ (s : Store). s.pairs) still.store in
    record {
      keys = distinct;
      columns = ap (λ s. s.columns) (schema ∙ still.schema);
      fit = subst (λ (ps : List Pair). FitRows ps changes) same made.fit;
      lead = subst (λ (ps : List Pair). IsPermutation (changed_all ps changes) now.store.pairs) same
          (IsPermutation-trans (changed_all ready.store.pairs changes) (put_batch ready.schema ready.store batch).pairs now.store.pairs
          (IsPermutation-sym (put_batch ready.schema ready.store batch).pairs (changed_all ready.store.pairs changes) made.lead) moved.pairs);
    }

pub is_of_table : (plan : Plan) (opening : Opening) (table : TableData) → AreDistinct (keys_of_rows table.store.pairs) → IsOfTable (side_of plan opening table) table
is_of_table plan opening table distinct = record { keys = distinct; columns = refl; rows = IsPermutation-refl table.store.pairs }
