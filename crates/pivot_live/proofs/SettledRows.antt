-- Rows that were set right under the affected keys are the view's, and the keys that were noted are the touched ones.
use Rattle.std.proofs.Common.{◌≡◌, List, Option, cond, sym, ◌∙◌, ap}
use Rattle.std.specs.List.{IsDistinct}
use Rattle.std.specs.List.Sorted.{IsStrictlySortedBy}
use Rattle.std.specs.Map.{keys_of, lookup}
use Rattle.cell_core.specs.declared.cell.Cell.{Cell}
use Rattle.row_batch.specs.declared.change.RowChange.{RowChange}
use Rattle.table_core.specs.Tables.{TableData}
use Rattle.place_order.specs.declared.rank.Rank.{Rank}
use Rattle.view_types.specs.Keys.{key_order, same_key}
use Rattle.view_types.specs.declared.key.ViewKey.{ViewKey}
use Rattle.delta_core.specs.KeySets.{is_among}
use Rattle.delta_core.specs.Rows.{at_key}
use Rattle.delta_core.specs.declared.touched.Touch.{Touch}
use Rattle.view_spec.specs.Entries.{entry}
use Rattle.view_spec.specs.Touching.{key_of}
use Rattle.view_spec.specs.Views.{by_place, placed, Side}
use Rattle.view_spec.specs.declared.placed.PlacedRow.{PlacedRow}
use Rattle.view_spec.proofs.LiveLaws.{placed-unique}
use Rattle.view_spec.proofs.ViewLaws.{same_keys}
use Rattle.view_kept.specs.Steps.{side_at, touched_between}
use Rattle.pivot_live.specs.Affected.{stands_after, told_of}
use Rattle.pivot_live.specs.Stepping.{IsWalkedStep}
use Rattle.pivot_live.proofs.AfterSteps.{entry_after}
use Rattle.pivot_live.proofs.Sides.{keys_at}
use Rattle.pivot_live.proofs.ToldKeys.{keys_told}

module _ (s : Side) (changes : List RowChange) (table : TableData) (told : List (List Cell)) (before : List Cell → Option (List Rank)) (shown : List PlacedRow) (keys : List ViewKey)
    (h : IsWalkedStep s changes table told before shown keys) (was : ViewKey → Option PlacedRow) (stood : (k : ViewKey) → was k ≡ entry s k) where
  set_right : (k : ViewKey) → stands_after was keys shown k ≡ entry (side_at s table) k
  set_right k = ap (cond (is_among keys k) (at_key key_of k shown)) (stood k) ∙ sym (entry_after s changes table told before shown keys h k)

  -- THE ROWS: they ascend by place, and under each key stands what stands there after the step
  pub placed_after : (xs : List PlacedRow) → IsStrictlySortedBy by_place xs → IsDistinct same_keys xs → ((k : ViewKey) → at_key key_of k xs ≡ stands_after was keys shown k)
      → xs ≡ placed (side_at s table)
  placed_after xs up apart each = placed-unique (side_at s table) xs (keys_at s changes table h.step) up apart (λ k. each k ∙ set_right k)

  -- THE NOTED KEYS
  pub noted_after : (noted : List (ViewKey × Touch)) → IsStrictlySortedBy key_order (keys_of noted)
      → ((k : ViewKey) → lookup (same_key k) noted ≡ told_of (was k) (stands_after was keys shown k)) → noted ≡ touched_between s (side_at s table)
  noted_after noted up each =
      keys_told s (side_at s table) noted h.step.keys (keys_at s changes table h.step) up (λ k. each k ∙ (λ i. told_of (stood k i) (set_right k i)))
