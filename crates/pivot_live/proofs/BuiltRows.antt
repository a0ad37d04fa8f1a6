-- A walk that takes each group for moved meets all that is shown, so what it met is the view.
use Rattle.std.proofs.Common.{◌≡◌, false, List, Option, None, sym, ap, ◌∙◌}
use Rattle.std.specs.Cmp.{both_ways}
use Rattle.std.specs.List.{IsDistinct}
use Rattle.std.specs.List.Sorted.{IsStrictlySortedBy}
use Rattle.cell_core.specs.declared.cell.Cell.{Cell}
use Rattle.place_order.specs.declared.rank.Rank.{Rank}
use Rattle.view_types.specs.declared.key.ViewKey.{ViewKey}
use Rattle.view_types.specs.declared.key.ViewKey.TheVariants.{Row, Group}
use Rattle.delta_core.specs.Rows.{at_key}
use Rattle.view_spec.specs.Columns.{is_flat}
use Rattle.view_spec.specs.Entries.{entry, where_it}
use Rattle.view_spec.specs.Kept.{kept}
use Rattle.view_spec.specs.Laws.{HasKeys}
use Rattle.view_spec.specs.Touching.{key_of}
use Rattle.view_spec.specs.Views.{Side, by_place, placed, placed_group}
use Rattle.view_spec.specs.declared.placed.PlacedRow.{PlacedRow}
use Rattle.view_spec.proofs.LiveLaws.{placed-unique}
use Rattle.view_spec.proofs.ViewLaws.{same_keys}
use Rattle.group_walk.specs.Walks.{AreMet}
use Rattle.pivot_live.proofs.MetGroups as walk
use Rattle.pivot_live.proofs.Sides.{group_at, no_row_at}

module _ (s : Side) (told : List (List Cell)) (before : List Cell → Option (List Rank)) (shown : List PlacedRow) (grouped : is_flat s.plan ≡ false)
    (met : AreMet s.columns s.plan s.opening (kept s.plan s.pairs) told before shown) (none : (q : List Cell) → before q ≡ None) where
  pub entry_met : (k : ViewKey) → at_key key_of k shown ≡ entry s k
  entry_met (Row key) = walk.no_met_row s.columns s.plan s.opening (kept s.plan s.pairs) told before shown met key ∙ sym (no_row_at s key grouped)
  entry_met (Group q) =
      walk.met_at s.columns s.plan s.opening (kept s.plan s.pairs) told before shown met q
      ∙ ap (λ b. where_it b (placed_group s.columns s.plan s.opening (kept s.plan s.pairs) q))
      (both_ways _ _ (walk.met_is_shown s.columns s.plan s.opening (kept s.plan s.pairs) told before shown met q) (walk.all_met s.columns s.plan s.opening (kept s.plan s.pairs) told before shown met none q))
      ∙ sym (group_at s q grouped)

  -- rows that ascend by place, with what was met under each key, are the view's
  pub placed_met : (xs : List PlacedRow) → HasKeys s → IsStrictlySortedBy by_place xs → IsDistinct same_keys xs → ((k : ViewKey) → at_key key_of k xs ≡ at_key key_of k shown) → xs ≡ placed s
  placed_met xs keys up apart each = placed-unique s xs keys up apart (λ k. each k ∙ entry_met k)
