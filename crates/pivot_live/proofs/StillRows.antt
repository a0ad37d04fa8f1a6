-- Where no path is told the kept rows stay, and with them all that is shown; and the header, which the split paths tell.
use Rattle.std.proofs.Common.{◌≡◌, false, List, [], ◌∷◌, ◌++◌, map, filter, cond, refl, sym, ◌∙◌, ap}
use Rattle.std.specs.Prelude.{not}
use Rattle.plain_data.specs.Sorting.{sorted_by}
use Rattle.cell_core.specs.declared.cell.Cell.{Cell}
use Rattle.row_batch.specs.declared.batch.Pair.{Pair}
use Rattle.row_batch.specs.declared.change.RowChange.{RowChange}
use Rattle.table_core.specs.Tables.{TableData}
use Rattle.plan_types.specs.declared.plan.Plan.{Plan}
use Rattle.view_types.specs.Same.{same_header}
use Rattle.view_types.specs.declared.key.ViewKey.{ViewKey}
use Rattle.view_types.proofs.SameRows.{same_header_itself}
use Rattle.delta_core.specs.Deltas.{marked}
use Rattle.delta_core.specs.KeySets.{with_keys}
use Rattle.delta_core.specs.Rows.{at_key}
use Rattle.view_spec.specs.Cells.{header_of}
use Rattle.view_spec.specs.Kept.{kept}
use Rattle.view_spec.specs.Members.{members, splits}
use Rattle.view_spec.specs.Steps.{PassesGroup}
use Rattle.view_spec.specs.Touching.{head_touched, is_touched, key_of, touched_keys}
use Rattle.view_spec.specs.Views.{Side, by_place, entries, placed, view}
use Rattle.view_spec.specs.declared.placed.PlacedRow.{PlacedRow}
use Rattle.view_spec.proofs.LocalLaws.{same_found-itself}
use Rattle.view_kept.specs.Steps.{IsStep, side_at, touched_between}
use Rattle.group_walk.specs.Walks.{is_told}
use Rattle.pivot_live.proofs.Sides.{members_at}

-- ---- nothing touched

-- all rows are members of the total
all_members : (plan : Plan) (rows : List Pair) → members plan rows [] ≡ rows
all_members plan [] = refl
all_members plan (p ∷ rows) = ap (λ ps. p ∷ ps) (all_members plan rows)

none_touched : (ps : List PlacedRow) (ks : List ViewKey) → filter (is_touched ps ps) ks ≡ []
none_touched ps [] = refl
none_touched ps (k ∷ ks) =
    ap (λ b. cond b (k ∷ filter (is_touched ps ps) ks) (filter (is_touched ps ps) ks)) (ap not (same_found-itself (at_key key_of k ps))) ∙ none_touched ps ks

untouched_header : (a b : Side) → (view b).header ≡ (view a).header → head_touched a b ≡ false
untouched_header a b same = ap (λ h. not (same_header (view a).header h)) same ∙ ap not (same_header_itself (view a).header)

-- ---- the header after a step

module _ (s : Side) (changes : List RowChange) (table : TableData) (step : IsStep s changes table) where
  abbrev was : List Pair
  was = kept s.plan s.pairs

  abbrev now : List Pair
  now = kept s.plan table.store.pairs

  -- THE HEADER is told from the split paths
  pub header_after : (view (side_at s table)).header ≡ header_of s.columns s.plan (splits s.plan now)
  header_after = ap (λ columns. header_of columns s.plan (splits s.plan now)) step.columns

  pub head_touched_after : head_touched s (side_at s table) ≡ not (same_header (header_of s.columns s.plan (splits s.plan was)) (header_of s.columns s.plan (splits s.plan now)))
  head_touched_after = ap (λ head. not (same_header (view s).header head)) header_after

  -- it stays where they do
  pub header_stays : splits s.plan now ≡ splits s.plan was → (view (side_at s table)).header ≡ (view s).header
  header_stays same = header_after ∙ ap (header_of s.columns s.plan) same

  pub head_untouched : splits s.plan now ≡ splits s.plan was → head_touched s (side_at s table) ≡ false
  head_untouched same = untouched_header s (side_at s table) (header_stays same)

-- ---- no path is told

module _ (s : Side) (changes : List RowChange) (table : TableData) (step : IsStep s changes table) (told : List (List Cell)) (none : told ≡ [])
    (passes : (q : List Cell) → is_told told q ≡ false → PassesGroup s changes q) where
  pub kept_stays : kept s.plan table.store.pairs ≡ kept s.plan s.pairs
  kept_stays =
      sym (all_members s.plan (now s changes table step)) ∙ members_at s changes table step [] (passes [] (ap (λ (ps : List (List Cell)). is_told ps []) none)) ∙ all_members s.plan (was s changes table step)

  pub placed_stays : placed (side_at s table) ≡ placed s
  placed_stays = λ i. sorted_by by_place (entries (step.columns i) s.plan s.opening (kept_stays i))

  pub header_stays_still : (view (side_at s table)).header ≡ (view s).header
  header_stays_still = header_stays s changes table step (ap (splits s.plan) kept_stays)

  pub none_touched_between : touched_between s (side_at s table) ≡ []
  none_touched_between =
      ap (λ ps. marked (view s).rows (touched_keys (placed s) ps)) placed_stays
      ∙ ap (marked (view s).rows) (none_touched (placed s) (with_keys [] (map key_of (placed s) ++ map key_of (placed s))))

  pub head_untouched_still : head_touched s (side_at s table) ≡ false
  head_untouched_still = head_untouched s changes table step (ap (splits s.plan) kept_stays)
