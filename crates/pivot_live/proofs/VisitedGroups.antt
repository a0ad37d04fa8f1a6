-- A visited group with which no told path begins is one that the step touches.
use Rattle.std.proofs.Common.{◌≡◌, Bool, true, false, ◌&&◌, ◌||◌, List, [], ◌∷◌, ◌++◌, All, Option, Some, is_some, refl, sym, ◌∙◌, ap, subst}
use Rattle.std.specs.Prelude.{◌⊎◌, not, option_map}
use mathlib.Core.Logic.{inl, inr}
use Rattle.std.specs.List.{list_any}
use Rattle.std.specs.Ordering.{is_eq}
use Rattle.std.proofs.lemmas.Bool.{and_parts, or_right}
use Rattle.std.proofs.lemmas.Cmp.{tied_itself}
use Rattle.std.proofs.lemmas.List.Sorted.{All-permutation, IsPermutation-sym}
use Rattle.plain_data.specs.Lists.{is_empty}
use Rattle.cell_core.specs.declared.cell.Cell.{Cell}
use Rattle.row_batch.specs.Changes.{FitsColumns, changed_all}
use Rattle.row_batch.specs.declared.batch.Pair.{Pair}
use Rattle.row_batch.specs.declared.change.RowChange.{RowChange}
use Rattle.expr_spec.specs.TreeViews.{tree_view}
use Rattle.expr_spec.specs.Typing.{IsCheckedTree}
use Rattle.table_core.specs.Tables.{TableData}
use Rattle.place_order.specs.PlaceLaws.{place_order-total}
use Rattle.place_order.specs.declared.rank.Rank.{Rank}
use Rattle.view_types.specs.declared.key.ViewKey.TheVariants.{Group}
use Rattle.delta_core.specs.KeySets.{is_among}
use Rattle.view_spec.specs.Columns.{is_flat}
use Rattle.view_spec.specs.Entries.{entry, where_it}
use Rattle.view_spec.specs.Kept.{kept}
use Rattle.view_spec.specs.Laws.{IsTyped}
use Rattle.view_spec.specs.Members.{splits}
use Rattle.view_spec.specs.Openings.{is_visible}
use Rattle.view_spec.specs.Paths.{same_path}
use Rattle.view_spec.specs.Places.{place_of_group}
use Rattle.view_spec.specs.Steps.{PassesGroup, changed_side}
use Rattle.view_spec.specs.Touching.{is_touched, same_found, touched}
use Rattle.view_spec.specs.Views.{Side, placed, placed_group}
use Rattle.view_spec.specs.declared.placed.PlacedRow.{PlacedRow}
use Rattle.view_spec.proofs.NewSplitLaws.{splits-reach}
use Rattle.view_spec.proofs.StepLaws.{among_touched_keys}
use Rattle.view_spec.proofs.TouchLaws.{same_placed-exact}
use Rattle.view_kept.specs.Steps.{IsStep, side_at}
use Rattle.group_walk.specs.Walks.{above, is_moved, is_place, is_shown_path, is_told, may_visit}
use Rattle.pivot_live.specs.Stepping.{KnowsPlaces, ReachesAll}
use Rattle.pivot_live.proofs.Differences.{some_flips, splits-ascend}
use Rattle.pivot_live.proofs.Paths.{by_longer, not_both, place_above, shown_below}
use Rattle.pivot_live.proofs.Sides.{group_after, group_at, kept_at, keys_at, placed_at, ranks_at, there_at}
use Rattle.pivot_live.proofs.ToldKeys.{touched_at}

above_longer : (q : List Cell) (c : Cell) → above (q ++ c ∷ []) ≡ q
above_longer [] c = refl
above_longer (d ∷ []) c = refl
above_longer (d ∷ e ∷ q) c = ap (λ r. d ∷ r) (above_longer (e ∷ q) c)

module _ (s : Side) (changes : List RowChange) (table : TableData) (grouped : is_flat s.plan ≡ false) (step : IsStep s changes table) where
  abbrev was : List Pair
  was = kept s.plan s.pairs

  abbrev now : List Pair
  now = kept s.plan table.store.pairs

  abbrev is_shown : List Cell → Bool
  is_shown q = is_shown_path s.plan s.opening now q

  abbrev was_shown : List Cell → Bool
  was_shown q = is_shown_path s.plan s.opening was q

  abbrev row_was : List Cell → PlacedRow
  row_was q = placed_group s.columns s.plan s.opening was q

  abbrev row_now : List Cell → PlacedRow
  row_now q = placed_group s.columns s.plan s.opening now q

  entry_was : (q : List Cell) → was_shown q ≡ true → entry s (Group q) ≡ Some (row_was q)
  entry_was q seen = group_at s q grouped ∙ ap (λ b. where_it b (row_was q)) seen

  entry_now : (q : List Cell) → is_shown q ≡ true → entry (side_at s table) (Group q) ≡ Some (row_now q)
  entry_now q seen = group_after s changes table step q grouped ∙ ap (λ b. where_it b (row_now q)) seen

  -- ---- where the places are known

  -- a group that was shown and keeps its place is not taken for moved
  not_moved : (before : List Cell → Option (List Rank)) (q : List Cell) → before q ≡ option_map (λ (p : PlacedRow). p.place) (entry s (Group q)) → was_shown q ≡ true
      → place_of_group s.columns s.plan now q ≡ place_of_group s.columns s.plan was q → is_moved s.columns s.plan now before q ≡ false
  not_moved before q knows seen same =
      ap (λ o. not (is_place o (place_of_group s.columns s.plan now q))) (knows ∙ ap (option_map (λ (p : PlacedRow). p.place)) (entry_was q seen))
      ∙ ap (λ place. not (is_place (Some (place_of_group s.columns s.plan was q)) place)) same
      ∙ ap (λ o. not (is_eq o)) (tied_itself place_order-total (place_of_group s.columns s.plan was q))

  -- so what is shown right below a group that moved has another place, where no changed row counts in it
  touched_below : (before : List Cell → Option (List Rank)) (q : List Cell) (c : Cell) → KnowsPlaces s now before → PassesGroup s changes (q ++ c ∷ [])
      → is_shown (q ++ c ∷ []) ≡ true → is_moved s.columns s.plan now before q ≡ true → is_among (touched s (side_at s table)) (Group (q ++ c ∷ [])) ≡ true
  touched_below before q c knows by seen moved =
      touched_at s (side_at s table) (Group (q ++ c ∷ [])) step.keys (keys_at s changes table step) ∙ differ (same_found (entry s (Group (q ++ c ∷ []))) (entry (side_at s table) (Group (q ++ c ∷ [])))) refl
    where
      stood : was_shown (q ++ c ∷ []) ≡ true
      stood = ap (λ b. is_visible s.opening (q ++ c ∷ []) && b) (sym (there_at s changes table step (q ++ c ∷ []) by)) ∙ seen

      same_place : same_found (entry s (Group (q ++ c ∷ []))) (entry (side_at s table) (Group (q ++ c ∷ []))) ≡ true
          → place_of_group s.columns s.plan now (q ++ c ∷ []) ≡ place_of_group s.columns s.plan was (q ++ c ∷ [])
      same_place same =
          let rows : row_was (q ++ c ∷ []) ≡ row_now (q ++ c ∷ []) =
          same_placed-exact (row_was (q ++ c ∷ [])) (row_now (q ++ c ∷ []))
          (sym (λ i. same_found (entry_was (q ++ c ∷ []) stood i) (entry_now (q ++ c ∷ []) seen i)) ∙ same) in
          sym (ap (λ (p : PlacedRow). p.place) rows)

      differ : (b : Bool) → same_found (entry s (Group (q ++ c ∷ []))) (entry (side_at s table) (Group (q ++ c ∷ []))) ≡ b → not b ≡ true
      differ true same =
          not_both (is_moved s.columns s.plan now before q) moved
          (not_moved before q (knows.places q) (shown_below s.plan s.opening was q c stood).above
          (place_above s.columns s.plan was now q c (ranks_at s changes table step (q ++ c ∷ []) by) (same_place same)))
      differ false same = refl

  -- ---- where a count is shown, and split paths came or went

  typed_after : IsTyped (side_at s table) → IsTyped (changed_side s changes)
  typed_after typed = record {
    rows = All-permutation (λ (p : Pair). FitsColumns s.columns p.row) table.store.pairs (changed_all s.pairs changes) (IsPermutation-sym (changed_all s.pairs changes) table.store.pairs step.lead)
        (subst (λ columns. All (λ (p : Pair). FitsColumns columns p.row) table.store.pairs) step.columns typed.rows);
    trees = subst (λ columns. All (λ e. IsCheckedTree columns (tree_view e.tree) e.kind) s.plan.expressions) step.columns typed.trees;
  }

  some_shown : (q : List Cell) → is_shown q ≡ true → is_some (entry (changed_side s changes) (Group q)) ≡ true
  some_shown q seen =
      ap is_some (group_at (changed_side s changes) q grouped)
      ∙ ap (λ rows. is_some (where_it (is_shown_path s.plan s.opening rows q) (placed_group s.columns s.plan s.opening rows q))) (kept_at s changes table step)
      ∙ ap (λ b. is_some (where_it b (row_now q))) seen

  touched_all : ReachesAll s now → IsTyped s → IsTyped (side_at s table) → (q : List Cell) → is_shown q ≡ true → is_among (touched s (side_at s table)) (Group q) ≡ true
  touched_all reach first last q seen =
      let one = some_flips (splits s.plan was) (splits s.plan now) (splits-ascend s.plan was) (splits-ascend s.plan now) reach.differ in
      among_touched_keys (placed s) (placed (side_at s table)) (Group q)
      ∙ ap (λ ps. is_touched (placed s) ps (Group q)) (sym (placed_at s changes table step))
      ∙ splits-reach s changes one.path q grouped step.keys first (typed_after last) reach.count
      (subst (λ rows. list_any (same_path one.path) (splits s.plan rows) ≡ not (list_any (same_path one.path) (splits s.plan was))) (sym (kept_at s changes table step)) one.flips)
      (or_right (is_some (entry s (Group q))) (is_some (entry (changed_side s changes) (Group q))) (some_shown q seen))

  -- ---- visited groups

  module _ (told : List (List Cell)) (before : List Cell → Option (List Rank)) (passes : (q : List Cell) → is_told told q ≡ false → PassesGroup s changes q)
      (reaches : KnowsPlaces s now before ⊎ ReachesAll s now) (first : IsTyped s) (last : IsTyped (side_at s table)) where
    abbrev moved_above : List Cell → Bool
    moved_above q = is_moved s.columns s.plan now before (above q)

    touched_visit : (q : List Cell) → is_empty q ≡ false → is_told told q ≡ false → is_shown q ≡ true → moved_above q ≡ true → is_among (touched s (side_at s table)) (Group q) ≡ true
    touched_visit =
        by_longer (λ q. is_empty q ≡ false → is_told told q ≡ false → is_shown q ≡ true → moved_above q ≡ true → is_among (touched s (side_at s table)) (Group q) ≡ true)
        (λ some. absurd (let wrong : true ≡ false = some in cc)) (λ q c later some free seen moved. by q c free seen (subst (λ r. is_moved s.columns s.plan now before r ≡ true) (above_longer q c) moved) reaches)
      where
        by : (q : List Cell) (c : Cell) → is_told told (q ++ c ∷ []) ≡ false → is_shown (q ++ c ∷ []) ≡ true → is_moved s.columns s.plan now before q ≡ true → KnowsPlaces s now before ⊎ ReachesAll s now
            → is_among (touched s (side_at s table)) (Group (q ++ c ∷ [])) ≡ true
        by q c free seen moved (inl knows) = touched_below before q c knows (passes (q ++ c ∷ []) free) seen moved
        by q c free seen moved (inr all) = touched_all all first last (q ++ c ∷ []) seen

    -- A VISITED GROUP is the total, or a told path begins with it, or it is touched
    pub visit_is_touched : (q : List Cell) → may_visit s.columns s.plan s.opening now told before q ≡ true → not (is_empty q || is_told told q) ≡ true
        → is_among (touched s (side_at s table)) (Group q) ≡ true
    visit_is_touched q h other = by (is_empty q) (is_told told q) refl refl h other
      where
        by : (a b : Bool) → is_empty q ≡ a → is_told told q ≡ b → (a || (b || (is_shown q && moved_above q))) ≡ true → not (a || b) ≡ true → is_among (touched s (side_at s table)) (Group q) ≡ true
        by true b e t h other = absurd (let wrong : false ≡ true = other in cc)
        by false true e t h other = absurd (let wrong : false ≡ true = other in cc)
        by false false e t h other = let both = and_parts (is_shown q) (moved_above q) h in touched_visit q e t both.0 both.1
