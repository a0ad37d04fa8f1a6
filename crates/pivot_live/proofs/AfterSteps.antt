-- THE STEP: after it stands under each key what was met, where the key is affected, and else what stood there before.
use Rattle.std.proofs.Common.{◌≡◌, ℕ, Bool, true, false, cond, ◌&&◌, ◌||◌, List, [], ◌∷◌, ◌++◌, Option, None, refl, sym, ap, ◌∙◌}
use Rattle.std.specs.Prelude.{◌⊎◌, option_map}
use mathlib.Core.Logic.{inl, inr}
use Rattle.std.proofs.lemmas.Bool.{false_from_ne_true, not-false}
use Rattle.value_core.specs.declared.value.Value.{Value}
use Rattle.cell_core.specs.declared.cell.Cell.{Cell}
use Rattle.cell_core.specs.declared.schema.Column.{Column}
use Rattle.row_batch.specs.declared.batch.Pair.{Pair}
use Rattle.row_batch.specs.declared.change.RowChange.{RowChange}
use Rattle.table_core.specs.Tables.{TableData}
use Rattle.place_order.specs.PlaceLaws.{is_equal, place_order-exact}
use Rattle.place_order.specs.declared.rank.Rank.{Rank}
use Rattle.plan_types.specs.declared.plan.Plan.{Plan}
use Rattle.view_types.specs.declared.key.ViewKey.{ViewKey}
use Rattle.view_types.specs.declared.key.ViewKey.TheVariants.{Row, Group}
use Rattle.delta_core.specs.Rows.{at_key}
use Rattle.view_spec.specs.Cells.{cells_of_group}
use Rattle.view_spec.specs.Entries.{entry, where_it}
use Rattle.view_spec.specs.Kept.{kept}
use Rattle.view_spec.specs.Members.{members, splits}
use Rattle.view_spec.specs.Openings.{Opening, is_visible, mark_of}
use Rattle.view_spec.specs.Places.{place_of_group}
use Rattle.view_spec.specs.Steps.{ShowsNoCount}
use Rattle.view_spec.specs.Touching.{key_of}
use Rattle.view_spec.specs.Views.{Side, placed_group}
use Rattle.view_spec.specs.declared.placed.PlacedRow.{PlacedRow}
use Rattle.view_spec.proofs.SplitLaws.{cells-same}
use Rattle.view_kept.specs.Steps.{side_at}
use Rattle.group_walk.specs.Walks.{is_moved, is_place, is_shown_path, is_told}
use Rattle.pivot_live.specs.Affected.{stands_after}
use Rattle.pivot_live.specs.Stepping.{IsWalkedStep, KnowsPlaces}
use Rattle.pivot_live.proofs.MetGroups as walk
use Rattle.pivot_live.proofs.Paths.{by_longer, not_both, place_below, same_where, shown_below}
use Rattle.pivot_live.proofs.Sides.{group_after, group_at, members_at, no_row_at, ranks_at, there_at}

-- ---- rows of one path

same_group : (plan : Plan) (opening : Opening) (q : List Cell) (p r : List Rank) (c d : List (List ℕ × Value)) → p ≡ r → c ≡ d
    → let x : PlacedRow = record { place = p; row = record { key = Group q; mark = mark_of plan opening q; cells = c } } in
    x ≡ record { place = r; row = record { key = Group q; mark = mark_of plan opening q; cells = d } }
same_group plan opening q p r c d places cells = λ i. record { place = places i; row = record { key = Group q; mark = mark_of plan opening q; cells = cells i } }

-- the place that a walk knows for one that did not move
pub place_known : (columns : List Column) (plan : Plan) (opening : Opening) (rows : List Pair) (b : Bool) (q : List Cell) (place : List Rank)
    → is_place (option_map (λ (p : PlacedRow). p.place) (where_it b (placed_group columns plan opening rows q))) place ≡ true → place ≡ place_of_group columns plan rows q
place_known columns plan opening rows true q place h = sym (place_order-exact (place_of_group columns plan rows q) place (is_equal _ h))
place_known columns plan opening rows false q place h = absurd (let wrong : false ≡ true = h in cc)

-- ---- a step

module _ (s : Side) (changes : List RowChange) (table : TableData) (told : List (List Cell)) (before : List Cell → Option (List Rank)) (shown : List PlacedRow) (keys : List ViewKey)
    (h : IsWalkedStep s changes table told before shown keys) where
  abbrev was : List Pair
  was = kept s.plan s.pairs

  abbrev now : List Pair
  now = kept s.plan table.store.pairs

  abbrev is_met : List Cell → Bool
  is_met q = walk.is_met s.columns s.plan s.opening now told before shown h.met q

  abbrev is_shown : List Cell → Bool
  is_shown q = is_shown_path s.plan s.opening now q

  abbrev place_now : List Cell → List Rank
  place_now q = place_of_group s.columns s.plan now q

  abbrev place_was : List Cell → List Rank
  place_was q = place_of_group s.columns s.plan was q

  untold : (q : List Cell) → is_shown q ≡ true → is_met q ≡ false → is_told told q ≡ false
  untold q seen unmet =
      false_from_ne_true (is_told told q) (λ t. not_both (is_met q) (walk.told_is_met s.columns s.plan s.opening now told before shown h.met q seen t) unmet)

  -- a group that the walk does not take for moved has the place that it had
  unmoved : (q : List Cell) → KnowsPlaces s now before → is_moved s.columns s.plan now before q ≡ false → place_now q ≡ place_was q
  unmoved q knows still =
      place_known s.columns s.plan s.opening was (is_shown_path s.plan s.opening was q) q (place_now q)
      (sym (ap (λ o. is_place o (place_now q)) (knows.places q ∙ ap (option_map (λ (p : PlacedRow). p.place)) (group_at s q h.grouped)))
      ∙ not-false (is_place (before q) (place_now q)) still)

  -- and so has one that is shown and was not met
  place_stays : KnowsPlaces s now before → (q : List Cell) → is_shown q ≡ true → is_met q ≡ false → place_now q ≡ place_was q
  place_stays knows =
      by_longer (λ q. is_shown q ≡ true → is_met q ≡ false → place_now q ≡ place_was q)
      (λ seen unmet. not_both (is_met []) h.met.total unmet) longer
    where
      longer : (q : List Cell) (c : Cell) → (is_shown q ≡ true → is_met q ≡ false → place_now q ≡ place_was q)
          → is_shown (q ++ c ∷ []) ≡ true → is_met (q ++ c ∷ []) ≡ false → place_now (q ++ c ∷ []) ≡ place_was (q ++ c ∷ [])
      longer q c later seen unmet =
          place_below s.columns s.plan was now q c (ranks_at s changes table h.step (q ++ c ∷ []) (h.passes (q ++ c ∷ []) (untold (q ++ c ∷ []) seen unmet))) (by (is_met q) refl)
        where
          stays_there : is_met q ≡ true → is_moved s.columns s.plan now before q ≡ false
          stays_there here =
              false_from_ne_true (is_moved s.columns s.plan now before q)
              (λ moved. not_both (is_met (q ++ c ∷ [])) (walk.moved_below s.columns s.plan s.opening now told before shown h.met q c here moved seen) unmet)

          by : (b : Bool) → is_met q ≡ b → place_now q ≡ place_was q
          by true is = unmoved q knows (stays_there is)
          by false is = later (shown_below s.plan s.opening now q c seen).above is

  cells_stay : KnowsPlaces s now before → (q : List Cell) → members s.plan now q ≡ members s.plan was q
      → cells_of_group s.columns s.plan (splits s.plan now) (members s.plan now q) ≡ cells_of_group s.columns s.plan (splits s.plan was) (members s.plan was q)
  cells_stay knows q same = ap (cells_of_group s.columns s.plan (splits s.plan now)) same ∙ by knows.cells
    where
      by : (splits s.plan now ≡ splits s.plan was) ⊎ ShowsNoCount s.columns s.plan
          → cells_of_group s.columns s.plan (splits s.plan now) (members s.plan was q) ≡ cells_of_group s.columns s.plan (splits s.plan was) (members s.plan was q)
      by (inl stay) = ap (λ ss. cells_of_group s.columns s.plan ss (members s.plan was q)) stay
      by (inr none) = cells-same s.columns s.plan was now q none same

  group_stays : (q : List Cell) → is_told told q ≡ false → is_shown q ≡ true → is_met q ≡ false
      → placed_group s.columns s.plan s.opening now q ≡ placed_group s.columns s.plan s.opening was q
  group_stays q free seen unmet = by h.places
    where
      by : KnowsPlaces s now before ⊎ ((r : List Cell) → before r ≡ None) → placed_group s.columns s.plan s.opening now q ≡ placed_group s.columns s.plan s.opening was q
      by (inl knows) =
          same_group s.plan s.opening q (place_now q) (place_was q) _ _ (place_stays knows q seen unmet) (cells_stay knows q (members_at s changes table h.step q (h.passes q free)))
      by (inr none) = not_both (is_met q) (walk.all_met s.columns s.plan s.opening now told before shown h.met none q seen) unmet

  -- what is neither told nor met stays
  entry_stays : (q : List Cell) → is_told told q ≡ false → is_met q ≡ false → entry (side_at s table) (Group q) ≡ entry s (Group q)
  entry_stays q free unmet =
      group_after s changes table h.step q h.grouped
      ∙ same_where (is_shown q) (is_shown_path s.plan s.opening was q) (placed_group s.columns s.plan s.opening now q) (placed_group s.columns s.plan s.opening was q)
      (ap (λ b. is_visible s.opening q && b) (there_at s changes table h.step q (h.passes q free))) (λ seen. group_stays q free seen unmet)
      ∙ sym (group_at s q h.grouped)

  -- what is met or told is what was met
  entry_met : (q : List Cell) → (is_told told q || is_met q) ≡ true → entry (side_at s table) (Group q) ≡ at_key key_of (Group q) shown
  entry_met q reached =
      group_after s changes table h.step q h.grouped
      ∙ ap (λ b. where_it b (placed_group s.columns s.plan s.opening now q)) (by (is_met q) refl)
      ∙ sym (walk.met_at s.columns s.plan s.opening now told before shown h.met q)
    where
      is_told_then : (a : Bool) → is_met q ≡ false → is_told told q ≡ a → (a || is_met q) ≡ true → is_told told q ≡ true
      is_told_then true unmet t reached = t
      is_told_then false unmet t reached = not_both (is_met q) reached unmet

      by : (b : Bool) → is_met q ≡ b → is_shown q ≡ b
      by true is = walk.met_is_shown s.columns s.plan s.opening now told before shown h.met q is
      by false is =
          false_from_ne_true (is_shown q)
          (λ seen. not_both (is_met q) (walk.told_is_met s.columns s.plan s.opening now told before shown h.met q seen (is_told_then (is_told told q) is refl reached)) is)

  -- WHAT STANDS UNDER EACH KEY AFTER THE STEP
  pub entry_after : (k : ViewKey) → entry (side_at s table) k ≡ stands_after (entry s) keys shown k
  entry_after (Row key) =
      no_row_at (side_at s table) key h.grouped ∙ sym (no_row_at s key h.grouped)
      ∙ sym (ap (λ b. cond b (at_key key_of (Row key) shown) (entry s (Row key))) (h.among (Row key)))
  entry_after (Group q) =
      by (is_told told q) (is_met q) refl refl
      ∙ sym (ap (λ b. cond b (at_key key_of (Group q) shown) (entry s (Group q)))
      (h.among (Group q) ∙ ap (λ b. is_told told q || b) (walk.among_met s.columns s.plan s.opening now told before shown h.met q)))
    where
      by : (a b : Bool) → is_told told q ≡ a → is_met q ≡ b → entry (side_at s table) (Group q) ≡ cond (is_told told q || is_met q) (at_key key_of (Group q) shown) (entry s (Group q))
      by true b t m = rw t (entry_met q (ap (λ c. c || is_met q) t))
      by false true t m = rw (t, m) (entry_met q (ap (λ c. c || is_met q) t ∙ m))
      by false false t m = rw (t, m) (entry_stays q t m)
