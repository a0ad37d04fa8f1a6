-- What a walk meets is shown; what is shown and told is met; and the rows of what it meets, asked by key.
use Rattle.std.proofs.Common.{◌≡◌, Bool, true, false, cond, ◌&&◌, ◌||◌, List, [], ◌∷◌, ◌++◌, map, Option, Some, None, refl, sym, ap, ◌∙◌}
use Rattle.std.specs.Prelude.{not}
use Rattle.std.specs.Cmp.{eq_by_cmp_equiv}
use Rattle.std.specs.List.{list_any}
use Rattle.std.proofs.lemmas.Bool.{and_from, and_parts, or_left, or_right}
use Rattle.cell_core.specs.declared.cell.Cell.{Cell}
use Rattle.cell_core.specs.declared.schema.Column.{Column}
use Rattle.row_batch.specs.declared.batch.Pair.{Pair}
use Rattle.place_order.specs.declared.rank.Rank.{Rank}
use Rattle.plan_types.specs.declared.plan.Plan.{Plan}
use Rattle.view_types.specs.Keys.{same_key}
use Rattle.view_types.specs.declared.key.ViewKey.TheVariants.{Row, Group}
use Rattle.delta_core.specs.KeySets.{is_among}
use Rattle.delta_core.specs.Rows.{at_key}
use Rattle.view_spec.specs.Entries.{is_there, where_it}
use Rattle.view_spec.specs.Openings.{Opening, mark_of}
use Rattle.view_spec.specs.Paths.{same_path}
use Rattle.view_spec.specs.Places.{place_of_group}
use Rattle.view_spec.specs.Touching.{key_of}
use Rattle.view_spec.specs.Views.{placed_group}
use Rattle.view_spec.specs.declared.placed.PlacedRow.{PlacedRow}
use Rattle.view_spec.proofs.PathLaws.{path_order-total, same_path_is_equal}
use Rattle.group_walk.specs.Walks.{AreMet, goes_on, is_moved, is_place, is_shown_path, is_told}
use Rattle.pivot_live.proofs.Paths.{IsShownBelow, by_longer, shown_below, shown_next, told_before}

-- ---- rows of groups, asked by key

rows_at : (f : List Cell → PlacedRow) → ((p : List Cell) → key_of (f p) ≡ Group p) → (q : List Cell) (ps : List (List Cell))
    → at_key key_of (Group q) (map f ps) ≡ where_it (list_any (same_path q) ps) (f q)
rows_at f keys q [] = refl
rows_at f keys q (p ∷ ps) =
    ap (λ k. cond (same_key k (Group q)) (Some (f p)) (at_key key_of (Group q) (map f ps))) (keys p)
    ∙ by (same_path q p) (same_path p q) refl ((eq_by_cmp_equiv path_order-total).symm q p) (rows_at f keys q ps)
  where
    by : (a b : Bool) → same_path q p ≡ a → a ≡ b → at_key key_of (Group q) (map f ps) ≡ where_it (list_any (same_path q) ps) (f q)
        → cond b (Some (f p)) (at_key key_of (Group q) (map f ps)) ≡ where_it (a || list_any (same_path q) ps) (f q)
    by true true is same later = ap (λ r. Some (f r)) (sym (same_path_is_equal q p is))
    by true false is same later = absurd (let wrong : true ≡ false = same in cc)
    by false true is same later = absurd (let wrong : true ≡ false = sym same in cc)
    by false false is same later = later

no_row : (f : List Cell → PlacedRow) → ((p : List Cell) → key_of (f p) ≡ Group p) → (key : Cell) (ps : List (List Cell)) → at_key key_of (Row key) (map f ps) ≡ None
no_row f keys key [] = refl
no_row f keys key (p ∷ ps) =
    ap (λ k. cond (same_key k (Row key)) (Some (f p)) (at_key key_of (Row key) (map f ps))) (keys p) ∙ no_row f keys key ps

among_keys : (f : List Cell → PlacedRow) → ((p : List Cell) → key_of (f p) ≡ Group p) → (q : List Cell) (ps : List (List Cell))
    → is_among (map key_of (map f ps)) (Group q) ≡ list_any (same_path q) ps
among_keys f keys q [] = refl
among_keys f keys q (p ∷ ps) = λ i. same_key (Group q) (keys p i) || among_keys f keys q ps i

-- ---- a walk

module _ (columns : List Column) (plan : Plan) (opening : Opening) (rows : List Pair) (told : List (List Cell)) (before : List Cell → Option (List Rank)) (shown : List PlacedRow)
    (met : AreMet columns plan opening rows told before shown) where
  abbrev pub is_met : List Cell → Bool
  is_met q = list_any (same_path q) met.paths

  pub met_at : (q : List Cell) → at_key key_of (Group q) shown ≡ where_it (is_met q) (placed_group columns plan opening rows q)
  met_at q = ap (at_key key_of (Group q)) met.shown_are ∙ rows_at (placed_group columns plan opening rows) (λ p. refl) q met.paths

  pub no_met_row : (key : Cell) → at_key key_of (Row key) shown ≡ None
  no_met_row key = ap (at_key key_of (Row key)) met.shown_are ∙ no_row (placed_group columns plan opening rows) (λ p. refl) key met.paths

  pub among_met : (q : List Cell) → is_among (map key_of shown) (Group q) ≡ is_met q
  among_met q = ap (λ ps. is_among (map key_of ps) (Group q)) met.shown_are ∙ among_keys (placed_group columns plan opening rows) (λ p. refl) q met.paths

  -- what is met is shown
  pub met_is_shown : (q : List Cell) → is_met q ≡ true → is_shown_path plan opening rows q ≡ true
  met_is_shown = by_longer (λ q. is_met q ≡ true → is_shown_path plan opening rows q ≡ true) (λ h. refl) longer
    where
      longer : (q : List Cell) (c : Cell) → (is_met q ≡ true → is_shown_path plan opening rows q ≡ true) → is_met (q ++ c ∷ []) ≡ true → is_shown_path plan opening rows (q ++ c ∷ []) ≡ true
      longer q c later h =
          let both = and_parts (is_met q) (goes_on columns plan opening rows told before q c) (sym (met.below q c) ∙ h) in
          let on = and_parts (mark_of plan opening q) (is_there plan rows (q ++ c ∷ []) && (is_moved columns plan rows before q || is_told told (q ++ c ∷ []))) both.1 in
          let there = and_parts (is_there plan rows (q ++ c ∷ [])) (is_moved columns plan rows before q || is_told told (q ++ c ∷ [])) on.1 in
          shown_next plan opening rows q c (record { above = later both.0; mark = on.0; there = there.0 })

  goes_below : (q : List Cell) (c : Cell) → is_met q ≡ true → IsShownBelow plan opening rows q c → (is_moved columns plan rows before q || is_told told (q ++ c ∷ [])) ≡ true → is_met (q ++ c ∷ []) ≡ true
  goes_below q c here below reached =
      met.below q c
      ∙ and_from (is_met q) (goes_on columns plan opening rows told before q c) here
      (and_from (mark_of plan opening q) (is_there plan rows (q ++ c ∷ []) && (is_moved columns plan rows before q || is_told told (q ++ c ∷ []))) below.mark
      (and_from (is_there plan rows (q ++ c ∷ [])) (is_moved columns plan rows before q || is_told told (q ++ c ∷ [])) below.there reached))

  -- what is shown right below a group that was met and moved is met
  pub moved_below : (q : List Cell) (c : Cell) → is_met q ≡ true → is_moved columns plan rows before q ≡ true → is_shown_path plan opening rows (q ++ c ∷ []) ≡ true → is_met (q ++ c ∷ []) ≡ true
  moved_below q c here moved h =
      goes_below q c here (shown_below plan opening rows q c h) (or_left (is_moved columns plan rows before q) (is_told told (q ++ c ∷ [])) moved)

  -- what is shown and told is met
  pub told_is_met : (q : List Cell) → is_shown_path plan opening rows q ≡ true → is_told told q ≡ true → is_met q ≡ true
  told_is_met = by_longer (λ q. is_shown_path plan opening rows q ≡ true → is_told told q ≡ true → is_met q ≡ true) (λ h t. met.total) longer
    where
      longer : (q : List Cell) (c : Cell) → (is_shown_path plan opening rows q ≡ true → is_told told q ≡ true → is_met q ≡ true)
          → is_shown_path plan opening rows (q ++ c ∷ []) ≡ true → is_told told (q ++ c ∷ []) ≡ true → is_met (q ++ c ∷ []) ≡ true
      longer q c later h t =
          let below = shown_below plan opening rows q c h in
          goes_below q c (later below.above (told_before told q c t)) below (or_right (is_moved columns plan rows before q) (is_told told (q ++ c ∷ [])) t)

  -- where every group is taken for moved, all that is shown is met
  pub all_met : ((q : List Cell) → before q ≡ None) → (q : List Cell) → is_shown_path plan opening rows q ≡ true → is_met q ≡ true
  all_met none = by_longer (λ q. is_shown_path plan opening rows q ≡ true → is_met q ≡ true) (λ h. met.total) longer
    where
      longer : (q : List Cell) (c : Cell) → (is_shown_path plan opening rows q ≡ true → is_met q ≡ true) → is_shown_path plan opening rows (q ++ c ∷ []) ≡ true → is_met (q ++ c ∷ []) ≡ true
      longer q c later h =
          moved_below q c (later (shown_below plan opening rows q c h).above) (ap (λ o. not (is_place o (place_of_group columns plan rows q))) (none q)) h
