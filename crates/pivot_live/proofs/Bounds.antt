-- THE BOUND: a walk visits no more groups than the told paths have beginnings and the step touches keys.
use Rattle.std.proofs.Common.{◌≡◌, ℕ, ◌+◌, ◌*◌, ◌<◌, ◌≤◌, Bool, true, false, ◌||◌, List, map, filter, length, All, Option, refl, arith}
use Rattle.std.specs.Prelude.{◌⊎◌, not}
use Rattle.std.specs.Cmp.{eq_by_cmp_equiv}
use Rattle.std.specs.List.{IsDistinct, list_any}
use Rattle.std.proofs.Math.Nat.{mul-le-mul_right}
use Rattle.std.proofs.lemmas.List.{length-map}
use Rattle.std.proofs.lemmas.List.Elements.{All-map}
use Rattle.std.proofs.lemmas.List.Filters.{length-filter_both}
use Rattle.std.proofs.lemmas.Map.Made.{length-le_from_is_member}
use Rattle.plain_data.specs.Lists.{is_empty}
use Rattle.cell_core.specs.declared.cell.Cell.{Cell}
use Rattle.row_batch.specs.declared.change.RowChange.{RowChange}
use Rattle.table_core.specs.Tables.{TableData}
use Rattle.place_order.specs.declared.rank.Rank.{Rank}
use Rattle.view_types.specs.Keys.{same_key}
use Rattle.view_types.specs.declared.key.ViewKey.{ViewKey}
use Rattle.view_types.specs.declared.key.ViewKey.TheVariants.{Group}
use Rattle.view_types.proofs.KeyOrder as keys
use Rattle.delta_core.specs.KeySets.{is_among}
use Rattle.delta_core.proofs.KeySetLemmas.{holds_among}
use Rattle.view_spec.specs.Columns.{is_flat}
use Rattle.view_spec.specs.Kept.{kept}
use Rattle.view_spec.specs.Laws.{IsTyped}
use Rattle.view_spec.specs.Paths.{same_path}
use Rattle.view_spec.specs.Steps.{PassesGroup}
use Rattle.view_spec.specs.Touching.{touched}
use Rattle.view_spec.specs.Views.{Side}
use Rattle.view_spec.proofs.PathLaws.{path_order-total, same_path_is_equal}
use Rattle.view_spec.proofs.Sorting.{All-pass, IsDistinct-filter}
use Rattle.view_spec.proofs.SplitLaws.{holds_among as holds_among_paths}
use Rattle.view_spec.proofs.ViewLaws.{IsDistinct-map}
use Rattle.view_kept.specs.Steps.{IsStep, side_at}
use Rattle.group_walk.specs.Walks.{AreVisits, is_told, may_visit}
use Rattle.pivot_live.specs.Stepping.{KnowsPlaces, ReachesAll}
use Rattle.pivot_live.proofs.Beginnings.{all_beginnings, length-all_beginnings, told_among, total_is_told}
use Rattle.pivot_live.proofs.VisitedGroups.{visit_is_touched}

-- ---- distinct paths among a list

-- as many as the list has, at most
few_among : (ps qs : List (List Cell)) → IsDistinct same_path ps → All (λ p. list_any (same_path p) qs ≡ true) ps → length ps ≤ length qs
few_among ps qs distinct among =
    length-le_from_is_member (eq_by_cmp_equiv path_order-total) ps qs distinct
    (λ q in_it. holds_among_paths same_path same_path_is_equal (λ p. list_any (same_path p) qs ≡ true) ps q in_it among)

few_keys : (ps : List (List Cell)) (ks : List ViewKey) → IsDistinct same_path ps → All (λ p. is_among ks (Group p) ≡ true) ps → length ps ≤ length ks
few_keys ps ks distinct among =
    let few : length (map Group ps) ≤ length ks =
    length-le_from_is_member (eq_by_cmp_equiv keys.total) (map Group ps) ks (IsDistinct-map same_path same_key Group (λ a b apart. apart) ps distinct)
    (λ k in_it. holds_among (λ k. is_among ks k ≡ true) (map Group ps) k in_it (All-map (λ k. is_among ks k ≡ true) Group ps among)) in
    let same = length-map ps Group in
    omega arith

-- ---- visits

module _ (s : Side) (changes : List RowChange) (table : TableData) (grouped : is_flat s.plan ≡ false) (step : IsStep s changes table) (told : List (List Cell)) (before : List Cell → Option (List Rank))
    (passes : (q : List Cell) → is_told told q ≡ false → PassesGroup s changes q) (reaches : KnowsPlaces s (kept s.plan table.store.pairs) before ⊎ ReachesAll s (kept s.plan table.store.pairs))
    (first : IsTyped s) (last : IsTyped (side_at s table)) (some : 0 < length told) where
  abbrev near : List Cell → Bool
  near q = is_empty q || is_told told q

  near_among : (q : List Cell) → near q ≡ true → list_any (same_path q) (all_beginnings told) ≡ true
  near_among q h = told_among told q (by (is_empty q) refl h)
    where
      by : (b : Bool) → is_empty q ≡ b → (b || is_told told q) ≡ true → is_told told q ≡ true
      by true is h = total_is_told told q some is
      by false is h = h

  few_visits : (paths : List (List Cell)) → IsDistinct same_path paths → All (λ q. may_visit s.columns s.plan s.opening (kept s.plan table.store.pairs) told before q ≡ true) paths
      → length paths ≤ length (all_beginnings told) + length (touched s (side_at s table))
  few_visits paths distinct each =
      let parts = length-filter_both near (λ q. not (near q)) (λ q. refl) paths in
      let close = few_among (filter near paths) (all_beginnings told) (IsDistinct-filter same_path near paths distinct)
      (All-pass near (λ q. list_any (same_path q) (all_beginnings told) ≡ true) paths (λ i d l h. near_among _ h)) in
      let far = few_keys (filter (λ q. not (near q)) paths) (touched s (side_at s table)) (IsDistinct-filter same_path (λ q. not (near q)) paths distinct)
      (All-pass (λ q. not (near q)) (λ q. is_among (touched s (side_at s table)) (Group q) ≡ true) paths
      (λ i d l h. visit_is_touched s changes table grouped step told before passes reaches first last _ (each i d l) h)) in
      omega arith

  -- THE VISITS OF THE WALK
  pub walk_visits : (start end : ℕ) → AreVisits s.columns s.plan s.opening (kept s.plan table.store.pairs) told before start end → All (λ path. length path ≡ length s.plan.group_by) told
      → end ≤ start + length told * (length s.plan.group_by + 1) + length (touched s (side_at s table))
  walk_visits start end visits long =
      let paths = few_visits visits.paths visits.distinct visits.each in
      let all = length-all_beginnings told (length s.plan.group_by) long in
      let more = visits.few in
      omega arith

  -- and with them those of the changes before it
  pub walk_bound : (start end begin : ℕ) → AreVisits s.columns s.plan s.opening (kept s.plan table.store.pairs) told before start end
      → length told ≤ 2 * length changes → All (λ path. length path ≡ length s.plan.group_by) told → start ≤ begin + length changes * (2 * (length s.plan.group_by + 1))
      → end ≤ begin + 6 * length changes * (length s.plan.group_by + 1) + 2 * length (touched s (side_at s table))
  walk_bound start end begin visits few long at_first =
      let walked = walk_visits start end visits long in
      let most : length told * (length s.plan.group_by + 1) ≤ (2 * length changes) * (length s.plan.group_by + 1) = mul-le-mul_right (length s.plan.group_by + 1) few in
      omega arith

-- where no walk came after them, those of the changes alone
pub changes_bound : (changes groups keys start begin : ℕ) → start ≤ begin + changes * (2 * (groups + 1)) → start ≤ begin + 6 * changes * (groups + 1) + 2 * keys
changes_bound changes groups keys start begin at_first = omega arith
