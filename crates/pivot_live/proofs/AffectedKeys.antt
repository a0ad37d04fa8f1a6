-- The keys of a walk's rows, and with them those of the told groups: these are the affected keys.
use Rattle.std.proofs.Common.{◌≡◌, true, false, ◌||◌, List, [], ◌∷◌, ◌++◌, map, All, Option, refl, sym, ap, ◌∙◌, subst}
use Rattle.std.specs.Cmp.{eq_by_cmp_equiv}
use Rattle.std.specs.List.{IsDistinct, list_any}
use Rattle.std.proofs.lemmas.Bool.{or_right}
use Rattle.std.proofs.lemmas.List.Elements.{All-map}
use Rattle.std.proofs.lemmas.List.Folds.{list_any-append}
use Rattle.std.proofs.lemmas.Map.Views.{All-from_any}
use Rattle.cell_core.specs.declared.cell.Cell.{Cell}
use Rattle.cell_core.specs.declared.schema.Column.{Column}
use Rattle.row_batch.specs.declared.batch.Pair.{Pair}
use Rattle.place_order.specs.declared.rank.Rank.{Rank}
use Rattle.plan_types.specs.declared.plan.Plan.{Plan}
use Rattle.view_types.specs.Keys.{same_key}
use Rattle.view_types.specs.declared.key.ViewKey.{ViewKey}
use Rattle.view_types.specs.declared.key.ViewKey.TheVariants.{Row, Group}
use Rattle.delta_core.specs.KeySets.{is_among}
use Rattle.view_spec.specs.Openings.{Opening}
use Rattle.view_spec.specs.Paths.{same_path}
use Rattle.view_spec.specs.Touching.{key_of}
use Rattle.view_spec.specs.Views.{placed_group}
use Rattle.view_spec.specs.declared.placed.PlacedRow.{PlacedRow}
use Rattle.view_spec.proofs.PathLaws.{any-map, path_order-total}
use Rattle.view_spec.proofs.ViewLaws.{IsDistinct-map, same_keys}
use Rattle.group_walk.specs.Walks.{AreMet, is_told}
use Rattle.pivot_live.specs.Affected.{affected}
use Rattle.pivot_live.proofs.MetGroups as walk

no_row_key : (f : List Cell → ViewKey) (key : Cell) → ((p : List Cell) → same_key (Row key) (f p) ≡ false) → (ps : List (List Cell)) → is_among (map f ps) (Row key) ≡ false
no_row_key f key never [] = refl
no_row_key f key never (p ∷ ps) = ap (λ b. b || is_among (map f ps) (Row key)) (never p) ∙ no_row_key f key never ps

keys_mapped : (f : List Cell → PlacedRow) (ps : List (List Cell)) → map key_of (map f ps) ≡ map (λ p. key_of (f p)) ps
keys_mapped f [] = refl
keys_mapped f (p ∷ ps) = ap (λ ks. key_of (f p) ∷ ks) (keys_mapped f ps)

module _ (columns : List Column) (plan : Plan) (opening : Opening) (rows : List Pair) (told : List (List Cell)) (before : List Cell → Option (List Rank)) (shown : List PlacedRow)
    (met : AreMet columns plan opening rows told before shown) where
  -- the rows of a walk have keys that differ
  pub met_differ : IsDistinct same_keys shown
  met_differ =
      subst (IsDistinct same_keys) (sym met.shown_are) (IsDistinct-map same_path same_keys (placed_group columns plan opening rows) (λ p q apart. apart) met.paths met.distinct)

  -- THE AFFECTED KEYS
  pub keys_affected : (told_groups : List (List Cell)) → ((q : List Cell) → list_any (same_path q) told_groups ≡ is_told told q)
      → (k : ViewKey) → is_among (map Group told_groups ++ map key_of shown) k ≡ affected told shown k
  keys_affected told_groups each (Row key) =
      list_any-append (same_key (Row key)) (map Group told_groups) (map key_of shown)
      ∙ ap (λ b. b || is_among (map key_of shown) (Row key)) (no_row_key Group key (λ p. refl) told_groups)
      ∙ ap (λ ps. is_among (map key_of ps) (Row key)) met.shown_are
      ∙ ap (λ ks. is_among ks (Row key)) (keys_mapped (placed_group columns plan opening rows) met.paths)
      ∙ no_row_key (λ p. key_of (placed_group columns plan opening rows p)) key (λ p. refl) met.paths
  keys_affected told_groups each (Group q) =
      list_any-append (same_key (Group q)) (map Group told_groups) (map key_of shown)
      ∙ ap (λ b. b || is_among (map key_of shown) (Group q)) (any-map Group (same_key (Group q)) told_groups ∙ each q)

  -- and each row's key is among them
  pub met_among : (keys : List ViewKey) → ((k : ViewKey) → is_among keys k ≡ affected told shown k) → All (λ (p : PlacedRow). is_among keys (key_of p) ≡ true) shown
  met_among keys among =
      let P : PlacedRow → Type 0 = λ p. is_among keys (key_of p) ≡ true in
      subst (All P) (sym met.shown_are)
      (All-map P (placed_group columns plan opening rows) met.paths
      (All-from_any (eq_by_cmp_equiv path_order-total) (λ q. is_among keys (Group q) ≡ true) met.paths
      (λ q h. among (Group q) ∙ or_right (is_told told q) (is_among (map key_of shown) (Group q)) (walk.among_met columns plan opening rows told before shown met q ∙ h))))
