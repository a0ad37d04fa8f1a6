-- The places that a list of a view's rows has are those at which the view shows its groups.
use Rattle.std.proofs.Common.{◌≡◌, Bool, true, false, cond, List, [], ◌∷◌, map, Option, Some, None, refl, sym, ap, ◌∙◌}
use Rattle.std.specs.Prelude.{option_map}
use Rattle.cell_core.specs.declared.cell.Cell.{Cell}
use Rattle.place_order.specs.declared.rank.Rank.{Rank}
use Rattle.view_types.specs.Keys.{same_key}
use Rattle.view_types.specs.declared.key.ViewKey.{ViewKey}
use Rattle.view_types.specs.declared.key.ViewKey.TheVariants.{Group}
use Rattle.delta_core.specs.Rows.{at_key}
use Rattle.view_spec.specs.Entries.{entry}
use Rattle.view_spec.specs.Laws.{HasKeys}
use Rattle.view_spec.specs.Touching.{key_of}
use Rattle.view_spec.specs.Views.{Side, placed}
use Rattle.view_spec.specs.declared.placed.PlacedRow.{PlacedRow}
use Rattle.view_spec.proofs.ViewLaws.{found}
use Rattle.live_list.specs.Live.{live_key}
use Rattle.live_list.specs.declared.list.LiveRow.{LiveRow}
use Rattle.group_walk.specs.Walks.{place_in}

module _ {V : Type 0} (f : List Rank × LiveRow V → PlacedRow) (keys : (e : List Rank × LiveRow V) → key_of (f e) ≡ live_key e) where
  found_mapped : (k : ViewKey) (rows : List (List Rank × LiveRow V)) → at_key key_of k (map f rows) ≡ option_map f (at_key live_key k rows)
  found_mapped k [] = refl
  found_mapped k (e ∷ rows) =
      ap (λ j. cond (same_key j k) (Some (f e)) (at_key key_of k (map f rows))) (keys e) ∙ by (same_key (live_key e) k) (found_mapped k rows)
    where
      by : (b : Bool) → at_key key_of k (map f rows) ≡ option_map f (at_key live_key k rows) → cond b (Some (f e)) (at_key key_of k (map f rows)) ≡ option_map f (cond b (Some e) (at_key live_key k rows))
      by true later = refl
      by false later = later

  -- what stands under a key of the list is what the view has there
  pub entry_of : (s : Side) (k : ViewKey) (rows : List (List Rank × LiveRow V)) → HasKeys s → map f rows ≡ placed s → option_map f (at_key live_key k rows) ≡ entry s k
  entry_of s k rows distinct shown = sym (found_mapped k rows) ∙ ap (at_key key_of k) shown ∙ found s k distinct

  place_mapped : ((e : List Rank × LiveRow V) → (f e).place ≡ e.0) → (o : Option (List Rank × LiveRow V)) → option_map (λ e. e.0) o ≡ option_map (λ (p : PlacedRow). p.place) (option_map f o)
  place_mapped places None = refl
  place_mapped places (Some e) = ap Some (sym (places e))

  -- and so is its place
  pub place_of : (s : Side) (q : List Cell) (rows : List (List Rank × LiveRow V)) → ((e : List Rank × LiveRow V) → (f e).place ≡ e.0) → HasKeys s → map f rows ≡ placed s
      → place_in rows q ≡ option_map (λ (p : PlacedRow). p.place) (entry s (Group q))
  place_of s q rows places distinct shown =
      place_mapped places (at_key live_key (Group q) rows) ∙ ap (option_map (λ (p : PlacedRow). p.place)) (entry_of s (Group q) rows distinct shown)
