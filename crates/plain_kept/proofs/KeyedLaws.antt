-- Placed rows asked by key through a map of their positions.
use Rattle.std.proofs.Common.{◌≡◌, ℕ, ◌+◌, ◌<◌, List, length, map, get_or, take, Some, None, sym, ◌∙◌, ap, subst, cond, slice_get}
use Rattle.std.specs.Map.{lookup}
use Rattle.plain_data.specs.Distinct.{AreDistinct}
use Rattle.view_types.specs.Keys.{same_key}
use Rattle.view_types.specs.Rows.{AreShownRows}
use Rattle.view_types.specs.declared.key.ViewKey.{ViewKey}
use Rattle.delta_core.specs.Rows.{at_key}
use Rattle.key_map.specs.Keyed.{GivesPositions}
use Rattle.key_map.proofs.Keyed.{pick, picked, positions_more}
use Rattle.view_spec.specs.Touching.{key_of}
use Rattle.view_spec.specs.declared.placed.PlacedRow.{PlacedRow}
use Rattle.view_spec.proofs.EntryLaws.{apart_before}
use Rattle.view_spec.proofs.StepLaws.{keys_in}
use Rattle.view_spec.proofs.TouchLaws.{keys_through}

pub keys_apart : (rows : List PlacedRow) → AreShownRows (map (λ (p : PlacedRow). p.row) rows) → AreDistinct (keys_in rows)
keys_apart rows h = subst AreDistinct (keys_through rows) h.distinct

-- a loop's step
pub row_put : (rows : List PlacedRow) (i : ℕ) (d : PlacedRow) (copy : ViewKey) (old new : List (ViewKey × ℕ)) → i < length rows → AreShownRows (map (λ (p : PlacedRow). p.row) rows)
    → GivesPositions key_of old (take i rows) → copy ≡ key_of (get_or rows i d)
    → ((q : ViewKey) → lookup (same_key q) new ≡ cond (same_key copy q) (Some i) (lookup (same_key q) old)) → GivesPositions key_of new (take (i + 1) rows)
row_put rows i d copy old new within shown gives same puts =
    positions_more key_of rows i d old new within (apart_before key_of rows i d within (keys_apart rows shown)) gives
    (λ q. puts q ∙ ap (λ k. cond (same_key k q) (Some i) (lookup (same_key q) old)) same)

-- the row at the position that the map has
pub row_found : (entries : List (ViewKey × ℕ)) (rows : List PlacedRow) (k : ViewKey) (i : ℕ) → GivesPositions key_of entries rows → Some i ≡ lookup (same_key k) entries
    → slice_get rows i ≡ at_key key_of k rows
row_found entries rows k i gives found = ap (pick rows) (found ∙ gives k) ∙ sym (picked key_of k rows)

pub no_row_found : (entries : List (ViewKey × ℕ)) (rows : List PlacedRow) (k : ViewKey) → GivesPositions key_of entries rows → None ≡ lookup (same_key k) entries
    → None ≡ at_key key_of k rows
no_row_found entries rows k gives found = ap (pick rows) (found ∙ gives k) ∙ sym (picked key_of k rows)
