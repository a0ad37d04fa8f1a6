-- A view that is computed anew tells which keys a step touched.
use Rattle.std.proofs.Common.{◌≡◌, ℕ, List, take, drop, sym, ◌∙◌, ap}
use Rattle.std.specs.List.{drop-map}
use Rattle.std.proofs.lemmas.List.{take-map}
use Rattle.view_types.specs.declared.key.ViewKey.{ViewKey}
use Rattle.delta_core.specs.Deltas.{marked}
use Rattle.delta_core.specs.declared.touched.Touch.{Touch}
use Rattle.view_spec.specs.LookUps.{marked_in}
use Rattle.view_spec.specs.Touching.{touched, touched_keys}
use Rattle.view_spec.specs.Views.{Side, placed, view}
use Rattle.view_spec.specs.declared.placed.PlacedRow.{PlacedRow}
use Rattle.view_spec.proofs.TouchLaws.{marked_rows, rows_of}

pub keys_between : (a b : Side) (was now : List PlacedRow) (keys : List (ViewKey × Touch)) → was ≡ placed a → now ≡ placed b → keys ≡ marked_in was (touched_keys was now)
    → keys ≡ marked (view a).rows (touched a b)
keys_between a b was now keys first last made =
    made ∙ ap (λ xs. marked_in xs (touched_keys xs now)) first ∙ ap (λ ys. marked_in (placed a) (touched_keys (placed a) ys)) last
    ∙ marked_rows (placed a) (touched a b)

-- ---- rows

pub part_rows : (n k : ℕ) (xs : List PlacedRow) → rows_of (take n (drop k xs)) ≡ take n (drop k (rows_of xs))
part_rows n k xs = sym (ap (take n) (drop-map (λ (x : PlacedRow). x.row) k xs) ∙ take-map (λ (x : PlacedRow). x.row) n (drop k xs))
