-- Whether a shown column is a count, as a test over the columns tells it.
use Rattle.std.proofs.Common.{◌≡◌, false, List, [], ◌∷◌, Bool, All}
use Rattle.std.specs.List.{list_any}
use Rattle.std.proofs.lemmas.Bool.{or_parts}
use Rattle.std.proofs.lemmas.List.Elements.{All-cons, All-nil}
use Rattle.cell_core.specs.declared.schema.Column.{Column}
use Rattle.plan_types.specs.declared.plan.Plan.{Plan}
use Rattle.view_spec.specs.Columns.{aggregate_at}
use Rattle.view_spec.specs.Steps.{ShowsNoCount, counts_rows}

none_passes : {X : Type 0} (f : X → Bool) (xs : List X) → list_any f xs ≡ false → All (λ x. f x ≡ false) xs
none_passes f [] h = All-nil (λ x. f x ≡ false)
none_passes f (x ∷ xs) h =
    let parts = or_parts (f x) (list_any f xs) h in
    All-cons (λ x. f x ≡ false) x xs parts.0 (none_passes f xs parts.1)

-- no shown column is one
pub no_count : (columns : List Column) (plan : Plan) → list_any (λ i. counts_rows (aggregate_at columns plan i)) plan.columns ≡ false → ShowsNoCount columns plan
no_count columns plan h = none_passes (λ i. counts_rows (aggregate_at columns plan i)) plan.columns h
