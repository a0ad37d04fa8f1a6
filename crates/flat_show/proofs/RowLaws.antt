-- The loop that keeps rows.
use Rattle.std.proofs.Common.{◌≡◌, ℕ, zero, suc, ◌+◌, ◌<◌, Bool, true, false, cond, List, [], ◌∷◌, ◌++◌, map, filter, length, take, drop, Some, None, refl, sym, ◌∙◌, ap, arith}
use Rattle.std.specs.List.{slice_get}
use Rattle.std.proofs.lemmas.List.{append-nil, drop_more, map-append, take_more}
use Rattle.std.proofs.lemmas.List.Elements.{filter-append}
use Rattle.std.proofs.lemmas.Option.{get_or_from_slice_get, slice_get_within}
use Rattle.cell_core.specs.declared.cell.Cell.{Cell}
use Rattle.row_batch.specs.Batches.{pair_of}
use Rattle.row_batch.specs.declared.batch.Pair.{Pair}
use Rattle.plan_types.specs.declared.plan.Plan.{Plan}
use Rattle.view_spec.specs.Filters.{keeps}
use Rattle.view_spec.specs.Kept.{full_pair, full_row, is_kept}

pub one_at : {X : Type 0} (xs : List X) (i : ℕ) (x : X) → slice_get xs i ≡ Some x → take 1 (drop i xs) ≡ x ∷ []
one_at xs i x h =
    ap (take 1) (drop_more xs i x (slice_get_within xs i x h)) ∙ ap (λ y. y ∷ []) (get_or_from_slice_get xs i x x h)

kept_is : (plan : Plan) (p : Pair) (key : Cell) (full : List Cell) (b : Bool) → key ≡ p.key → full ≡ full_row plan p.row → keeps plan.filters full ≡ b
    → filter (is_kept plan) (map (full_pair plan) (p ∷ [])) ≡ cond b (pair_of key full ∷ []) []
kept_is plan p key full b same_key same keeps_it =
    ap (λ c. cond c (full_pair plan p ∷ []) []) (sym (ap (keeps plan.filters) same) ∙ keeps_it)
    ∙ ap (λ r. cond b (pair_of p.key r ∷ []) []) (sym same)
    ∙ ap (λ k. cond b (pair_of k full ∷ []) []) (sym same_key)

pub row_kept : (plan : Plan) (ps : List Pair) (i : ℕ) (p : Pair) (key : Cell) (full : List Cell) (old new : List Pair) → slice_get ps i ≡ Some p → key ≡ p.key → full ≡ full_row plan p.row
    → keeps plan.filters full ≡ true → new ≡ old ++ pair_of key full ∷ [] → new ≡ old ++ filter (is_kept plan) (map (full_pair plan) (take 1 (drop i ps)))
row_kept plan ps i p key full old new at same_key same keeps_it made =
    made ∙ ap (λ rs. old ++ rs) (sym (ap (λ qs. filter (is_kept plan) (map (full_pair plan) qs)) (one_at ps i p at) ∙ kept_is plan p key full true same_key same keeps_it))

pub row_dropped : (plan : Plan) (ps : List Pair) (i : ℕ) (p : Pair) (full : List Cell) (old : List Pair) → slice_get ps i ≡ Some p → full ≡ full_row plan p.row
    → keeps plan.filters full ≡ false → old ≡ old ++ filter (is_kept plan) (map (full_pair plan) (take 1 (drop i ps)))
row_dropped plan ps i p full old at same keeps_it =
    sym (append-nil old) ∙ ap (λ rs. old ++ rs) (sym (ap (λ qs. filter (is_kept plan) (map (full_pair plan) qs)) (one_at ps i p at) ∙ kept_is plan p p.key full false refl same keeps_it))

one_more : {X : Type 0} (xs : List X) (i : ℕ) → i < length xs → take (i + 1) xs ≡ take i xs ++ take 1 (drop i xs)
one_more [] i h = absurd (omega arith)
one_more (x ∷ xs) i h =
    take_more (x ∷ xs) i x h ∙ ap (λ ys. take i (x ∷ xs) ++ ys) (sym (ap (take 1) (drop_more (x ∷ xs) i x h)))

pub rows_more : (plan : Plan) (ps : List Pair) (i : ℕ) (old new : List Pair) → i < length ps → old ≡ filter (is_kept plan) (map (full_pair plan) (take i ps))
    → new ≡ old ++ filter (is_kept plan) (map (full_pair plan) (take 1 (drop i ps))) → new ≡ filter (is_kept plan) (map (full_pair plan) (take (i + 1) ps))
rows_more plan ps i old new within so_far made =
    made ∙ ap (λ rs. rs ++ filter (is_kept plan) (map (full_pair plan) (take 1 (drop i ps)))) so_far
    ∙ sym (filter-append (is_kept plan) (map (full_pair plan) (take i ps)) (map (full_pair plan) (take 1 (drop i ps))))
    ∙ ap (filter (is_kept plan)) (sym (map-append (full_pair plan) (take i ps) (take 1 (drop i ps))))
    ∙ ap (λ qs. filter (is_kept plan) (map (full_pair plan) qs)) (sym (one_more ps i within))

pub no_place : {X : Type 0} (xs : List X) (i : ℕ) → slice_get xs i ≡ None → (i < length xs → ⊥)
no_place [] i none within = omega arith
no_place (x ∷ xs) zero none within = cc
no_place (x ∷ xs) (suc i) none within = no_place xs i none (omega arith)
