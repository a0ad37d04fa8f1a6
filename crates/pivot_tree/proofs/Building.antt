-- Rows that are put in one after another.
use Rattle.std.proofs.Common.{◌≡◌, ◌≢◌, ℕ, zero, suc, ◌+◌, ◌<◌, Bool, true, false, List, [], ◌∷◌, ◌++◌, take, get_or, length, All, refl, sym, ap, ◌∙◌, subst, arith}
use Rattle.std.specs.List.{fold}
use Rattle.std.proofs.lemmas.List.{length-take-le, take_more, get_or-map}
use Rattle.std.proofs.lemmas.List.Elements.{All-nil, All-cons}
use Rattle.plain_data.specs.Distinct.{AreDistinct}
use Rattle.plain_data.specs.Sorting.{insert_by, sorted_by}
use Rattle.cell_core.specs.Cells.{same_cell}
use Rattle.cell_core.specs.declared.cell.Cell.{Cell}
use Rattle.cell_core.specs.declared.schema.Column.{Column}
use Rattle.row_batch.specs.Tables.{keys_of_rows}
use Rattle.row_batch.specs.declared.batch.Pair.{Pair}
use Rattle.plan_types.specs.declared.plan.Plan.{Plan}
use Rattle.agg_core.specs.Types.{IsTaken}
use Rattle.view_spec.specs.Columns.{aggregate_at}
use Rattle.view_spec.specs.Filters.{cell_in}
use Rattle.view_spec.specs.Kept.{by_key}
use Rattle.view_spec.proofs.Sorting.{All-sorted_by}
use Rattle.pivot_tree.specs.Groups.{IsApart, with_row}
use Rattle.pivot_tree.specs.Columns.{used_columns}
use Rattle.pivot_tree.specs.Trees.{AreRows, CanAddRow}
use Rattle.pivot_tree.proofs.NodeSteps.{same_cell_is_equal}
use Rattle.pivot_tree.proofs.Rows.{length-with_row}

fold-append : {X A : Type 0} (f : A → X → A) (a : A) (xs ys : List X) → fold f a (xs ++ ys) ≡ fold f (fold f a xs) ys
fold-append f a [] ys = refl
fold-append f a (x ∷ xs) ys = fold-append f (f a x) xs ys

pub sorted_more : (ps : List Pair) (i : ℕ) (p : Pair) → i < length ps → p ≡ get_or ps i p → with_row (sorted_by by_key (take i ps)) p ≡ sorted_by by_key (take (i + 1) ps)
sorted_more ps i p lt is =
    sym (ap (sorted_by by_key) (take_more ps i p lt ∙ ap (λ z. take i ps ++ z ∷ []) (sym is)) ∙ fold-append (λ sorted x. insert_by by_key x sorted) [] (take i ps) (p ∷ []))

length-fold : (sorted ps : List Pair) → length (fold (λ sorted x. insert_by by_key x sorted) sorted ps) ≡ length sorted + length ps
length-fold sorted [] = omega arith
length-fold sorted (p ∷ ps) =
    let more = length-fold (with_row sorted p) ps in
    let one = length-with_row sorted p in
    omega arith

pub length-sorted : (ps : List Pair) → length (sorted_by by_key ps) ≡ length ps
length-sorted ps = let all = length-fold [] ps in omega arith

differs : (k l : Cell) (b : Bool) → same_cell k l ≡ b → k ≢ l → b ≡ false
differs k l true at apart = absurd (apart (same_cell_is_equal k l at))
differs k l false at apart = refl

apart_take : (ps : List Pair) (i : ℕ) (d : Pair) → i < length ps → AreDistinct (keys_of_rows ps) → IsApart (get_or ps i d).key (take i ps)
apart_take [] i d lt distinct = absurd (omega arith)
apart_take (q ∷ ps) zero d lt distinct = All-nil (λ (r : Pair). same_cell q.key r.key ≡ false)
apart_take (q ∷ ps) (suc i) d lt distinct =
    let below : i < length ps = omega arith in
    let other : (get_or ps i d).key ≢ q.key =
    subst (λ (k : Cell). k ≢ q.key) (get_or-map (λ (r : Pair). r.key) ps i d d.key below) (distinct.0 i d.key (subst (λ n. i < n) (sym (length-keys ps)) below)) in
    All-cons (λ (r : Pair). same_cell (get_or ps i d).key r.key ≡ false) q (take i ps) (differs (get_or ps i d).key q.key _ refl other) (apart_take ps i d below distinct.1)
  where
    length-keys : (ps : List Pair) → length (keys_of_rows ps) ≡ length ps
    length-keys [] = refl
    length-keys (p ∷ ps) = ap suc (length-keys ps)

pub can_add_next : (columns : List Column) (plan : Plan) (ps : List Pair) (i : ℕ) (p : Pair) → i < length ps → p ≡ get_or ps i p → AreRows columns plan ps
    → CanAddRow columns plan (sorted_by by_key (take i ps)) p
can_add_next columns plan ps i p lt is rows = record {
  absent = All-sorted_by (λ (r : Pair). same_cell p.key r.key ≡ false) by_key (take i ps)
      (subst (λ (q : Pair). IsApart q.key (take i ps)) (sym is) (apart_take ps i p lt rows.apart));
  room = let long = length-sorted (take i ps) in let taken = length-take-le i ps (omega arith) in let few = rows.few in omega arith;
  taken = subst (λ (q : Pair). All (λ j. IsTaken (aggregate_at columns plan j) (cell_in q.row j)) (used_columns plan)) (sym is) (rows.taken i p lt);
}
