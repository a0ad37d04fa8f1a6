-- The split paths of rows in any order.
use Rattle.std.proofs.Common.{◌≡◌, List, map, IsPermutation, sym, ◌∙◌, ap}
use Rattle.std.specs.Cmp.Lexicographic.{slice_cmp}
use Rattle.std.specs.Ordering.{eq_by_cmp}
use Rattle.std.proofs.lemmas.List.Sorted.{IsPermutation-map, list_any-IsPermutation}
use Rattle.cell_core.specs.contracts.cell.CellOrd.TheImpl.{ghosts}
use Rattle.cell_core.specs.declared.cell.Cell.{Cell}
use Rattle.row_batch.specs.declared.batch.Pair.{Pair}
use Rattle.plan_types.specs.declared.plan.Plan.{Plan}
use Rattle.view_types.proofs.KeyOrder.{derived_order}
use Rattle.view_types.specs.declared.key.ViewKey.TheVariants.{Group}
use Rattle.view_spec.specs.Kept.{by_key, kept}
use Rattle.view_spec.specs.Members.{split_of, splits, splits_by}
use Rattle.view_spec.specs.Paths.{path_order, path_set}
use Rattle.view_spec.proofs.FlatLaws.{kept_in_order}
use Rattle.view_spec.proofs.PathLaws.{any-path_set, path_order-exact, path_order-total, path_set-ascends}
use Rattle.view_spec.proofs.Sorting.{IsPermutation-sorted_by}
use Rattle.view_spec.proofs.SplitLaws.{same_members}

-- the derived comparison of cells gives the order of paths
pub derived : slice_cmp ghosts.cmp ≡ path_order
derived = λ i a b. derived_order (Group a) (Group b) i

path_set-IsPermutation : (ps qs : List (List Cell)) → IsPermutation ps qs → path_set ps ≡ path_set qs
path_set-IsPermutation ps qs moved =
    same_members path_order path_order-total path_order-exact (path_set ps) (path_set qs) (path_set-ascends ps) (path_set-ascends qs)
    (λ q. any-path_set (eq_by_cmp path_order q) ps ∙ list_any-IsPermutation (eq_by_cmp path_order q) ps qs moved ∙ sym (any-path_set (eq_by_cmp path_order q) qs))

-- sorting by key first makes no difference
pub splits-in_order : (plan : Plan) (ps : List Pair) → splits plan (kept_in_order plan ps) ≡ splits plan (kept plan ps)
splits-in_order plan ps =
    let rows = kept_in_order plan ps in
    ap (splits_by plan.split_by)
    (path_set-IsPermutation (map (split_of plan) rows) (map (split_of plan) (kept plan ps)) (IsPermutation-map (split_of plan) rows (kept plan ps) (IsPermutation-sorted_by by_key rows)))
