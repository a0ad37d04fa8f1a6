-- The split paths of the rows that a tree has.
use Rattle.std.proofs.Common.{◌≡◌, ℕ, Bool, true, false, cond, ◌||◌, List, [], ◌∷◌, ◌++◌, map, filter, length, Option, Some, None, refl, sym, ap, ◌∙◌, arith}
use Rattle.std.specs.Prelude.{not, ◌==◌}
use Rattle.std.proofs.lemmas.Bool.{eq-eqb, eqb-true}
use Rattle.std.specs.List.{list_any}
use Rattle.std.specs.List.Sorted.{IsStrictlySortedBy}
use Rattle.std.specs.Map.{keys_of}
use Rattle.std.specs.Option.{is_some}
use Rattle.plain_data.specs.Lists.{is_empty}
use Rattle.cell_core.specs.declared.cell.Cell.{Cell}
use Rattle.cell_core.specs.declared.schema.Column.{Column}
use Rattle.cell_core.specs.contracts.cell.CellOrd.TheImpl.{ghosts}
use Rattle.std.specs.Cmp.Lexicographic.{slice_cmp}
use Rattle.row_batch.specs.declared.batch.Pair.{Pair}
use Rattle.plan_types.specs.declared.plan.Named.{Named}
use Rattle.plan_types.specs.declared.plan.Plan.{Plan}
use Rattle.view_spec.specs.Filters.{cell_in}
use Rattle.view_spec.specs.Members.{members, split_of, splits, splits_by, within}
use Rattle.view_spec.specs.Paths.{path_order, path_set, same_path}
use Rattle.view_spec.proofs.PathLaws.{any-map, any-path_set, path_order-exact, path_order-total, path_set-ascends}
use Rattle.view_spec.proofs.SplitLaws.{same_members}
use Rattle.pivot_tree.specs.Families.{At, at_path, rows_under}
use Rattle.pivot_tree.specs.Groups.{IsGroupOf}
use Rattle.pivot_tree.specs.Trees.{IsTreeOf}
use Rattle.pivot_tree.specs.declared.group.Group.{Group}
use Rattle.pivot_tree.specs.declared.tree.PivotTree.{PivotTree}
use Rattle.pivot_tree.proofs.Families.{of_map}
use Rattle.pivot_tree.proofs.Found.{any-keys}

pub paths_ascend : (paths : List (List Cell)) → IsStrictlySortedBy (slice_cmp ghosts.cmp) paths → IsStrictlySortedBy path_order paths
paths_ascend paths = of_map (λ R. IsStrictlySortedBy (slice_cmp R) paths → IsStrictlySortedBy path_order paths) (λ h. h)

any-filter : (t : Pair → Bool) (rows : List Pair) → list_any t rows ≡ not (is_empty (filter t rows))
any-filter t [] = refl
any-filter t (p ∷ rows) = by (t p) (any-filter t rows)
  where
    by : (b : Bool) → list_any t rows ≡ not (is_empty (filter t rows)) → (b || list_any t rows) ≡ not (is_empty (cond b (p ∷ filter t rows) (filter t rows)))
    by true later = refl
    by false later = later

-- all rows are members of the total
members_total : (plan : Plan) (rows : List Pair) → members plan rows [] ≡ rows
members_total plan [] = refl
members_total plan (p ∷ rows) = ap (λ ps. p ∷ ps) (members_total plan rows)

group_there : {G : Type 0} (P : G → List Pair → Type 0) (o : Option G) (rows : List Pair) → At P o rows → is_some o ≡ not (is_empty rows)
group_there P None rows h = sym (ap (λ ps. not (is_empty ps)) h)
group_there P (Some g) [] h = absurd (let some = h.1 in omega arith)
group_there P (Some g) (p ∷ rows) h = refl

none_empty : (plan : Plan) (rows : List Pair) → (plan.split_by ≡ [] → ⊥) → list_any (λ p. same_path [] (split_of plan p)) rows ≡ false
none_empty plan [] split = refl
none_empty plan (p ∷ rows) split = ap (λ b. b || list_any (λ p. same_path [] (split_of plan p)) rows) (longer plan.split_by split) ∙ none_empty plan rows split
  where
    longer : (by : List ℕ) → (by ≡ [] → ⊥) → same_path [] (map (cell_in p.row) by) ≡ false
    longer [] some = absurd (some refl)
    longer (c ∷ cs) some = refl

-- a group is kept under a path where some row has these split cells
split_there : (plan : Plan) (used : List Named) (rows : List Pair) (entries : List (List Cell × Group)) → (plan.split_by ≡ [] → ⊥)
    → ((s : List Cell) → At (IsGroupOf used) (at_path entries s) (rows_under s (within plan s (members plan rows []))))
    → (q : List Cell) → is_some (at_path entries q) ≡ list_any (λ p. same_path q (split_of plan p)) rows
split_there plan used rows entries split stand [] = group_there (IsGroupOf used) (at_path entries []) [] (stand []) ∙ sym (none_empty plan rows split)
split_there plan used rows entries split stand (c ∷ cs) =
    group_there (IsGroupOf used) (at_path entries (c ∷ cs)) (within plan (c ∷ cs) (members plan rows [])) (stand (c ∷ cs))
    ∙ ap (λ ms. not (is_empty (within plan (c ∷ cs) ms))) (members_total plan rows)
    ∙ sym (any-filter (λ p. same_path (c ∷ cs) (split_of plan p)) rows)

pub splits_found : (columns : List Column) (plan : Plan) (tree : PivotTree) (rows : List Pair) (paths : List (List Cell)) → (plan.split_by ≡ [] → ⊥) → paths ≡ keys_of tree.total.splits.entries
    → IsStrictlySortedBy path_order (keys_of tree.total.splits.entries) → IsTreeOf columns plan tree rows → paths ≡ splits plan rows
splits_found columns plan tree rows paths split is up h =
    let entries = tree.total.splits.entries in
    is
    ∙ same_members path_order path_order-total path_order-exact (keys_of entries) (path_set (map (split_of plan) rows)) up (path_set-ascends (map (split_of plan) rows))
    (λ q. any-keys (same_path q) entries ∙ split_there plan tree.used.items rows entries split h.total.splits q
    ∙ sym (any-path_set (same_path q) (map (split_of plan) rows) ∙ any-map (split_of plan) (same_path q) rows))
    ∙ found plan.split_by split
  where
    found : (by : List ℕ) → (by ≡ [] → ⊥) → path_set (map (split_of plan) rows) ≡ splits_by by (path_set (map (split_of plan) rows))
    found [] some = absurd (some refl)
    found (c ∷ cs) some = refl

-- whether something is split, as a tree tells it
pub some_split : (held by : List ℕ) (n : ℕ) → n ≡ length held → held ≡ by → (n == 0) ≡ false → by ≡ [] → ⊥
some_split held by n long same some none =
    let short : length held ≡ 0 = ap length (same ∙ none) in
    let wrong : true ≡ false = sym (eq-eqb n 0 (omega arith)) ∙ some in
    cc

pub none_split : (held by : List ℕ) (n : ℕ) → n ≡ length held → held ≡ by → (n == 0) ≡ true → by ≡ []
none_split [] by n long same none = sym same
none_split (c ∷ cs) by n long same none = absurd (let short = eqb-true n 0 none in omega arith)

-- nothing is split
pub splits_unsplit : (plan : Plan) (rows : List Pair) (path : List Cell) (none paths : List (List Cell)) → plan.split_by ≡ [] → path ≡ [] → none ≡ [] → paths ≡ none ++ path ∷ []
    → paths ≡ splits plan rows
splits_unsplit plan rows path none paths whole empty before put =
    put ∙ (λ i. before i ++ empty i ∷ []) ∙ sym (ap (λ by. splits_by by (path_set (map (split_of plan) rows))) whole)
