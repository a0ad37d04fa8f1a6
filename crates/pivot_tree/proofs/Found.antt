-- What callers see of a tree's nodes.
use Rattle.std.proofs.Common.{◌≡◌, ℕ, ◌<◌, Bool, true, false, ◌||◌, List, [], ◌∷◌, ◌++◌, length, Option, Some, None, refl, sym, ap, ◌∙◌, subst, arith}
use Rattle.std.specs.Prelude.{not}
use Rattle.std.specs.List.{list_any}
use Rattle.std.specs.List.Sorted.{IsStrictlySortedBy}
use Rattle.std.specs.Map.{keys_of, lookup}
use Rattle.std.specs.Option.{is_some}
use Rattle.std.specs.Prelude.{if◌then◌else◌}
use Rattle.cell_core.specs.Cells.{cell_order, same_cell}
use Rattle.cell_core.specs.declared.cell.Cell.{Cell}
use Rattle.cell_core.specs.declared.schema.Column.{Column}
use Rattle.cell_core.specs.contracts.cell.CellOrd.TheImpl.{ghosts}
use Rattle.row_batch.specs.declared.batch.Pair.{Pair}
use Rattle.plan_types.specs.declared.plan.Named.{Named}
use Rattle.plan_types.specs.declared.plan.Plan.{Plan}
use Rattle.view_spec.specs.Entries.{is_there}
use Rattle.plain_data.specs.Lists.{is_empty}
use Rattle.view_spec.specs.Kept.{by_key}
use Rattle.view_spec.specs.Members.{members}
use Rattle.view_spec.proofs.PathLaws.{any-members}
use Rattle.pivot_tree.specs.Families.{At, IsCountOf, at_cell, at_path}
use Rattle.pivot_tree.specs.Columns.{Uses}
use Rattle.pivot_tree.specs.Trees.{FoundAt, IsNode, IsTreeOf, NodeAt, NodesOf}
use Rattle.pivot_tree.specs.declared.node.Node.{Node}
use Rattle.pivot_tree.specs.declared.tree.PivotTree.{PivotTree}
use Rattle.pivot_tree.proofs.Families.{of_map}
use Rattle.pivot_tree.proofs.NodeSteps.{none_longer}

-- ---- paths that are there

there_from : (plan : Plan) (rows : List Pair) (path : List Cell) → 0 < length (members plan rows path) → is_there plan rows path ≡ true
there_from plan rows path some = ap (λ b. is_empty path || b) (any-members plan path rows) ∙ by (members plan rows path) some
  where
    by : (ms : List Pair) → 0 < length ms → (is_empty path || not (is_empty ms)) ≡ true
    by [] some = absurd (omega arith)
    by (m ∷ ms) some = or_true (is_empty path)
      where
        or_true : (b : Bool) → (b || true) ≡ true
        or_true true = refl
        or_true false = refl

not_there : (plan : Plan) (rows : List Pair) (c : Cell) (cs : List Cell) → members plan rows (c ∷ cs) ≡ [] → is_there plan rows (c ∷ cs) ≡ false
not_there plan rows c cs none = any-members plan (c ∷ cs) rows ∙ ap (λ ms. not (is_empty ms)) none

pub total_found : (columns : List Column) (plan : Plan) (tree : PivotTree) (rows : List Pair) (path : List Cell) → path ≡ [] → IsTreeOf columns plan tree rows → FoundAt columns plan rows (Some tree.total) path
total_found columns plan tree rows path is h =
    subst (λ z. FoundAt columns plan rows (Some tree.total) z) (sym is) (refl, record { used = tree.used.items; uses = h.uses; node_of = h.total })

found_at : (columns : List Column) (plan : Plan) (used : List Named) (rows : List Pair) (c : Cell) (cs : List Cell) (o : Option Node) → Uses columns plan used → NodeAt plan used rows o (c ∷ cs)
    → FoundAt columns plan rows o (c ∷ cs)
found_at columns plan used rows c cs None uses h = not_there plan rows c cs h
found_at columns plan used rows c cs (Some node) uses h = (there_from plan rows (c ∷ cs) h.1, record { used = used; uses = uses; node_of = h.0 })

pub node_found : (columns : List Column) (plan : Plan) (tree : PivotTree) (rows : List Pair) (path : List Cell) (o : Option Node) → (path ≡ [] → ⊥) → o ≡ at_path tree.nodes.entries path
    → IsTreeOf columns plan tree rows → FoundAt columns plan rows o path
node_found columns plan tree rows [] o some is h = absurd (some refl)
node_found columns plan tree rows (c ∷ cs) o some is h =
    found_at columns plan tree.used.items rows c cs o h.uses (subst (λ z. NodeAt plan tree.used.items rows z (c ∷ cs)) (sym is) (h.nodes c cs))

-- ---- the values with which paths go on

pub any-keys : {K X : Type 0} (t : K → Bool) (es : List (K × X)) → list_any t (keys_of es) ≡ is_some (lookup t es)
any-keys t [] = refl
any-keys {K} {X} t (e ∷ es) = by (t e.0) (any-keys t es)
  where
    by : (b : Bool) → list_any t (keys_of es) ≡ is_some (lookup t es) → (b || list_any t (keys_of es)) ≡ is_some (if b then Some e.1 else lookup t es)
    by true later = refl
    by false later = later

snoc_there : (plan : Plan) (rows : List Pair) (path : List Cell) (c : Cell) → is_there plan rows (path ++ c ∷ []) ≡ not (is_empty (members plan rows (path ++ c ∷ [])))
snoc_there plan rows [] c = any-members plan (c ∷ []) rows
snoc_there plan rows (d ∷ ds) c = any-members plan (d ∷ (ds ++ c ∷ [])) rows

counted : (o : Option ℕ) (ms : List Pair) → At IsCountOf o ms → is_some o ≡ not (is_empty ms)
counted None ms h = sym (ap (λ z. not (is_empty z)) h)
counted (Some n) [] h = let some = h.1 in absurd (omega arith)
counted (Some n) (m ∷ ms) h = refl

pub next_found : (columns : List Column) (plan : Plan) (node : Node) (rows : List Pair) (path : List Cell) (cells : List Cell) → cells ≡ keys_of node.next.entries → IsNode columns plan path node rows
    → (c : Cell) → list_any (same_cell c) cells ≡ is_there plan rows (path ++ c ∷ [])
next_found columns plan node rows path cells is h c =
    ap (list_any (same_cell c)) is ∙ any-keys (same_cell c) node.next.entries
    ∙ counted (at_cell node.next.entries c) (members plan rows (path ++ c ∷ [])) (h.node_of.next c) ∙ sym (snoc_there plan rows path c)

members_none : (plan : Plan) (rows : List Pair) (path : List Cell) → is_there plan rows path ≡ false → members plan rows path ≡ []
members_none plan rows [] h = absurd (cc)
members_none plan rows (c ∷ cs) h = by (members plan rows (c ∷ cs)) (sym (any-members plan (c ∷ cs) rows) ∙ h)
  where
    by : (ms : List Pair) → not (is_empty ms) ≡ false → ms ≡ []
    by [] h = refl
    by (m ∷ ms) h = absurd (cc)

pub none_next : (plan : Plan) (rows : List Pair) (path : List Cell) → is_there plan rows path ≡ false → (c : Cell) → false ≡ is_there plan rows (path ++ c ∷ [])
none_next plan rows path h c =
    sym (snoc_there plan rows path c ∙ ap (λ ms. not (is_empty ms)) (none_longer plan path (c ∷ []) rows (members_none plan rows path h)))

pub ascends : (cells : List Cell) → IsStrictlySortedBy ghosts.cmp cells → IsStrictlySortedBy cell_order cells
ascends cells = of_map (λ R. IsStrictlySortedBy R cells → IsStrictlySortedBy cell_order cells) (λ h. h)

pub nil_ascends : IsStrictlySortedBy cell_order []
unfolding IsStrictlySortedBy
nil_ascends = tt

pub nil_rows_ascend : IsStrictlySortedBy by_key []
unfolding IsStrictlySortedBy
nil_rows_ascend = tt

pub no_nodes : (plan : Plan) (used : List Named) (entries : List (List Cell × Node)) → entries ≡ [] → NodesOf plan used [] entries
no_nodes plan used entries none c cs = subst (λ es. NodeAt plan used [] (at_path es (c ∷ cs)) (c ∷ cs)) (sym none) refl
