-- The groups of a node's split paths.
use Rattle.std.proofs.Common.{◌≡◌, ℕ, ◌<◌, List, [], ◌∷◌, filter, map, length, Some, refl, sym, ap, ◌∙◌, subst, arith}
use Rattle.cell_core.specs.declared.cell.Cell.{Cell}
use Rattle.row_batch.specs.declared.batch.Pair.{Pair}
use Rattle.plan_types.specs.declared.plan.Plan.{Plan}
use Rattle.view_spec.specs.Filters.{cell_in}
use Rattle.view_spec.specs.Members.{within}
use Rattle.view_spec.specs.Paths.{same_path}
use Rattle.view_spec.proofs.PathLaws.{same_path_itself}
use Rattle.pivot_tree.specs.Families.{At, at_path, rows_under}

-- ---- the rows of one split path

pub rows_under-nil : (s : List Cell) → rows_under s [] ≡ []
rows_under-nil [] = refl
rows_under-nil (c ∷ cs) = refl

pub rows_under-some : (s : List Cell) (rows : List Pair) → (s ≡ [] → ⊥) → rows_under s rows ≡ rows
rows_under-some [] rows some = absurd (some refl)
rows_under-some (c ∷ cs) rows some = refl

pub rows_under-none : (s : List Cell) (rows more : List Pair) → s ≡ [] → rows_under s rows ≡ rows_under s more
rows_under-none [] rows more none = refl
rows_under-none (c ∷ cs) rows more none = absurd (cc)

-- some stand there, so that the path isn't empty
pub rows_under-there : (s : List Cell) (rows : List Pair) → 0 < length (rows_under s rows) → rows_under s rows ≡ rows
rows_under-there [] rows some = absurd (omega arith)
rows_under-there (c ∷ cs) rows some = refl

-- ---- the rows under the empty split path

abbrev by_columns : List ℕ → List Cell → List Pair → List Pair
by_columns columns s rows = filter (λ (p : Pair). same_path s (map (cell_in p.row) columns)) rows

all_there : (rows : List Pair) → by_columns [] [] rows ≡ rows
all_there [] = refl
all_there (p ∷ rows) = ap (λ (rs : List Pair). p ∷ rs) (all_there rows)

none_there : (k : ℕ) (ks : List ℕ) (rows : List Pair) → by_columns (k ∷ ks) [] rows ≡ []
none_there k ks [] = refl
none_there k ks (p ∷ rows) = none_there k ks rows

none_longer : (c : Cell) (cs : List Cell) (rows : List Pair) → by_columns [] (c ∷ cs) rows ≡ []
none_longer c cs [] = refl
none_longer c cs (p ∷ rows) = none_longer c cs rows

first_there : (columns : List ℕ) (p : Pair) (rows : List Pair) → by_columns columns (map (cell_in p.row) columns) (p ∷ rows) ≡ p ∷ by_columns columns (map (cell_in p.row) columns) rows
first_there columns p rows = rw (same_path_itself (map (cell_in p.row) columns)) refl

module _ {G : Type 0} (P : G → List Pair → Type 0) (entries : List (List Cell × G)) (rows : List Pair) where
  Stand : List ℕ → Type 0
  Stand columns = (s : List Cell) → At P (at_path entries s) (rows_under s (by_columns columns s rows))

  no_rows : (k : ℕ) (ks : List ℕ) → entries ≡ [] → Stand (k ∷ ks) → (ms : List Pair) → ms ≡ rows → ms ≡ []
  unfolding Stand
  no_rows k ks none stand [] same = refl
  no_rows k ks none stand (p ∷ ms) same =
      let s = map (cell_in p.row) (k ∷ ks) in
      let gone : by_columns (k ∷ ks) s rows ≡ [] = subst (λ es. At P (at_path es s) (by_columns (k ∷ ks) s rows)) none (stand s) in
      absurd (let wrong : p ∷ by_columns (k ∷ ks) s ms ≡ [] = sym (first_there (k ∷ ks) p ms) ∙ ap (by_columns (k ∷ ks) s) same ∙ gone in cc)

  no_groups : (columns : List ℕ) → entries ≡ [] → Stand columns → by_columns columns [] rows ≡ rows
  no_groups [] none stand = all_there rows
  no_groups (k ∷ ks) none stand = none_there k ks rows ∙ sym (no_rows k ks none stand rows refl)

  some_group : (columns : List ℕ) (path : List Cell) (g : G) → at_path entries path ≡ Some g → Stand columns → by_columns columns [] rows ≡ []
  unfolding Stand
  some_group (k ∷ ks) path g found stand = none_there k ks rows
  some_group [] [] g found stand =
      let here : P g [] × (0 < 0) = subst (λ o. At P o []) found (stand []) in
      absurd (let wrong = here.1 in omega arith)
  some_group [] (c ∷ cs) g found stand =
      let here : P g (by_columns [] (c ∷ cs) rows) × (0 < length (by_columns [] (c ∷ cs) rows)) = subst (λ o. At P o (by_columns [] (c ∷ cs) rows)) found (stand (c ∷ cs)) in
      absurd (let wrong = here.1 in let gone = ap length (none_longer c cs rows) in omega arith)

  first_found : (e : List Cell × G) (es : List (List Cell × G)) → at_path (e ∷ es) e.0 ≡ Some e.1
  first_found e es = rw (same_path_itself e.0) refl

  some_groups : (columns : List ℕ) (es : List (List Cell × G)) → entries ≡ es → (length es ≡ 0 → ⊥) → Stand columns → by_columns columns [] rows ≡ []
  some_groups columns [] same some stand = absurd (some refl)
  some_groups columns (e ∷ es) same some stand = some_group columns e.0 e.1 (ap (λ fs. at_path fs e.0) same ∙ first_found e es) stand

module _ {G : Type 0} (P : G → List Pair → Type 0) (plan : Plan) (entries : List (List Cell × G)) (rows : List Pair)
    (stand : (s : List Cell) → At P (at_path entries s) (rows_under s (within plan s rows))) (s : List Cell) (none : s ≡ []) where
  -- no groups are kept: nothing is split, or there are no rows
  pub within-unsplit : length entries ≡ 0 → rows ≡ within plan s rows
  unfolding Stand
  within-unsplit empty = sym (ap (λ z. within plan z rows) none ∙ no_groups P entries rows plan.split_by (nil empty) stand)
    where
      nil : length entries ≡ 0 → entries ≡ []
      nil h = from_length entries h
        where
          from_length : (es : List (List Cell × G)) → length es ≡ 0 → es ≡ []
          from_length [] h = refl
          from_length (e ∷ es) h = absurd (omega arith)

  -- groups are kept: rows are split
  pub within-split : (length entries ≡ 0 → ⊥) → [] ≡ within plan s rows
  unfolding Stand
  within-split some = sym (ap (λ z. within plan z rows) none ∙ some_groups P entries rows plan.split_by entries refl some stand)
