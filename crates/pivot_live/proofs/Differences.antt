-- Two lists of paths that ascend and differ: some path stands in one of them alone. And the split paths of two sides.
use Rattle.std.proofs.Common.{◌≡◌, ◌≢◌, ℕ, Bool, true, false, ◌||◌, List, [], ◌∷◌, map, refl, sym, ◌∙◌, ap, subst}
use Rattle.std.specs.Prelude.{not}
use Rattle.std.specs.Cmp.{both_ways}
use Rattle.std.specs.List.{list_any}
use Rattle.std.specs.List.Sorted.{IsStrictlySortedBy}
use Rattle.std.proofs.lemmas.Bool.{not-false, not-true, or_parts, or_right}
use Rattle.cell_core.specs.declared.cell.Cell.{Cell}
use Rattle.row_batch.specs.declared.batch.Pair.{Pair}
use Rattle.plan_types.specs.declared.plan.Plan.{Plan}
use Rattle.view_spec.specs.Members.{split_of, splits, splits_by}
use Rattle.view_spec.specs.Paths.{path_order, path_set, same_path}
use Rattle.view_spec.proofs.PathLaws.{path_order-exact, path_order-total, path_set-ascends, same_path_is_equal, same_path_itself}
use Rattle.view_spec.proofs.SplitLaws.{same_members}

-- ---- a path of one list alone

abbrev missing_in : List (List Cell) → List Cell → Bool
missing_in ps q = not (list_any (same_path q) ps)

-- a path of the first that the second lacks
pub record Lacks (xs ys : List (List Cell)) : Type 0 where
  pub path : List Cell
  pub there : list_any (same_path path) xs ≡ true
  pub gone : list_any (same_path path) ys ≡ false

lacking : (xs ys : List (List Cell)) → list_any (missing_in ys) xs ≡ true → Lacks xs ys
lacking [] ys h = absurd (let wrong : false ≡ true = h in cc)
lacking (x ∷ xs) ys h = by (missing_in ys x) refl h (lacking xs ys)
  where
    by : (b : Bool) → missing_in ys x ≡ b → (b || list_any (missing_in ys) xs) ≡ true → (list_any (missing_in ys) xs ≡ true → Lacks xs ys) → Lacks (x ∷ xs) ys
    by true is h later = record {
      path = x;
      there = ap (λ b. b || list_any (same_path x) xs) (same_path_itself x);
      gone = not-true (list_any (same_path x) ys) is;
    }
    by false is h later =
        let found = later h in
        record {
          path = found.path;
          there = or_right (same_path found.path x) (list_any (same_path found.path) xs) found.there;
          gone = found.gone;
        }

-- else each path of the first stands in the second
all_there : (xs ys : List (List Cell)) → list_any (missing_in ys) xs ≡ false → (q : List Cell) → list_any (same_path q) xs ≡ true → list_any (same_path q) ys ≡ true
all_there [] ys h q there = absurd (let wrong : false ≡ true = there in cc)
all_there (x ∷ xs) ys h q there = by (same_path q x) refl there (all_there xs ys (or_parts (missing_in ys x) (list_any (missing_in ys) xs) h).1 q)
  where
    here : list_any (same_path x) ys ≡ true
    here = not-false (list_any (same_path x) ys) (or_parts (missing_in ys x) (list_any (missing_in ys) xs) h).0

    by : (b : Bool) → same_path q x ≡ b → (b || list_any (same_path q) xs) ≡ true → (list_any (same_path q) xs ≡ true → list_any (same_path q) ys ≡ true) → list_any (same_path q) ys ≡ true
    by true is there later = subst (λ r. list_any (same_path r) ys ≡ true) (sym (same_path_is_equal q x is)) here
    by false is there later = later there

-- a path that flips: it stands in one of the lists and not in the other
pub record Flips (xs ys : List (List Cell)) : Type 0 where
  pub path : List Cell
  pub flips : list_any (same_path path) ys ≡ not (list_any (same_path path) xs)

pub some_flips : (xs ys : List (List Cell)) → IsStrictlySortedBy path_order xs → IsStrictlySortedBy path_order ys → ys ≢ xs → Flips xs ys
some_flips xs ys up down differ = by (list_any (missing_in ys) xs) (list_any (missing_in xs) ys) refl refl
  where
    by : (a b : Bool) → list_any (missing_in ys) xs ≡ a → list_any (missing_in xs) ys ≡ b → Flips xs ys
    by true b gone came = let one = lacking xs ys gone in record { path = one.path; flips = one.gone ∙ sym (ap not one.there) }
    by false true gone came = let one = lacking ys xs came in record { path = one.path; flips = one.there ∙ sym (ap not one.gone) }
    by false false gone came =
        absurd (differ (same_members path_order path_order-total path_order-exact ys xs down up (λ q. both_ways _ _ (all_there ys xs came q) (all_there xs ys gone q))))

-- ---- split paths

one_ascends : IsStrictlySortedBy path_order ([] ∷ [])
unfolding IsStrictlySortedBy
one_ascends = (tt, tt)

splits_by-ascend : (by : List ℕ) (found : List (List Cell)) → IsStrictlySortedBy path_order found → IsStrictlySortedBy path_order (splits_by by found)
splits_by-ascend [] found up = one_ascends
splits_by-ascend (c ∷ cs) found up = up

pub splits-ascend : (plan : Plan) (rows : List Pair) → IsStrictlySortedBy path_order (splits plan rows)
splits-ascend plan rows = splits_by-ascend plan.split_by (path_set (map (split_of plan) rows)) (path_set-ascends (map (split_of plan) rows))
