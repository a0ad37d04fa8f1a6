-- The beginnings of told paths, how many they are, and the paths that live_tree tells.
use Rattle.std.proofs.Common.{◌≡◌, ℕ, suc, ◌+◌, ◌*◌, ◌<◌, ◌≤◌, true, false, ◌||◌, List, [], ◌∷◌, length, All, Option, Some, None, refl, ◌∙◌, ap, arith, length-append}
use Rattle.std.specs.List.{flat_map, list_any}
use Rattle.std.proofs.lemmas.Bool.{or_right}
use Rattle.std.proofs.lemmas.List.{length-map}
use Rattle.std.proofs.lemmas.List.Folds.{list_any-append}
use Rattle.std.proofs.lemmas.List.Elements.{All-append, All-cons, All-head, All-nil, All-tail}
use Rattle.plain_data.specs.Lists.{is_empty}
use Rattle.cell_core.specs.declared.cell.Cell.{Cell}
use Rattle.row_batch.specs.Batches.{pair_of}
use Rattle.row_batch.specs.Changes.{row_at}
use Rattle.row_batch.specs.declared.batch.Pair.{Pair}
use Rattle.row_batch.specs.declared.change.RowChange.{RowChange}
use Rattle.plan_types.specs.declared.plan.Plan.{Plan}
use Rattle.view_spec.specs.Filters.{cell_in}
use Rattle.view_spec.specs.Members.{group_of}
use Rattle.view_spec.specs.Paths.{begins_with, prefixes, same_path}
use Rattle.view_spec.proofs.PathLaws.{among-prefixes}
use Rattle.group_walk.specs.Walks.{is_told}
use Rattle.live_tree.specs.Rows.{change_paths, kept_change, kept_of, path_of, paths_along}
use Rattle.live_tree.proofs.KeptChanges.{few_after}
use Rattle.pivot_live.proofs.Paths.{any_weaker}

-- ---- beginnings

-- the empty path, and each other with which the path begins
abbrev pub beginnings : List Cell → List (List Cell)
beginnings path = [] ∷ prefixes path

abbrev pub all_beginnings : List (List Cell) → List (List Cell)
all_beginnings told = flat_map beginnings told

length-prefixes : (path : List Cell) → length (prefixes path) ≡ length path
length-prefixes [] = refl
length-prefixes (c ∷ cs) = ap suc (length-map (prefixes cs) (λ p. c ∷ p) ∙ length-prefixes cs)

pub length-all_beginnings : (told : List (List Cell)) (n : ℕ) → All (λ path. length path ≡ n) told → length (all_beginnings told) ≡ length told * (n + 1)
length-all_beginnings [] n each = omega arith
length-all_beginnings (t ∷ told) n each =
    let here : length t ≡ n = All-head (λ path. length path ≡ n) t told each in
    let long = length-prefixes t in
    let both = length-append (beginnings t) (all_beginnings told) in
    let later = length-all_beginnings told n (All-tail (λ path. length path ≡ n) t told each) in
    omega arith

begins_among : (q path : List Cell) → begins_with q path ≡ true → list_any (same_path q) (beginnings path) ≡ true
begins_among [] path h = refl
begins_among (c ∷ cs) path h = or_right (same_path (c ∷ cs) []) (list_any (same_path (c ∷ cs)) (prefixes path)) (among-prefixes (c ∷ cs) path ∙ h)

any_in_all : (q : List Cell) (told : List (List Cell)) → list_any (same_path q) (all_beginnings told) ≡ list_any (λ path. list_any (same_path q) (beginnings path)) told
any_in_all q [] = refl
any_in_all q (t ∷ told) =
    list_any-append (same_path q) (beginnings t) (all_beginnings told) ∙ ap (λ b. list_any (same_path q) (beginnings t) || b) (any_in_all q told)

-- a path with which a told one begins is among the beginnings
pub told_among : (told : List (List Cell)) (q : List Cell) → is_told told q ≡ true → list_any (same_path q) (all_beginnings told) ≡ true
told_among told q h =
    any_in_all q told
    ∙ any_weaker (begins_with q) (λ path. list_any (same_path q) (beginnings path)) (begins_among q) told h

-- and so is the total's, where any was told
pub total_is_told : (told : List (List Cell)) (q : List Cell) → 0 < length told → is_empty q ≡ true → is_told told q ≡ true
total_is_told [] q some none = absurd (omega arith)
total_is_told (t ∷ told) [] some none = refl
total_is_told (t ∷ told) (c ∷ q) some none = absurd (let wrong : false ≡ true = none in cc)

-- ---- the paths of the rows that come and go

-- two for each change at most
pub few_along : (plan : Plan) (rows : List Pair) (changes : List RowChange) → length (paths_along plan rows changes) ≤ 2 * length changes
few_along plan rows changes = let few = few_after plan rows changes [] (paths_along plan rows changes) refl in omega arith

long_path : (plan : Plan) (key : Cell) (o : Option (List Cell)) → All (λ path. length path ≡ length plan.group_by) (path_of plan key o)
long_path plan key None = All-nil (λ path. length path ≡ length plan.group_by)
long_path plan key (Some row) =
    All-cons (λ path. length path ≡ length plan.group_by) (group_of plan (pair_of key row)) [] (length-map plan.group_by (cell_in row)) (All-nil (λ path. length path ≡ length plan.group_by))

-- each of full length
pub long_along : (plan : Plan) (rows : List Pair) (changes : List RowChange) → All (λ path. length path ≡ length plan.group_by) (paths_along plan rows changes)
long_along plan rows [] = All-nil (λ path. length path ≡ length plan.group_by)
long_along plan rows (change ∷ changes) =
    All-append (λ path. length path ≡ length plan.group_by) (change_paths plan rows change) (paths_along plan (kept_change plan rows change) changes)
    (All-append (λ path. length path ≡ length plan.group_by) (path_of plan change.key (row_at rows change.key)) (path_of plan change.key (kept_of plan change.new))
    (long_path plan change.key (row_at rows change.key)) (long_path plan change.key (kept_of plan change.new)))
    (long_along plan (kept_change plan rows change) changes)
