-- The order of places, and the places of different keys.
use Rattle.std.proofs.Common.{◌≡◌, ◌≢◌, ℕ, ◌+◌, Bool, List, [], ◌∷◌, ◌++◌, map, length, All, Option, Some, None, refl, sym, ◌∙◌, ap, length-append, append_assoc, arith}
use Rattle.std.proofs.lemmas.List.{append-nil, length-map}
use Rattle.std.proofs.lemmas.List.Elements.{All-head, All-nil, All-cons, All-tail, All-weaker}
use Rattle.view_spec.specs.Members.{members}
use Rattle.value_core.specs.declared.value.Value.{Value}
use Rattle.value_core.specs.declared.value.Value.TheVariants as value
use Rattle.cell_core.specs.Cells.{value_of}
use Rattle.cell_core.specs.declared.cell.Cell.{Cell}
use Rattle.cell_core.specs.declared.cell.Cell.TheVariants as cell
use Rattle.cell_core.specs.declared.schema.Column.{Column}
use Rattle.row_batch.specs.declared.batch.Pair.{Pair}
use Rattle.plan_types.specs.declared.plan.Plan.{Plan}
use Rattle.view_spec.specs.Paths.{prefixes}
use Rattle.place_order.specs.Places.{rank}
use Rattle.place_order.specs.declared.rank.Rank.{Rank}
use Rattle.place_order.specs.declared.rank.Rank.TheVariants.{Asc}
use Rattle.view_spec.specs.Places.{group_ranks, levels, place_of_group, place_of_row, row_value, rows_value, sort_ranks}

-- ---- a cell is told by the value that it shows

cell_of : Option Value → Cell
cell_of None = cell.Null
cell_of (Some (value.Bool b)) = cell.Bool b
cell_of (Some (value.Whole n)) = cell.Int n
cell_of (Some (value.Fraction f)) = cell.Null
cell_of (Some (value.Date d)) = cell.Date d
cell_of (Some (value.Moment t)) = cell.Moment t
cell_of (Some (value.Words s)) = cell.Words s

cell_of-value_of : (c : Cell) → cell_of (value_of c) ≡ c
unfolding cell_of
cell_of-value_of cell.Null = refl
cell_of-value_of (cell.Bool b) = refl
cell_of-value_of (cell.Int n) = refl
cell_of-value_of (cell.Date d) = refl
cell_of-value_of (cell.Moment t) = refl
cell_of-value_of (cell.Words s) = refl

pub value_of-exact : (a b : Cell) → value_of a ≡ value_of b → a ≡ b
value_of-exact a b h = sym (cell_of-value_of a) ∙ ap cell_of h ∙ cell_of-value_of b

pub asc_value : (a b : Option Value) → Asc a ∷ [] ≡ Asc b ∷ [] → a ≡ b
asc_value a b h = cc

-- ---- lists that begin with as many items

tail_of : {X : Type 0} (x y : X) (xs ys : List X) → x ∷ xs ≡ y ∷ ys → (x ≡ y) × (xs ≡ ys)
tail_of x y xs ys h = (cc, cc)

pub same_parts : {X : Type 0} (xs zs ys ws : List X) → length xs ≡ length zs → xs ++ ys ≡ zs ++ ws → (xs ≡ zs) × (ys ≡ ws)
same_parts [] [] ys ws n h = (refl, h)
same_parts [] (z ∷ zs) ys ws n h = absurd (omega arith)
same_parts (x ∷ xs) [] ys ws n h = absurd (omega arith)
same_parts (x ∷ xs) (z ∷ zs) ys ws n h =
    let first = tail_of x z (xs ++ ys) (zs ++ ws) h in
    let rest = same_parts xs zs ys ws (omega arith) first.1 in
    let head : x ≡ z = first.0 in
    let more : xs ≡ zs = rest.0 in
    (cc, rest.1)

-- ---- rows

pub length_sort_ranks : (plan : Plan) (f : ℕ → Option Value) → length (sort_ranks plan f) ≡ length plan.sorts
length_sort_ranks plan f = length-map plan.sorts (λ s. rank s.direction (f s.column))

-- rows at one place have one key
pub place_of_row-exact : (plan : Plan) (a b : Pair) → place_of_row plan a ≡ place_of_row plan b → a.key ≡ b.key
place_of_row-exact plan a b h =
    let parts =
    same_parts (sort_ranks plan (row_value a)) (sort_ranks plan (row_value b)) (Asc (value_of a.key) ∷ []) (Asc (value_of b.key) ∷ [])
    (length_sort_ranks plan (row_value a) ∙ sym (length_sort_ranks plan (row_value b))) h in
    value_of-exact a.key b.key (asc_value (value_of a.key) (value_of b.key) parts.1)

-- ---- groups

pub never : {X : Type 0} (xs zs : List X) (y : X) → [] ≢ (xs ++ y ∷ []) ++ zs
never [] zs y h = cc
never (x ∷ xs) zs y h = cc

-- paths at one place are one, where each level has as many ranks
pub levels-exact : (f : List Cell → List Rank) (n : ℕ) → ((q : List Cell) → length (f q) ≡ n) → (done p q : List Cell) → levels f done p ≡ levels f done q → p ≡ q
levels-exact f n each done [] [] h = refl
levels-exact f n each done [] (d ∷ ds) h = absurd (never (f (done ++ d ∷ [])) (levels f (done ++ d ∷ []) ds) (Asc (value_of d)) h)
levels-exact f n each done (c ∷ cs) [] h = absurd (never (f (done ++ c ∷ [])) (levels f (done ++ c ∷ []) cs) (Asc (value_of c)) (sym h))
levels-exact f n each done (c ∷ cs) (d ∷ ds) h =
    let before = f (done ++ c ∷ []) in
    let before_d = f (done ++ d ∷ []) in
    let as_long : length before ≡ length before_d = each (done ++ c ∷ []) ∙ sym (each (done ++ d ∷ [])) in
    let block : length (before ++ Asc (value_of c) ∷ []) ≡ length (before_d ++ Asc (value_of d) ∷ []) =
    length-append before (Asc (value_of c) ∷ []) ∙ ap (λ k. k + 1) as_long ∙ sym (length-append before_d (Asc (value_of d) ∷ [])) in
    let parts = same_parts (before ++ Asc (value_of c) ∷ []) (before_d ++ Asc (value_of d) ∷ []) (levels f (done ++ c ∷ []) cs) (levels f (done ++ d ∷ []) ds) block h in
    let last = same_parts before before_d (Asc (value_of c) ∷ []) (Asc (value_of d) ∷ []) as_long parts.0 in
    let first : c ≡ d = value_of-exact c d (asc_value (value_of c) (value_of d) last.1) in
    let later : levels f (done ++ c ∷ []) cs ≡ levels f (done ++ c ∷ []) ds = parts.1 ∙ ap (λ e. levels f (done ++ e ∷ []) ds) (sym first) in
    let rest : cs ≡ ds = levels-exact f n each (done ++ c ∷ []) cs ds later in
    cc

-- groups at one place have one path
pub place_of_group-exact : (columns : List Column) (plan : Plan) (rows : List Pair) (p q : List Cell) → place_of_group columns plan rows p ≡ place_of_group columns plan rows q → p ≡ q
place_of_group-exact columns plan rows p q h =
    levels-exact (group_ranks columns plan rows) (length plan.sorts) (λ r. length_sort_ranks plan (rows_value columns plan (members plan rows r))) [] p q h

All-map_back : {X Y : Type 0} (f : X → Y) (P : Y → Type 0) (xs : List X) → All P (map f xs) → All (λ x. P (f x)) xs
All-map_back f P [] h = All-nil (λ x. P (f x))
All-map_back f P (x ∷ xs) h = All-cons (λ x. P (f x)) x xs (All-head P (f x) (map f xs) h) (All-map_back f P xs (All-tail P (f x) (map f xs) h))

-- a place depends on the ranks at the beginnings of its path alone
pub levels-same : (f g : List Cell → List Rank) (done path : List Cell) → All (λ r. f (done ++ r) ≡ g (done ++ r)) (prefixes path) → levels f done path ≡ levels g done path
levels-same f g done [] h = refl
levels-same f g done (c ∷ cs) h =
    let P : List Cell → Type 0 = λ r. f (done ++ r) ≡ g (done ++ r) in
    let here : f (done ++ c ∷ []) ≡ g (done ++ c ∷ []) = All-head P (c ∷ []) (map (λ p. c ∷ p) (prefixes cs)) h in
    let rest = All-map_back (λ p. c ∷ p) P (prefixes cs) (All-tail P (c ∷ []) (map (λ p. c ∷ p) (prefixes cs)) h) in
    let moved : All (λ r. f ((done ++ c ∷ []) ++ r) ≡ g ((done ++ c ∷ []) ++ r)) (prefixes cs) =
    All-weaker (λ p. P (c ∷ p)) (λ r. f ((done ++ c ∷ []) ++ r) ≡ g ((done ++ c ∷ []) ++ r)) (λ r same. ap f (append_assoc done (c ∷ []) r) ∙ same ∙ sym (ap g (append_assoc done (c ∷ []) r))) (prefixes cs) rest in
    let later = levels-same f g (done ++ c ∷ []) cs moved in
    λ i. (here i ++ Asc (value_of c) ∷ []) ++ later i

-- one level more
pub levels-last : (f : List Cell → List Rank) (done path : List Cell) (c : Cell) → levels f done (path ++ c ∷ []) ≡ levels f done path ++ (f (done ++ path ++ c ∷ []) ++ Asc (value_of c) ∷ [])
levels-last f done [] c = append-nil (f (done ++ c ∷ []) ++ Asc (value_of c) ∷ []) ∙ ap (λ d. f (d ++ c ∷ []) ++ Asc (value_of c) ∷ []) (sym (append-nil done))
levels-last f done (d ∷ ds) c =
    let block = f (done ++ d ∷ []) ++ Asc (value_of d) ∷ [] in
    ap (λ xs. block ++ xs) (levels-last f (done ++ d ∷ []) ds c)
    ∙ sym (append_assoc block (levels f (done ++ d ∷ []) ds) (f (((done ++ d ∷ []) ++ ds) ++ c ∷ []) ++ Asc (value_of c) ∷ []))
    ∙ ap (λ p. (block ++ levels f (done ++ d ∷ []) ds) ++ (f (p ++ c ∷ []) ++ Asc (value_of c) ∷ [])) (append_assoc done (d ∷ []) ds)
