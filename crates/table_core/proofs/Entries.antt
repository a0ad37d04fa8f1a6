-- A map's entries, read by the order of cells.
use Rattle.std.proofs.Common.{◌≡◌, ◌≢◌, ℕ, ◌+◌, Bool, true, false, cond, List, [], ◌∷◌, drop, All, Option, Some, None, is_some, refl, sym, ap, ◌∙◌}
use Rattle.std.specs.List.{AllByRecursion, IsDistinct, slice_get}
use Rattle.std.specs.Map.{keys_of, lookup}
use Rattle.std.specs.Option.{option_map, unwrap_or}
use Rattle.std.proofs.lemmas.List.{drop_more}
use Rattle.std.proofs.lemmas.List.Elements.{All-head, All-tail}
use Rattle.std.proofs.lemmas.Option.{slice_get_within, get_or_from_slice_get}
use Rattle.plain_data.specs.Distinct.{AreDistinct}
use Rattle.cell_core.specs.contracts.cell.CellPartialEq.TheImpl as cell_eq
use Rattle.cell_core.specs.declared.cell.Cell.{Cell}
use Rattle.cell_core.specs.Cells.{same_cell}
use Rattle.row_batch.specs.Changes.{entries_of, row_at}
use Rattle.row_batch.specs.Tables.{keys_of_rows}
use Rattle.row_batch.proofs.Lookups.{derived_same, same_law, same_decides, not_same}
use Rattle.row_batch.proofs.Steps.{distinct_from}
use Rattle.table_core.specs.Lookups.{pairs_of, ChangesKey, one_if, puts_in, settled_row}

-- ---- the derived comparison

lookup_alike : {V : Type 0} (f g : Cell → Bool) → ((k : Cell) → f k ≡ g k) → (es : List (Cell × V)) → lookup f es ≡ lookup g es
lookup_alike f g same [] = refl
lookup_alike f g same (e ∷ es) =
    ap (λ b. cond b (Some e.1) (lookup f es)) (same e.0) ∙ ap (λ rest. cond (g e.0) (Some e.1) rest) (lookup_alike f g same es)

pub found : {V : Type 0} (q : Cell) (es : List (Cell × V)) → lookup (cell_eq.ghosts.eq q) es ≡ lookup (same_cell q) es
found q es = lookup_alike (cell_eq.ghosts.eq q) (same_cell q) (derived_same q) es

pub puts_from : {V : Type 0} (old new : List (Cell × V)) (key : Cell) (w : Option V)
    → ((q : Cell) → lookup (cell_eq.ghosts.eq q) new ≡ cond (cell_eq.ghosts.eq key q) w (lookup (cell_eq.ghosts.eq q) old)) → ChangesKey old key w new
puts_from old new key w h q =
    sym (found q new) ∙ h q ∙ ap (λ b. cond b w (lookup (cell_eq.ghosts.eq q) old)) (derived_same key q) ∙ ap (λ rest. cond (same_cell key q) w rest) (found q old)

apart_alike : (x : Cell) (ys : List Cell) → AllByRecursion (λ y. cell_eq.ghosts.eq x y ≡ false) ys → AllByRecursion (λ y. same_cell x y ≡ false) ys
apart_alike x [] h = tt
apart_alike x (y ∷ ys) h = (sym (derived_same x y) ∙ h.0, apart_alike x ys h.1)

distinct_alike : (ks : List Cell) → IsDistinct cell_eq.ghosts.eq ks → IsDistinct same_cell ks
unfolding IsDistinct
distinct_alike [] h = tt
distinct_alike (k ∷ ks) h = (apart_alike k ks h.0, distinct_alike ks h.1)

pub unique : (ks : List Cell) → IsDistinct cell_eq.ghosts.eq ks → AreDistinct ks
unique ks h = distinct_from ks (distinct_alike ks h)

-- ---- entries as rows

pub entries_of-pairs : (es : List (Cell × List Cell)) → entries_of (pairs_of es) ≡ es
entries_of-pairs [] = refl
entries_of-pairs (e ∷ es) = ap (λ more. e ∷ more) (entries_of-pairs es)

pub row_at-pairs : (es : List (Cell × List Cell)) (q : Cell) → row_at (pairs_of es) q ≡ lookup (same_cell q) es
row_at-pairs es q = ap (lookup (same_cell q)) (entries_of-pairs es)

pub keys_of-pairs : (es : List (Cell × List Cell)) → keys_of_rows (pairs_of es) ≡ keys_of es
keys_of-pairs [] = refl
keys_of-pairs (e ∷ es) = ap (λ more. e.0 ∷ more) (keys_of-pairs es)

-- ---- by places

pub drop_at : {X : Type 0} (xs : List X) (i : ℕ) (x : X) → slice_get xs i ≡ Some x → drop i xs ≡ x ∷ drop (i + 1) xs
drop_at xs i x h = drop_more xs i x (slice_get_within xs i x h) ∙ ap (λ y. y ∷ drop (i + 1) xs) (get_or_from_slice_get xs i x x h)

count_by_case : (es : List (Cell × Option (List Cell))) (i : ℕ) (o : Option (Cell × Option (List Cell))) (b : Bool) → slice_get es i ≡ o
    → option_map (λ e. is_some e.1) o ≡ Some b → puts_in (drop i es) ≡ one_if b + puts_in (drop (i + 1) es)
count_by_case es i None b is h = absurd (cc)
count_by_case es i (Some e) b is h =
    let same : is_some e.1 ≡ b = cc in
    ap puts_in (drop_at es i e is) ∙ ap (λ t. one_if t + puts_in (drop (i + 1) es)) same

pub puts_in-more : (es : List (Cell × Option (List Cell))) (i : ℕ) (b : Bool) → option_map (λ e. is_some e.1) (slice_get es i) ≡ Some b
    → puts_in (drop i es) ≡ one_if b + puts_in (drop (i + 1) es)
puts_in-more es i b h = count_by_case es i (slice_get es i) b refl h

-- ---- keys that are settled one by one

absent : {V : Type 0} (q : Cell) (es : List (Cell × V)) → All (λ k. k ≢ q) (keys_of es) → lookup (same_cell q) es ≡ None
absent q [] other = refl
absent q (e ∷ es) other =
    let apart : same_cell q e.0 ≡ false = not_same q e.0 (All-head (λ k. k ≢ q) e.0 (keys_of es) other) in
    rw apart (absent q es (All-tail (λ k. k ≢ q) e.0 (keys_of es) other))

settled_case : (e : Cell × Option (List Cell)) (es : List (Cell × Option (List Cell))) (old new : List (Cell × List Cell)) (q : Cell) (b : Bool) → same_cell e.0 q ≡ b
    → All (λ k. k ≢ e.0) (keys_of es) → ChangesKey old e.0 e.1 new → settled_row es new q ≡ settled_row (e ∷ es) old q
settled_case e es old new q true is other puts =
    let asked : same_cell q e.0 ≡ true = same_law.symm q e.0 ∙ is in
    let here : e.0 ≡ q = (same_decides e.0 q).0 is in
    let none : lookup (same_cell q) es ≡ None = ap (λ k. lookup (same_cell k) es) (sym here) ∙ absent e.0 es other in
    let value : lookup (same_cell q) new ≡ e.1 = puts q ∙ ap (λ b. cond b e.1 (lookup (same_cell q) old)) is in
    rw (none, asked) value
settled_case e es old new q false is other puts =
    let asked : same_cell q e.0 ≡ false = same_law.symm q e.0 ∙ is in
    let value : lookup (same_cell q) new ≡ lookup (same_cell q) old = puts q ∙ ap (λ b. cond b e.1 (lookup (same_cell q) old)) is in
    rw asked (ap (λ r. unwrap_or (lookup (same_cell q) es) r) value)

pub settled_step : (e : Cell × Option (List Cell)) (es : List (Cell × Option (List Cell))) (old new : List (Cell × List Cell)) (q : Cell)
    → All (λ k. k ≢ e.0) (keys_of es) → ChangesKey old e.0 e.1 new → settled_row es new q ≡ settled_row (e ∷ es) old q
settled_step e es old new q other puts = settled_case e es old new q (same_cell e.0 q) refl other puts
