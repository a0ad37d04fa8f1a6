-- What the ordered map's calls make of counted cells, where the map compares by any function that is the order of cells.
use Rattle.std.proofs.Common.{◌≡◌, ℕ, suc, ◌+◌, ◌<◌, List, Some, None, All, refl, sym, ap, ◌∙◌, add-one}
use Rattle.std.specs.BTreeMap.{insert_entry, is_at}
use Rattle.std.specs.List.Sorted.{IsStrictlySortedBy}
use Rattle.std.specs.Map.{keys_of, values_of, lookup, set_value, remove_entry}
use Rattle.std.specs.Set.{remove_key}
use Rattle.cell_core.specs.Cells.{same_cell}
use Rattle.cell_core.specs.declared.cell.Cell.{Cell}
use Rattle.cell_core.specs.contracts.cell.CellOrd.TheImpl.{ghosts}
use Rattle.agg_core.specs.Bags.{repeated}
use Rattle.agg_core.proofs.Ascending.{put}
use Rattle.agg_core.proofs.Cells.{of_map}
use Rattle.agg_core.proofs.Repeats.{Counts, set_more, insert_more, set_less, remove_last, off_absent, count_some}

pub count_raised : (c : Cell) (old new : Counts) (n : ℕ) → new ≡ set_value (is_at (ghosts.cmp c)) old (n + 1) → Some n ≡ lookup (is_at (ghosts.cmp c)) old → IsStrictlySortedBy ghosts.cmp (keys_of old)
    → repeated new ≡ put c (repeated old)
count_raised c old new n = of_map
    (λ R. new ≡ set_value (is_at (R c)) old (n + 1) → Some n ≡ lookup (is_at (R c)) old → IsStrictlySortedBy R (keys_of old) → repeated new ≡ put c (repeated old))
    (λ is there sorted. ap repeated (is ∙ ap (set_value (same_cell c) old) (add-one n)) ∙ set_more c old n sorted (sym there))

pub count_begun : (c : Cell) (old new : Counts) → new ≡ insert_entry ghosts.cmp old c 1 → None ≡ lookup (is_at (ghosts.cmp c)) old → IsStrictlySortedBy ghosts.cmp (keys_of old)
    → repeated new ≡ put c (repeated old)
count_begun c old new = of_map
    (λ R. new ≡ insert_entry R old c 1 → None ≡ lookup (is_at (R c)) old → IsStrictlySortedBy R (keys_of old) → repeated new ≡ put c (repeated old))
    (λ is none sorted. ap repeated is ∙ insert_more c old sorted (sym none))

pub count_lowered : (c : Cell) (old new : Counts) (n : ℕ) → new ≡ set_value (is_at (ghosts.cmp c)) old n → Some (suc n) ≡ lookup (is_at (ghosts.cmp c)) old
    → repeated new ≡ remove_key (same_cell c) (repeated old)
count_lowered c old new n = of_map
    (λ R. new ≡ set_value (is_at (R c)) old n → Some (suc n) ≡ lookup (is_at (R c)) old → repeated new ≡ remove_key (same_cell c) (repeated old))
    (λ is there. ap repeated is ∙ set_less c old n (sym there))

pub count_ended : (c : Cell) (old new : Counts) → new ≡ remove_entry (is_at (ghosts.cmp c)) old → Some 1 ≡ lookup (is_at (ghosts.cmp c)) old
    → repeated new ≡ remove_key (same_cell c) (repeated old)
count_ended c old new = of_map
    (λ R. new ≡ remove_entry (is_at (R c)) old → Some 1 ≡ lookup (is_at (R c)) old → repeated new ≡ remove_key (same_cell c) (repeated old))
    (λ is there. ap repeated is ∙ remove_last c old (sym there))

pub count_absent : (c : Cell) (old : Counts) → None ≡ lookup (is_at (ghosts.cmp c)) old → repeated old ≡ remove_key (same_cell c) (repeated old)
count_absent c old = of_map
    (λ R. None ≡ lookup (is_at (R c)) old → repeated old ≡ remove_key (same_cell c) (repeated old))
    (λ none. off_absent c old (sym none))

pub same_lookup : {X : Type 0} (c : Cell) (es : List (Cell × X)) → lookup (is_at (ghosts.cmp c)) es ≡ lookup (same_cell c) es
same_lookup c es = of_map (λ R. lookup (is_at (R c)) es ≡ lookup (same_cell c) es) refl

pub some_count : (c : Cell) (es : Counts) (n : ℕ) → All (λ n. 0 < n) (values_of es) → Some n ≡ lookup (is_at (ghosts.cmp c)) es → 0 < n
some_count c es n some there = count_some c es n some (sym (same_lookup c es) ∙ sym there)
