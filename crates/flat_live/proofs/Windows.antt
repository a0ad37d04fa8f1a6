-- Windows of the rows that are kept, as they are shown.
use Rattle.std.proofs.Common.{◌≡◌, ℕ, ◌-◌, ◌≤◌, List, [], ◌∷◌, length, map, take, drop, refl, sym, ◌∙◌, ap, arith, Bor}
use Rattle.std.specs.List.{drop-map}
use Rattle.std.proofs.lemmas.List.{take-map, take_all}
use Rattle.flat_live.specs.FlatRows.{FlatRow}
use Rattle.flat_live.specs.Rows.{Heads, as_placed, shown_row}

lent_shown : (heads : Heads) (es : List (Bor FlatRow)) → map (λ e. shown_row heads e.now) es ≡ map (shown_row heads) (map (λ e. e.now) es)
lent_shown heads [] = refl
lent_shown heads (e ∷ es) = ap (λ rs. shown_row heads e.now ∷ rs) (lent_shown heads es)

pub window_shown : (heads : Heads) (rows : List FlatRow) (es : List (Bor FlatRow)) (n k : ℕ) → map (λ e. e.now) es ≡ take n (drop k rows)
    → map (λ e. shown_row heads e.now) es ≡ take n (drop k (map (shown_row heads) rows))
window_shown heads rows es n k part =
    lent_shown heads es ∙ ap (map (shown_row heads)) part ∙ sym (ap (take n) (drop-map (shown_row heads) k rows) ∙ take-map (shown_row heads) n (drop k rows))

lent_placed : (heads : Heads) (es : List (Bor FlatRow)) → map (λ e. as_placed heads e.now) es ≡ map (as_placed heads) (map (λ e. e.now) es)
lent_placed heads [] = refl
lent_placed heads (e ∷ es) = ap (λ rs. as_placed heads e.now ∷ rs) (lent_placed heads es)

pub all_placed : (heads : Heads) (rows : List FlatRow) (es : List (Bor FlatRow)) (n : ℕ) → n ≡ length rows → map (λ e. e.now) es ≡ take (n - 0) (drop 0 rows)
    → map (λ e. as_placed heads e.now) es ≡ map (as_placed heads) rows
all_placed heads rows es n all part =
    let whole : n - 0 ≡ n = omega arith in
    let enough : length rows ≤ n = omega arith in
    lent_placed heads es ∙ ap (map (as_placed heads)) (part ∙ ap (λ k. take k rows) whole ∙ take_all n rows enough)
