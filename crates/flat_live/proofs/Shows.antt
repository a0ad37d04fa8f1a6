-- What is shown of kept rows.
use Rattle.std.proofs.Common.{◌≡◌, ℕ, zero, suc, false, List, [], ◌∷◌, map, drop, All, Some, None, refl, sym, ◌∙◌, ap, subst}
use Rattle.std.specs.List.{IsDistinct, slice_get}
use Rattle.std.specs.Option.{option_map}
use Rattle.std.proofs.lemmas.List.Elements.{All-nil, All-cons}
use Rattle.std.proofs.lemmas.Option.{slice_get-map}
use Rattle.plain_data.specs.Distinct.{AreDistinct}
use Rattle.value_core.specs.declared.value.Value.{Value}
use Rattle.cell_core.specs.Cells.{value_of}
use Rattle.cell_core.specs.declared.cell.Cell.{Cell}
use Rattle.cell_core.specs.declared.schema.Column.{Column}
use Rattle.plan_types.specs.declared.plan.Plan.{Plan}
use Rattle.view_columns.specs.Headers.{under}
use Rattle.view_types.specs.Rows.{AreShownRows, IsMarked}
use Rattle.view_types.specs.declared.key.ViewKey.{ViewKey}
use Rattle.view_types.specs.declared.key.ViewKey.TheVariants.{Row, Group}
use Rattle.view_types.specs.declared.shown.HeaderColumn.{HeaderColumn}
use Rattle.view_types.specs.declared.shown.ShownRow.{ShownRow}
use Rattle.view_spec.specs.Cells.{head_at, with_value}
use Rattle.view_spec.specs.declared.placed.PlacedRow.{PlacedRow}
use Rattle.view_spec.proofs.LiveLaws.{shown_distinct}
use Rattle.view_spec.proofs.ViewLaws.{IsDistinct-map, same_keys}
use Rattle.key_map.specs.Keyed.{same_by}
use Rattle.live_list.specs.Live.{live_key}
use Rattle.flat_live.specs.FlatRows.{FlatRow}
use Rattle.flat_live.specs.Rows.{Heads, as_placed, cells_under, shown_row}

no_cells : (hs : List HeaderColumn) (shown : List (List ℕ × Value)) → cells_under hs [] shown ≡ shown
no_cells [] shown = refl
no_cells (h ∷ hs) shown = refl

-- the next column's value put in
pub cells_more : (hs : List HeaderColumn) (cells : List Cell) (i : ℕ) (h : HeaderColumn) (c : Cell) (shown : List (List ℕ × Value)) → slice_get hs i ≡ Some h → slice_get cells i ≡ Some c
    → cells_under (drop (suc i) hs) (drop (suc i) cells) (with_value shown h.text (value_of c)) ≡ cells_under (drop i hs) (drop i cells) shown
cells_more [] cells i h c shown head cell = absurd (let wrong : None ≡ Some h = head in cc)
cells_more (g ∷ hs) [] i h c shown head cell = absurd (let wrong : None ≡ Some c = cell in cc)
cells_more (g ∷ hs) (d ∷ cells) zero h c shown head cell =
    let one : g ≡ h = cc in
    let two : d ≡ c = cc in
    ap (λ (x : HeaderColumn). cells_under hs cells (with_value shown x.text (value_of c))) (sym one) ∙ ap (λ x. cells_under hs cells (with_value shown g.text (value_of x))) (sym two)
cells_more (g ∷ hs) (d ∷ cells) (suc i) h c shown head cell = cells_more hs cells i h c shown head cell

-- no cell is left
pub cells_end : (hs : List HeaderColumn) (cells : List Cell) (i : ℕ) (shown : List (List ℕ × Value)) → slice_get cells i ≡ None
    → cells_under (drop (suc i) hs) (drop (suc i) cells) shown ≡ cells_under (drop i hs) (drop i cells) shown
cells_end hs [] zero shown none = no_cells (drop 1 hs) shown ∙ sym (no_cells hs shown)
cells_end hs [] (suc i) shown none = no_cells (drop (suc (suc i)) hs) shown ∙ sym (no_cells (drop (suc i) hs) shown)
cells_end hs (c ∷ cells) zero shown none = absurd (let wrong : Some c ≡ None = none in cc)
cells_end [] (c ∷ cells) (suc i) shown none = refl
cells_end (h ∷ hs) (c ∷ cells) (suc i) shown none = cells_end hs cells i shown none

-- the text and type of a shown column
pub head_there : (columns : List Column) (plan : Plan) (split : List Cell) (items : List ℕ) (i k : ℕ) → items ≡ plan.columns → slice_get items i ≡ Some k → slice_get (under columns plan split) i ≡ Some (head_at columns plan split k)
head_there columns plan split items i k same is =
    slice_get-map (head_at columns plan split) plan.columns i ∙ ap (option_map (head_at columns plan split)) (ap (λ xs. slice_get xs i) (sym same) ∙ is)

-- ---- shown rows

rows_through : (heads : Heads) (xs : List FlatRow) → map (λ (p : PlacedRow). p.row) (map (as_placed heads) xs) ≡ map (shown_row heads) xs
rows_through heads [] = refl
rows_through heads (x ∷ xs) = ap (λ rs. shown_row heads x ∷ rs) (rows_through heads xs)

unmarked : (k : ViewKey) → IsMarked k false
unmarked (Row c) = refl
unmarked (Group p) = tt

all_unmarked : (heads : Heads) (xs : List FlatRow) → All (λ (r : ShownRow). IsMarked r.key r.mark) (map (shown_row heads) xs)
all_unmarked heads [] = All-nil (λ (r : ShownRow). IsMarked r.key r.mark)
all_unmarked heads (x ∷ xs) = All-cons (λ (r : ShownRow). IsMarked r.key r.mark) (shown_row heads x) (map (shown_row heads) xs) (unmarked (live_key x)) (all_unmarked heads xs)

pub rows_shown : (heads : Heads) (xs : List FlatRow) → IsDistinct (same_by live_key) xs → AreShownRows (map (shown_row heads) xs)
rows_shown heads xs differ = record {
  distinct = subst (λ (rs : List ShownRow). AreDistinct (map (λ (r : ShownRow). r.key) rs)) (rows_through heads xs)
      (shown_distinct (map (as_placed heads) xs) (IsDistinct-map (same_by live_key) same_keys (as_placed heads) (λ x y apart. apart) xs differ));
  marked = all_unmarked heads xs;
}

pub placed_shown : (heads : Heads) (xs : List FlatRow) → IsDistinct (same_by live_key) xs → AreShownRows (map (λ (p : PlacedRow). p.row) (map (as_placed heads) xs))
placed_shown heads xs differ = subst (λ (rs : List ShownRow). AreShownRows rs) (sym (rows_through heads xs)) (rows_shown heads xs differ)
