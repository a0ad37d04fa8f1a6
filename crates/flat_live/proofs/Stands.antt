-- What a live flat view keeps after changes, and what is shown of it.
use Rattle.std.proofs.Common.{◌≡◌, ℕ, Bool, true, false, cond, List, [], ◌∷◌, map, Option, Some, None, refl, sym, ◌∙◌, ap}
use Rattle.std.specs.Prelude.{◌||◌}
use Rattle.std.specs.Option.{option_map}
use Rattle.cell_core.specs.Cells.{same_cell}
use Rattle.cell_core.specs.declared.cell.Cell.{Cell}
use Rattle.cell_core.specs.declared.schema.Column.{Column}
use Rattle.row_batch.specs.Batches.{pair_of}
use Rattle.row_batch.specs.Changes.{changed, changed_all, row_at}
use Rattle.row_batch.specs.declared.batch.Pair.{Pair}
use Rattle.row_batch.specs.declared.change.RowChange.{RowChange}
use Rattle.row_batch.proofs.Lookups.{SameRows, row_at-changed}
use Rattle.plan_types.specs.declared.plan.Plan.{Plan}
use Rattle.place_order.specs.declared.rank.Rank.{Rank}
use Rattle.value_core.specs.declared.value.Value.{Value}
use Rattle.view_types.specs.Keys.{same_key}
use Rattle.view_types.specs.declared.key.ViewKey.{ViewKey}
use Rattle.view_types.specs.declared.key.ViewKey.TheVariants.{Row, Group}
use Rattle.view_types.proofs.KeyOrder as keys
use Rattle.delta_core.specs.KeySets.{is_among}
use Rattle.delta_core.specs.Rows.{at_key}
use Rattle.view_columns.specs.Headers.{under}
use Rattle.view_spec.specs.Cells.{head_at, with_columns, with_value}
use Rattle.view_spec.specs.Columns.{is_flat}
use Rattle.view_spec.specs.Entries.{entry, group_entry, kept_at, row_entry}
use Rattle.view_spec.specs.Filters.{cell_in}
use Rattle.view_spec.specs.Members.{split_of}
use Rattle.view_spec.specs.Places.{place_of_row, row_value}
use Rattle.view_spec.specs.Views.{Side, placed_row}
use Rattle.view_spec.specs.declared.placed.PlacedRow.{PlacedRow}
use Rattle.live_list.specs.Live.{live_key}
use Rattle.flat_live.specs.FlatRows.{FlatRow}
use Rattle.flat_live.specs.Rows.{IsKeptOf, as_placed, cells_under, changed_keys, live_at, live_of, live_row, live_under, settled}
use Rattle.flat_live.proofs.Acts.{settled-other}

-- ---- a kept row is shown as the definition says

cells_shown : (columns : List Column) (plan : Plan) (split : List Cell) (p : Pair) (is : List ℕ) (cells : List (List ℕ × Value))
    → cells_under (map (head_at columns plan split) is) (map (cell_in p.row) is) cells ≡ with_columns columns plan split (row_value p) is cells
cells_shown columns plan split p [] cells = refl
cells_shown columns plan split p (i ∷ is) cells = cells_shown columns plan split p is (with_value cells (head_at columns plan split i).text (row_value p i))

placed_with : (place : List Rank) (p : Pair) (a b : List (List ℕ × Value)) → a ≡ b
    → let x : PlacedRow = record { place = place; row = record { key = Row p.key; mark = false; cells = a } } in
    x ≡ record { place = place; row = record { key = Row p.key; mark = false; cells = b } }
placed_with place p a b h = λ i. record { place = place; row = record { key = Row p.key; mark = false; cells = h i } }

placed_live : (columns : List Column) (plan : Plan) (p : Pair) → as_placed (under columns plan) (live_row plan p) ≡ placed_row columns plan p
placed_live columns plan p = placed_with (place_of_row plan p) p _ _ (cells_shown columns plan (split_of plan p) p plan.columns [])

placed_live_at : (columns : List Column) (plan : Plan) (o : Option Pair) → option_map (as_placed (under columns plan)) (live_at plan o) ≡ option_map (placed_row columns plan) (kept_at plan o)
placed_live_at columns plan o = by (kept_at plan o)
  where
    by : (k : Option Pair) → option_map (as_placed (under columns plan)) (option_map (live_row plan) k) ≡ option_map (placed_row columns plan) k
    by None = refl
    by (Some p) = ap Some (placed_live columns plan p)

-- under each key stands the view's row
pub entry_kept : (s : Side) (k : ViewKey) → is_flat s.plan ≡ true → option_map (as_placed (under s.columns s.plan)) (live_under s.plan s.pairs k) ≡ entry s k
entry_kept s (Row key) flat = placed_live_at s.columns s.plan (option_map (pair_of key) (row_at s.pairs key)) ∙ ap (λ b. cond b (row_entry s key) None) (sym flat)
entry_kept s (Group path) flat = ap (λ b. cond b None (group_entry s path)) (sym flat)

-- ---- the row at a key after changes

abbrev pub row_after : List RowChange → Cell → Option (List Cell) → Option (List Cell)
row_after [] key o = o
row_after (c ∷ cs) key o = row_after cs key (cond (same_cell c.key key) c.new o)

pub row_at-changed_all : (ps : List Pair) (cs : List RowChange) (key : Cell) → row_at (changed_all ps cs) key ≡ row_after cs key (row_at ps key)
row_at-changed_all ps [] key = refl
row_at-changed_all ps (c ∷ cs) key = row_at-changed_all (changed ps c) cs key ∙ ap (row_after cs key) (row_at-changed ps c key)

row_after-free : (cs : List RowChange) (key : Cell) (o n : Option (List Cell)) → is_among (changed_keys cs) (Row key) ≡ true → row_after cs key o ≡ row_after cs key n
row_after-free [] key o n among = absurd (let wrong : false ≡ true = among in cc)
row_after-free (c ∷ cs) key o n among = by (same_cell c.key key) refl (λ more. row_after-free cs key o n more)
  where
    by : (b : Bool) → same_cell c.key key ≡ b → (is_among (changed_keys cs) (Row key) ≡ true → row_after cs key o ≡ row_after cs key n) → row_after cs key (cond b c.new o) ≡ row_after cs key (cond b c.new n)
    by true is more = refl
    by false is more = more (sym (ap (λ d. d || is_among (changed_keys cs) (Row key)) (keys.same_key-symm (Row key) (Row c.key) ∙ is)) ∙ among)

row_after-other : (cs : List RowChange) (key : Cell) (o : Option (List Cell)) → is_among (changed_keys cs) (Row key) ≡ false → row_after cs key o ≡ o
row_after-other [] key o none = refl
row_after-other (c ∷ cs) key o none = by (same_key (Row key) (Row c.key)) refl (λ more. row_after-other cs key o more)
  where
    by : (b : Bool) → same_key (Row key) (Row c.key) ≡ b → (is_among (changed_keys cs) (Row key) ≡ false → row_after cs key o ≡ o) → row_after cs key (cond (same_cell c.key key) c.new o) ≡ o
    by true is more = absurd (let wrong : true ≡ false = sym (ap (λ d. d || is_among (changed_keys cs) (Row key)) is) ∙ none in cc)
    by false is more =
        ap (λ d. row_after cs key (cond d c.new o)) (keys.same_key-symm (Row c.key) (Row key) ∙ is)
        ∙ more (sym (ap (λ d. d || is_among (changed_keys cs) (Row key)) is) ∙ none)

-- ---- under each key

settled_row : (plan : Plan) (first : List FlatRow) (cs : List RowChange) (key : Cell) (o : Option (List Cell)) → at_key live_key (Row key) first ≡ live_at plan (option_map (pair_of key) o)
    → settled plan first cs (Row key) ≡ live_at plan (option_map (pair_of key) (row_after cs key o))
settled_row plan first [] key o base = base
settled_row plan first (c ∷ cs) key o base = by (is_among (changed_keys cs) (Row key)) refl (same_key (Row c.key) (Row key)) refl (settled_row plan first cs key o base)
  where
    by : (d : Bool) → is_among (changed_keys cs) (Row key) ≡ d → (b : Bool) → same_key (Row c.key) (Row key) ≡ b
        → settled plan first cs (Row key) ≡ live_at plan (option_map (pair_of key) (row_after cs key o))
        → cond d (settled plan first cs (Row key)) (cond b (live_of plan c) (settled plan first cs (Row key))) ≡ live_at plan (option_map (pair_of key) (row_after cs key (cond b c.new o)))
    by true among b is later = later ∙ ap (λ w. live_at plan (option_map (pair_of key) w)) (row_after-free cs key o (cond b c.new o) among)
    by false among false is later = later
    by false among true is later =
        ap (λ (k : ViewKey). same_row k) (keys.same_key_is_equal (Row c.key) (Row key) is)
        ∙ ap (λ w. live_at plan (option_map (pair_of key) w)) (sym (row_after-other cs key c.new among))
      where
        same_row : ViewKey → Option FlatRow
        same_row (Row z) = live_at plan (option_map (pair_of z) c.new)
        same_row (Group p) = None

no_group_among : (cs : List RowChange) (path : List Cell) → is_among (changed_keys cs) (Group path) ≡ false
no_group_among [] path = refl
no_group_among (c ∷ cs) path = no_group_among cs path

-- the rows that the plan keeps after changes
pub kept_settled : (plan : Plan) (pairs : List Pair) (first now : List FlatRow) (cs : List RowChange) → IsKeptOf plan pairs first → ((k : ViewKey) → at_key live_key k now ≡ settled plan first cs k)
    → IsKeptOf plan (changed_all pairs cs) now
kept_settled plan pairs first now cs h each = record { rows = λ k. each k ∙ by k }
  where
    by : (k : ViewKey) → settled plan first cs k ≡ live_under plan (changed_all pairs cs) k
    by (Row key) = settled_row plan first cs key (row_at pairs key) (h.rows (Row key)) ∙ ap (λ o. live_at plan (option_map (pair_of key) o)) (sym (row_at-changed_all pairs cs key))
    by (Group path) = settled-other plan first cs (Group path) (no_group_among cs path) ∙ h.rows (Group path)

-- and of rows in another order
pub kept_reordered : (plan : Plan) (a b : List Pair) (rows : List FlatRow) → SameRows a b → IsKeptOf plan a rows → IsKeptOf plan b rows
kept_reordered plan a b rows same h = record { rows = λ k. h.rows k ∙ by k }
  where
    by : (k : ViewKey) → live_under plan a k ≡ live_under plan b k
    by (Row key) = ap (λ o. live_at plan (option_map (pair_of key) o)) (same key)
    by (Group path) = refl
