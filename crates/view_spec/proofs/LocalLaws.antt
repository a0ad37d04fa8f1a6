-- A step touches no group but those in which a changed row counts, and those below a group whose sort ranks changed.
use Rattle.value_core.specs.declared.value.Value.{Value}
use Rattle.std.proofs.Common.{◌≡◌, ℕ, true, false, cond, ◌&&◌, ◌||◌, List, [], All, Option, Some, None, refl, sym, ◌∙◌, ap}
use Rattle.std.specs.Prelude.{not}
use Rattle.plain_data.specs.Distinct.{AreDistinct}
use Rattle.cell_core.specs.declared.cell.Cell.{Cell}
use Rattle.cell_core.specs.declared.schema.Column.{Column}
use Rattle.row_batch.specs.Changes.{FitRows}
use Rattle.row_batch.specs.Tables.{keys_of_rows}
use Rattle.row_batch.specs.declared.batch.Pair.{Pair}
use Rattle.row_batch.specs.declared.change.RowChange.{RowChange}
use Rattle.row_batch.proofs.ChangeLists.{distinct_changed_all}
use Rattle.std.proofs.lemmas.Cmp.{tied_itself}
use Rattle.plain_data.specs.Lists.{is_empty}
use Rattle.view_types.specs.declared.key.ViewKey.{ViewKey}
use Rattle.view_types.specs.declared.key.ViewKey.TheVariants.{Group}
use Rattle.view_types.proofs.SameRows.{same_row_itself}
use Rattle.plan_types.specs.declared.plan.Plan.{Plan}
use Rattle.view_spec.specs.Cells.{cells_of_group}
use Rattle.view_spec.specs.Columns.{is_flat}
use Rattle.view_spec.specs.Entries.{entry, group_entry, is_there, where_it}
use Rattle.view_spec.specs.Kept.{kept}
use Rattle.view_spec.specs.Members.{members, splits}
use Rattle.view_spec.specs.Openings.{Opening, is_visible, mark_of}
use Rattle.view_spec.specs.Paths.{prefixes}
use Rattle.place_order.specs.declared.rank.Rank.{Rank}
use Rattle.view_spec.specs.Places.{group_ranks, place_of_group, rows_value, sort_ranks}
use Rattle.view_spec.specs.Touching.{is_touched, same_found}
use Rattle.view_spec.specs.declared.placed.PlacedRow.{PlacedRow}
use Rattle.view_spec.specs.Views.{Side, placed, placed_group}
use Rattle.view_spec.specs.Steps.{PassesGroup, changed_side}
use Rattle.view_spec.proofs.KeptLaws.{members-changed_all}
use Rattle.view_spec.proofs.PathLaws.{any-members}
use Rattle.place_order.specs.PlaceLaws.{place_order-total}
use Rattle.view_spec.proofs.PlaceLaws.{levels-same}
use Rattle.view_spec.proofs.ViewLaws.{found}

-- ---- what a group shows depends on its members, the splits and the ranks on the way

there-same : (plan : Plan) (rows more : List Pair) (q : List Cell) → members plan more q ≡ members plan rows q → is_there plan more q ≡ is_there plan rows q
there-same plan rows more q same =
    ap (λ b. is_empty q || b) (any-members plan q more ∙ ap (λ ms. not (is_empty ms)) same ∙ sym (any-members plan q rows))

pub ranks-same : (columns : List Column) (plan : Plan) (rows more : List Pair) (q : List Cell) → members plan more q ≡ members plan rows q
    → group_ranks columns plan more q ≡ group_ranks columns plan rows q
ranks-same columns plan rows more q same = ap (λ ms. sort_ranks plan (rows_value columns plan ms)) same

same_entry : (plan : Plan) (opening : Opening) (q : List Cell) (p r : List Rank) (c d : List (List ℕ × Value)) → p ≡ r → c ≡ d
    → let x : PlacedRow = record { place = p; row = record { key = Group q; mark = mark_of plan opening q; cells = c } } in
    x ≡ record { place = r; row = record { key = Group q; mark = mark_of plan opening q; cells = d } }
same_entry plan opening q p r c d places cells = cc

pub placed_group-same : (columns : List Column) (plan : Plan) (opening : Opening) (rows more : List Pair) (q : List Cell)
    → All (λ r. group_ranks columns plan more r ≡ group_ranks columns plan rows r) (prefixes q)
    → cells_of_group columns plan (splits plan more) (members plan more q) ≡ cells_of_group columns plan (splits plan rows) (members plan rows q)
    → placed_group columns plan opening more q ≡ placed_group columns plan opening rows q
placed_group-same columns plan opening rows more q ranks cells =
    same_entry plan opening q (place_of_group columns plan more q) (place_of_group columns plan rows q)
    (cells_of_group columns plan (splits plan more) (members plan more q)) (cells_of_group columns plan (splits plan rows) (members plan rows q))
    (levels-same (group_ranks columns plan more) (group_ranks columns plan rows) [] q ranks) cells

-- ---- a step

-- LOCALITY: a group in which no changed row counts keeps its members
pub members_stay : (s : Side) (changes : List RowChange) (q : List Cell) → AreDistinct (keys_of_rows s.pairs) → FitRows s.pairs changes → PassesGroup s changes q
    → members s.plan (kept s.plan (changed_side s changes).pairs) q ≡ members s.plan (kept s.plan s.pairs) q
members_stay s changes q distinct fit by =
    members-changed_all s.plan q s.pairs changes distinct (distinct_changed_all s.pairs changes distinct) fit by

-- and its sort ranks
pub ranks_stay : (s : Side) (changes : List RowChange) (q : List Cell) → AreDistinct (keys_of_rows s.pairs) → FitRows s.pairs changes → PassesGroup s changes q
    → group_ranks s.columns s.plan (kept s.plan (changed_side s changes).pairs) q ≡ group_ranks s.columns s.plan (kept s.plan s.pairs) q
ranks_stay s changes q distinct fit by =
    ranks-same s.columns s.plan (kept s.plan s.pairs) (kept s.plan (changed_side s changes).pairs) q (members_stay s changes q distinct fit by)

-- what is shown of such a group is the same, where no group above it has other ranks and its cells are the same under the splits
pub group_entry_stays : (s : Side) (changes : List RowChange) (q : List Cell) → AreDistinct (keys_of_rows s.pairs) → FitRows s.pairs changes → PassesGroup s changes q
    → All (λ r. group_ranks s.columns s.plan (kept s.plan (changed_side s changes).pairs) r ≡ group_ranks s.columns s.plan (kept s.plan s.pairs) r) (prefixes q)
    → cells_of_group s.columns s.plan (splits s.plan (kept s.plan (changed_side s changes).pairs)) (members s.plan (kept s.plan s.pairs) q)
    ≡ cells_of_group s.columns s.plan (splits s.plan (kept s.plan s.pairs)) (members s.plan (kept s.plan s.pairs) q)
    → group_entry (changed_side s changes) q ≡ group_entry s q
group_entry_stays s changes q distinct fit by ranks cells =
    let was = kept s.plan s.pairs in
    let now = kept s.plan (changed_side s changes).pairs in
    let stay : members s.plan now q ≡ members s.plan was q = members_stay s changes q distinct fit by in
    let there : is_there s.plan now q ≡ is_there s.plan was q = there-same s.plan was now q stay in
    let more : cells_of_group s.columns s.plan (splits s.plan now) (members s.plan now q) ≡ cells_of_group s.columns s.plan (splits s.plan was) (members s.plan was q) =
    ap (λ ms. cells_of_group s.columns s.plan (splits s.plan now) ms) stay ∙ cells in
    let row : placed_group s.columns s.plan s.opening now q ≡ placed_group s.columns s.plan s.opening was q =
    placed_group-same s.columns s.plan s.opening was now q ranks more in
    λ i. where_it (is_visible s.opening q && there i) (row i)

-- ---- touched keys

pub same_found-itself : (a : Option PlacedRow) → same_found a a ≡ true
same_found-itself None = refl
same_found-itself (Some a) = rw (tied_itself place_order-total a.place, same_row_itself a.row) refl

-- A KEY IS TOUCHED WHERE WHAT STANDS UNDER IT DIFFERS
pub touched-by_entry : (a b : Side) (k : ViewKey) → AreDistinct (keys_of_rows a.pairs) → AreDistinct (keys_of_rows b.pairs)
    → is_touched (placed a) (placed b) k ≡ not (same_found (entry a k) (entry b k))
touched-by_entry a b k first last = λ i. not (same_found (found a k first i) (found b k last i))

pub untouched : (a b : Side) (k : ViewKey) → AreDistinct (keys_of_rows a.pairs) → AreDistinct (keys_of_rows b.pairs) → entry b k ≡ entry a k
    → is_touched (placed a) (placed b) k ≡ false
untouched a b k first last same =
    touched-by_entry a b k first last ∙ ap (λ e. not (same_found (entry a k) e)) same ∙ ap not (same_found-itself (entry a k))

-- LOCALITY OF A STEP, without new or gone splits
pub group_untouched : (s : Side) (changes : List RowChange) (q : List Cell) → is_flat s.plan ≡ false → AreDistinct (keys_of_rows s.pairs) → FitRows s.pairs changes
    → PassesGroup s changes q
    → All (λ r. group_ranks s.columns s.plan (kept s.plan (changed_side s changes).pairs) r ≡ group_ranks s.columns s.plan (kept s.plan s.pairs) r) (prefixes q)
    → splits s.plan (kept s.plan (changed_side s changes).pairs) ≡ splits s.plan (kept s.plan s.pairs)
    → is_touched (placed s) (placed (changed_side s changes)) (Group q) ≡ false
group_untouched s changes q grouped distinct fit by ranks same =
    untouched s (changed_side s changes) (Group q) distinct (distinct_changed_all s.pairs changes distinct)
    (ap (λ b. cond b None (group_entry (changed_side s changes) q)) grouped
    ∙ group_entry_stays s changes q distinct fit by ranks (ap (λ ss. cells_of_group s.columns s.plan ss (members s.plan (kept s.plan s.pairs) q)) same)
    ∙ sym (ap (λ b. cond b None (group_entry s q)) grouped))
