-- What a column's aggregate owes and stands for as rows come and go.
use Rattle.std.proofs.Common.{◌≡◌, ℕ, List, Some, None, [], ◌∷◌, refl, sym, ap, ◌∙◌, subst, arith}
use Rattle.std.specs.Prelude.{slice_get, Result, OnOk}
use Rattle.std.proofs.lemmas.Result.{on_ok_weaker}
use Rattle.std.proofs.lemmas.Option.{unwrap_or-slice_get}
use Rattle.std.specs.Prelude.{unwrap_or}
use Rattle.cell_core.specs.declared.cell.Cell.{Cell}
use Rattle.cell_core.specs.declared.cell.Cell.TheVariants.{Null}
use Rattle.row_batch.specs.declared.batch.Pair.{Pair}
use Rattle.plan_types.specs.declared.plan.Named.{Named}
use Rattle.agg_core.specs.declared.any.AnyAggregate.{AnyAggregate}
use Rattle.agg_core.specs.Pairs.{cell_at, cells_of, with_pair, without_key}
use Rattle.agg_core.specs.Standing.{CanAdd}
use Rattle.agg_core.specs.Types.{IsTaken}
use Rattle.agg_core.specs.Any.{any_name, any_stands}
use Rattle.view_spec.specs.Filters.{cell_in}
use Rattle.pivot_tree.specs.Groups.{CanHold, HasRow, Holds, cells_in, pairs_in, named_of, with_row, without_row}
use Rattle.pivot_tree.specs.declared.column.ColumnAggregate.{ColumnAggregate}
use Rattle.pivot_tree.proofs.Rows.{absent, cell_at-row, length-pairs_in, pairs_in-with_row, pairs_in-without_row}

pub cell_there : (row : List Cell) (i : ℕ) (c : Cell) → Some c ≡ slice_get row i → cell_in row i ≡ c
cell_there row i c h = sym (unwrap_or-slice_get row i Null) ∙ ap (λ o. unwrap_or o Null) (sym h)

pub cell_past : (row : List Cell) (i : ℕ) → None ≡ slice_get row i → cell_in row i ≡ Null
cell_past row i h = sym (unwrap_or-slice_get row i Null) ∙ ap (λ o. unwrap_or o Null) (sym h)

pub can_add : (u : Named) (rows : List Pair) (p : Pair) (c : Cell) → cell_in p.row u.column ≡ c → CanHold u rows p → CanAdd u.aggregate (pairs_in u.column rows) p.key c
can_add u rows p c is can = record {
  absent = absent u.column p.key rows can.absent;
  room = let same = length-pairs_in u.column rows in let room = can.room in omega arith;
  taken = subst (IsTaken u.aggregate) is can.taken;
}

pub there : (column : ℕ) (rows : List Pair) (p : Pair) (c : Cell) → cell_in p.row column ≡ c → HasRow rows p → cell_at (pairs_in column rows) p.key ≡ Some c
there column rows p c is has = cell_at-row column rows p has ∙ ap Some is

pub pairs-with : (column : ℕ) (rows : List Pair) (p : Pair) (c : Cell) → cell_in p.row column ≡ c → (u : Named) → CanHold u rows p
    → with_pair (pairs_in column rows) p.key c ≡ pairs_in column (with_row rows p)
pairs-with column rows p c is u can = sym (pairs_in-with_row column rows p can.absent ∙ ap (with_pair (pairs_in column rows) p.key) is)

pub pairs-without : (column : ℕ) (rows : List Pair) (p : Pair) → HasRow rows p → without_key (pairs_in column rows) p.key ≡ pairs_in column (without_row rows p)
pairs-without column rows p has = sym (pairs_in-without_row column rows p has)

pub held_with : {E : Type 0} (r : Result (Unit {0}) E) (h : ColumnAggregate) (p : Pair) (c : Cell) (after : AnyAggregate) → cell_in p.row h.column ≡ c
    → OnOk r ((pairs : List (Cell × Cell)) → any_stands h.aggregate pairs → CanAdd (any_name h.aggregate) pairs p.key c → any_stands after (with_pair pairs p.key c))
    → OnOk r ((rows : List Pair) → Holds rows h → CanHold (named_of h) rows p → any_stands after (pairs_in h.column (with_row rows p)))
held_with r h p c after is step =
    on_ok_weaker r (λ step rows holds can. subst (any_stands after) (pairs-with h.column rows p c is (named_of h) can) (step (pairs_in h.column rows) holds (can_add (named_of h) rows p c is can))) step

pub held_without : (h : ColumnAggregate) (p : Pair) (c : Cell) (after : AnyAggregate) → cell_in p.row h.column ≡ c
    → ((pairs : List (Cell × Cell)) → any_stands h.aggregate pairs → cell_at pairs p.key ≡ Some c → any_stands after (without_key pairs p.key))
    → (rows : List Pair) → Holds rows h → HasRow rows p → any_stands after (pairs_in h.column (without_row rows p))
held_without h p c after is step rows holds has =
    subst (any_stands after) (pairs-without h.column rows p has) (step (pairs_in h.column rows) holds (there h.column rows p c is has))

pub cells-pairs_in : (column : ℕ) (rows : List Pair) → cells_of (pairs_in column rows) ≡ cells_in column rows
cells-pairs_in column [] = refl
cells-pairs_in column (p ∷ rows) = ap (λ (cs : List Cell). cell_in p.row column ∷ cs) (cells-pairs_in column rows)
