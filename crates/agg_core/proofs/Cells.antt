-- What the order of cells tells of two cells.
use Rattle.std.proofs.Common.{◌≡◌, true, Less, Equal, Greater, refl, sym, ap, ◌∙◌, subst}
use Rattle.std.proofs.lemmas.Cmp.{tied_itself}
use Rattle.std.specs.declared.cmp.Ordering.{Ordering}
use Rattle.std.specs.Ordering.{is_eq, is_lt, ordering_reverse}
use Rattle.cell_core.proofs.CellOrder as order
use Rattle.cell_core.specs.Cells.{cell_order, same_cell}
use Rattle.cell_core.specs.declared.cell.Cell.{Cell}
use Rattle.cell_core.specs.contracts.cell.CellOrd.TheImpl.{ghosts}

-- the derived comparison is the order of cells
pub derived : ghosts.cmp ≡ cell_order
derived i a b = order.derived_order a b i

abbrev Compare : Type 0
Compare = Cell → Cell → Ordering

-- what holds of the order of cells holds of the map's comparison
pub of_map : (P : Compare → Type 0) → P cell_order → P ghosts.cmp
of_map P h = subst P (sym derived) h

pub itself : (a : Cell) → cell_order a a ≡ Equal
itself a = tied_itself order.total a

pub same_itself : (c : Cell) → same_cell c c ≡ true
same_itself c = ap is_eq (itself c)

pub Less-from_is_lt : (o : Ordering) → is_lt o ≡ true → o ≡ Less
Less-from_is_lt Less h = refl
Less-from_is_lt Equal h = absurd (cc)
Less-from_is_lt Greater h = absurd (cc)

pub after : (a b : Cell) → cell_order a b ≡ Greater → cell_order b a ≡ Less
after a b h = order.total.antisymm b a ∙ ap ordering_reverse h

pub before : (a b : Cell) → cell_order a b ≡ Less → cell_order b a ≡ Greater
before a b h = order.total.antisymm b a ∙ ap ordering_reverse h
