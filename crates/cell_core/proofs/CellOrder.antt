-- The order of cells is that of the derived comparison, is total, and tells each two cells apart.
use Rattle.std.proofs.Common.{◌≡◌, Less, Equal, Greater, refl, sym, ap, ◌∙◌}
use Rattle.std.proofs.lemmas.Map.Lookups.{CmpEqualImpliesEq, exact_signed, exact_bytes}
use Rattle.std.specs.Cmp.{IsTotalOrder}
use Rattle.std.specs.Ordering.{ordering_reverse}
use Rattle.value_core.specs.ValueLaws.{bool_cmp-exact}
use Rattle.cell_core.specs.declared.cell.Cell.{Cell}
use Rattle.cell_core.specs.declared.cell.Cell.TheVariants as cell
use Rattle.cell_core.specs.Cells.{cell_order}
use Rattle.cell_core.specs.contracts.cell.CellOrd.TheImpl.{ghosts}
use Rattle.cell_core.specs.contracts.cell.CellOrd.TheImpl.Laws.{total-law}

pub derived_order : (a b : Cell) → ghosts.cmp a b ≡ cell_order a b
derived_order cell.Null cell.Null = refl
derived_order cell.Null (cell.Bool y) = refl
derived_order cell.Null (cell.Int y) = refl
derived_order cell.Null (cell.Date y) = refl
derived_order cell.Null (cell.Moment y) = refl
derived_order cell.Null (cell.Words y) = refl
derived_order (cell.Bool x) cell.Null = refl
derived_order (cell.Bool x) (cell.Bool y) = refl
derived_order (cell.Bool x) (cell.Int y) = refl
derived_order (cell.Bool x) (cell.Date y) = refl
derived_order (cell.Bool x) (cell.Moment y) = refl
derived_order (cell.Bool x) (cell.Words y) = refl
derived_order (cell.Int x) cell.Null = refl
derived_order (cell.Int x) (cell.Bool y) = refl
derived_order (cell.Int x) (cell.Int y) = refl
derived_order (cell.Int x) (cell.Date y) = refl
derived_order (cell.Int x) (cell.Moment y) = refl
derived_order (cell.Int x) (cell.Words y) = refl
derived_order (cell.Date x) cell.Null = refl
derived_order (cell.Date x) (cell.Bool y) = refl
derived_order (cell.Date x) (cell.Int y) = refl
derived_order (cell.Date x) (cell.Date y) = refl
derived_order (cell.Date x) (cell.Moment y) = refl
derived_order (cell.Date x) (cell.Words y) = refl
derived_order (cell.Moment x) cell.Null = refl
derived_order (cell.Moment x) (cell.Bool y) = refl
derived_order (cell.Moment x) (cell.Int y) = refl
derived_order (cell.Moment x) (cell.Date y) = refl
derived_order (cell.Moment x) (cell.Moment y) = refl
derived_order (cell.Moment x) (cell.Words y) = refl
derived_order (cell.Words x) cell.Null = refl
derived_order (cell.Words x) (cell.Bool y) = refl
derived_order (cell.Words x) (cell.Int y) = refl
derived_order (cell.Words x) (cell.Date y) = refl
derived_order (cell.Words x) (cell.Moment y) = refl
derived_order (cell.Words x) (cell.Words y) = refl

pub exact : CmpEqualImpliesEq cell_order
exact cell.Null cell.Null h = refl
exact cell.Null (cell.Bool y) h = absurd (let wrong : Less ≡ Equal = h in cc)
exact cell.Null (cell.Int y) h = absurd (let wrong : Less ≡ Equal = h in cc)
exact cell.Null (cell.Date y) h = absurd (let wrong : Less ≡ Equal = h in cc)
exact cell.Null (cell.Moment y) h = absurd (let wrong : Less ≡ Equal = h in cc)
exact cell.Null (cell.Words y) h = absurd (let wrong : Less ≡ Equal = h in cc)
exact (cell.Bool x) cell.Null h = absurd (let wrong : Greater ≡ Equal = h in cc)
exact (cell.Bool x) (cell.Bool y) h = ap cell.Bool (bool_cmp-exact x y h)
exact (cell.Bool x) (cell.Int y) h = absurd (let wrong : Less ≡ Equal = h in cc)
exact (cell.Bool x) (cell.Date y) h = absurd (let wrong : Less ≡ Equal = h in cc)
exact (cell.Bool x) (cell.Moment y) h = absurd (let wrong : Less ≡ Equal = h in cc)
exact (cell.Bool x) (cell.Words y) h = absurd (let wrong : Less ≡ Equal = h in cc)
exact (cell.Int x) cell.Null h = absurd (let wrong : Greater ≡ Equal = h in cc)
exact (cell.Int x) (cell.Bool y) h = absurd (let wrong : Greater ≡ Equal = h in cc)
exact (cell.Int x) (cell.Int y) h = ap cell.Int (exact_signed x y h)
exact (cell.Int x) (cell.Date y) h = absurd (let wrong : Less ≡ Equal = h in cc)
exact (cell.Int x) (cell.Moment y) h = absurd (let wrong : Less ≡ Equal = h in cc)
exact (cell.Int x) (cell.Words y) h = absurd (let wrong : Less ≡ Equal = h in cc)
exact (cell.Date x) cell.Null h = absurd (let wrong : Greater ≡ Equal = h in cc)
exact (cell.Date x) (cell.Bool y) h = absurd (let wrong : Greater ≡ Equal = h in cc)
exact (cell.Date x) (cell.Int y) h = absurd (let wrong : Greater ≡ Equal = h in cc)
exact (cell.Date x) (cell.Date y) h = ap cell.Date (exact_signed x y h)
exact (cell.Date x) (cell.Moment y) h = absurd (let wrong : Less ≡ Equal = h in cc)
exact (cell.Date x) (cell.Words y) h = absurd (let wrong : Less ≡ Equal = h in cc)
exact (cell.Moment x) cell.Null h = absurd (let wrong : Greater ≡ Equal = h in cc)
exact (cell.Moment x) (cell.Bool y) h = absurd (let wrong : Greater ≡ Equal = h in cc)
exact (cell.Moment x) (cell.Int y) h = absurd (let wrong : Greater ≡ Equal = h in cc)
exact (cell.Moment x) (cell.Date y) h = absurd (let wrong : Greater ≡ Equal = h in cc)
exact (cell.Moment x) (cell.Moment y) h = ap cell.Moment (exact_signed x y h)
exact (cell.Moment x) (cell.Words y) h = absurd (let wrong : Less ≡ Equal = h in cc)
exact (cell.Words x) cell.Null h = absurd (let wrong : Greater ≡ Equal = h in cc)
exact (cell.Words x) (cell.Bool y) h = absurd (let wrong : Greater ≡ Equal = h in cc)
exact (cell.Words x) (cell.Int y) h = absurd (let wrong : Greater ≡ Equal = h in cc)
exact (cell.Words x) (cell.Date y) h = absurd (let wrong : Greater ≡ Equal = h in cc)
exact (cell.Words x) (cell.Moment y) h = absurd (let wrong : Greater ≡ Equal = h in cc)
exact (cell.Words x) (cell.Words y) h = ap cell.Words (exact_bytes x y h)

pub total : IsTotalOrder cell_order
total = record {
  antisymm = λ x y. sym (derived_order x y) ∙ total-law.antisymm x y ∙ ap ordering_reverse (derived_order y x);
  trans = λ x y z p q. sym (derived_order x z) ∙ total-law.trans x y z (derived_order x y ∙ p) (derived_order y z ∙ q);
  congr = λ x y z p. sym (derived_order x z) ∙ total-law.congr x y z (derived_order x y ∙ p) ∙ derived_order y z;
}
