-- Fractions as numbers.
use Rattle.std.specs.Prelude.{◌*ℤ◌}
use Rattle.std.specs.declared.cmp.Ordering.{Ordering}
use Rattle.std.specs.Ordering.{int_cmp}
use Rattle.value_core.specs.declared.fraction.Fraction.{Fraction}
pub use Rattle.value_core.specs.Reduced.{IsReduced, IsInReach}

-- fractions compare as numbers: both sides are taken times the two denominators, which are positive
unfoldable pub fraction_order : Fraction → Fraction → Ordering
fraction_order x y = int_cmp (x.n *ℤ y.d) (y.n *ℤ x.d)
