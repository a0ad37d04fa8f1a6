-- Two views with the same header and rows are the same.
use Rattle.std.specs.Prelude.{◌≡◌}
use Rattle.view_types.specs.declared.shown.Shown.{Shown}

pub shown_by_parts : (a b : Shown) → a.header ≡ b.header → a.rows ≡ b.rows → a ≡ b
shown_by_parts a b header rows = λ i. record { header = header i; rows = rows i }
