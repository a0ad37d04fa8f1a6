-- What rows keep that are shown together.
use Rattle.std.specs.Prelude.{◌≡◌, Bool, false, List, All, map}
use Rattle.plain_data.specs.Distinct.{AreDistinct}
use Rattle.view_types.specs.declared.key.ViewKey.{ViewKey}
use Rattle.view_types.specs.declared.key.ViewKey.TheVariants.{Row, Group}
use Rattle.view_types.specs.declared.shown.ShownRow.{ShownRow}

-- only a group has a mark
abbrev pub IsMarked : ViewKey → Bool → Type 0
IsMarked (Row cell) mark = mark ≡ false
IsMarked (Group path) mark = Unit {0}

pub record AreShownRows (rows : List ShownRow) : Type 0 where
  pub distinct : AreDistinct (map (λ r. r.key) rows)
  pub marked : All (λ (r : ShownRow). IsMarked r.key r.mark) rows
