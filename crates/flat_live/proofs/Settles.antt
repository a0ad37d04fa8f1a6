-- One key settled.
use Rattle.std.proofs.Common.{◌≡◌, cond, Option, ◌∙◌, ap}
use Rattle.cell_core.specs.declared.cell.Cell.{Cell}
use Rattle.view_types.specs.Keys.{same_key}
use Rattle.view_types.specs.declared.key.ViewKey.{ViewKey}
use Rattle.view_types.specs.declared.key.ViewKey.TheVariants.{Row}
use Rattle.delta_core.specs.declared.touched.Touch.{Touch}
use Rattle.flat_live.specs.FlatRows.{FlatRow}
use Rattle.flat_live.specs.Rows.{Heads, told}
use Rattle.flat_live.proofs.Options.{at_same}

pub noted : (heads : Heads) (key copy : Cell) (k : ViewKey) (was now : Option FlatRow) (rows : ViewKey → Option FlatRow) (target : Option FlatRow) (o : Option Touch)
    → copy ≡ key → was ≡ rows (Row copy) → now ≡ target → cond (same_key (Row copy) k) (told heads heads was now) o ≡ cond (same_key (Row key) k) (told heads heads (rows k) target) o
noted heads key copy k was now rows target o one first last =
    ap (λ w. cond (same_key (Row copy) k) (told heads heads w now) o) first
    ∙ ap (λ n. cond (same_key (Row copy) k) (told heads heads (rows (Row copy)) n) o) last
    ∙ at_same (λ q. told heads heads (rows q) target) (Row copy) k o
    ∙ ap (λ z. cond (same_key (Row z) k) (told heads heads (rows k) target) o) one
