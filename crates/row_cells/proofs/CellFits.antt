-- A cell that was read fits its column.
use Rattle.std.proofs.Common.{◌≡◌, ℕ, ℤ, List, length, Bool, true, false, cond, Option, Some, None, Result, Ok, Err, refl, subst, ltb, rules, arith}
use Rattle.std.proofs.lemmas.Int.{ints}
use Rattle.cal_units.specs.Calendar.{is_day, is_moment}
use Rattle.cal_units.specs.DateText.{date_of}
use Rattle.cal_units.specs.MomentText.{in_range, instant_of}
use Rattle.cal_units.proofs.DateTextLemmas.{date_of-range}
use Rattle.cal_units.specs.declared.moments.MomentRefused.TheVariants.{OutOfRange}
use Rattle.cell_core.specs.declared.cell.Cell.{Cell}
use Rattle.cell_core.specs.declared.cell.Cell.TheVariants as cell
use Rattle.cell_core.specs.declared.cell.CellType.{CellType}
use Rattle.cell_core.specs.declared.cell.CellType.TheVariants.{Integer, Date, Moment, Words}
use Rattle.row_batch.specs.Checks.{is_integer, cell_fault}
use Rattle.row_batch.specs.declared.refused.RowCause.{RowCause}
use Rattle.row_batch.specs.declared.refused.RowCause.TheVariants as cause
use Rattle.row_cells.specs.Cells.{integer_cell, millis_cell, day_cell, date_cell, instant_cell, moment_cell, words_cell}

abbrev pub Fits : CellType → Result Cell RowCause → Type 0
Fits kind r = (c : Cell) → r ≡ Ok c → cell_fault kind c ≡ None

-- what passed a test
tested : {X E : Type 0} (b : Bool) (x y : X) (e : E) → cond b (Ok x) (Err e) ≡ Ok y → (b ≡ true) × (x ≡ y)
tested true x y e h = (refl, cc)
tested false x y e h = cc

untested : {X E : Type 0} (b : Bool) (x y : X) (e : E) → cond b (Err e) (Ok x) ≡ Ok y → (b ≡ false) × (x ≡ y)
untested true x y e h = cc
untested false x y e h = (refl, cc)

pub integer_cell-fits : (z : ℤ) → Fits Integer (integer_cell z)
integer_cell-fits z c h =
    let is = tested (is_integer z) (cell.Int z) c cause.Range h in
    subst (λ x. cell_fault Integer x ≡ None) is.1 (rw is.0 refl)

pub millis_cell-fits : (ms : ℤ) → Fits Moment (millis_cell ms)
millis_cell-fits ms c h =
    let is = tested (is_moment ms) (cell.Moment ms) c cause.Range h in
    subst (λ x. cell_fault Moment x ≡ None) is.1 (rw is.0 refl)

day_in : (text : List ℕ) (day : ℤ) → date_of text ≡ Some day → is_day day ≡ true
day_in text day h = let range = date_of-range text day h in first_of (search (rules, range.0, range.1), grind (arith, ints, range.0, range.1))

day_cell-fits : (text : List ℕ) (o : Option ℤ) → date_of text ≡ o → Fits Date (day_cell o)
day_cell-fits text None is c h = cc
day_cell-fits text (Some day) is c h =
    let same : cell.Date day ≡ c = cc in
    subst (λ x. cell_fault Date x ≡ None) same (rw (day_in text day is) refl)

pub date_cell-fits : (text : List ℕ) → Fits Date (date_cell text)
date_cell-fits text = day_cell-fits text (date_of text) refl

instant_cell-fits : (o : Option ℤ) → Fits Moment (instant_cell (in_range o))
instant_cell-fits None c h = cc
instant_cell-fits (Some ms) c h = by_range ms (is_moment ms) refl c h
  where
    by_range : (ms : ℤ) (b : Bool) → is_moment ms ≡ b → (c : Cell) → instant_cell (cond b (Ok ms) (Err OutOfRange)) ≡ Ok c → cell_fault Moment c ≡ None
    by_range ms true is c h = let same : cell.Moment ms ≡ c = cc in subst (λ x. cell_fault Moment x ≡ None) same (rw is refl)
    by_range ms false is c h = cc

pub moment_cell-fits : (text : List ℕ) → Fits Moment (moment_cell text)
moment_cell-fits text = instant_cell-fits (instant_of text)

pub words_cell-fits : (text : List ℕ) → Fits Words (words_cell text)
words_cell-fits text c h =
    let is = untested (ltb 256 (length text)) (cell.Words text) c cause.Long h in
    subst (λ x. cell_fault Words x ≡ None) is.1 (rw is.0 refl)
