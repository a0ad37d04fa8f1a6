-- Folding a delta into what a client holds.
use Rattle.std.specs.Prelude.{◌≡◌, ◌==◌, nat_lt, List, [], ◌∷◌, ◌++◌, length, Bool, not, ◌&&◌, ◌||◌, filter, fold, find, map, take, drop, Option, Some, None, option_map, unwrap_or, if◌then◌else◌}
use Rattle.std.specs.Option.{option_or}
use Rattle.view_types.specs.declared.key.ViewKey.{ViewKey}
use Rattle.view_types.specs.declared.shown.ShownRow.{ShownRow}
use Rattle.delta_core.specs.KeySets.{is_among}
use Rattle.delta_core.specs.Rows.{has_row}
use Rattle.delta_core.specs.declared.delta.Delta.{Delta}
use Rattle.delta_core.specs.declared.delta.Mark.{Mark}
use Rattle.delta_core.specs.declared.delta.Put.{Put}
use Rattle.delta_core.specs.declared.folding.FoldRefused.{FoldRefused}
use Rattle.delta_core.specs.declared.folding.FoldRefused.TheVariants.{Gap, Absent, Past, Memory}
use Rattle.delta_core.specs.declared.folding.Held.{Held}

-- ---- what is held after a delta

abbrev pub keys_put : List Put → List ViewKey
keys_put puts = map (λ p. p.row.key) puts

-- the delta removes or puts that key
abbrev pub drops : Delta → ViewKey → Bool
drops d key = is_among d.removed key || is_among (keys_put d.puts) key

abbrev pub put_in : List ShownRow → Put → List ShownRow
put_in rows p = take p.position rows ++ p.row ∷ drop p.position rows

-- the held rows without those that the delta removes or puts, and the puts in order at their positions
abbrev pub folded_rows : List ShownRow → Delta → List ShownRow
folded_rows rows d = fold put_in (filter (λ r. not (drops d r.key)) rows) d.puts

abbrev pub folded : Held → Delta → Held
folded held d = record {
  shown = record { header = unwrap_or d.header held.shown.header; rows = folded_rows held.shown.rows d };
  mark = d.to;
}

-- ---- what is refused

abbrev pub is_same_mark : Mark → Mark → Bool
is_same_mark a b = a.version == b.version && a.edit == b.edit

-- the delta begins at another mark than the held one
abbrev pub gap : Held → Delta → Option FoldRefused
gap held d = if is_same_mark held.mark d.«from» then None else Some (Gap held.mark d.«from»)

-- the first removed key that is not held
abbrev pub absent : Held → Delta → Option FoldRefused
absent held d = option_map Absent (find (λ k. not (has_row k held.shown.rows)) d.removed)

-- the first position past the end of the rows as they stand then
abbrev pub past_end : List ShownRow → List Put → Option FoldRefused
past_end rows [] = None
past_end rows (p ∷ puts) = if nat_lt (length rows) p.position then Some (Past p.position) else past_end (put_in rows p) puts

-- the first cause against folding the delta
abbrev pub fold_fault : Held → Delta → Option FoldRefused
fold_fault held d =
    option_or (gap held d) (option_or (absent held d)
    (past_end (filter (λ r. not (drops d r.key)) held.shown.rows) d.puts))

-- the cause is the right one, but for want of memory, which may come in any case
abbrev pub RefusesFold : Option FoldRefused → FoldRefused → Type 0
RefusesFold fault Memory = Unit {0}
RefusesFold fault why = fault ≡ Some why
