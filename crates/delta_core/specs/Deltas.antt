-- The delta of a view: what a client that holds the view as it was needs to hold it as it is.
use Rattle.std.specs.Prelude.{ℕ, ◌+◌, List, [], ◌∷◌, Bool, not, ◌&&◌, filter, map, Option, Some, None, if◌then◌else◌}
use Rattle.view_types.specs.declared.key.ViewKey.{ViewKey}
use Rattle.view_types.specs.declared.shown.Shown.{Shown}
use Rattle.view_types.specs.declared.shown.ShownRow.{ShownRow}
use Rattle.delta_core.specs.KeySets.{is_among}
use Rattle.delta_core.specs.Rows.{has_row}
use Rattle.delta_core.specs.declared.delta.Delta.{Delta}
use Rattle.delta_core.specs.declared.delta.Mark.{Mark}
use Rattle.delta_core.specs.declared.delta.Put.{Put}
use Rattle.delta_core.specs.declared.touched.Touch.{Touch}

-- the keys that were shown before and are not shown now
abbrev pub removed_keys : List (ViewKey × Touch) → List ShownRow → List ViewKey
removed_keys keys now = map (λ e. e.0) (filter (λ e. e.1.was_shown && not (has_row e.0 now)) keys)

-- each key beside whether it stands among the rows
abbrev pub marked : List ShownRow → List ViewKey → List (ViewKey × Touch)
marked rows keys = map (λ k. (k, record { was_shown = has_row k rows })) keys

-- the rows whose keys are among those of a set, each with its position, by position
abbrev pub puts_from : List ViewKey → ℕ → List ShownRow → List Put
puts_from keys position [] = []
puts_from keys position (r ∷ rows) =
    if is_among keys r.key then record { position = position; row = r } ∷ puts_from keys (position + 1) rows
    else puts_from keys (position + 1) rows

-- a header is sent where it was touched
abbrev pub sent : {X : Type 0} → Bool → X → Option X
sent touched header = if touched then Some header else None

-- the delta from one mark to another of a view that shows this now, where these keys were touched, each
-- beside whether it was shown at the first mark
abbrev pub delta_of : List (ViewKey × Touch) → Bool → Shown → Mark → Mark → Delta
delta_of keys header now start end = record {
  «from» = start;
  to = end;
  removed = removed_keys keys now.rows;
  puts = puts_from (map (λ e. e.0) keys) 0 now.rows;
  header = sent header now.header;
}
