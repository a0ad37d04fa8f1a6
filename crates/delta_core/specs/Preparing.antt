-- What a fold checks, and what it then needs no memory for.
use Rattle.std.specs.Prelude.{◌≡◌, ℕ, ◌+◌, ◌≤◌, nat_lt, List, [], ◌∷◌, length, not, filter, map, Option, Some, None, if◌then◌else◌}
use Rattle.view_types.specs.Rows.{AreShownRows}
use Rattle.view_types.specs.declared.key.ViewKey.{ViewKey}
use Rattle.view_types.specs.declared.shown.ShownRow.{ShownRow}
use Rattle.delta_core.specs.Folding.{drops, past_end}
use Rattle.delta_core.specs.KeySets.{is_among, with_key}
use Rattle.delta_core.specs.declared.delta.Delta.{Delta}
use Rattle.delta_core.specs.declared.delta.Put.{Put}
use Rattle.delta_core.specs.declared.folding.Held.{Held}
use Rattle.delta_core.specs.declared.folding.Prepared.{Prepared}

-- the keys of the rows whose keys are among some, beside those found before
abbrev pub found_among : List ViewKey → List ViewKey → List ShownRow → List ViewKey
found_among keys found [] = found
found_among keys found (r ∷ rows) = found_among keys (if is_among keys r.key then with_key found r.key else found) rows

-- the rows whose keys aren't among some
abbrev pub others : List ViewKey → List ShownRow → List ShownRow
others keys rows = filter (λ r. not (is_among keys r.key)) rows

-- the first position past the end of a list of so many rows, to which each put adds one
abbrev pub past_after : ℕ → List Put → Option ℕ
past_after count [] = None
past_after count (p ∷ puts) = if nat_lt count p.position then Some p.position else past_after (count + 1) puts

abbrev pub kept_rows : Delta → List ShownRow → List ShownRow
kept_rows d rows = filter (λ r. not (drops d r.key)) rows

-- a delta's keys, header and puts, and room for the rows that it leaves and those that it puts, none of them past the end
pub record IsPrepared (held : Held) (d : Delta) (p : Prepared) : Type 0 where
  pub dropped : (k : ViewKey) → is_among p.dropped.keys k ≡ drops d k
  pub header : p.header ≡ d.header
  pub puts : p.puts.items ≡ d.puts
  pub shown : AreShownRows (map (λ q. q.row) d.puts)
  pub none : p.rows.rows ≡ []
  pub room : length (kept_rows d held.shown.rows) + length d.puts ≤ p.rows.capacity
  pub within : past_end (kept_rows d held.shown.rows) d.puts ≡ None
