-- What goes on with what was found.
use Rattle.std.specs.Prelude.{Result, Ok, Err}

-- goes on with what was found, or keeps the first fault
abbrev pub and_then : {X Y E : Type 0} → Result X E → (X → Result Y E) → Result Y E
and_then (Ok x) next = next x
and_then (Err why) next = Err why
