-- A list written over another.
use Rattle.std.specs.Prelude.{List, ◌++◌, length, take, drop}

-- the items of the second, and behind them what the first has more; as many as the first has
abbrev pub over : {X : Type 0} → List X → List X → List X
over old new = take (length old) (new ++ drop (length new) old)
