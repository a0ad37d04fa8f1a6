-- How much a hub keeps at most.
use Rattle.std.specs.Prelude.{ℕ}

-- the most batches that wait on a port
abbrev pub max_waiting : ℕ
max_waiting = 64

-- the most ports that are open or hold waiting batches
abbrev pub max_ports : ℕ
max_ports = 16

-- the most views of all sessions
abbrev pub max_views : ℕ
max_views = 16

-- the most groups of a view that may be opened or closed one by one
abbrev pub max_singles : ℕ
max_singles = 4096
