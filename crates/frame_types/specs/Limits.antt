-- The limits of lines and of sessions.
use Rattle.std.specs.Prelude.{ℕ}

-- the most bytes of a line
abbrev pub max_line : ℕ
max_line = 1048576

-- the greatest `bound`, which is also the one that is left out
abbrev pub max_bound : ℕ
max_bound = 65536

-- the greatest `depth`, and the most parts of a `path`
abbrev pub max_depth : ℕ
max_depth = 8

-- sessions of clients are numbered below this
abbrev pub client_sessions : ℕ
client_sessions = 64

-- all sessions are; 64 is for applying batches that wait, and 65 for ending what serves
abbrev pub sessions : ℕ
sessions = 66
