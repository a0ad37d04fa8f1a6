-- The limits of tables, each said once.
use Rattle.std.specs.Prelude.{ℕ, ◌-◌, ◌^◌, ℤ, pos, negsuc, nat_lt, Bool}

-- the most columns of a table
abbrev pub max_columns : ℕ
max_columns = 32

-- the most bytes of a column's name
abbrev pub max_name : ℕ
max_name = 256

-- the most bytes of a cell's text
abbrev pub max_text : ℕ
max_text = 256

-- the most rows of a table, and so its greatest limit
abbrev pub max_rows : ℕ
max_rows = 65536

-- a whole number from -(2^53-1) to 2^53-1
abbrev pub is_integer : ℤ → Bool
is_integer (pos n) = nat_lt n (2 ^ 53)
is_integer (negsuc n) = nat_lt n (2 ^ 53 - 1)
