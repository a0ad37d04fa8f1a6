-- What a contract sees of an end in memory, and which of its calls fail.
use Rattle.std.specs.Prelude.{ℕ, ◌==◌, Bool, List, if◌then◌else◌}
use Rattle.std.specs.List.{list_any}
use Rattle.io_ends.specs.Causes.{one_more}

-- a source in memory
pub record SourceState : Type 0 where
  -- the bytes still to come
  pub left : List ℕ
  -- how many bytes a read gives at most
  pub piece : ℕ
  -- the numbers of the calls that are to fail
  pub fails : List ℕ
  -- how many calls were made
  pub calls : ℕ
  -- how many of them failed
  pub faults : ℕ

-- a sink in memory
pub record SinkState : Type 0 where
  -- the bytes taken so far
  pub taken : List ℕ
  -- how many bytes a write takes at most
  pub piece : ℕ
  -- the numbers of the calls that are to fail
  pub fails : List ℕ
  -- how many calls were made
  pub calls : ℕ
  -- how many of them failed
  pub faults : ℕ

-- whether the call of this number is among those that are to fail
abbrev pub is_to_fail : List ℕ → ℕ → Bool
is_to_fail fails call = list_any (λ number. number == call) fails

-- the count of faults after the call of this number
abbrev pub faults_after : List ℕ → ℕ → ℕ → ℕ
faults_after fails call faults = if is_to_fail fails call then one_more faults else faults
