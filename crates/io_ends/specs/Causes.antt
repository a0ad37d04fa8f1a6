-- How the failures of an end are counted, and how they show in what a call answers.
use Rattle.std.specs.Prelude.{◌≡◌, ℕ, ◌+◌, ◌-◌, ◌^◌, ◌≤◌, min, Bool, true, false, Result, Ok, Err}
use Rattle.io_ends.specs.declared.line.LineFault.{LineFault}
use Rattle.io_ends.specs.declared.line.LineFault.TheVariants as line
use Rattle.io_ends.specs.declared.sink.SinkFault.{SinkFault}
use Rattle.io_ends.specs.declared.sink.SinkFault.TheVariants as sink

-- the next value of a counter, which stands still at the last value of its type
abbrev pub one_more : ℕ → ℕ
one_more n = min (n + 1) (2 ^ 64 - 1)

-- the count rose; one that stands at its type's last value counts as risen
abbrev pub Rose : ℕ → ℕ → Type 0
Rose before now = one_more before ≤ now

-- the count rose where the outside failed, and else it is as it was
abbrev pub RoseIf : Bool → ℕ → ℕ → Type 0
RoseIf true before now = Rose before now
RoseIf false before now = now ≡ before

-- over a call the count never fell, and it rose just where the call tells that the outside failed
pub record Counts (failed : Bool) (before now : ℕ) : Type 0 where
  pub later : before ≤ now
  pub rose : RoseIf failed before now

-- whether a call of a sink tells that the outside failed: its want of memory is no such failure
abbrev pub is_sink_fault : {T : Type 0} → Result T SinkFault → Bool
is_sink_fault (Ok answer) = false
is_sink_fault (Err sink.Failed) = true
is_sink_fault (Err sink.Memory) = false

-- whether a call of the line reader tells that the source failed
abbrev pub is_read_fault : {T : Type 0} → Result T LineFault → Bool
is_read_fault (Ok answer) = false
is_read_fault (Err line.Read) = true
is_read_fault (Err line.TooMany) = false
is_read_fault (Err line.Memory) = false
