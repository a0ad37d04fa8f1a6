-- The faults of a script's loop, from those of its ends.
use Rattle.std.specs.Prelude.{ℕ, Bool, true, false, Result, Ok, Err}
use Rattle.io_ends.specs.declared.line.LineFault.{LineFault}
use Rattle.io_ends.specs.declared.line.LineFault.TheVariants as line
use Rattle.io_ends.specs.declared.sink.SinkFault.{SinkFault}
use Rattle.io_ends.specs.declared.sink.SinkFault.TheVariants as sink
use Rattle.session_core.specs.declared.script.Fault.{Fault}
use Rattle.session_core.specs.declared.script.Fault.TheVariants as fault
use Rattle.session_core.specs.declared.script.ScriptEnd.{ScriptEnd}
use Rattle.session_core.specs.declared.script.ScriptEnd.TheVariants as end

abbrev pub of_line : LineFault → Fault
of_line line.Read = fault.Read
of_line line.TooMany = fault.TooLong
of_line line.Memory = fault.Memory

abbrev pub of_sink : SinkFault → Fault
of_sink sink.Failed = fault.Write
of_sink sink.Memory = fault.Memory

abbrev pub fault_end : Fault → ScriptEnd
fault_end fault.Memory = end.Memory
fault_end fault.TooLong = end.TooLong
fault_end fault.Read = end.ReadFault
fault_end fault.Write = end.WriteFault

abbrev pub end_of : Result ℕ Fault → ScriptEnd
end_of (Ok count) = end.Done count
end_of (Err why) = fault_end why

-- whether a script's end tells that the source failed
abbrev pub is_read_fault : ScriptEnd → Bool
is_read_fault (end.Done count) = false
is_read_fault end.Memory = false
is_read_fault end.TooLong = false
is_read_fault end.ReadFault = true
is_read_fault end.WriteFault = false

-- whether a script's end tells that the sink failed
abbrev pub is_write_fault : ScriptEnd → Bool
is_write_fault (end.Done count) = false
is_write_fault end.Memory = false
is_write_fault end.TooLong = false
is_write_fault end.ReadFault = false
is_write_fault end.WriteFault = true

-- the same of a step of the loop
abbrev pub has_read_fault : {T : Type 0} → Result T Fault → Bool
has_read_fault (Ok answer) = false
has_read_fault (Err why) = is_read_fault (fault_end why)

abbrev pub has_write_fault : {T : Type 0} → Result T Fault → Bool
has_write_fault (Ok answer) = false
has_write_fault (Err why) = is_write_fault (fault_end why)
