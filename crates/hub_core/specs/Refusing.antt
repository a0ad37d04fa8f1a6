-- What readings and tests answer.
use Rattle.std.specs.Prelude.{◌≡◌, ◌⊎◌, ◌==◌, false, List, [], ◌∷◌, Option, Some, None, Result, Ok, Err}
use Rattle.std.specs.Option.{option_or}
use Rattle.row_batch.specs.declared.batch.Batch.{Batch}
use Rattle.row_batch.specs.declared.refused.BatchRefused.{BatchRefused}
use Rattle.row_batch.specs.declared.refused.RowsRefused.{RowsRefused}
use Rattle.row_batch.specs.declared.refused.RowsRefused.TheVariants.{Bad, Memory}
use Rattle.frame_types.specs.Refusals.{bad_rows, memory}
use Rattle.frame_types.specs.declared.reply.Refusal.{Refusal}

abbrev pub rows_refusal : RowsRefused → Refusal
rows_refusal (Bad why) = bad_rows why
rows_refusal Memory = memory

-- the rows or keys could not be read for that cause, or memory was wanted
abbrev pub IsUnread : Option (Result Batch BatchRefused) → RowsRefused → Type 0
IsUnread read (Bad why) = read ≡ Some (Err why)
IsUnread read Memory = Unit {0}

abbrev pub first_refusal : List (Option Refusal) → Option Refusal
first_refusal [] = None
first_refusal (check ∷ checks) = option_or check (first_refusal checks)

-- the first of the tests that refuses, other than for want of memory
abbrev pub IsFirst : List (Option Refusal) → Refusal → Type 0
IsFirst checks why = (first_refusal checks ≡ Some why) × ((why.code == 22) ≡ false)

-- none of the tests refuses, or this is the first that does
abbrev pub Tested : {X : Type 0} → List (Option Refusal) → Result X Refusal → Type 0
Tested checks (Ok x) = first_refusal checks ≡ None
Tested checks (Err why) = IsFirst checks why

-- the same of tests that take memory
abbrev pub TestedInMemory : {X : Type 0} → List (Option Refusal) → Result X Refusal → Type 0
TestedInMemory checks (Ok x) = first_refusal checks ≡ None
TestedInMemory checks (Err why) = IsFirst checks why ⊎ (why ≡ memory)
