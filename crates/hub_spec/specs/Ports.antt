-- The table's schema, its ports, and the batches that were accepted, wait and were applied.
use Rattle.std.specs.Prelude.{ℕ, suc, zero, ◌+◌, ◌==◌, nat_lt, List, [], ◌∷◌, ◌++◌, length, drop, filter, Bool, true, false, not, ◌||◌, Option, Some, None, Result, Ok, Err, if◌then◌else◌}
use Rattle.std.specs.List.{flat_map}
use Rattle.cell_core.specs.Schemas.{SchemaData, schema_of}
use Rattle.cell_core.specs.declared.schema.SchemaRefused.{SchemaRefused}
use Rattle.row_batch.specs.declared.batch.Batch.{Batch}
use Rattle.frame_types.specs.Asks.{Ask}
use Rattle.frame_types.specs.Asks as ask
use Rattle.frame_types.specs.declared.reply.Body.{Body}
use Rattle.frame_types.specs.declared.reply.Body.TheVariants as body
use Rattle.hub_spec.specs.Past.{PastStep, times}
use Rattle.hub_spec.specs.Reading.{batch_asked}

-- ---- the schema

abbrev pub made_schema : Result SchemaData SchemaRefused → Option SchemaData → Option SchemaData
made_schema (Ok schema) old = Some schema
made_schema (Err refused) old = old

abbrev pub with_schema : Body → Ask → Option SchemaData → Option SchemaData
with_schema body.Table (ask.table columns index limit) old = made_schema (schema_of columns index limit) old
with_schema _ request old = old

-- the schema of the table, once one was made
abbrev pub schema : List PastStep → Option SchemaData
schema [] = None
schema (d ∷ past) = with_schema d.reply.body d.request (schema past)

-- ---- ports and their batches

abbrev pub is_port : Body → Bool
is_port (body.Port port) = true
is_port _ = false

-- how many ports were made; they are numbered from 0
abbrev pub ports : List PastStep → ℕ
ports past = times (λ d. is_port d.reply.body) past

abbrev pub has_port : List PastStep → ℕ → Bool
has_port past port = nat_lt port (ports past)

abbrev pub closes : ℕ → Body → Bool
closes port (body.PortClosed at) = at == port
closes port _ = false

abbrev pub is_closed : List PastStep → ℕ → Bool
is_closed [] port = false
is_closed (d ∷ past) port = closes port d.reply.body || is_closed past port

abbrev pub with_batch : Option Batch → List Batch → List Batch
with_batch None batches = batches
with_batch (Some b) batches = batches ++ b ∷ []

abbrev pub with_queued : Option SchemaData → ℕ → Body → Ask → List Batch → List Batch
with_queued made port (body.Queued at seq) request batches = if at == port then with_batch (batch_asked made request) batches else batches
with_queued made port _ request batches = batches

-- the batches that were accepted on a port, in order; a batch's `seq` is its place here, counted from 1
abbrev pub batches_accepted : List PastStep → ℕ → List Batch
batches_accepted [] port = []
batches_accepted (d ∷ past) port = with_queued (schema past) port d.reply.body d.request (batches_accepted past port)

abbrev pub takes_from : ℕ → Body → Bool
takes_from port (body.Applied at seq) = at == port
takes_from port (body.AppliedLosing lost at seq) = at == port
takes_from port _ = false

-- how many batches of a port were applied
abbrev pub taken_count : List PastStep → ℕ → ℕ
taken_count past port = times (λ d. takes_from port d.reply.body) past

-- the accepted batches that were not applied yet, the oldest first
abbrev pub waiting : List PastStep → ℕ → List Batch
waiting past port = drop (taken_count past port) (batches_accepted past port)

-- the numbers below n, ascending
abbrev pub numbers_below : ℕ → List ℕ
numbers_below zero = []
numbers_below (suc n) = numbers_below n ++ n ∷ []

-- a port that is open or holds waiting batches
abbrev pub is_used : List PastStep → ℕ → Bool
is_used past port = not (is_closed past port) || nat_lt 0 (length (waiting past port))

abbrev pub used_ports : List PastStep → List ℕ
used_ports past = filter (is_used past) (numbers_below (ports past))

-- the batches that wait on all ports, port by port
abbrev pub all_waiting : List PastStep → List Batch
all_waiting past = flat_map (waiting past) (numbers_below (ports past))

-- ---- applied batches

pub record Applied : Type 0 where
  pub port : ℕ
  pub seq : ℕ
  pub batch : Batch

abbrev pub with_first : List Batch → ℕ → ℕ → List Applied → List Applied
with_first [] port seq done = done
with_first (b ∷ batches) port seq done = done ++ record { port = port; seq = seq; batch = b } ∷ []

-- a step that is answered so applies the oldest batch that waits on the port before it
abbrev pub with_applied : List PastStep → Body → List Applied → List Applied
with_applied past (body.Applied port seq) done = with_first (waiting past port) port (taken_count past port + 1) done
with_applied past (body.AppliedLosing lost port seq) done = with_first (waiting past port) port (taken_count past port + 1) done
with_applied past _ done = done

-- the batches that were applied, in order
abbrev pub batches_applied : List PastStep → List Applied
batches_applied [] = []
batches_applied (d ∷ past) = with_applied past d.reply.body (batches_applied past)

-- how many batches were applied
abbrev pub version : List PastStep → ℕ
version past = length (batches_applied past)

-- the version after a step with this answer
abbrev pub version_after : List PastStep → Body → ℕ
version_after past answer = length (with_applied past answer (batches_applied past))
