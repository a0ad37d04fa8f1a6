-- What a machine holds after a history. Records over what a history has, rather than over the history, stay as they
-- are where a step changes none of it.
use Rattle.std.specs.Prelude.{◌≡◌, ℕ, ◌≤◌, nat_lt, Bool, false, not, ◌||◌, List, [], ◌∷◌, length, drop, filter, map, Option, Some, None}
use Rattle.cell_core.specs.Schemas.{SchemaData}
use Rattle.row_batch.specs.declared.batch.Batch.{Batch}
use Rattle.hub_ports.specs.Ports.{PortsData, port_of}
use Rattle.hub_ports.specs.declared.ports.Port.{Port}
use Rattle.table_core.specs.Tables.{TableData}
use Rattle.hub_spec.specs.Past.{PastStep}
use Rattle.hub_spec.specs.HeldViews.{HeldView}
use Rattle.hub_spec.specs.HeldViews as held
use Rattle.hub_spec.specs.Ports.{Applied, numbers_below}
use Rattle.hub_spec.specs.Ports as ports
use Rattle.hub_views.specs.Keeping.{HoldsViews}
use Rattle.hub_views.specs.Tables.{HoldsTable}
use Rattle.hub_views.specs.declared.views.Views.{Views}
use Rattle.hub_core.specs.declared.engine.Engine.{Engine}
use Rattle.hub_core.specs.declared.machine.Machine.{Machine}

-- ---- ports

-- what is kept of a port, by the batches that it accepted, how many were applied, and whether it is closed
abbrev pub port_by : (ℕ → List Batch) → (ℕ → ℕ) → (ℕ → Bool) → ℕ → Port
port_by accepts takes closes port =
    port_of port (record { waiting = drop (takes port) (accepts port); accepted = length (accepts port); closed = closes port })

abbrev pub kept_port : List PastStep → ℕ → Port
kept_port past = port_by (ports.batches_accepted past) (ports.taken_count past) (ports.is_closed past)

abbrev pub is_used_by : (ℕ → List Batch) → (ℕ → ℕ) → (ℕ → Bool) → ℕ → Bool
is_used_by accepts takes closes port = not (closes port) || nat_lt 0 (length (drop (takes port) (accepts port)))

-- the ports that are used are kept, ascending by number, and nothing was done with one that was not made
pub record KeepsPorts (kept : PortsData) (count : ℕ) (accepts : ℕ → List Batch) (takes : ℕ → ℕ) (closes : ℕ → Bool) : Type 0 where
  pub made : kept.made ≡ count
  pub live : kept.live ≡ map (port_by accepts takes closes) (filter (is_used_by accepts takes closes) (numbers_below count))
  pub within : (port : ℕ) → takes port ≤ length (accepts port)
  pub unmade : (port : ℕ) → count ≤ port → (accepts port ≡ []) × (closes port ≡ false)

abbrev pub HoldsPorts : PortsData → List PastStep → Type 0
HoldsPorts kept past = KeepsPorts kept (ports.ports past) (ports.batches_accepted past) (ports.taken_count past) (ports.is_closed past)

-- ---- a table with its ports and views

pub record HoldsParts (t : TableData) (version : ℕ) (kept : PortsData) (v : Views) (past : List PastStep) : Type 0 where
  pub table : HoldsTable t version past
  pub ports : HoldsPorts kept past
  pub views : HoldsViews v t past

abbrev pub HoldsAll : Engine → List PastStep → Type 0
HoldsAll e past = HoldsParts e.table e.version e.ports e.views past

-- ---- before there is a table

-- no batch was applied, no port made and no view opened
pub record IsEmpty (done : List Applied) (count : ℕ) (accepts : ℕ → List Batch) (takes : ℕ → ℕ) (closes : ℕ → Bool) (vs : List HeldView) (opens : ℕ → ℕ) : Type 0 where
  pub applied : done ≡ []
  pub made : count ≡ 0
  pub accepted : (port : ℕ) → accepts port ≡ []
  pub taken : (port : ℕ) → takes port ≡ 0
  pub closed : (port : ℕ) → closes port ≡ false
  pub views : vs ≡ []
  pub opened : (session : ℕ) → opens session ≡ 0

-- nothing but the table's schema is known
abbrev pub HoldsSchema : Option SchemaData → List PastStep → Type 0
HoldsSchema made past =
    (ports.schema past ≡ made)
    × IsEmpty (ports.batches_applied past) (ports.ports past) (ports.batches_accepted past) (ports.taken_count past) (ports.is_closed past) (held.views past) (held.opened_count past)

-- ---- a machine

abbrev pub holds_in : Option Engine → List PastStep → Type 0
holds_in None past = HoldsSchema None past
holds_in (Some e) past = HoldsAll e past

abbrev pub Holds : Machine → List PastStep → Type 0
Holds m past = holds_in m.engine past

-- how many batches were applied
abbrev pub version_in : Option Engine → ℕ
version_in None = 0
version_in (Some e) = e.version

abbrev pub version_of : Machine → ℕ
version_of m = version_in m.engine
