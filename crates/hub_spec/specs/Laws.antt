-- What holds of every history, legal or not.
use Rattle.std.specs.Prelude.{◌≡◌, ℕ, suc, zero, ◌+◌, ◌==◌, false, List, [], ◌∷◌, ◌++◌, filter, fold, map}
use Rattle.frame_types.specs.Asks.{Ask}
use Rattle.frame_types.specs.declared.reply.Body.TheVariants.{Refused}
use Rattle.frame_types.specs.declared.reply.Refusal.{Refusal}
use Rattle.row_batch.specs.Batches.{empty_store, put_batch}
use Rattle.row_batch.specs.declared.batch.Batch.{Batch}
use Rattle.hub_spec.specs.Past.{PastStep, entries_of}
use Rattle.hub_spec.specs.Bases.{base, folded_in}
use Rattle.hub_spec.specs.Histories.{Entry, past_of}
use Rattle.hub_spec.specs.Ports.{Applied, batches_accepted, taken_count, waiting, batches_applied}
use Rattle.hub_spec.specs.Bases as bases
use Rattle.hub_spec.specs.HeldViews as held
use Rattle.hub_spec.specs.Ports as history
use Rattle.hub_spec.specs.Rows as table
use Rattle.hub_spec.specs.Rows.{schema_or_none, rows}

abbrev pub batches_on : ℕ → List Applied → List Batch
batches_on port done = map (λ a. a.batch) (filter (λ a. a.port == port) done)

abbrev pub seqs_on : ℕ → List Applied → List ℕ
seqs_on port done = map (λ a. a.seq) (filter (λ a. a.port == port) done)

-- on each port, the batches that were applied and then those that wait are those that were accepted
abbrev pub AppliedThenWaiting : Type 0
AppliedThenWaiting = (limit : ℕ) (h : List Entry) (port : ℕ) →
    batches_on port (batches_applied (past_of limit h)) ++ waiting (past_of limit h) port ≡ batches_accepted (past_of limit h) port

-- 1 up to a number
abbrev pub counted : ℕ → List ℕ
counted zero = []
counted (suc n) = counted n ++ (n + 1) ∷ []

-- on each port, the batches were applied in the order of their numbers, each once
abbrev pub AppliedInOrder : Type 0
AppliedInOrder = (limit : ℕ) (h : List Entry) (port : ℕ) →
    seqs_on port (batches_applied (past_of limit h)) ≡ counted (taken_count (past_of limit h) port)

-- the rows have no other source than the applied batches
abbrev pub RowsAreApplied : Type 0
RowsAreApplied = (past : List PastStep) →
    rows past ≡ (fold (put_batch (schema_or_none past)) empty_store (map (λ a. a.batch) (batches_applied past))).pairs

-- of each view, what a client holds that folds each delta of it into its opening or its last resynchronisation is
-- what the view showed at its base, with the mark of the base, and no delta is refused
abbrev pub Folds : ℕ → List Entry → Type 0
Folds limit h = (session number : ℕ) → folded_in (past_of limit h) session number ≡ base (past_of limit h) session number

abbrev pub DeltasFold : Type 0
DeltasFold = (limit : ℕ) (h : List Entry) → Folds limit h

-- a step that was refused leaves all as it was, but that the session took one step more
pub record IsUnchanged (session : ℕ) (past after : List PastStep) : Type 0 where
  pub schema : history.schema after ≡ history.schema past
  pub ports : history.ports after ≡ history.ports past
  pub accepted : (port : ℕ) → history.batches_accepted after port ≡ history.batches_accepted past port
  pub closed : (port : ℕ) → history.is_closed after port ≡ history.is_closed past port
  pub taken : (port : ℕ) → history.taken_count after port ≡ history.taken_count past port
  pub waiting : (port : ℕ) → history.waiting after port ≡ history.waiting past port
  pub applied : history.batches_applied after ≡ history.batches_applied past
  pub version : history.version after ≡ history.version past
  pub store : table.store after ≡ table.store past
  pub views : held.views after ≡ held.views past
  pub opened : (asking : ℕ) → held.opened_count after asking ≡ held.opened_count past asking
  pub base : (asking number : ℕ) → bases.base after asking number ≡ bases.base past asking number
  pub dirty : (asking number : ℕ) → bases.dirty after asking number ≡ bases.dirty past asking number
  pub head_dirty : (asking number : ℕ) → bases.head_dirty after asking number ≡ bases.head_dirty past asking number
  pub folded : (asking number : ℕ) → bases.folded_in after asking number ≡ bases.folded_in past asking number
  pub own_count : entries_of after session ≡ entries_of past session + 1
  pub other_counts : (other : ℕ) → (session == other) ≡ false → entries_of after other ≡ entries_of past other

abbrev pub RefusalsChangeNothing : Type 0
RefusalsChangeNothing = (past : List PastStep) (session n version : ℕ) (request : Ask) (why : Refusal) →
    IsUnchanged session past (record { session = session; request = request; reply = record { n = n; version = version; body = Refused why } } ∷ past)
