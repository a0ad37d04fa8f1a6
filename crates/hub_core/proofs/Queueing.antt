-- Requests that queue a batch, whatever it is read from.
use Rattle.std.proofs.Common.{◌≡◌, ℕ, ◌≤◌, ltb, Bool, true, false, List, [], ◌∷◌, ◌++◌, length, Option, Some, None, Result, Ok, Err, ◌⊎◌, inl, inr, option_and_then, if◌then◌else◌, refl, sym, ap, ◌∙◌, arith}
use Rattle.std.specs.Prelude.{not}
use Rattle.std.specs.Result.{result_ok}
use Rattle.std.proofs.lemmas.Bool.{ltb-false}
use Rattle.cell_core.specs.Keepings.{IsIndexed, is_indexed}
use Rattle.cell_core.specs.RawViews.{raw_view}
use Rattle.cell_core.specs.Schemas.{SchemaData}
use Rattle.cell_core.specs.declared.schema.Keeping.{Keeping}
use Rattle.cell_core.specs.declared.schema.Keeping.TheVariants.{Indexed, Limited, Free}
use Rattle.csv_rows.specs.Reading.{read_csv}
use Rattle.json_rows.specs.Reading.{read_keys, read_rows}
use Rattle.row_batch.specs.Batches.{rows_in}
use Rattle.row_batch.specs.Checks.{IsChecked, counted_fault, patches_fault}
use Rattle.row_batch.specs.declared.batch.Batch.{Batch}
use Rattle.row_batch.specs.declared.batch.Batch.TheVariants as batch
use Rattle.row_batch.specs.declared.refused.BatchRefused.{BatchRefused}
use Rattle.row_batch.specs.declared.refused.RowsRefused.{RowsRefused}
use Rattle.row_batch.specs.declared.refused.RowsRefused.TheVariants.{Bad, Memory}
use Rattle.frame_types.specs.Refusals.{memory, not_indexed}
use Rattle.frame_types.specs.declared.reply.Refusal.{Refusal}
use Rattle.hub_spec.specs.Past.{PastStep}
use Rattle.hub_spec.specs.Answers.{closed_port, faulty_rows, first_of, full_port, full_table, full_table_for, queued, refused_if, without_port}
use Rattle.hub_spec.specs.Giving.{plain_in}
use Rattle.hub_spec.specs.Ports.{schema}
use Rattle.hub_spec.specs.Reading.{batch_asked, read_as, read_batch}
use Rattle.hub_spec.proofs.Giving.{TakesMemory}
use Rattle.hub_core.specs.Queueing.{asked_by, lacks_index, puts_rows, reading, without_room}
use Rattle.hub_core.specs.Refusing.{IsFirst, IsUnread, TestedInMemory, first_refusal, rows_refusal}
use Rattle.hub_core.specs.declared.contents.Contents.{Contents}
use Rattle.hub_core.specs.declared.contents.Contents.TheVariants.{Update, Replace, Csv, Remove, Clear}
use Rattle.hub_core.proofs.Giving.{passed}

pub takes_memory : (port : ℕ) (contents : Contents) → TakesMemory (asked_by port contents)
takes_memory port (Update rows) = refl
takes_memory port (Replace rows) = refl
takes_memory port (Csv text) = refl
takes_memory port (Remove keys) = refl
takes_memory port Clear = refl

-- ---- one list of tests for all of them

-- whether the table has room for the rows that are asked for
abbrev pub without_room_for : List PastStep → ℕ → Contents → Option Refusal
without_room_for past port (Update rows) = full_table past (asked_by port (Update rows))
without_room_for past port (Replace rows) = full_table past (asked_by port (Replace rows))
without_room_for past port (Csv text) = full_table past (asked_by port (Csv text))
without_room_for past port (Remove keys) = None
without_room_for past port Clear = None

pub one_list : (past : List PastStep) (made : SchemaData) (session port : ℕ) (contents : Contents) → schema past ≡ Some made
    → plain_in past session (asked_by port contents)
    ≡ first_of (without_port past port ∷ closed_port past port ∷ (reading made port contents ++ full_port past port ∷ without_room_for past port contents ∷ [])) (queued past port)
one_list past made session port (Update rows) some = rw some refl
one_list past made session port (Replace rows) some = rw some refl
one_list past made session port (Csv text) some = rw some refl
one_list past made session port (Remove keys) some = rw some refl
one_list past made session port Clear some = rw some refl

-- ---- what was read

puts_by : {X : Type 0} (kind : X → Batch) (puts : Bool) → ((x : X) → puts_rows (kind x) ≡ puts) → (outcome : Result X BatchRefused) (b : Batch)
    → Some (read_as kind outcome) ≡ Some (Ok b) → puts_rows b ≡ puts
puts_by kind puts each (Ok x) b e = let same : kind x ≡ b = cc in ap puts_rows (sym same) ∙ each x
puts_by kind puts each (Err why) b e = absurd (cc)

pub asked_is : (past : List PastStep) (made : SchemaData) (port : ℕ) (contents : Contents) (b : Batch) → schema past ≡ Some made
    → read_batch made (asked_by port contents) ≡ Some (Ok b) → batch_asked (schema past) (asked_by port contents) ≡ Some b
asked_is past made port contents b some read = ap (λ o. batch_asked o (asked_by port contents)) some ∙ ap (option_and_then result_ok) read

-- a batch that puts rows needs room, whatever it was read from
room_for : (past : List PastStep) (made : SchemaData) (port : ℕ) (contents : Contents) (b : Batch) → batch_asked (schema past) (asked_by port contents) ≡ Some b
    → read_batch made (asked_by port contents) ≡ Some (Ok b) → without_room_for past port contents ≡ without_room past b
room_for past made port contents b asked read = by contents asked read
  where
    by_kind : (puts : Bool) → puts_rows b ≡ puts → (if puts then full_table_for past (Some b) else None) ≡ without_room past b
    by_kind puts is = ap (λ p. if p then full_table_for past (Some b) else None) (sym is)

    by : (c : Contents) → batch_asked (schema past) (asked_by port c) ≡ Some b → read_batch made (asked_by port c) ≡ Some (Ok b)
        → without_room_for past port c ≡ without_room past b
    by (Update rows) is got = ap (full_table_for past) is ∙ by_kind true (puts_by batch.Update true (λ x. refl) (read_rows made (raw_view rows)) b got)
    by (Replace rows) is got = ap (full_table_for past) is ∙ by_kind true (puts_by batch.Replace true (λ x. refl) (read_rows made (raw_view rows)) b got)
    by (Csv text) is got = ap (full_table_for past) is ∙ by_kind true (puts_by batch.Update true (λ x. refl) (read_csv made text) b got)
    by (Remove keys) is got = by_kind false (puts_by batch.Remove false (λ x. refl) (read_keys made (raw_view keys)) b got)
    by Clear is got = by_kind false (let same : batch.Clear ≡ b = cc in ap puts_rows (sym same))

-- the tests that follow once the port is found open, and once the contents are read
pub behind_port : (past : List PastStep) (made : SchemaData) (session port : ℕ) (contents : Contents) → schema past ≡ Some made
    → first_refusal (without_port past port ∷ closed_port past port ∷ []) ≡ None
    → plain_in past session (asked_by port contents) ≡ first_of (reading made port contents ++ full_port past port ∷ without_room_for past port contents ∷ []) (queued past port)
behind_port past made session port contents some is_open =
    one_list past made session port contents some
    ∙ passed (without_port past port ∷ closed_port past port ∷ []) (reading made port contents ++ full_port past port ∷ without_room_for past port contents ∷ []) (queued past port) is_open

pub behind_reading : (past : List PastStep) (made : SchemaData) (session port : ℕ) (contents : Contents) (b : Batch) → schema past ≡ Some made
    → first_refusal (without_port past port ∷ closed_port past port ∷ []) ≡ None → first_refusal (reading made port contents) ≡ None
    → read_batch made (asked_by port contents) ≡ Some (Ok b)
    → plain_in past session (asked_by port contents) ≡ first_of (full_port past port ∷ without_room past b ∷ []) (queued past port)
behind_reading past made session port contents b some is_open good read =
    behind_port past made session port contents some is_open
    ∙ passed (reading made port contents) (full_port past port ∷ without_room_for past port contents ∷ []) (queued past port) good
    ∙ ap (λ o. first_of (full_port past port ∷ o ∷ []) (queued past port)) (room_for past made port contents b (asked_is past made port contents b some read) read)

-- ---- the contents are read

-- what could not be read is refused for its first cause, or for want of memory
pub unread_is : (schema : SchemaData) (port : ℕ) (contents : Contents) (why : RowsRefused) → lacks_index schema contents ≡ false
    → IsUnread (read_batch schema (asked_by port contents)) why → IsFirst (reading schema port contents) (rows_refusal why) ⊎ (rows_refusal why ≡ memory)
unread_is schema port contents (Bad why) has read =
    inl (
      ap (λ b. first_refusal (refused_if b not_indexed ∷ faulty_rows (read_batch schema (asked_by port contents)) ∷ [])) has
          ∙ ap (λ r. first_refusal (None ∷ faulty_rows r ∷ [])) read,
      refl,
    )
unread_is schema port contents Memory has read = inr refl

pub is_indexed_by : (keeping : Keeping) → not (is_indexed keeping) ≡ false → IsIndexed keeping
is_indexed_by (Indexed column) h = tt
is_indexed_by (Limited slots) h = absurd (let wrong : true ≡ false = h in cc)
is_indexed_by Free h = absurd (let wrong : true ≡ false = h in cc)

few_by : (big : Bool) (n : ℕ) (first : Option BatchRefused) → ltb 1024 n ≡ big → counted_fault n first ≡ None → n ≤ 1024
few_by true n first is good = absurd (let wrong = rw is at good in cc)
few_by false n first is good = ltb-false 1024 n is

-- a batch against which nothing is to be said has few rows
pub few_rows : (schema : SchemaData) (b : Batch) → IsChecked schema b → rows_in b ≤ 1024
few_rows schema (batch.Update patches) checked = few_by (ltb 1024 (length patches)) (length patches) (patches_fault schema 0 patches) refl checked.good
few_rows schema (batch.Remove keys) checked = omega arith
few_rows schema batch.Clear checked = omega arith
few_rows schema (batch.Replace patches) checked = few_by (ltb 1024 (length patches)) (length patches) (patches_fault schema 0 patches) refl checked.good

-- ---- there is room

-- a port that is not full has room for a batch that puts no rows
pub room_for_none : (past : List PastStep) (port : ℕ) (b : Batch) → full_port past port ≡ None → puts_rows b ≡ false
    → first_refusal (full_port past port ∷ without_room past b ∷ []) ≡ None
room_for_none past port b free puts =
    ap (λ o. first_refusal (o ∷ without_room past b ∷ [])) free
    ∙ ap (λ p. first_refusal (None ∷ (if p then full_table_for past (Some b) else None) ∷ [])) puts

-- and for one that puts rows where the table has room for them
pub room_for_rows : {X : Type 0} (past : List PastStep) (port : ℕ) (b : Batch) (outcome : Result X Refusal) → full_port past port ≡ None → puts_rows b ≡ true
    → TestedInMemory (full_table_for past (Some b) ∷ []) outcome → TestedInMemory (full_port past port ∷ without_room past b ∷ []) outcome
room_for_rows {X} past port b outcome free puts tested = by outcome tested
  where
    same : first_refusal (full_port past port ∷ without_room past b ∷ []) ≡ first_refusal (full_table_for past (Some b) ∷ [])
    same =
        ap (λ o. first_refusal (o ∷ without_room past b ∷ [])) free
        ∙ ap (λ p. first_refusal (None ∷ (if p then full_table_for past (Some b) else None) ∷ [])) puts

    by : (r : Result X Refusal) → TestedInMemory (full_table_for past (Some b) ∷ []) r → TestedInMemory (full_port past port ∷ without_room past b ∷ []) r
    by (Ok done) is = same ∙ is
    by (Err why) is = elim is [ inl first ↦ inl (same ∙ first.0, first.1) | inr want ↦ inr want ]
