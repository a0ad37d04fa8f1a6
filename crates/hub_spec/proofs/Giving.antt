-- What is given: an answer that names no choice, and want of memory.
use Rattle.std.proofs.Common.{◌≡◌, ℕ, ◌+◌, eqb, leb, Bool, true, false, ◌||◌, List, [], ◌∷◌, length, Option, Some, None, Result, Ok, Err, if◌then◌else◌, refl, sym, ap, ◌∙◌}
use Rattle.std.specs.Prelude.{ℤ, is_none, is_some, not, option_map}
use Rattle.std.specs.Result.{IsErr, IsErrAnd}
use Rattle.cell_core.specs.RawData.{RawData}
use Rattle.cell_core.specs.Schemas.{SchemaData, schema_of}
use Rattle.cell_core.specs.declared.cell.Cell.{Cell}
use Rattle.cell_core.specs.declared.schema.ColumnWords.{ColumnWords}
use Rattle.cell_core.specs.declared.schema.SchemaRefused.{SchemaRefused}
use Rattle.cell_core.specs.declared.schema.SchemaRefused.TheVariants as schema
use Rattle.row_batch.specs.declared.batch.Batch.{Batch}
use Rattle.row_batch.specs.declared.refused.BatchRefused.{BatchRefused}
use Rattle.frame_types.specs.Asks.{Ask}
use Rattle.frame_types.specs.Asks as ask
use Rattle.frame_types.specs.Refusals.{no_table, no_view, table_set, view_lost}
use Rattle.frame_types.specs.declared.reply.Body.{Body}
use Rattle.frame_types.specs.declared.reply.Body.TheVariants as body
use Rattle.frame_types.specs.declared.reply.Refusal.{Refusal}
use Rattle.plan_check.specs.Plans.{checked}
use Rattle.plan_check.specs.declared.refused.PlanFault.{PlanFault}
use Rattle.plan_json.specs.Plans.{RawPlanData}
use Rattle.plan_json.specs.Reading.{plan_of}
use Rattle.plan_types.specs.declared.plan.Plan.{Plan}
use Rattle.hub_spec.specs.Past.{PastStep}
use Rattle.hub_spec.specs.Answers.{first_of, refused_if, refusals, grant, edited_answer, without_row, without_table, without_view, faulty_plan, faulty_schema, faulty_rows, full_of_singles, full_table_for, lost_view, opened_answer, take_answer, whole_path, window_of}
use Rattle.hub_spec.specs.Bases.{delta_in, dirty}
use Rattle.hub_spec.specs.Giving.{IsGiven, body_in, plain_in}
use Rattle.hub_spec.specs.HeldViews.{HeldView, held_view, shown}
use Rattle.hub_spec.specs.Histories.{choice_of, plenty, want, may_choose, takes_none}
use Rattle.hub_spec.specs.Plans.{plan_asked, plan_checked, plan_read}
use Rattle.hub_spec.specs.Ports.{schema as schema_made}
use Rattle.hub_spec.specs.Rows.{schema_or_none}

-- an answer that names no choice is the plain one
pub plain_given : (past : List PastStep) (session : ℕ) (request : Ask) (answer : Body) → choice_of answer ≡ plenty
    → plain_in past session request ≡ answer → IsGiven past session request answer
plain_given past session request answer all is = record { right = rw all (sym is); allowed = rw all refl }

-- what an early return of an error answers
pub err_body : (r : Result Body Refusal) (why : Refusal) → IsErr r × IsErrAnd r (λ e. e ≡ why) → body_in r ≡ body.Refused why
err_body (Ok b) why h = absurd (let wrong : false ≡ true = h.0 in cc)
err_body (Err e) why h = ap body.Refused h.1

-- ---- refusals in place of which memory may be wanted

-- all but those of a full history and of a missing table
abbrev MayWant : Option Refusal → Type 0
MayWant None = Unit {0}
MayWant (Some why) = (eqb why.code 11 || eqb why.code 21) ≡ false

abbrev AllMayWant : List (Option Refusal) → Type 0
AllMayWant [] = Unit {0}
AllMayWant (check ∷ checks) = MayWant check × AllMayWant checks

if_wants : (b : Bool) (why : Refusal) → (eqb why.code 11 || eqb why.code 21) ≡ false → MayWant (refused_if b why)
if_wants true why other = other
if_wants false why other = tt

schema_wants : (made : Result SchemaData SchemaRefused) → MayWant (faulty_schema made)
schema_wants (Ok made) = tt
schema_wants (Err (schema.Bad why at)) = refl
schema_wants (Err schema.Memory) = refl

rows_want : (read : Option (Result Batch BatchRefused)) → MayWant (faulty_rows read)
rows_want None = tt
rows_want (Some (Ok batch)) = tt
rows_want (Some (Err why)) = refl

table_wants : (past : List PastStep) (batch : Option Batch) → MayWant (full_table_for past batch)
table_wants past None = tt
table_wants past (Some batch) = if_wants _ _ refl

lost_wants : (view : Option HeldView) → MayWant (lost_view view)
lost_wants None = tt
lost_wants (Some v) = by v.lost
  where
    by : (lost : Option ℕ) → MayWant (option_map view_lost lost)
    by None = tt
    by (Some version) = refl

whole_wants : (view : Option HeldView) (path : List Cell) → MayWant (whole_path view path)
whole_wants None path = tt
whole_wants (Some v) path = if_wants _ _ refl

singles_want : (view : Option HeldView) (path : List Cell) → MayWant (full_of_singles view path)
singles_want None path = tt
singles_want (Some v) path = if_wants _ _ refl

-- of a request that opens or closes a group, behind the table
group_wants : (past : List PastStep) (session view : ℕ) (path : List Cell)
    → AllMayWant (without_view past session view ∷ lost_view (held_view past session view) ∷ without_row past session view path
    ∷ whole_path (held_view past session view) path ∷ full_of_singles (held_view past session view) path ∷ [])
group_wants past session view path = (if_wants _ _ refl, (lost_wants _, (if_wants _ _ refl, (whole_wants (held_view past session view) path, (singles_want (held_view past session view) path, tt)))))

plan_wants : (schema : SchemaData) (plan : RawData) → MayWant (faulty_plan (plan_asked schema plan))
plan_wants schema plan = by (plan_of plan)
  where
    checked_wants : (found : Result Plan PlanFault) → MayWant (faulty_plan (plan_checked found))
    checked_wants (Ok good) = tt
    checked_wants (Err why) = refl

    by : (read : Option RawPlanData) → MayWant (faulty_plan (plan_read schema read))
    by None = refl
    by (Some raw) = checked_wants (checked schema raw)

-- ---- requests that take memory

-- such a request is answered without memory for its answer's sake alone
abbrev GoesByCode : Ask → Type 0
GoesByCode request = (why : Refusal) → takes_none request (body.Refused why) ≡ (eqb why.code 11 || eqb why.code 21)

first_wants : (request : Ask) (checks : List (Option Refusal)) (grants : Body) → GoesByCode request → AllMayWant checks → takes_none request grants ≡ false
    → takes_none request (first_of checks grants) ≡ false
first_wants request [] grants goes all last = last
first_wants request (None ∷ checks) grants goes all last = first_wants request checks grants goes all.1 last
first_wants request (Some why ∷ checks) grants goes all last = goes why ∙ all.0

wants_behind : (past : List PastStep) (session : ℕ) (request : Ask) (checks : List (Option Refusal)) → refusals past session request ≡ without_table past ∷ checks
    → GoesByCode request → AllMayWant checks → takes_none request (grant past session request) ≡ false → is_none (schema_made past) ≡ false
    → may_choose past request want (plain_in past session request) ≡ true
wants_behind past session request checks are goes all last made =
    let grants : Body = grant past session request in
    ap (λ (list : List (Option Refusal)). not (takes_none request (first_of list grants))) are
    ∙ ap (λ b. not (takes_none request (first_of (refused_if b no_table ∷ checks) grants))) made
    ∙ ap not (first_wants request checks grants goes all last)

taken_wants : (past : List PastStep) (session view : ℕ) (wait : Bool) (v : Option HeldView) → takes_none (ask.take view wait) (take_answer past session view v) ≡ false
taken_wants past session view wait None = refl
taken_wants past session view wait (Some v) = by (leb (length (dirty past session view)) v.bound)
  where
    by : (few : Bool) → takes_none (ask.take view wait) (if few then body.Delta (delta_in past session view) view else body.Resync v.bound v.edit (shown past v) view) ≡ false
    by true = refl
    by false = refl

window_wants : (past : List PastStep) (view first end : ℕ) (v : Option HeldView) → takes_none (ask.rows view first end) (window_of v (shown past) view first end) ≡ false
window_wants past view first end None = refl
window_wants past view first end (Some v) = refl

edited_wants : (request : Ask) (view : ℕ) (v : Option HeldView) → GoesByCode request → ((edit : ℕ) → takes_none request (body.Edited edit view) ≡ false)
    → takes_none request (edited_answer view v) ≡ false
edited_wants request view None goes takes = goes no_view
edited_wants request view (Some v) goes takes = takes (v.edit + 1)

opened_wants : (past : List PastStep) (session : ℕ) (plan : RawData) (bound : ℕ) (schema : SchemaData)
    → takes_none (ask.open_view plan bound) (opened_answer past session bound (plan_asked schema plan)) ≡ false
opened_wants past session plan bound schema = by (plan_of plan)
  where
    checked_wants : (found : Result Plan PlanFault) → takes_none (ask.open_view plan bound) (opened_answer past session bound (plan_checked found)) ≡ false
    checked_wants (Ok good) = refl
    checked_wants (Err why) = refl

    by : (read : Option RawPlanData) → takes_none (ask.open_view plan bound) (opened_answer past session bound (plan_read schema read)) ≡ false
    by None = refl
    by (Some raw) = checked_wants (checked schema raw)

abbrev pub TakesMemory : Ask → Type 0
TakesMemory request = takes_none request body.Table ≡ false

pub may_want_table : (past : List PastStep) (session : ℕ) (columns : List ColumnWords) (index : Option (List ℕ)) (limit : Option ℤ)
    → may_choose past (ask.table columns index limit) want (plain_in past session (ask.table columns index limit)) ≡ true
may_want_table past session columns index limit =
    ap not (first_wants (ask.table columns index limit) (refused_if (is_some (schema_made past)) table_set ∷ faulty_schema (schema_of columns index limit) ∷ []) body.Table
    (λ why. refl) (if_wants _ _ refl, (schema_wants _, tt)) refl)

-- where a table was made, each request that takes memory may be answered so
pub may_want : (past : List PastStep) (session : ℕ) (request : Ask) → TakesMemory request → is_none (schema_made past) ≡ false
    → may_choose past request want (plain_in past session request) ≡ true
may_want past session (ask.table columns index limit) takes made = may_want_table past session columns index limit
may_want past session ask.port takes made = wants_behind past session ask.port _ refl (λ why. refl) (if_wants _ _ refl, tt) refl made
may_want past session ask.info takes made = wants_behind past session ask.info [] refl (λ why. refl) tt refl made
may_want past session (ask.update port rows) takes made =
    wants_behind past session (ask.update port rows) _ refl (λ why. refl)
    (if_wants _ _ refl, (if_wants _ _ refl, (rows_want _, (if_wants _ _ refl, (table_wants past _, tt))))) refl made
may_want past session (ask.replace port rows) takes made =
    wants_behind past session (ask.replace port rows) _ refl (λ why. refl)
    (if_wants _ _ refl, (if_wants _ _ refl, (rows_want _, (if_wants _ _ refl, (table_wants past _, tt))))) refl made
may_want past session (ask.csv port text) takes made =
    wants_behind past session (ask.csv port text) _ refl (λ why. refl)
    (if_wants _ _ refl, (if_wants _ _ refl, (rows_want _, (if_wants _ _ refl, (table_wants past _, tt))))) refl made
may_want past session (ask.remove port keys) takes made =
    wants_behind past session (ask.remove port keys) _ refl (λ why. refl)
    (if_wants _ _ refl, (if_wants _ _ refl, (if_wants _ _ refl, (rows_want _, (if_wants _ _ refl, tt))))) refl made
may_want past session (ask.clear port) takes made =
    wants_behind past session (ask.clear port) _ refl (λ why. refl) (if_wants _ _ refl, (if_wants _ _ refl, (if_wants _ _ refl, tt))) refl made
may_want past session (ask.apply port) takes made =
    wants_behind past session (ask.apply port) _ refl (λ why. refl) (if_wants _ _ refl, (if_wants _ _ refl, tt)) refl made
may_want past session (ask.open_view plan bound) takes made =
    wants_behind past session (ask.open_view plan bound) _ refl (λ why. refl) (plan_wants (schema_or_none past) plan, (if_wants _ _ refl, tt))
    (opened_wants past session plan bound (schema_or_none past)) made
may_want past session (ask.edit_view view plan) takes made =
    wants_behind past session (ask.edit_view view plan) _ refl (λ why. refl)
    (if_wants _ _ refl, (lost_wants _, (plan_wants (schema_or_none past) plan, tt)))
    (edited_wants (ask.edit_view view plan) view (held_view past session view) (λ why. refl) (λ edit. refl)) made
may_want past session (ask.depth view depth) takes made =
    wants_behind past session (ask.depth view depth) _ refl (λ why. refl) (if_wants _ _ refl, (lost_wants _, tt))
    (edited_wants (ask.depth view depth) view (held_view past session view) (λ why. refl) (λ edit. refl)) made
may_want past session (ask.expand view path) takes made =
    wants_behind past session (ask.expand view path) _ refl (λ why. refl) (group_wants past session view path)
    (edited_wants (ask.expand view path) view (held_view past session view) (λ why. refl) (λ edit. refl)) made
may_want past session (ask.collapse view path) takes made =
    wants_behind past session (ask.collapse view path) _ refl (λ why. refl) (group_wants past session view path)
    (edited_wants (ask.collapse view path) view (held_view past session view) (λ why. refl) (λ edit. refl)) made
may_want past session (ask.take view wait) takes made =
    wants_behind past session (ask.take view wait) _ refl (λ why. refl) (if_wants _ _ refl, (lost_wants _, tt))
    (taken_wants past session view wait (held_view past session view)) made
may_want past session (ask.rows view first end) takes made =
    wants_behind past session (ask.rows view first end) _ refl (λ why. refl) (if_wants _ _ refl, (lost_wants _, (if_wants _ _ refl, tt)))
    (window_wants past view first end (held_view past session view)) made
may_want past session _ takes made = absurd (let wrong : true ≡ false = takes in cc)
