-- What is counted in a history is at most as long as the history.
use Rattle.std.proofs.Common.{◌≡◌, ℕ, ◌+◌, ◌≤◌, eqb, Bool, true, false, cond, List, [], ◌∷◌, length, map, All, Option, Some, None, Result, Ok, Err, if◌then◌else◌, arith, length-append}
use Rattle.std.specs.Prelude.{not}
use Rattle.std.specs.List.{list_any}
use Rattle.std.proofs.lemmas.List.Elements.{All-nil, All-map, All-weaker, All-push, All-filter}
use Rattle.cell_core.specs.Schemas.{SchemaData}
use Rattle.row_batch.specs.declared.batch.Batch.{Batch}
use Rattle.frame_types.specs.Asks.{Ask}
use Rattle.frame_types.specs.Asks as ask
use Rattle.frame_types.specs.declared.reply.Body.{Body}
use Rattle.frame_types.specs.declared.reply.Body.TheVariants as body
use Rattle.frame_types.specs.declared.reply.Refusal.{Refusal}
use Rattle.plan_types.specs.declared.plan.Plan.{Plan}
use Rattle.hub_spec.specs.Past.{PastStep, times}
use Rattle.hub_spec.specs.HeldViews.{HeldView, changed_at, is_view, lost_at, opened_view, views, with_changed, with_opened, with_view}
use Rattle.hub_spec.specs.Plans.{plan_asked}
use Rattle.hub_spec.specs.Ports.{Applied, schema, batches_accepted, batches_applied, version_after, with_batch, with_queued, with_first, with_applied}
use Rattle.hub_spec.specs.Reading.{batch_asked}
use Rattle.hub_spec.specs.Rows.{schema_or_none}
use Rattle.hub_spec.proofs.Numbering.{IsEdit, edit_holds}

pub times_le : (test : PastStep → Bool) (past : List PastStep) → times test past ≤ length past
times_le test [] = omega arith
times_le test (d ∷ past) =
    elim (test d) as (λ b. (if b then times test past + 1 else times test past) ≤ length (d ∷ past)) [
      | true ↦ omega (arith, times_le test past)
      | false ↦ omega (arith, times_le test past)
    ]

batch_le : (batch : Option Batch) (batches : List Batch) → length (with_batch batch batches) ≤ length batches + 1
batch_le None batches = omega arith
batch_le (Some b) batches = omega (arith, length-append batches (b ∷ []))

queued_le : (made : Option SchemaData) (port : ℕ) (answer : Body) (request : Ask) (batches : List Batch) → length (with_queued made port answer request batches) ≤ length batches + 1
queued_le made port (body.Queued at seq) request batches =
    elim (eqb at port) as (λ b. length (if b then with_batch (batch_asked made request) batches else batches) ≤ length batches + 1) [
      | true ↦ batch_le (batch_asked made request) batches
      | false ↦ omega arith
    ]
queued_le made port _ request batches = omega arith

pub accepted_le : (past : List PastStep) (port : ℕ) → length (batches_accepted past port) ≤ length past
accepted_le [] port = omega arith
accepted_le (d ∷ past) port =
    omega (arith, queued_le (schema past) port d.reply.body d.request (batches_accepted past port), accepted_le past port)

first_le : (batches : List Batch) (port seq : ℕ) (done : List Applied) → length (with_first batches port seq done) ≤ length done + 1
first_le [] port seq done = omega arith
first_le (b ∷ batches) port seq done =
    omega (arith, length-append done (record { port = port; seq = seq; batch = b } ∷ []))

with_applied_le : (past : List PastStep) (answer : Body) (done : List Applied) → length (with_applied past answer done) ≤ length done + 1
with_applied_le past (body.Applied port seq) done = first_le _ _ _ done
with_applied_le past (body.AppliedLosing lost port seq) done = first_le _ _ _ done
with_applied_le past _ done = omega arith

pub applied_le : (past : List PastStep) → length (batches_applied past) ≤ length past
applied_le [] = omega arith
applied_le (d ∷ past) = omega (arith, with_applied_le past d.reply.body (batches_applied past), applied_le past)

-- ---- edits

-- a view has at most so many edits
abbrev IsEditedUpTo : ℕ → HeldView → Type 0
IsEditedUpTo most v = v.edit ≤ most

edits_changed : (few more : ℕ) (f : HeldView → HeldView) (vs : List HeldView) → ((v : HeldView) → IsEditedUpTo few v → IsEditedUpTo more (f v)) → All (IsEditedUpTo few) vs
    → All (IsEditedUpTo more) (map f vs)
edits_changed few more f vs raises all = All-map (IsEditedUpTo more) f vs (All-weaker (IsEditedUpTo few) (λ v. IsEditedUpTo more (f v)) raises vs all)

edits_more : (n : ℕ) (vs : List HeldView) → All (IsEditedUpTo n) vs → All (IsEditedUpTo (n + 1)) vs
edits_more n vs all = All-weaker (IsEditedUpTo n) (IsEditedUpTo (n + 1)) (λ v few. omega (arith, few)) vs all

edit_raised : (n session number : ℕ) (change : HeldView → HeldView) → IsEdit change → (v : HeldView) → IsEditedUpTo n v → IsEditedUpTo (n + 1) (changed_at session number change v)
edit_raised n session number change is v few = by (is_view session number v)
  where
    by : (b : Bool) → IsEditedUpTo (n + 1) (cond b (change v) v)
    by true = let more : (change v).edit ≡ v.edit + 1 = is.counted v in omega (arith, few, more)
    by false = omega (arith, few)

edit_lost : (n at : ℕ) (lost : List (ℕ × ℕ)) (v : HeldView) → IsEditedUpTo n v → IsEditedUpTo (n + 1) (lost_at at lost v)
edit_lost n at lost v few = by (list_any (λ (w : ℕ × ℕ). is_view w.0 w.1 v) lost)
  where
    by : (b : Bool) → IsEditedUpTo (n + 1) (cond b (record v { lost = Some at }) v)
    by true = omega (arith, few)
    by false = omega (arith, few)

edits_opened : (n session number bound : ℕ) (asked : Result Plan Refusal) (vs : List HeldView) → All (IsEditedUpTo n) vs → All (IsEditedUpTo n) (with_opened session number bound asked vs)
edits_opened n session number bound (Ok plan) vs all = All-push (IsEditedUpTo n) vs (opened_view session number plan bound) all (omega arith)
edits_opened n session number bound (Err why) vs all = all

edits_edited : (n session number : ℕ) (change : HeldView → HeldView) (vs : List HeldView) → IsEdit change → All (IsEditedUpTo n) vs
    → All (IsEditedUpTo (n + 1)) (with_changed session number change vs)
edits_edited n session number change vs is all = edits_changed n (n + 1) (changed_at session number change) vs (edit_raised n session number change is) all

edits_step : (n : ℕ) (past : List PastStep) (session : ℕ) (answer : Body) (request : Ask) (vs : List HeldView) → All (IsEditedUpTo n) vs
    → All (IsEditedUpTo (n + 1)) (with_view past session answer request vs)
edits_step n past session (body.Opened edit seen view) (ask.open_view plan bound) vs all =
    edits_more n (with_opened session view bound (plan_asked (schema_or_none past) plan) vs) (edits_opened n session view bound (plan_asked (schema_or_none past) plan) vs all)
edits_step n past session (body.Opened edit seen view) request vs all = edits_more n vs all
edits_step n past session (body.Edited edit view) request vs all =
    edit_holds (All (IsEditedUpTo (n + 1))) past session edit view request vs (edits_more n vs all) (λ number change is. edits_edited n session number change vs is all)
edits_step n past session (body.AppliedLosing lost port seq) request vs all =
    let at : ℕ = version_after past (body.AppliedLosing lost port seq) in
    edits_changed n (n + 1) (lost_at at lost) vs (edit_lost n at lost) all
edits_step n past session (body.Closed view) request vs all = edits_more n _ (All-filter (λ v. not (is_view session view v)) (IsEditedUpTo n) vs all)
edits_step n past session (body.Left closed) request vs all = edits_more n _ (All-filter (λ v. not (eqb v.session session)) (IsEditedUpTo n) vs all)
edits_step n past session _ request vs all = edits_more n vs all

pub edits_le : (past : List PastStep) → All (λ v. v.edit ≤ length past) (views past)
edits_le [] = All-nil (IsEditedUpTo 0)
edits_le (d ∷ past) =
    All-weaker (IsEditedUpTo (length past + 1)) (IsEditedUpTo (length (d ∷ past))) (λ v few. omega (arith, few)) (views (d ∷ past))
    (edits_step (length past) past d.session d.reply.body d.request (views past) (edits_le past))
