-- Each session's views have numbers that it has given, so that a view that is opened is the one of its number.
use Rattle.std.proofs.Common.{◌≡◌, ℕ, ◌+◌, ◌<◌, ◌≤◌, eqb, Bool, true, false, cond, List, [], ◌∷◌, ◌++◌, map, find, All, Some, Result, Ok, Err, inl, inr, refl, subst, arith}
use Rattle.std.specs.Prelude.{not}
use Rattle.std.specs.List.{list_any}
use Rattle.std.proofs.lemmas.Bool.{cases_eq, eq-eqb, ne_eqb}
use Rattle.std.proofs.lemmas.List.Elements.{All-nil, All-head, All-tail, All-map, All-weaker, All-push, All-filter}
use Rattle.cell_core.specs.declared.schema.Column.{Column}
use Rattle.frame_types.specs.Asks.{Ask}
use Rattle.frame_types.specs.Asks as ask
use Rattle.frame_types.specs.ReplyData.{ReplyData}
use Rattle.frame_types.specs.declared.reply.Body.{Body}
use Rattle.frame_types.specs.declared.reply.Body.TheVariants as body
use Rattle.frame_types.specs.declared.reply.Refusal.{Refusal}
use Rattle.plan_types.specs.declared.plan.Plan.{Plan}
use Rattle.view_spec.specs.Openings.{Opening}
use Rattle.view_shape.specs.Singles.{with_single}
use Rattle.hub_spec.specs.Past.{PastStep}
use Rattle.hub_spec.specs.HeldViews.{HeldView, changed_at, edited, is_opened_in, is_view, lost_at, opened_count, opened_view, reopened, to_depth, views, with_changed, with_edited, with_opened, with_view}
use Rattle.hub_spec.specs.Histories.{Entry, answer_to, past_of}
use Rattle.hub_spec.specs.Plans.{plan_asked}
use Rattle.hub_spec.specs.Ports.{version_after}
use Rattle.hub_spec.specs.Rows.{schema_or_none}
use Rattle.hub_spec.proofs.Said.{Says, says_answer}

-- the view's number is less than the next one of its session
abbrev pub IsNumbered : List PastStep → HeldView → Type 0
IsNumbered past v = v.number < opened_count past v.session

pub not_view : (session number : ℕ) (v : HeldView) → (v.session ≡ session → v.number ≡ number → ⊥) → is_view session number v ≡ false
not_view session number v apart =
    elim (cases_eq v.session session) as (λ _. is_view session number v ≡ false) [
      | inl same ↦ rw (eq-eqb v.session session same) (ne_eqb v.number number (apart same))
      | inr other ↦ rw (ne_eqb v.session session other) refl
    ]

-- no held view has the next number of a session
pub are_new : (past : List PastStep) (session : ℕ) → All (IsNumbered past) (views past) → All (λ v. is_view session (opened_count past session) v ≡ false) (views past)
are_new past session all =
    All-weaker (IsNumbered past) (λ v. is_view session (opened_count past session) v ≡ false)
    (λ v less. not_view session (opened_count past session) v (λ s n.
    let least : v.number < opened_count past session = subst (λ i. v.number < opened_count past i) s less in absurd (omega (arith, least, n)))) (views past) all

pub found_new : (test : HeldView → Bool) (vs : List HeldView) (w : HeldView) → All (λ v. test v ≡ false) vs → test w ≡ true → find test (vs ++ w ∷ []) ≡ Some w
found_new test [] w none here = rw here refl
found_new test (v ∷ vs) w none here = rw (All-head (λ u. test u ≡ false) v vs none) (found_new test vs w (All-tail (λ u. test u ≡ false) v vs none) here)

-- ---- a step more

grows : (b : Bool) (n : ℕ) → n ≤ cond b (n + 1) n
grows true n = omega arith
grows false n = omega arith

numbered_more : (past : List PastStep) (d : PastStep) (vs : List HeldView) → All (IsNumbered past) vs → All (IsNumbered (d ∷ past)) vs
numbered_more past d vs all =
    All-weaker (IsNumbered past) (IsNumbered (d ∷ past)) (λ v less. let more = grows (is_opened_in v.session d) (opened_count past v.session) in omega (arith, less, more)) vs all

-- a change of views that leaves their sessions and numbers
pub record IsSameName (v w : HeldView) : Type 0 where
  pub session : w.session ≡ v.session
  pub number : w.number ≡ v.number

abbrev pub KeepsNames : (HeldView → HeldView) → Type 0
KeepsNames f = (v : HeldView) → IsSameName v (f v)

pub lost_name : (at : ℕ) (lost : List (ℕ × ℕ)) → KeepsNames (lost_at at lost)
lost_name at lost v = by (list_any (λ (w : ℕ × ℕ). is_view w.0 w.1 v) lost)
  where
    by : (b : Bool) → IsSameName v (cond b (record v { lost = Some at }) v)
    by true = record { session = refl; number = refl }
    by false = record { session = refl; number = refl }

pub changed_name : (session number : ℕ) (change : HeldView → HeldView) → KeepsNames change → KeepsNames (changed_at session number change)
changed_name session number change keeps v = by (is_view session number v)
  where
    by : (b : Bool) → IsSameName v (cond b (change v) v)
    by true = keeps v
    by false = record { session = refl; number = refl }

-- ---- edits

-- a change of a view that is one edit more of it
pub record IsEdit (change : HeldView → HeldView) : Type 0 where
  pub name : KeepsNames change
  pub counted : (v : HeldView) → (change v).edit ≡ v.edit + 1

pub is_edited : (columns : List Column) (plan : Plan) → IsEdit (edited columns plan)
is_edited columns plan = record { name = λ v. record { session = refl; number = refl }; counted = λ v. refl }

pub is_reopened : (change : Opening → Opening) → IsEdit (reopened change)
is_reopened change = record { name = λ v. record { session = refl; number = refl }; counted = λ v. refl }

pub edited_name : (columns : List Column) (session number : ℕ) (plan : Plan) → KeepsNames (changed_at session number (edited columns plan))
edited_name columns session number plan = changed_name session number (edited columns plan) (is_edited columns plan).name

-- the views after any one edit have the property
abbrev pub AfterEdit : (List HeldView → Type 0) → ℕ → List HeldView → Type 0
AfterEdit Holds session vs = (number : ℕ) (change : HeldView → HeldView) → IsEdit change → Holds (with_changed session number change vs)

edited_holds : (Holds : List HeldView → Type 0) (columns : List Column) (session number : ℕ) (asked : Result Plan Refusal) (vs : List HeldView) → Holds vs → AfterEdit Holds session vs
    → Holds (with_edited columns session number asked vs)
edited_holds Holds columns session number (Ok plan) vs before after = after number (edited columns plan) (is_edited columns plan)
edited_holds Holds columns session number (Err why) vs before after = before

-- of whatever request, such an answer edits one view or changes none
pub edit_holds : (Holds : List HeldView → Type 0) (past : List PastStep) (session edit view : ℕ) (request : Ask) (vs : List HeldView) → Holds vs → AfterEdit Holds session vs
    → Holds (with_view past session (body.Edited edit view) request vs)
edit_holds Holds past session edit view (ask.edit_view number plan) vs before after =
    edited_holds Holds (schema_or_none past).columns session number (plan_asked (schema_or_none past) plan) vs before after
edit_holds Holds past session edit view (ask.depth number depth) vs before after = after number (reopened (to_depth depth)) (is_reopened (to_depth depth))
edit_holds Holds past session edit view (ask.expand number path) vs before after =
    after number (reopened (λ o. with_single o path true)) (is_reopened (λ o. with_single o path true))
edit_holds Holds past session edit view (ask.collapse number path) vs before after =
    after number (reopened (λ o. with_single o path false)) (is_reopened (λ o. with_single o path false))
edit_holds Holds past session edit view _ vs before after = before

-- ---- numbers

numbered_changed : (past : List PastStep) (f : HeldView → HeldView) (vs : List HeldView) → KeepsNames f → All (IsNumbered past) vs → All (IsNumbered past) (map f vs)
numbered_changed past f vs keeps all =
    All-map (IsNumbered past) f vs (All-weaker (IsNumbered past) (λ v. IsNumbered past (f v))
    (λ v less. let name = keeps v in rw (name.session, name.number) less) vs all)

numbered_opened : (past : List PastStep) (session number bound : ℕ) (asked : Result Plan Refusal) (vs : List HeldView) → number < opened_count past session
    → All (IsNumbered past) vs → All (IsNumbered past) (with_opened session number bound asked vs)
numbered_opened past session number bound (Ok plan) vs less all = All-push (IsNumbered past) vs (opened_view session number plan bound) all less
numbered_opened past session number bound (Err why) vs less all = all

abbrev step : ℕ → Ask → ℕ → ℕ → Body → PastStep
step session request n at answer = record { session = session; request = request; reply = record { n = n; version = at; body = answer } }

-- a view that is opened has a number that is given by then
abbrev IsGivenBy : List PastStep → ℕ → Body → Type 0
IsGivenBy now session (body.Opened edit seen view) = view < opened_count now session
IsGivenBy now session _ = Unit {0}

numbered_views : (past now : List PastStep) (session : ℕ) (answer : Body) (request : Ask) (vs : List HeldView) → IsGivenBy now session answer → All (IsNumbered now) vs
    → All (IsNumbered now) (with_view past session answer request vs)
numbered_views past now session (body.Opened edit seen view) (ask.open_view plan bound) vs less all =
    numbered_opened now session view bound (plan_asked (schema_or_none past) plan) vs less all
numbered_views past now session (body.Opened edit seen view) request vs less all = all
numbered_views past now session (body.Edited edit view) request vs less all =
    edit_holds (All (IsNumbered now)) past session edit view request vs all
    (λ number change is. numbered_changed now (changed_at session number change) vs (changed_name session number change is.name) all)
numbered_views past now session (body.AppliedLosing lost port seq) request vs less all =
    let at : ℕ = version_after past (body.AppliedLosing lost port seq) in
    numbered_changed now (lost_at at lost) vs (lost_name at lost) all
numbered_views past now session (body.Closed view) request vs less all = All-filter (λ v. not (is_view session view v)) (IsNumbered now) vs all
numbered_views past now session (body.Left closed) request vs less all = All-filter (λ v. not (eqb v.session session)) (IsNumbered now) vs all
numbered_views past now session _ request vs less all = all

given_by : (past : List PastStep) (session n at : ℕ) (request : Ask) (answer : Body) → Says past session request answer
    → IsGivenBy (step session request n at answer ∷ past) session answer
given_by past session n at (ask.open_view plan bound) (body.Opened edit seen view) says =
    let one_more : opened_count (step session (ask.open_view plan bound) n at (body.Opened edit seen view) ∷ past) session ≡ opened_count past session + 1 =
    rw (eq-eqb session session refl) refl in
    let next : view ≡ opened_count past session = says.next in
    omega (arith, one_more, next)
given_by past session n at _ (body.Opened edit seen view) says = absurd says
given_by past session n at request _ says = tt

numbered_step : (past : List PastStep) (session n at : ℕ) (request : Ask) (answer : Body) → Says past session request answer → All (IsNumbered past) (views past)
    → All (IsNumbered (step session request n at answer ∷ past)) (views (step session request n at answer ∷ past))
numbered_step past session n at request answer says all =
    let d : PastStep = step session request n at answer in
    numbered_views past (d ∷ past) session answer request (views past) (given_by past session n at request answer says) (numbered_more past d (views past) all)

pub numbers_given : (limit : ℕ) (h : List Entry) → All (IsNumbered (past_of limit h)) (views (past_of limit h))
numbers_given limit [] = All-nil (IsNumbered [])
numbers_given limit (e ∷ h) =
    let past = past_of limit h in
    let reply : ReplyData = answer_to limit past e.session e.request e.choice in
    numbered_step past e.session reply.n reply.version e.request reply.body (says_answer limit past e.session e.request e.choice) (numbers_given limit h)
