-- What an answer says of what was before it.
use Rattle.std.proofs.Common.{◌≡◌, ℕ, eqb, leb, List, [], ◌∷◌, length, Bool, true, false, Option, Some, None, Result, Ok, Err, refl}
use Rattle.std.specs.Prelude.{is_some, if◌then◌else◌}
use Rattle.cell_core.specs.RawData.{RawData}
use Rattle.frame_types.specs.Asks.{Ask}
use Rattle.frame_types.specs.Asks as ask
use Rattle.frame_types.specs.Refusals.{empty, history_full}
use Rattle.frame_types.specs.declared.reply.Body.{Body}
use Rattle.frame_types.specs.declared.reply.Body.TheVariants as body
use Rattle.frame_types.specs.declared.reply.Refusal.{Refusal}
use Rattle.plan_types.specs.declared.plan.Plan.{Plan}
use Rattle.view_types.specs.declared.shown.Shown.{Shown}
use Rattle.hub_spec.specs.Past.{PastStep}
use Rattle.hub_spec.specs.Answers.{edited_answer, faulty_plan, first_of, refused_if, refusals, grant, opened_answer, plain, take_answer, window_of}
use Rattle.hub_spec.specs.Bases.{delta_in, edit_by, shown_by}
use Rattle.hub_spec.specs.HeldViews.{HeldView, held_view, opened_count, opened_view, shown}
use Rattle.hub_spec.specs.Histories.{Choice, plenty, want, losing, answer_under, losing_in}
use Rattle.hub_spec.specs.Plans.{plan_asked}
use Rattle.hub_spec.specs.Ports.{waiting}
use Rattle.hub_spec.specs.Rows.{schema_or_none}

-- a view of a plan that could be read is opened under the next number, and all that it shows is told
pub record IsOpened (past : List PastStep) (session : ℕ) (asked : Result Plan Refusal) (edit : ℕ) (seen : Shown) (view : ℕ) : Type 0 where
  pub plan : Plan
  pub read : asked ≡ Ok plan
  pub unedited : edit ≡ 0
  pub shows : seen ≡ shown past (opened_view 0 0 plan 0)
  pub next : view ≡ opened_count past session

abbrev pub IsOpening : List PastStep → ℕ → Ask → ℕ → Shown → ℕ → Type 0
IsOpening past session (ask.open_view plan bound) edit seen view = IsOpened past session (plan_asked (schema_or_none past) plan) edit seen view
IsOpening past session _ edit seen view = ⊥

-- where a batch was applied, one waited on that port; an opening and a resynchronisation have all that is shown; a
-- delta and a resynchronisation are of a view that is held
abbrev pub Says : List PastStep → ℕ → Ask → Body → Type 0
Says past session request (body.Applied port seq) = eqb (length (waiting past port)) 0 ≡ false
Says past session request (body.AppliedLosing lost port seq) = eqb (length (waiting past port)) 0 ≡ false
Says past session request (body.Opened edit seen view) = IsOpening past session request edit seen view
Says past session request (body.Delta delta view) = (is_some (held_view past session view) ≡ true) × (delta ≡ delta_in past session view)
Says past session request (body.Resync bound edit shown view) =
    (edit ≡ edit_by (held_view past session view)) × (shown ≡ shown_by past (held_view past session view))
Says past session request _ = Unit {0}

abbrev pub NoneRefuses : List (Option Refusal) → Type 0
NoneRefuses [] = Unit {0}
NoneRefuses (check ∷ more) = (check ≡ None) × NoneRefuses more

says_first : (past : List PastStep) (session : ℕ) (request : Ask) (checks : List (Option Refusal)) (answer : Body)
    → (NoneRefuses checks → Says past session request answer) → Says past session request (first_of checks answer)
says_first past session request [] answer says = says tt
says_first past session request (Some why ∷ more) answer says = tt
says_first past session request (None ∷ more) answer says = says_first past session request more answer (λ none. says (refl, none))

not_refused : (b : Bool) (why : Refusal) → refused_if b why ≡ None → b ≡ false
not_refused true why none = absurd (let wrong : Some why ≡ None = none in cc)
not_refused false why none = refl

says_window : (past : List PastStep) (session : ℕ) (request : Ask) (v : Option HeldView) (view first end : ℕ)
    → Says past session request (window_of v (shown past) view first end)
says_window past session request None view first end = tt
says_window past session request (Some v) view first end = tt

says_edited : (past : List PastStep) (session : ℕ) (request : Ask) (view : ℕ) (v : Option HeldView) → Says past session request (edited_answer view v)
says_edited past session request view None = tt
says_edited past session request view (Some v) = tt

says_within : (past : List PastStep) (session view : ℕ) (request : Ask) (v : HeldView) (within : Bool) → held_view past session view ≡ Some v
    → Says past session request (if within then body.Delta (delta_in past session view) view else body.Resync v.bound v.edit (shown past v) view)
says_within past session view request v true is = (rw is refl, refl)
says_within past session view request v false is = (rw is refl, rw is refl)

says_taken : (past : List PastStep) (session view : ℕ) (request : Ask) (v : Option HeldView) → held_view past session view ≡ v
    → Says past session request (take_answer past session view v)
says_taken past session view request None is = tt
says_taken past session view request (Some v) is = says_within past session view request v _ is

says_opened : (past : List PastStep) (session : ℕ) (plan : RawData) (bound : ℕ) (asked : Result Plan Refusal) → plan_asked (schema_or_none past) plan ≡ asked
    → faulty_plan asked ≡ None → Says past session (ask.open_view plan bound) (opened_answer past session bound asked)
says_opened past session plan bound (Err why) is none = absurd (let wrong : Some why ≡ None = none in cc)
says_opened past session plan bound (Ok p) is none = record { plan = p; read = is; unedited = refl; shows = refl; next = refl }

says_granted : (past : List PastStep) (session : ℕ) (request : Ask) → NoneRefuses (refusals past session request) → Says past session request (grant past session request)
says_granted past session (ask.apply port) none = not_refused (eqb (length (waiting past port)) 0) empty none.1.1.0
says_granted past session (ask.open_view plan bound) none = says_opened past session plan bound (plan_asked (schema_or_none past) plan) refl none.1.0
says_granted past session (ask.edit_view view plan) none = says_edited past session (ask.edit_view view plan) view (held_view past session view)
says_granted past session (ask.depth view depth) none = says_edited past session (ask.depth view depth) view (held_view past session view)
says_granted past session (ask.expand view path) none = says_edited past session (ask.expand view path) view (held_view past session view)
says_granted past session (ask.collapse view path) none = says_edited past session (ask.collapse view path) view (held_view past session view)
says_granted past session (ask.take view wait) none = says_taken past session view (ask.take view wait) (held_view past session view) refl
says_granted past session (ask.rows view first end) none = says_window past session (ask.rows view first end) (held_view past session view) view first end
says_granted past session _ none = tt

says_losing : (past : List PastStep) (session : ℕ) (request : Ask) (lost : List (ℕ × ℕ)) (answer : Body) → Says past session request answer
    → Says past session request (losing_in lost answer)
says_losing past session request lost (body.Applied port seq) says = says
says_losing past session request lost _ says = says

says_chosen : (past : List PastStep) (session : ℕ) (request : Ask) (choice : Choice) (answer : Body) → Says past session request answer
    → Says past session request (answer_under choice answer)
says_chosen past session request plenty answer says = says
says_chosen past session request want answer says = tt
says_chosen past session request (losing lost) answer says = says_losing past session request lost answer says

pub says_answer : (limit : ℕ) (past : List PastStep) (session : ℕ) (request : Ask) (choice : Choice)
    → Says past session request (answer_under choice (plain limit past session request))
says_answer limit past session request choice =
    let checks : List (Option Refusal) = refused_if (leb limit (length past)) (history_full limit) ∷ refusals past session request in
    says_chosen past session request choice (plain limit past session request)
    (says_first past session request checks (grant past session request) (λ (none : NoneRefuses checks). says_granted past session request none.1))
