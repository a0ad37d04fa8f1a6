-- What a request that changes a view makes of it: another plan, or another opening of its groups.
use Rattle.std.specs.Prelude.{◌≡◌, ⊤, ◌⊎◌, ℕ, ◌+◌, ◌-◌, ◌^◌, ◌==◌, nat_le, min, List, [], ◌∷◌, length, Bool, true, false, not, ◌||◌, Option, Result, Ok, Err}
use Rattle.cell_core.specs.RawViews.{raw_view}
use Rattle.cell_core.specs.Schemas.{SchemaData}
use Rattle.cell_core.specs.declared.cell.Cell.{Cell}
use Rattle.cell_core.specs.declared.schema.Column.{Column}
use Rattle.delta_core.specs.DirtySets.{dirty_of, joined}
use Rattle.delta_core.specs.Rows.{has_row}
use Rattle.delta_core.specs.declared.touched.Touch.{Touch}
use Rattle.frame_types.specs.Asks.{Ask}
use Rattle.frame_types.specs.Asks as ask
use Rattle.frame_types.specs.Refusals.{memory, no_row, not_a_group, too_many_open, view_lost}
use Rattle.frame_types.specs.declared.reply.Body.{Body}
use Rattle.frame_types.specs.declared.reply.Body.TheVariants as body
use Rattle.frame_types.specs.declared.reply.Refusal.{Refusal}
use Rattle.plan_types.specs.declared.plan.Plan.{Plan}
use Rattle.table_core.specs.Tables.{TableData}
use Rattle.view_spec.specs.Openings.{Opening}
use Rattle.view_spec.specs.Touching.{head_touched}
use Rattle.view_spec.specs.Views.{Side}
use Rattle.view_shape.specs.Singles.{other_singles, with_single}
use Rattle.view_kept.specs.Steps.{IsOfTable, side_of, touched_between}
use Rattle.live_rows.specs.Live.{StandsLive, live_shown}
use Rattle.live_rows.specs.declared.live.LiveRows.{LiveRows}
use Rattle.view_types.specs.declared.key.ViewKey.{ViewKey}
use Rattle.view_types.specs.declared.key.ViewKey.TheVariants.{Group}
use Rattle.view_types.specs.declared.shown.Shown.{Shown}
use Rattle.hub_spec.specs.Answers.{faulty_plan, first_of, refused_if}
use Rattle.hub_spec.specs.HeldViews.{opening_after, to_depth}
use Rattle.hub_spec.specs.Histories.{choice_of, plenty}
use Rattle.hub_spec.specs.Limits.{max_singles}
use Rattle.hub_spec.specs.Plans.{plan_asked}
use Rattle.hub_views.specs.declared.change.Change.{Change}
use Rattle.hub_views.specs.declared.change.Change.TheVariants as change
use Rattle.hub_views.specs.declared.live.LiveView.{LiveView}
use Rattle.hub_views.specs.declared.view.View.{View}
use Rattle.hub_views.specs.declared.view.ViewState.{ViewState}
use Rattle.hub_views.specs.declared.view.ViewState.TheVariants.{Live, Lost}

-- the request that asks for the change of a view
abbrev pub asked_by : ℕ → Change → Ask
asked_by view (change.Plan asked) = ask.edit_view view (raw_view asked)
asked_by view (change.Depth depth) = ask.depth view depth
asked_by view (change.Expand path) = ask.expand view path
asked_by view (change.Collapse path) = ask.collapse view path

-- ---- what a change makes of a view

-- what is tested of a view that can be asked, and the plan and the opening that it has once the tests are passed
pub record Effect : Type 0 where
  pub tests : Shown → Plan → Opening → List (Option Refusal)
  pub plan : Plan → Plan
  pub opening : Plan → Opening → Opening

abbrev pub plan_or : Plan → Result Plan Refusal → Plan
plan_or before (Ok plan) = plan
plan_or before (Err why) = before

abbrev pub replanned : List Column → Result Plan Refusal → Effect
replanned columns asked = record {
  tests = λ shown before opening. faulty_plan asked ∷ [];
  plan = λ before. plan_or before asked;
  opening = λ before opening. opening_after columns before (plan_or before asked) opening;
}

-- of a group that is to be opened or closed: a shown row has its path, which is shorter than the group columns, and not
-- too many others were opened or closed
abbrev pub group_tests : List Cell → Shown → Plan → Opening → List (Option Refusal)
group_tests path shown plan opening =
    refused_if (not (has_row (Group path) shown.rows)) no_row
    ∷ refused_if (length path == length plan.group_by) not_a_group
    ∷ refused_if (nat_le max_singles (other_singles opening path)) too_many_open
    ∷ []

abbrev pub opened_to : List Cell → Bool → Effect
opened_to path opened = record { tests = group_tests path; plan = λ before. before; opening = λ before opening. with_single opening path opened }

abbrev pub deepened : ℕ → Effect
deepened depth = record { tests = λ shown plan opening. []; plan = λ before. before; opening = λ before opening. to_depth depth opening }

abbrev pub effect_of : SchemaData → Change → Effect
effect_of schema (change.Plan asked) = replanned schema.columns (plan_asked schema (raw_view asked))
effect_of schema (change.Depth depth) = deepened depth
effect_of schema (change.Expand path) = opened_to path true
effect_of schema (change.Collapse path) = opened_to path false

-- ---- what is made of it

-- the rows are those of the plan and the opening, what that touched is joined to what was touched since the base, and
-- one edit more is counted; the base stays
pub record IsChanged (s : Side) (plan : Plan) (shape : Opening) (t : TableData) (was after : LiveView) : Type 0 where
  pub bound : after.bound ≡ was.bound
  pub edit : after.edit ≡ min (was.edit + 1) (2 ^ 64 - 1)
  pub base : after.base ≡ was.base
  pub opening : after.opening ≡ shape
  pub stands : StandsLive after.rows (side_of plan shape t)
  pub dirty : (keys : List (ViewKey × Touch)) (header : Bool) → was.dirty ≡ dirty_of was.dirty.bound keys header
      → after.dirty ≡ dirty_of was.dirty.bound (joined keys (touched_between s (side_of plan shape t))) (header || head_touched s (side_of plan shape t))

-- so it is for each side of the table's rows that the view stood for
abbrev pub ForEachSide : LiveView → TableData → (Side → Type 0) → Type 0
ForEachSide live t P = (s : Side) → StandsLive live.rows s → IsOfTable s t → P s

-- the view has another plan, and the opening that follows
abbrev pub IsReplanned : Plan → TableData → LiveView → LiveView → Type 0
IsReplanned plan t was after = ForEachSide was t (λ s. IsChanged s plan (opening_after t.schema.columns s.plan plan was.opening) t was after)

-- the view has another opening
abbrev pub HasOpening : Opening → TableData → LiveView → LiveView → Type 0
HasOpening opening t was after = ForEachSide was t (λ s. IsChanged s s.plan opening t was after)

-- the tests are passed
abbrev pub Pass : List (Option Refusal) → Type 0
Pass tests = (granted : Body) → first_of tests granted ≡ granted

-- they refuse with that refusal, which is not want of memory
pub record Refuse (tests : List (Option Refusal)) (why : Refusal) : Type 0 where
  pub first : (granted : Body) → first_of tests granted ≡ body.Refused why
  pub unnamed : choice_of (body.Refused why) ≡ plenty

pub record IsMade (e : Effect) (t : TableData) (was after : LiveView) (s : Side) : Type 0 where
  pub passed : Pass (e.tests (live_shown was.rows) s.plan was.opening)
  pub changed : IsChanged s (e.plan s.plan) (e.opening s.plan was.opening) t was after

-- the change is made, and the count of edits is told
pub record IsMadeTo (e : Effect) (t : TableData) (was after : LiveView) (edit : ℕ) : Type 0 where
  pub told : edit ≡ after.edit
  pub made : ForEachSide was t (IsMade e t was after)

-- or all is as before, and a test refuses or there was no memory
pub record IsNotMade (e : Effect) (t : TableData) (was after : LiveView) (why : Refusal) : Type 0 where
  pub still : after ≡ was
  pub cause : ForEachSide was t (λ s. Refuse (e.tests (live_shown was.rows) s.plan was.opening) why) ⊎ (why ≡ memory)

abbrev pub AnswersChange : Effect → TableData → LiveView → LiveView → Result ℕ Refusal → Type 0
AnswersChange e t was after (Ok edit) = IsMadeTo e t was after edit
AnswersChange e t was after (Err why) = IsNotMade e t was after why

-- the same of a view that may be lost
abbrev pub StateAnswersChange : Effect → TableData → ViewState → ViewState → Result ℕ Refusal → Type 0
StateAnswersChange e t (Live was) (Live after) result = AnswersChange e t was after result
StateAnswersChange e t (Live was) (Lost at) result = ⊥
StateAnswersChange e t (Lost at) after result = (after ≡ Lost at) × (result ≡ Err (view_lost at))

pub record AnswersChangeOf (e : Effect) (t : TableData) (was after : View) (result : Result ℕ Refusal) : Type 0 where
  pub session : after.session ≡ was.session
  pub number : after.number ≡ was.number
  pub state : StateAnswersChange e t was.state after.state result

-- ---- one group

-- the group is opened or closed, where not too many others are
abbrev pub IsReopened : List Cell → Bool → Opening → Result Opening Refusal → Type 0
IsReopened path opened opening (Ok other) = (nat_le max_singles (other_singles opening path) ≡ false) × (other ≡ with_single opening path opened)
IsReopened path opened opening (Err why) = ((nat_le max_singles (other_singles opening path) ≡ true) × (why ≡ too_many_open)) ⊎ (why ≡ memory)

-- a shown row has the path, which is shorter than the group columns; or no row has it, or it isn't shorter, or there was no memory
abbrev pub IsGroupChecked : List Cell → LiveRows → Result ⊤ Refusal → Type 0
IsGroupChecked path rows (Ok done) =
    (has_row (Group path) (live_shown rows).rows ≡ true) × ((s : Side) → StandsLive rows s → (length path == length s.plan.group_by) ≡ false)
IsGroupChecked path rows (Err why) =
    ((has_row (Group path) (live_shown rows).rows ≡ false) × (why ≡ no_row))
    ⊎ (((has_row (Group path) (live_shown rows).rows ≡ true) × ((s : Side) → StandsLive rows s → (length path == length s.plan.group_by) ≡ true) × (why ≡ not_a_group))
    ⊎ (why ≡ memory))
