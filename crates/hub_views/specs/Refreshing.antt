-- What an applied batch makes of the views.
use Rattle.std.specs.Prelude.{◌≡◌, ℕ, ◌≤◌, List, [], ◌∷◌, Bool, true, false, ◌||◌, if◌then◌else◌}
use Rattle.std.specs.List.{AllZip, list_all}
use Rattle.std.specs.Vec.{vec_len, vec_capacity}
use Rattle.delta_core.specs.DirtySets.{dirty_of, joined}
use Rattle.delta_core.specs.declared.touched.Touch.{Touch}
use Rattle.frame_types.specs.declared.reply.Body.{Body}
use Rattle.frame_types.specs.declared.reply.Body.TheVariants.{Applied, AppliedLosing}
use Rattle.plan_types.specs.declared.plan.Plan.{Plan}
use Rattle.row_batch.specs.declared.change.RowChange.{RowChange}
use Rattle.table_core.specs.Tables.{TableData}
use Rattle.view_spec.specs.Openings.{Opening}
use Rattle.view_spec.specs.Touching.{head_touched}
use Rattle.view_spec.specs.Views.{Side}
use Rattle.view_kept.specs.Steps.{IsStep, side_at, side_of, touched_between}
use Rattle.live_rows.specs.Live.{StandsLive}
use Rattle.view_types.specs.declared.key.ViewKey.{ViewKey}
use Rattle.hub_spec.specs.Past.{PastStep}
use Rattle.hub_spec.specs.HeldViews.{is_live}
use Rattle.hub_spec.specs.Histories.{is_ascending}
use Rattle.hub_views.specs.declared.live.LiveView.{LiveView}
use Rattle.hub_views.specs.declared.view.View.{View}
use Rattle.hub_views.specs.declared.view.ViewState.{ViewState}
use Rattle.hub_views.specs.declared.view.ViewState.TheVariants.{Live, Lost}
use Rattle.hub_views.specs.declared.views.LossRoom.{LossRoom}
use Rattle.hub_views.specs.declared.views.Views.{Views}

-- the changes lead from the rows of one table to those of the other, for whatever view of them
abbrev pub AreSteps : TableData → List RowChange → TableData → Type 0
AreSteps was changes now = (plan : Plan) (opening : Opening) → IsStep (side_of plan opening was) changes now

-- ---- one view

-- the view keeps its rows of the table now, and what that touched is joined to what was touched since its base
pub record IsBrought (changes : List RowChange) (now : TableData) (was after : LiveView) : Type 0 where
  pub bound : after.bound ≡ was.bound
  pub edit : after.edit ≡ was.edit
  pub base : after.base ≡ was.base
  pub opening : after.opening ≡ was.opening
  pub stands : (s : Side) → StandsLive was.rows s → IsStep s changes now → StandsLive after.rows (side_at s now)
  pub dirty : (s : Side) (keys : List (ViewKey × Touch)) (header : Bool) → StandsLive was.rows s → IsStep s changes now → was.dirty ≡ dirty_of was.dirty.bound keys header
      → after.dirty ≡ dirty_of was.dirty.bound (joined keys (touched_between s (side_at s now))) (header || head_touched s (side_at s now))

-- a view that could be asked is brought there or is lost at that version; one that was lost stays so
abbrev pub Becomes : List RowChange → TableData → ℕ → ViewState → ViewState → Type 0
Becomes changes now version (Lost at) after = after ≡ Lost at
Becomes changes now version (Live was) (Live after) = IsBrought changes now was after
Becomes changes now version (Live was) (Lost at) = at ≡ version

pub record IsRefreshed (changes : List RowChange) (now : TableData) (version : ℕ) (was after : View) : Type 0 where
  pub session : after.session ≡ was.session
  pub number : after.number ≡ was.number
  pub state : Becomes changes now version was.state after.state

-- ---- all views

-- the view could be asked before and can't be asked now
abbrev pub is_loss : ViewState → ViewState → Bool
is_loss (Live was) (Lost at) = true
is_loss (Live was) (Live after) = false
is_loss (Lost at) after = false

abbrev pub AreRefreshed : List RowChange → TableData → ℕ → List View → List View → Type 0
AreRefreshed changes now version vs ws = AllZip (IsRefreshed changes now version) vs ws

-- the sessions and numbers of the views that were lost
abbrev pub losses : List View → List View → List (ℕ × ℕ)
losses (v ∷ vs) (w ∷ ws) = if is_loss v.state w.state then (v.session, v.number) ∷ losses vs ws else losses vs ws
losses vs ws = []

-- the answer to an applied batch, by the views that were lost
abbrev pub applied_body : ℕ → ℕ → List (ℕ × ℕ) → Body
applied_body port seq [] = Applied port seq
applied_body port seq (w ∷ lost) = AppliedLosing (w ∷ lost) port seq

-- views that could be asked, in the order in which they are told
pub record AreLosses (past : List PastStep) (lost : List (ℕ × ℕ)) : Type 0 where
  pub ascending : is_ascending lost ≡ true
  pub live : list_all (is_live past) lost ≡ true

-- there is room for the names of all views
unfoldable pub HasRoom : LossRoom → Views → Type 0
HasRoom room v = (room.names.items ≡ []) × (vec_len v.items ≤ vec_capacity room.names)
