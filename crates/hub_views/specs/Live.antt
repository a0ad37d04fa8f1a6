-- What is kept of a live view, what it tells, and what it is once it was told.
use Rattle.std.specs.Prelude.{ℕ, ◌==◌, nat_le, List, [], length, Bool, false, ◌&&◌, if◌then◌else◌}
use Rattle.view_types.specs.declared.key.ViewKey.{ViewKey}
use Rattle.view_types.specs.declared.shown.Shown.{Shown}
use Rattle.delta_core.specs.Deltas.{delta_of}
use Rattle.delta_core.specs.DirtySets.{DirtyData, dirty_of}
use Rattle.delta_core.specs.declared.delta.Mark.{Mark}
use Rattle.delta_core.specs.declared.touched.Touch.{Touch}
use Rattle.live_rows.specs.Live.{live_shown}
use Rattle.live_rows.specs.declared.live.LiveRows.{LiveRows}
use Rattle.frame_types.specs.declared.reply.Body.{Body}
use Rattle.frame_types.specs.declared.reply.Body.TheVariants as body
use Rattle.view_spec.specs.Openings.{Opening}
use Rattle.hub_views.specs.declared.live.LiveView.{LiveView}
use Rattle.hub_views.specs.declared.view.View.{View}
use Rattle.hub_views.specs.declared.view.ViewState.{ViewState}
use Rattle.hub_views.specs.declared.view.ViewState.TheVariants.{Live, Lost}

-- ---- what a view shows, however it keeps its rows

pub record LiveData : Type 0 where
  pub bound : ℕ
  pub edit : ℕ
  pub shown : Shown
  pub base : Mark
  pub dirty : DirtyData

pub data StateData : Type 0 where
  live_now : LiveData → StateData
  lost_now : ℕ → StateData

pub record ViewData : Type 0 where
  pub session : ℕ
  pub number : ℕ
  pub state : StateData

abbrev pub live_data : LiveView → LiveData
live_data live = record { bound = live.bound; edit = live.edit; shown = live_shown live.rows; base = live.base; dirty = live.dirty }

abbrev pub state_data : ViewState → StateData
state_data (Live live) = live_now (live_data live)
state_data (Lost version) = lost_now version

abbrev pub view_data : View → ViewData
view_data v = record { session = v.session; number = v.number; state = state_data v.state }

-- ---- what it tells

-- a view of these rows whose base is this mark
abbrev pub fresh_live : ℕ → Mark → LiveRows → Opening → LiveView
fresh_live bound base rows opening = record { bound = bound; edit = base.edit; rows = rows; opening = opening; base = base; dirty = dirty_of bound [] false }

-- the delta from its base to a mark where at most so many keys as its bound were touched, and else all that it shows
abbrev pub live_take_answer : LiveData → List (ViewKey × Touch) → Bool → ℕ → Mark → Body
live_take_answer live keys header view mark =
    if nat_le (length keys) live.bound then body.Delta (delta_of keys header live.shown live.base mark) view
    else body.Resync live.bound mark.edit live.shown view

-- ---- a new base

abbrev pub rebased_live : Mark → LiveView → LiveView
rebased_live mark live = record live { base = mark; dirty = dirty_of live.dirty.bound [] false }

abbrev pub rebased : Mark → ViewState → ViewState
rebased mark (Live live) = Live (rebased_live mark live)
rebased mark (Lost version) = Lost version

abbrev pub rebased_at : ℕ → ℕ → Mark → View → View
rebased_at session number mark v = if number == v.number && session == v.session then record v { state = rebased mark v.state } else v

-- the same of what is shown
abbrev pub rebased_state : Mark → StateData → StateData
rebased_state mark (live_now live) = live_now (record live { base = mark; dirty = dirty_of live.dirty.bound [] false })
rebased_state mark (lost_now version) = lost_now version

abbrev pub rebased_data : ℕ → ℕ → Mark → ViewData → ViewData
rebased_data session number mark v = if number == v.number && session == v.session then record v { state = rebased_state mark v.state } else v
