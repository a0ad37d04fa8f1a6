-- What is kept of the views that are held after a history.
use Rattle.std.specs.Prelude.{◌≡◌, ⊤, ℕ, ◌<◌, ◌==◌, Bool, ◌&&◌, false, List, [], ◌∷◌, All, find, length, map, slice_index, Option, Some, None, is_none, option_map, Result, Ok, Err}
use Rattle.std.specs.List.{AllZip}
use Rattle.cell_core.specs.RawData.{RawData}
use Rattle.delta_core.specs.Deltas.{marked}
use Rattle.delta_core.specs.DirtySets.{dirty_of}
use Rattle.frame_types.specs.Asks as ask
use Rattle.frame_types.specs.Limits.{sessions}
use Rattle.frame_types.specs.Refusals.{no_view, view_lost}
use Rattle.frame_types.specs.declared.reply.Body.{Body}
use Rattle.frame_types.specs.declared.reply.Refusal.{Refusal}
use Rattle.hub_spec.specs.Past.{PastStep}
use Rattle.hub_spec.specs.Answers.{grant}
use Rattle.hub_spec.specs.Bases.{base_or_none, dirty, head_dirty, shown_in}
use Rattle.hub_spec.specs.Giving.{with_step}
use Rattle.hub_spec.specs.HeldViews.{HeldView}
use Rattle.hub_spec.specs.HeldViews as held
use Rattle.hub_spec.specs.Histories.{choice_of, plenty}
use Rattle.hub_spec.specs.Ports as ports
use Rattle.hub_spec.specs.Plans.{plan_asked}
use Rattle.hub_spec.specs.Rows.{schema_or_none}
use Rattle.plan_types.specs.declared.plan.Plan.{Plan}
use Rattle.table_core.specs.Tables.{TableData}
use Rattle.view_kept.specs.Steps.{side_of}
use Rattle.live_rows.specs.Live.{StandsLive}
use Rattle.hub_views.specs.Live.{LiveData, StateData, ViewData, live_now, lost_now, view_data}
use Rattle.hub_views.specs.declared.live.LiveView.{LiveView}
use Rattle.hub_views.specs.declared.view.View.{View}
use Rattle.hub_views.specs.declared.view.ViewState.{ViewState}
use Rattle.hub_views.specs.declared.view.ViewState.TheVariants.{Live, Lost}
use Rattle.hub_views.specs.declared.views.Views.{Views}

-- what the view shows, the mark of its base, and the keys touched since, each beside whether it was shown at
-- the base
abbrev pub live_at : List PastStep → ℕ → ℕ → ℕ → ℕ → LiveData
live_at past session number bound edit =
    let was = base_or_none past session number in
    record {
      bound = bound;
      edit = edit;
      shown = shown_in past session number;
      base = was.mark;
      dirty = dirty_of bound (marked was.shown.rows (dirty past session number)) (head_dirty past session number);
    }

abbrev pub state_of : List PastStep → HeldView → Option ℕ → StateData
state_of past v None = live_now (live_at past v.session v.number v.bound v.edit)
state_of past v (Some version) = lost_now version

abbrev pub kept_view : List PastStep → HeldView → ViewData
kept_view past v = record { session = v.session; number = v.number; state = state_of past v v.lost }

-- ---- the view that is asked

abbrev pub is_kept : ℕ → ℕ → View → Bool
is_kept session number v = v.session == session && v.number == number

-- a view that can be asked, or why it can't
abbrev pub asked : Option ViewState → Result LiveView Refusal
asked None = Err no_view
asked (Some (Live live)) = Ok live
asked (Some (Lost version)) = Err (view_lost version)

abbrev pub asked_at : ℕ → ℕ → List View → Result LiveView Refusal
asked_at session number kept = asked (option_map (λ v. v.state) (find (is_kept session number) kept))

-- the same of what is shown
abbrev pub is_named : ℕ → ℕ → ViewData → Bool
is_named session number v = v.session == session && v.number == number

abbrev pub asked_state : Option StateData → Result LiveData Refusal
asked_state None = Err no_view
asked_state (Some (live_now live)) = Ok live
asked_state (Some (lost_now version)) = Err (view_lost version)

abbrev pub asked_data : ℕ → ℕ → List ViewData → Result LiveData Refusal
asked_data session number kept = asked_state (option_map (λ v. v.state) (find (is_named session number) kept))

-- ---- all views

-- each view of a session has a lesser number than those that the session opened after it
abbrev pub AreNumbered : (ℕ → ℕ) → List HeldView → Type 0
AreNumbered opened [] = Unit {0}
AreNumbered opened (v ∷ vs) =
    (v.number < opened v.session) × All (λ w. v.session ≡ w.session → v.number < w.number) vs × AreNumbered opened vs

pub record Keeps (kept : List ViewData) (counts : List ℕ) (past : List PastStep) : Type 0 where
  pub made : is_none (ports.schema past) ≡ false
  pub views : kept ≡ map (kept_view past) (held.views past)
  pub size : length counts ≡ sessions
  pub opened : (session : ℕ) → session < sessions → slice_index counts session ≡ held.opened_count past session
  pub numbered : AreNumbered (held.opened_count past) (held.views past)

-- the rows of a view that can be asked stand for what its plan makes of the table's
pub record IsLive (t : TableData) (h : HeldView) (live : LiveView) : Type 0 where
  pub rows : StandsLive live.rows (side_of h.plan h.opening t)
  pub opening : live.opening ≡ h.opening

abbrev pub StandsIn : TableData → HeldView → ViewState → Type 0
StandsIn t h (Live live) = IsLive t h live
StandsIn t h (Lost version) = ⊤

abbrev pub Stands : TableData → View → HeldView → Type 0
Stands t v h = StandsIn t h v.state

-- a table was made, these are the views that sessions hold, and each keeps its rows of that table
unfoldable pub HoldsViews : Views → TableData → List PastStep → Type 0
HoldsViews v t past = Keeps (map view_data v.items.items) v.opened past × AllZip (Stands t) v.items.items (held.views past)

-- the answer opens a view by a plan, and shows all of it
pub record IsOpened (past : List PastStep) (session : ℕ) (plan : Plan) (bound : ℕ) (answer : Body) (Holds : List PastStep → Type 0) : Type 0 where
  pub right : (asked : RawData) → plan_asked (schema_or_none past) asked ≡ Ok plan → answer ≡ grant past session (ask.open_view asked bound)
  pub unnamed : choice_of answer ≡ plenty
  pub holds : (asked : RawData) → plan_asked (schema_or_none past) asked ≡ Ok plan → (n version : ℕ) → Holds (with_step session (ask.open_view asked bound) n version answer past)

-- a table was made, and no view was opened
pub record HasNoViews (past : List PastStep) : Type 0 where
  pub made : is_none (ports.schema past) ≡ false
  pub views : held.views past ≡ []
  pub opened : (session : ℕ) → held.opened_count past session ≡ 0
