-- Which views keep their rows of a table, where some are dropped, rebased or added.
use Rattle.std.proofs.Common.{◌≡◌, ℕ, eqb, Bool, true, false, ◌&&◌, cond, List, [], ◌∷◌, map, filter, option_map, find, Option, Some, None, Ok, Err, Result, refl, sym, ap, ◌∙◌, subst, if◌then◌else◌}
use Rattle.std.specs.List.{AllZip}
use Rattle.delta_core.specs.declared.delta.Mark.{Mark}
use Rattle.frame_types.specs.declared.reply.Refusal.{Refusal}
use Rattle.hub_spec.specs.HeldViews.{HeldView, views}
use Rattle.hub_views.specs.Keeping.{HoldsViews, Stands, StandsIn, asked, asked_at, asked_data, asked_state, is_kept, is_named}
use Rattle.hub_views.specs.Live.{LiveData, StateData, ViewData, live_data, rebased, rebased_at, rebased_data, rebased_state, state_data, view_data}
use Rattle.hub_views.specs.declared.live.LiveView.{LiveView}
use Rattle.hub_views.specs.declared.view.View.{View}
use Rattle.hub_views.specs.declared.view.ViewState.{ViewState}
use Rattle.hub_views.specs.declared.view.ViewState.TheVariants.{Live, Lost}
use Rattle.hub_views.specs.declared.views.Views.{Views}
use Rattle.hub_views.proofs.Lists.{filter-map, find-map}
use Rattle.cell_core.specs.Schemas.{SchemaData}
use Rattle.cell_core.specs.declared.schema.Column.{Column}
use Rattle.row_batch.specs.Batches.{Store}
use Rattle.table_core.specs.Tables.{IsStill, TableData}
use Rattle.view_spec.specs.Views.{Side}
use Rattle.view_kept.specs.Steps.{side_of}
use Rattle.live_rows.specs.Live.{StandsLive}
use Rattle.hub_spec.specs.Past.{PastStep}

cons_parts : {X : Type 0} (x y : X) (xs ys : List X) → x ∷ xs ≡ y ∷ ys → (x ≡ y) × (xs ≡ ys)
cons_parts x y xs ys e = (let h : x ≡ y = cc in h, let t : xs ≡ ys = cc in t)

nil_cons : {X : Type 0} (x : X) (xs : List X) → [] ≡ x ∷ xs → ⊥
nil_cons x xs e = cc

-- ---- some are dropped

pub stands_filter : (t : TableData) (test : ViewData → Bool) (f : HeldView → ViewData) (us : List View) (vs : List HeldView) → map view_data us ≡ map f vs
    → AllZip (Stands t) us vs → AllZip (Stands t) (filter (λ u. test (view_data u)) us) (filter (λ v. test (f v)) vs)
stands_filter t test f [] [] same h = tt
stands_filter t test f [] (v ∷ vs) same h = absurd h
stands_filter t test f (u ∷ us) [] same h = absurd h
stands_filter t test f (u ∷ us) (v ∷ vs) same h =
    let parts = cons_parts (view_data u) (f v) (map view_data us) (map f vs) same in
    by (test (view_data u)) (test (f v)) (ap test parts.0) (stands_filter t test f us vs parts.1 h.1)
  where
    by : (b c : Bool) → b ≡ c → AllZip (Stands t) (filter (λ x. test (view_data x)) us) (filter (λ y. test (f y)) vs)
        → AllZip (Stands t) (cond b (u ∷ filter (λ x. test (view_data x)) us) (filter (λ x. test (view_data x)) us)) (cond c (v ∷ filter (λ y. test (f y)) vs) (filter (λ y. test (f y)) vs))
    by true true e later = (h.0, later)
    by false false e later = later
    by true false e later = absurd (let wrong : true ≡ false = e in cc)
    by false true e later = absurd (let wrong : false ≡ true = e in cc)

pub data_filtered : (test : ViewData → Bool) (us : List View) → map view_data (filter (λ u. test (view_data u)) us) ≡ filter test (map view_data us)
data_filtered test us = sym (filter-map test view_data us)

-- ---- one has a new base

rebased_view : (session number : ℕ) (mark : Mark) (u : View) → view_data (rebased_at session number mark u) ≡ rebased_data session number mark (view_data u)
rebased_view session number mark u = by (eqb number u.number && eqb session u.session) u.state
  where
    of_view : ViewState → View
    of_view state = record { session = u.session; number = u.number; state = state }

    of_data : StateData → ViewData
    of_data state = record { session = u.session; number = u.number; state = state }

    by : (b : Bool) (state : ViewState) → view_data (if b then of_view (rebased mark state) else of_view state) ≡ (if b then of_data (rebased_state mark (state_data state)) else of_data (state_data state))
    by true (Live live) = refl
    by true (Lost at) = refl
    by false state = refl

pub data_rebased : (session number : ℕ) (mark : Mark) (us : List View) → map view_data (map (rebased_at session number mark) us) ≡ map (rebased_data session number mark) (map view_data us)
data_rebased session number mark [] = refl
data_rebased session number mark (u ∷ us) =
    ap (λ w. w ∷ map view_data (map (rebased_at session number mark) us)) (rebased_view session number mark u)
    ∙ ap (λ ws. rebased_data session number mark (view_data u) ∷ ws) (data_rebased session number mark us)

stands_rebased_one : (t : TableData) (session number : ℕ) (mark : Mark) (u : View) (v : HeldView) → Stands t u v → Stands t (rebased_at session number mark u) v
stands_rebased_one t session number mark u v h = by (eqb number u.number && eqb session u.session) u.state h
  where
    by : (b : Bool) (state : ViewState) → Stands t (record { session = u.session; number = u.number; state = state }) v
        → Stands t (if b then record { session = u.session; number = u.number; state = rebased mark state } else record { session = u.session; number = u.number; state = state }) v
    by true (Live live) stands = record { rows = stands.rows; opening = stands.opening }
    by true (Lost at) stands = tt
    by false state stands = stands

pub stands_rebased : (t : TableData) (session number : ℕ) (mark : Mark) (us : List View) (vs : List HeldView) → AllZip (Stands t) us vs
    → AllZip (Stands t) (map (rebased_at session number mark) us) vs
stands_rebased t session number mark [] [] h = tt
stands_rebased t session number mark [] (v ∷ vs) h = absurd h
stands_rebased t session number mark (u ∷ us) [] h = absurd h
stands_rebased t session number mark (u ∷ us) (v ∷ vs) h = (stands_rebased_one t session number mark u v h.0, stands_rebased t session number mark us vs h.1)

-- ---- one is asked

-- what is shown of a view that can be asked
abbrev pub asked_live : Result LiveView Refusal → Result LiveData Refusal
asked_live (Ok live) = Ok (live_data live)
asked_live (Err why) = Err why

asked_of : (o : Option View) → asked_state (option_map (λ (w : ViewData). w.state) (option_map view_data o)) ≡ asked_live (asked (option_map (λ (u : View). u.state) o))
asked_of None = refl
asked_of (Some u) = by u.state
  where
    by : (state : ViewState) → asked_state (Some (state_data state)) ≡ asked_live (asked (Some state))
    by (Live live) = refl
    by (Lost at) = refl

-- what is shown of the view that is asked
pub data_asked : (session number : ℕ) (us : List View) → asked_data session number (map view_data us) ≡ asked_live (asked_at session number us)
data_asked session number us =
    ap (λ o. asked_state (option_map (λ (w : ViewData). w.state) o)) (find-map (is_named session number) view_data us)
    ∙ asked_of (find (is_kept session number) us)

pub data_asked_ok : (session number : ℕ) (us : List View) (live : LiveView) → asked_at session number us ≡ Ok live → asked_data session number (map view_data us) ≡ Ok (live_data live)
data_asked_ok session number us live e = data_asked session number us ∙ ap (asked_live) e

pub data_asked_err : (session number : ℕ) (us : List View) (why : Refusal) → asked_at session number us ≡ Err why → asked_data session number (map view_data us) ≡ Err why
data_asked_err session number us why e = data_asked session number us ∙ ap (asked_live) e

-- ---- a table that stayed as it was

stands_still : (was now : TableData) (v : HeldView) (state : ViewState) → IsStill was now → StandsIn was v state → StandsIn now v state
stands_still was now v (Lost at) still h = tt
stands_still was now v (Live live) still h =
    let with_parts : List Column → Store → Side = λ columns store. record { columns = columns; plan = v.plan; opening = v.opening; pairs = store.pairs } in
    let same : side_of v.plan v.opening now ≡ side_of v.plan v.opening was =
    ap (λ (s : SchemaData). with_parts s.columns now.store) still.schema ∙ ap (with_parts was.schema.columns) still.store in
    record { rows = subst (StandsLive live.rows) (sym same) h.rows; opening = h.opening }

all_stand_still : (was now : TableData) (us : List View) (vs : List HeldView) → IsStill was now → AllZip (Stands was) us vs → AllZip (Stands now) us vs
all_stand_still was now [] [] still h = tt
all_stand_still was now [] (v ∷ vs) still h = absurd h
all_stand_still was now (u ∷ us) [] still h = absurd h
all_stand_still was now (u ∷ us) (v ∷ vs) still h = (stands_still was now v u.state still h.0, all_stand_still was now us vs still h.1)

pub views_of_still : (v : Views) (was now : TableData) (past : List PastStep) → IsStill was now → HoldsViews v was past → HoldsViews v now past
unfolding HoldsViews
views_of_still v was now past still h = (h.0, all_stand_still was now v.items.items (views past) still h.1)
