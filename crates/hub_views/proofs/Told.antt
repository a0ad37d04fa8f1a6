-- What is answered of the views that are kept.
use Rattle.std.proofs.Common.{◌≡◌, ℕ, eqb, leb, ltb, Bool, true, false, List, [], ◌∷◌, length, map, filter, find, Option, Some, None, option_map, Ok, Err, refl, sym, ap, ◌∙◌}
use Rattle.std.specs.Prelude.{not, unwrap_or}
use Rattle.std.proofs.lemmas.List.{length-map}
use Rattle.cell_core.specs.RawData.{RawData}
use Rattle.cell_core.specs.Schemas.{SchemaData}
use Rattle.plan_types.specs.declared.plan.Plan.{Plan}
use Rattle.view_types.specs.declared.key.ViewKey.{ViewKey}
use Rattle.view_types.specs.declared.shown.Shown.{Shown}
use Rattle.delta_core.specs.DirtySets.{dirty_of}
use Rattle.delta_core.specs.declared.delta.Mark.{Mark}
use Rattle.delta_core.specs.declared.touched.Touch.{Touch}
use Rattle.table_core.specs.Tables.{TableData}
use Rattle.frame_types.specs.Asks.{Ask}
use Rattle.frame_types.specs.Asks as ask
use Rattle.frame_types.specs.Refusals.{bad_window, memory, no_view, too_many_views}
use Rattle.frame_types.specs.declared.reply.Body.{Body}
use Rattle.frame_types.specs.declared.reply.Body.TheVariants as body
use Rattle.frame_types.specs.declared.reply.Refusal.{Refusal}
use Rattle.hub_spec.specs.Past.{PastStep}
use Rattle.hub_spec.specs.Answers.{first_of, lost_view, opened_answer, refusals, refused_if, window, without_table, without_view}
use Rattle.hub_spec.specs.Giving.{Gives, plain_in}
use Rattle.hub_spec.specs.HeldViews.{held_view, views}
use Rattle.hub_spec.specs.Histories.{choice_of, plenty}
use Rattle.hub_spec.specs.Limits.{max_views}
use Rattle.hub_spec.specs.Plans.{plan_asked}
use Rattle.hub_spec.specs.Ports as history
use Rattle.hub_spec.specs.Rows.{no_schema, schema_or_none}
use Rattle.hub_spec.proofs.Giving.{TakesMemory, may_want, plain_given}
use Rattle.hub_views.specs.Keeping.{HoldsViews, IsOpened, Keeps, asked_at, is_kept, is_named, kept_view}
use Rattle.hub_views.specs.Live.{ViewData, live_data, live_take_answer, rebased_at, view_data}
use Rattle.hub_views.specs.Tables.{HoldsTable}
use Rattle.hub_views.specs.declared.live.LiveView.{LiveView}
use Rattle.hub_views.specs.declared.view.View.{View}
use Rattle.hub_views.specs.declared.views.Views.{Views}
use Rattle.hub_views.proofs.Asking.{asked_refused, close_plain, count_is, rows_give, rows_plain, take_gives, take_stays}
use Rattle.hub_views.proofs.AskedPlans.{not_wanted}
use Rattle.hub_views.proofs.KeptViews.{filtered_views, views_stay}
use Rattle.hub_views.proofs.Lists.{filter-map, find-map}
use Rattle.hub_views.proofs.Opening.{open_plain}
use Rattle.hub_views.proofs.Standing.{data_asked_err, data_asked_ok, data_filtered, data_rebased, stands_filter, stands_rebased}

-- what is kept is what is shown of it
keeps_data : (v : Views) (t : TableData) (past : List PastStep) → HoldsViews v t past → Keeps (map view_data v.items.items) v.opened past
unfolding HoldsViews
keeps_data v t past h = h.0

-- what is refused, and what wants memory
pub views_are_refused : (v : Views) (t : TableData) (past : List PastStep) (session : ℕ) (request : Ask) (why : Refusal) → HoldsViews v t past
    → choice_of (body.Refused why) ≡ plenty → plain_in past session request ≡ body.Refused why → Gives past session request (body.Refused why) (HoldsViews v t)
views_are_refused v t past session request why h unnamed is = record {
  given = plain_given past session request (body.Refused why) unnamed is;
  holds = λ n at. views_stay v t past session n at request (body.Refused why) refl h;
}

pub views_are_wanted : (v : Views) (t : TableData) (past : List PastStep) (session : ℕ) (request : Ask) → HoldsViews v t past → TakesMemory request
    → Gives past session request (body.Refused memory) (HoldsViews v t)
views_are_wanted v t past session request h takes = record {
  given = record { right = refl; allowed = may_want past session request takes (keeps_data v t past h).made };
  holds = λ n at. views_stay v t past session n at request (body.Refused memory) refl h;
}

-- a view is asked that can't be asked
pub asked_is_refused : (v : Views) (t : TableData) (past : List PastStep) (session number : ℕ) (request : Ask) (rest : List (Option Refusal)) (why : Refusal)
    → HoldsViews v t past → asked_at session number v.items.items ≡ Err why
    → refusals past session request ≡ without_table past ∷ without_view past session number ∷ lost_view (held_view past session number) ∷ rest
    → Gives past session request (body.Refused why) (HoldsViews v t)
unfolding HoldsViews
asked_is_refused v t past session number request rest why h e are =
    let kept_data = asked_refused (map view_data v.items.items) v.opened past session number request rest why h.0 (data_asked_err session number v.items.items why e) are in
    record { given = kept_data.given; holds = λ n at. (kept_data.holds n at, h.1) }

-- a take is answered
pub taken_gives : (v after : Views) (t : TableData) (past : List PastStep) (session number version : ℕ) (wait : Bool) (live : LiveView) (answer : Body)
    → HoldsViews v t past → version ≡ history.version past → asked_at session number v.items.items ≡ Ok live
    → ((keys : List (ViewKey × Touch)) (header : Bool) → live.dirty ≡ dirty_of live.bound keys header
    → answer ≡ live_take_answer (live_data live) keys header number (record { version = version; edit = live.edit }))
    → after.opened ≡ v.opened → after.items.items ≡ map (rebased_at session number (record { version = version; edit = live.edit })) v.items.items
    → Gives past session (ask.take number wait) answer (HoldsViews after t)
unfolding HoldsViews
taken_gives v after t past session number version wait live answer h now e tells counts rebased =
    let us : List View = v.items.items in
    let mark : Mark = record { version = version; edit = live.edit } in
    let kept_data = take_gives (map view_data us) (map view_data after.items.items) v.opened past session number version wait (live_data live) answer h.0 now
    (data_asked_ok session number us live e) tells (ap (map view_data) rebased ∙ data_rebased session number mark us) in
    record {
      given = kept_data.given;
      holds = λ n at. (
        rw counts (kept_data.holds n at),
        rw (rebased, take_stays (map view_data us) v.opened past session number version wait (live_data live) answer h.0 now (data_asked_ok session number us live e) tells n at)
            (stands_rebased t session number mark us (views past) h.1),
      );
    }

-- rows are shown
pub shown_gives : (v : Views) (t : TableData) (past : List PastStep) (session number first end size : ℕ) (part : Shown) (live : LiveView)
    → HoldsViews v t past → asked_at session number v.items.items ≡ Ok live → ltb end first ≡ false → part ≡ window first end (live_data live).shown
    → size ≡ length (live_data live).shown.rows → Gives past session (ask.rows number first end) (body.Rows live.edit first part size number) (HoldsViews v t)
unfolding HoldsViews
shown_gives v t past session number first end size part live h e order cut count =
    let kept_data = rows_give (map view_data v.items.items) v.opened past session number first end size part (live_data live) h.0 (data_asked_ok session number v.items.items live e) order cut count in
    record { given = kept_data.given; holds = λ n at. (kept_data.holds n at, h.1) }

pub window_is_refused : (v : Views) (t : TableData) (past : List PastStep) (session number first end : ℕ) (live : LiveView) → HoldsViews v t past
    → asked_at session number v.items.items ≡ Ok live → ltb end first ≡ true → Gives past session (ask.rows number first end) (body.Refused (bad_window first end)) (HoldsViews v t)
window_is_refused v t past session number first end live h e back =
    views_are_refused v t past session (ask.rows number first end) (bad_window first end) h refl
    (rows_plain (map view_data v.items.items) v.opened past session number first end (live_data live) true (keeps_data v t past h) (data_asked_ok session number v.items.items live e) back)

-- ---- views are closed

named_data : (session number : ℕ) (us : List View) (o : Option View) → find (is_kept session number) us ≡ o → find (is_named session number) (map view_data us) ≡ option_map view_data o
named_data session number us o is = find-map (is_named session number) view_data us ∙ ap (option_map view_data) is

pub view_is_missing : (v : Views) (t : TableData) (past : List PastStep) (session number : ℕ) → HoldsViews v t past → find (is_kept session number) v.items.items ≡ None
    → Gives past session (ask.close number) (body.Refused no_view) (HoldsViews v t)
view_is_missing v t past session number h missing =
    views_are_refused v t past session (ask.close number) no_view h refl
    (close_plain (map view_data v.items.items) v.opened past session number None (keeps_data v t past h) (named_data session number v.items.items None missing))

pub closed_gives : (v after : Views) (t : TableData) (past : List PastStep) (session number : ℕ) (u : View) → HoldsViews v t past → find (is_kept session number) v.items.items ≡ Some u
    → after.opened ≡ v.opened → after.items.items ≡ filter (λ w. not (is_kept session number w)) v.items.items
    → Gives past session (ask.close number) (body.Closed number) (HoldsViews after t)
unfolding HoldsViews
closed_gives v after t past session number u h found counts dropped =
    let us : List View = v.items.items in
    let test : ViewData → Bool = λ w. not (is_named session number w) in
    record {
      given = plain_given past session (ask.close number) _ refl (close_plain (map view_data us) v.opened past session number (Some (view_data u)) h.0 (named_data session number us (Some u) found));
      holds = λ n at. (
        rw (counts, dropped, data_filtered test us) (filtered_views (map view_data us) v.opened past _ test h.0 refl (λ w. refl) refl (λ s. refl) (λ s i. refl)),
        rw dropped (stands_filter t test (kept_view past) us (views past) h.0.views h.1),
      );
    }

pub left_gives : (v after : Views) (t : TableData) (past : List PastStep) (session closed : ℕ) → HoldsViews v t past
    → closed ≡ length (filter (λ (w : View). eqb w.session session) v.items.items)
    → after.opened ≡ v.opened → after.items.items ≡ filter (λ w. not (eqb w.session session)) v.items.items
    → Gives past session ask.leave (body.Left closed) (HoldsViews after t)
unfolding HoldsViews
left_gives v after t past session closed h count counts dropped =
    let us : List View = v.items.items in
    let test : ViewData → Bool = λ w. not (eqb w.session session) in
    let ours : ViewData → Bool = λ w. eqb w.session session in
    let all = count ∙ sym (length-map (filter (λ (w : View). ours (view_data w)) us) view_data) ∙ sym (ap length (filter-map ours view_data us)) ∙ count_is (map view_data us) v.opened past session h.0 in
    record {
      given = plain_given past session ask.leave _ refl (ap body.Left (sym all));
      holds = λ n at. (
        rw (counts, dropped, data_filtered test us) (filtered_views (map view_data us) v.opened past _ test h.0 refl (λ w. refl) refl (λ s. refl) (λ s i. refl)),
        rw dropped (stands_filter t test (kept_view past) us (views past) h.0.views h.1),
      );
    }

-- ---- a view is opened

-- the plan is read for the table's schema
pub read_for : (t : TableData) (number : ℕ) (past : List PastStep) (asked : RawData) → HoldsTable t number past → plan_asked (schema_or_none past) asked ≡ plan_asked t.schema asked
read_for t number past asked h = ap (λ (o : Option SchemaData). plan_asked (unwrap_or o no_schema) asked) h.schema

pub plan_is_refused : (v : Views) (t : TableData) (past : List PastStep) (session bound number : ℕ) (asked : RawData) (why : Refusal) → HoldsViews v t past → HoldsTable t number past
    → plan_asked t.schema asked ≡ Err why → Gives past session (ask.open_view asked bound) (body.Refused why) (HoldsViews v t)
plan_is_refused v t past session bound number asked why h table is =
    views_are_refused v t past session (ask.open_view asked bound) why h (not_wanted t.schema asked why is)
    (open_plain (map view_data v.items.items) v.opened past session bound asked (Err why) _ (keeps_data v t past h) (read_for t number past asked table ∙ is) refl)

plain_open : (v : Views) (t : TableData) (past : List PastStep) (session bound number : ℕ) (asked : RawData) (plan : Plan) (full : Bool) → HoldsViews v t past → HoldsTable t number past
    → plan_asked t.schema asked ≡ Ok plan → leb max_views (length v.items.items) ≡ full
    → plain_in past session (ask.open_view asked bound) ≡ first_of (refused_if full too_many_views ∷ []) (opened_answer past session bound (Ok plan))
unfolding HoldsViews
plain_open v t past session bound number asked plan full h table is many =
    open_plain (map view_data v.items.items) v.opened past session bound asked (Ok plan) full h.0 (read_for t number past asked table ∙ is)
    (ap (leb max_views) (length-map v.items.items view_data) ∙ many)

pub open_is_full : (v : Views) (t : TableData) (past : List PastStep) (session bound number : ℕ) (asked : RawData) (plan : Plan) → HoldsViews v t past → HoldsTable t number past
    → plan_asked t.schema asked ≡ Ok plan → leb max_views (length v.items.items) ≡ true → Gives past session (ask.open_view asked bound) (body.Refused too_many_views) (HoldsViews v t)
open_is_full v t past session bound number asked plan h table is many =
    views_are_refused v t past session (ask.open_view asked bound) too_many_views h refl (plain_open v t past session bound number asked plan true h table is many)

pub opened_gives : (v after : Views) (t : TableData) (past : List PastStep) (session bound number : ℕ) (asked : RawData) (plan : Plan) (answer : Body) → HoldsViews v t past
    → HoldsTable t number past → plan_asked t.schema asked ≡ Ok plan → leb max_views (length v.items.items) ≡ false → IsOpened past session plan bound answer (HoldsViews after t)
    → Gives past session (ask.open_view asked bound) answer (HoldsViews after t)
opened_gives v after t past session bound number asked plan answer h table is few added =
    let read = read_for t number past asked table ∙ is in
    record {
      given = plain_given past session (ask.open_view asked bound) answer added.unnamed
          (plain_open v t past session bound number asked plan false h table is few ∙ ap (opened_answer past session bound) (sym read) ∙ sym (added.right asked read));
      holds = added.holds asked read;
    }
