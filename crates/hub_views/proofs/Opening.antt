-- A view that is opened.
use Rattle.std.proofs.Common.{◌≡◌, ℕ, ◌+◌, ◌<◌, ◌≤◌, ◌^◌, ◌-◌, min, eqb, leb, Bool, true, false, cond, if◌then◌else◌, List, [], ◌∷◌, ◌++◌, length, map, find, set, get_or, All, Some, None, Result, Ok, inl, inr, refl, sym, ap, ◌∙◌, subst, arith, get_or-set_same, get_or-set_other}
use Rattle.std.specs.List.{AllZip}
use Rattle.std.proofs.lemmas.Bool.{cases_eq, eq-eqb, ne_eqb}
use Rattle.std.proofs.lemmas.List.{length-map, length-set, map-append}
use Rattle.std.proofs.lemmas.List.Elements.{All-weaker}
use Rattle.cell_core.specs.RawData.{RawData}
use Rattle.view_types.specs.declared.shown.Shown.{Shown}
use Rattle.delta_core.specs.DirtySets.{dirty_of}
use Rattle.delta_core.specs.declared.delta.Mark.{Mark}
use Rattle.plan_types.specs.declared.plan.Plan.{Plan}
use Rattle.view_spec.specs.Openings.{Opening, first_opening}
use Rattle.view_kept.specs.Steps.{side_of}
use Rattle.live_rows.specs.Live.{StandsLive, live_shown, shows_live}
use Rattle.live_rows.specs.declared.live.LiveRows.{LiveRows}
use Rattle.table_core.specs.Tables.{TableData}
use Rattle.frame_types.specs.Asks as ask
use Rattle.frame_types.specs.Limits.{sessions}
use Rattle.frame_types.specs.Refusals.{too_many_views}
use Rattle.frame_types.specs.declared.reply.Body.TheVariants as body
use Rattle.frame_types.specs.declared.reply.Refusal.{Refusal}
use Rattle.hub_spec.specs.Past.{PastStep}
use Rattle.hub_spec.specs.Answers.{faulty_plan, first_of, opened_answer, refused_if}
use Rattle.hub_spec.specs.Bases.{edit_by, is_base, shown_by, shown_in}
use Rattle.hub_spec.specs.Giving.{plain_in, with_step}
use Rattle.hub_spec.specs.HeldViews.{HeldView, held_view, is_opened_in, is_view, opened_count, opened_view, shown, views, with_opened}
use Rattle.hub_spec.specs.Limits.{max_views}
use Rattle.hub_spec.specs.Ports as history
use Rattle.hub_spec.specs.Plans.{plan_asked}
use Rattle.hub_spec.specs.Rows.{schema_or_none}
use Rattle.hub_spec.proofs.Counting.{times_le}
use Rattle.hub_spec.proofs.Numbering.{are_new, found_new}
use Rattle.hub_views.specs.Keeping.{AreNumbered, HoldsViews, IsOpened, Keeps, Stands, kept_view}
use Rattle.hub_views.specs.Live.{ViewData, fresh_live, live_now, view_data}
use Rattle.hub_views.specs.Tables.{HoldsTable}
use Rattle.hub_views.specs.declared.live.LiveView.{LiveView}
use Rattle.hub_views.specs.declared.view.View.{View}
use Rattle.hub_views.specs.declared.view.ViewState.TheVariants.{Live}
use Rattle.hub_views.specs.declared.views.Views.{Views}
use Rattle.hub_views.proofs.KeptViews.{based_is, kept_still, with_state}
use Rattle.hub_views.proofs.Lists.{map_same}
use Rattle.hub_views.proofs.Numbered.{IsBefore, are_apart, numbered_push, numbered_still, numbers_given, own_found, own_is_view}
use Rattle.hub_views.proofs.Sides.{table_keys, table_view}

grows : (b : Bool) (n : ℕ) → n ≤ (if b then n + 1 else n)
grows true n = omega arith
grows false n = omega arith

-- the counts of views that sessions opened
set_count : (counts : List ℕ) (session s : ℕ) (few : ℕ → ℕ) → length counts ≡ sessions → session < sessions → get_or counts s 0 ≡ few s
    → get_or (set counts session (few session + 1)) s 0 ≡ (if eqb session s then few s + 1 else few s)
set_count counts session s few size lt was =
    elim (cases_eq session s) as (λ _. get_or (set counts session (few session + 1)) s 0 ≡ (if eqb session s then few s + 1 else few s)) [
      | inl same ↦
          let within : session < length counts = omega (arith, size) in
          let At : ℕ → Type 0 = λ x. get_or (set counts session (few session + 1)) x 0 ≡ (if eqb session x then few x + 1 else few x) in
          subst At same (rw (eq-eqb session session refl) (get_or-set_same counts session (few session + 1) 0 within))
      | inr apart ↦
          let apart_too : s ≡ session → ⊥ = λ e. apart (sym e) in
          rw (ne_eqb session s apart) (get_or-set_other counts session s (few session + 1) 0 apart_too ∙ was)
    ]

-- a view is found behind others as it was before
found_behind : (test : HeldView → Bool) (vs : List HeldView) (v w : HeldView) → find test vs ≡ Some v → find test (vs ++ w ∷ []) ≡ Some v
found_behind test [] v w h = absurd (let wrong : None ≡ Some v = h in cc)
found_behind test (u ∷ vs) v w h = by (test u) h (found_behind test vs v w)
  where
    by : (b : Bool) → cond b (Some u) (find test vs) ≡ Some v → (find test vs ≡ Some v → find test (vs ++ w ∷ []) ≡ Some v)
        → cond b (Some u) (find test (vs ++ w ∷ [])) ≡ Some v
    by true here later = here
    by false here later = later here

opened_views : (kept : List ViewData) (counts : List ℕ) (past : List PastStep) (session : ℕ) (asked : RawData) (plan : Plan) (bound n version : ℕ) (seen : Shown)
    → Keeps kept counts past → session < sessions → plan_asked (schema_or_none past) asked ≡ Ok plan → seen ≡ shown past (opened_view session (opened_count past session) plan bound)
    → Keeps (kept ++ record { session = session; number = opened_count past session; state = live_now (record { bound = bound; edit = 0; shown = seen; base = record { version = history.version past; edit = 0 }; dirty = dirty_of bound [] false }) } ∷ [])
    (set counts session (opened_count past session + 1)) (with_step session (ask.open_view asked bound) n version (body.Opened 0 seen (opened_count past session)) past)
opened_views kept counts past session asked plan bound n version seen h lt read shows =
    let number : ℕ = opened_count past session in
    let d : PastStep = record { session = session; request = ask.open_view asked bound; reply = record { n = n; version = version; body = body.Opened 0 seen number } } in
    let now : List PastStep = d ∷ past in
    let vs : List HeldView = views past in
    let w : HeldView = opened_view session number plan bound in
    let all_now : views now ≡ vs ++ w ∷ [] = ap (λ r. with_opened session number bound r vs) read in
    let given : All (λ v. v.number < opened_count past v.session) vs = numbers_given (opened_count past) vs h.numbered in
    let before : All (λ v. IsBefore v w) vs =
    All-weaker (λ v. v.number < opened_count past v.session) (λ v. IsBefore v w) (λ v less same. subst (λ s. v.number < opened_count past s) same less) vs given in
    let others : All (λ v. kept_view past v ≡ kept_view now v) vs =
    λ k x within.
    let v : HeldView = get_or vs k x in
    let own : held_view past v.session v.number ≡ Some v = own_found (opened_count past) vs h.numbered k x within in
    let still : held_view now v.session v.number ≡ Some v = ap (find (is_view v.session v.number)) all_now ∙ found_behind (is_view v.session v.number) vs v w own in
    kept_still past d v (record { before = own; after = still; sides = refl }) (are_apart v w (before k x within)) in
    let here : is_base session number d ≡ true = rw (eq-eqb number number refl, eq-eqb session session refl) refl in
    let found : held_view now session number ≡ Some w = ap (find (is_view session number)) all_now ∙ found_new (is_view session number) vs w (are_new past session given) (own_is_view w) in
    let showing : shown_in now session number ≡ seen = ap (shown_by now) found ∙ sym shows in
    let shows_at : Shown → ℕ → ViewData = λ what edit.
    let base : Mark = record { version = history.version past; edit = edit } in
    with_state w (live_now (record { bound = bound; edit = 0; shown = what; base = base; dirty = dirty_of bound [] false })) in
    let last : kept_view now w ≡ shows_at seen 0 =
    ap (λ l. with_state w (live_now l)) (based_is past d session number bound 0 here)
    ∙ ap (λ what. shows_at what (edit_by (held_view now session number))) showing ∙ ap (shows_at seen) (ap edit_by found) in
    let one_more : opened_count now session ≡ number + 1 = rw (eq-eqb session session refl) refl in
    record {
      made = h.made;
      views = ap (λ ks. ks ++ shows_at seen 0 ∷ []) (h.views ∙ map_same (kept_view past) (kept_view now) vs others)
          ∙ ap (λ k. map (kept_view now) vs ++ k ∷ []) (sym last) ∙ sym (map-append (kept_view now) vs (w ∷ [])) ∙ ap (map (kept_view now)) (sym all_now);
      size = length-set counts session (number + 1) ∙ h.size;
      opened = λ s few. set_count counts session s (opened_count past) h.size lt (h.opened s few);
      numbered = subst (AreNumbered (opened_count now)) (sym all_now) (numbered_push (opened_count now) vs w
          (numbered_still (opened_count past) (opened_count now) vs (λ s. grows (eqb session s) (opened_count past s)) h.numbered) (omega (arith, one_more)) before);
    }

stands_push : (t : TableData) (us : List View) (vs : List HeldView) (u : View) (v : HeldView) → AllZip (Stands t) us vs → Stands t u v → AllZip (Stands t) (us ++ u ∷ []) (vs ++ v ∷ [])
stands_push t [] [] u v all last = (last, tt)
stands_push t [] (w ∷ vs) u v all last = absurd all
stands_push t (x ∷ us) [] u v all last = absurd all
stands_push t (x ∷ us) (w ∷ vs) u v all last = (all.0, stands_push t us vs u v all.1 last)

-- what is answered and held then
pub opened_is : (was now : Views) (past : List PastStep) (session bound next version : ℕ) (plan : Plan) (t : TableData) (rows : LiveRows) (opening : Opening) (seen : Shown) (live : LiveView)
    → HoldsViews was t past → HoldsTable t version past → length past < 2 ^ 53 → session < sessions
    → StandsLive rows (side_of plan opening t) → seen ≡ live_shown rows → opening ≡ first_opening plan → live ≡ fresh_live bound (record { version = version; edit = 0 }) rows opening
    → now.items.items ≡ was.items.items ++ record { session = session; number = get_or was.opened session 0; state = Live live } ∷ []
    → next ≡ min (get_or was.opened session 0 + 1) (2 ^ 64 - 1) → now.opened ≡ set was.opened session next
    → IsOpened past session plan bound (body.Opened 0 seen (get_or was.opened session 0)) (HoldsViews now t)
unfolding HoldsViews
opened_is was now past session bound next version plan t rows opening seen live h table few lt stands shows opens fresh pushed next_is counted =
    let kept : List View = was.items.items in
    let counts : List ℕ = was.opened in
    let number : get_or counts session 0 ≡ opened_count past session = h.0.opened session lt in
    let w : HeldView = opened_view session (opened_count past session) plan bound in
    let its : StandsLive rows (side_of plan w.opening t) = subst (λ o. StandsLive rows (side_of plan o t)) opens stands in
    let shows_rows : seen ≡ shown past w = shows ∙ shows_live rows (side_of plan w.opening t) its (table_keys t version past table) ∙ sym (table_view t version past table w) in
    let raised : next ≡ opened_count past session + 1 = omega (arith, next_is, number, times_le (is_opened_in session) past) in
    let entry : ℕ → LiveView → View = λ k l. record { session = session; number = k; state = Live l } in
    let base : ℕ → LiveView = λ k. fresh_live bound (record { version = k; edit = 0 }) rows opening in
    let all : now.items.items ≡ kept ++ entry (opened_count past session) (base (history.version past)) ∷ [] =
    pushed ∙ ap (λ k. kept ++ entry k live ∷ []) number ∙ ap (λ l. kept ++ entry (opened_count past session) l ∷ []) (fresh ∙ ap base table.number) in
    let told : Shown → ViewData = λ what. record { session = session; number = opened_count past session; state = live_now (record { bound = bound; edit = 0; shown = what; base = record { version = history.version past; edit = 0 }; dirty = dirty_of bound [] false }) } in
    let kept_data : map view_data now.items.items ≡ map view_data kept ++ told seen ∷ [] =
    ap (map view_data) all ∙ map-append view_data kept (entry (opened_count past session) (base (history.version past)) ∷ []) ∙ ap (λ what. map view_data kept ++ told what ∷ []) (sym shows) in
    let opened_now : now.opened ≡ set counts session (opened_count past session + 1) = counted ∙ ap (set counts session) raised in
    record {
      right = λ asked read. ap (λ what. body.Opened 0 what (get_or counts session 0)) shows_rows ∙ ap (body.Opened 0 (shown past w)) number ∙ sym (ap (opened_answer past session bound) read);
      unnamed = refl;
      holds = λ asked read n at. (
        rw (kept_data, opened_now, number) (opened_views (map view_data kept) counts past session asked plan bound n at seen h.0 lt read shows_rows),
        rw (all, number) (subst (AllZip (Stands t) (kept ++ entry (opened_count past session) (base (history.version past)) ∷ [])) (sym (ap (λ r. with_opened session (opened_count past session) bound r (views past)) read)) (stands_push t kept (views past) (entry (opened_count past session) (base (history.version past))) w h.1 (record { rows = its; opening = opens }))),
      );
    }

-- the tests of an opening, where a table was made
pub open_plain : (kept : List ViewData) (counts : List ℕ) (past : List PastStep) (session bound : ℕ) (asked : RawData) (read : Result Plan Refusal) (full : Bool) → Keeps kept counts past
    → plan_asked (schema_or_none past) asked ≡ read → leb max_views (length kept) ≡ full
    → plain_in past session (ask.open_view asked bound) ≡ first_of (faulty_plan read ∷ refused_if full too_many_views ∷ []) (opened_answer past session bound read)
open_plain kept counts past session bound asked read full h is many =
    let count : length (views past) ≡ length kept = sym (ap length h.views ∙ length-map (views past) (kept_view past)) in
    let all : leb max_views (length (views past)) ≡ full = ap (leb max_views) count ∙ many in
    rw (h.made, is, all) refl
