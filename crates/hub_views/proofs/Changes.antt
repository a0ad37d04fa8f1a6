-- A view whose plan or whose opening is changed.
use Rattle.std.proofs.Common.{◌≡◌, ℕ, suc, zero, ◌+◌, ◌^◌, ◌<◌, ◌≤◌, eqb, true, false, ◌||◌, ◌&&◌, cond, List, [], ◌∷◌, length, map, get_or, position, set, All, Bool, Option, Some, None, Result, Ok, Err, inl, inr, refl, sym, ap, ◌∙◌, subst, arith}
use Rattle.std.specs.Prelude.{is_none, option_map}
use Rattle.std.specs.List.{AllZip}
use Rattle.std.proofs.lemmas.Bool.{eqb-true}
use Rattle.std.proofs.lemmas.List.{set-get_or}
use Rattle.std.proofs.lemmas.List.Elements.{All-head, All-tail}
use Rattle.std.proofs.lemmas.List.Quantifiers.{position-Some}
use Rattle.delta_core.specs.Deltas.{marked}
use Rattle.delta_core.specs.DirtySets.{dirty_of, joined}
use Rattle.frame_types.specs.Asks.{Ask}
use Rattle.frame_types.specs.Refusals.{view_lost}
use Rattle.frame_types.specs.declared.reply.Body.{Body}
use Rattle.frame_types.specs.declared.reply.Body.TheVariants as body
use Rattle.frame_types.specs.declared.reply.Refusal.{Refusal}
use Rattle.table_core.specs.Tables.{TableData}
use Rattle.view_spec.specs.Touching.{head_touched}
use Rattle.view_spec.specs.Views.{Side}
use Rattle.view_kept.specs.Steps.{IsOfTable, side_of, touched_between}
use Rattle.view_kept.proofs.StepLaws.{is_of_table}
use Rattle.live_rows.specs.Live.{StandsLive, live_shown, shows_live}
use Rattle.hub_spec.specs.Past.{PastStep}
use Rattle.hub_spec.specs.Answers.{first_of, lost_view}
use Rattle.hub_spec.specs.Bases.{base_or_none, dirty, head_dirty, placed_by, shown_by}
use Rattle.hub_spec.specs.Giving.{Gives, plain_in, with_step}
use Rattle.hub_spec.specs.HeldViews.{HeldView, changed_at, held_view, is_view, opened_count, shown, views}
use Rattle.hub_spec.specs.Histories.{choice_of, plenty}
use Rattle.hub_spec.specs.Ports as history
use Rattle.hub_spec.proofs.Counting.{edits_le}
use Rattle.hub_spec.proofs.Giving.{TakesMemory, plain_given}
use Rattle.hub_spec.proofs.Numbering.{IsSameName, KeepsNames}
use Rattle.hub_views.specs.Changing.{AnswersChangeOf, Effect, IsChanged, IsMade, IsMadeTo, Pass, Refuse, StateAnswersChange}
use Rattle.hub_views.specs.Keeping.{AreNumbered, HoldsViews, Stands, StandsIn, is_kept, kept_view, live_at, state_of}
use Rattle.hub_views.specs.Live.{LiveData, StateData, ViewData, live_data, live_now, lost_now, state_data, view_data}
use Rattle.hub_views.specs.Tables.{HoldsTable}
use Rattle.hub_views.specs.declared.live.LiveView.{LiveView}
use Rattle.hub_views.specs.declared.view.View.{View}
use Rattle.hub_views.specs.declared.view.ViewState.{ViewState}
use Rattle.hub_views.specs.declared.view.ViewState.TheVariants.{Live, Lost}
use Rattle.hub_views.specs.declared.views.Views.{Views}
use Rattle.hub_views.proofs.KeptViews.{and_parts, kept_still, placed_at, shown_at}
use Rattle.hub_views.proofs.Numbered.{earlier_is_other, held_changed, later_is_other, numbered_changed, own_found}
use Rattle.hub_views.proofs.Refreshes.{joined_is}
use Rattle.hub_views.proofs.Sides.{table_keys, table_placed, table_view}
use Rattle.hub_views.proofs.Told.{views_are_refused, views_are_wanted}

-- ---- one item of a list is another

zip_at : (R : View → HeldView → Type 0) (us : List View) (vs : List HeldView) (k : ℕ) (d : View) (e : HeldView) → AllZip R us vs → k < length us
    → (k < length vs) × R (get_or us k d) (get_or vs k e)
zip_at R [] vs k d e all lt = absurd (omega arith)
zip_at R (u ∷ us) [] k d e all lt = absurd all
zip_at R (u ∷ us) (v ∷ vs) zero d e all lt = (omega arith, all.0)
zip_at R (u ∷ us) (v ∷ vs) (suc k) d e all lt =
    let later = zip_at R us vs k d e all.1 (omega (arith, lt)) in
    (omega (arith, later.0), later.1)

zip_some : (R : View → HeldView → Type 0) (us : List View) (vs : List HeldView) (k : ℕ) (d : View) → AllZip R us vs → k < length us → (v : HeldView) × R (get_or us k d) v
zip_some R [] vs k d all lt = absurd (omega arith)
zip_some R (u ∷ us) [] k d all lt = absurd all
zip_some R (u ∷ us) (v ∷ vs) zero d all lt = (v, all.0)
zip_some R (u ∷ us) (v ∷ vs) (suc k) d all lt = zip_some R us vs k d all.1 (omega (arith, lt))

-- no earlier view has the name of a later one
not_of_name : (session number : ℕ) (v w : HeldView) → is_view session number w ≡ true → is_view w.session w.number v ≡ false → is_view session number v ≡ false
not_of_name session number v w is other =
    let parts = and_parts (eqb w.session session) (eqb w.number number) is in
    ap (λ s. is_view s number v) (sym (eqb-true w.session session parts.0)) ∙ ap (λ n. is_view w.session n v) (sym (eqb-true w.number number parts.1)) ∙ other

rest_stays : (R S : View → HeldView → Type 0) (session number : ℕ) (f : HeldView → HeldView) (us : List View) (vs : List HeldView) → AllZip R us vs
    → All (λ v. is_view session number v ≡ false) vs → ((u : View) (v : HeldView) → R u v → is_view session number v ≡ false → S u v)
    → AllZip S us (map (changed_at session number f) vs)
rest_stays R S session number f [] [] all none others = tt
rest_stays R S session number f [] (v ∷ vs) all none others = absurd all
rest_stays R S session number f (u ∷ us) [] all none others = absurd all
rest_stays R S session number f (u ∷ us) (v ∷ vs) all none others =
    let is : is_view session number v ≡ false = All-head (λ w. is_view session number w ≡ false) v vs none in (
      rw is (others u v all.0 is),
      rest_stays R S session number f us vs all.1 (All-tail (λ w. is_view session number w ≡ false) v vs none) others,
    )

-- a relation of kept views to held ones, where one is put in the place of the view of a name, and the held one is changed
set_one : (R S : View → HeldView → Type 0) (session number : ℕ) (f : HeldView → HeldView) (opened : ℕ → ℕ) (us : List View) (vs : List HeldView) (k : ℕ) (w d : View)
    → AreNumbered opened vs → AllZip R us vs → k < length us → is_kept session number (get_or us k d) ≡ true
    → ((u : View) (v : HeldView) → R u v → is_kept session number u ≡ is_view session number v)
    → ((u : View) (v : HeldView) → R u v → is_view session number v ≡ false → S u v)
    → ((v : HeldView) → R (get_or us k d) v → S w (f v))
    → AllZip S (set us k w) (map (changed_at session number f) vs)
set_one R S session number f opened [] vs k w d numbered all lt found same others here = absurd (omega arith)
set_one R S session number f opened (u ∷ us) [] k w d numbered all lt found same others here = absurd all
set_one R S session number f opened (u ∷ us) (v ∷ vs) zero w d numbered all lt found same others here =
    let is : is_view session number v ≡ true = sym (same u v all.0) ∙ found in
    let parts = and_parts (eqb v.session session) (eqb v.number number) is in
    let apart : All (λ x. is_view session number x ≡ false) vs =
    λ j x within.
    let y : HeldView = get_or vs j x in
    ap (λ s. is_view s number y) (sym (eqb-true v.session session parts.0)) ∙ ap (λ n. is_view v.session n y) (sym (eqb-true v.number number parts.1))
    ∙ later_is_other v y (numbered.1 j x within) in
    (rw is (here v all.0), rest_stays R S session number f us vs all.1 apart others)
set_one R S session number f opened (u ∷ us) (v ∷ vs) (suc k) w d numbered all lt found same others here =
    let at = zip_at R us vs k d v all.1 (omega (arith, lt)) in
    let y : HeldView = get_or vs k v in
    let is : is_view session number y ≡ true = sym (same (get_or us k d) y at.1) ∙ found in
    let other : is_view session number v ≡ false = not_of_name session number v y is (earlier_is_other v y (numbered.1 k v at.0)) in (
      rw other (others u v all.0 other),
      set_one R S session number f opened us vs k w d numbered.2 all.1 (omega (arith, lt)) found same others here,
    )

-- ---- a view before and after

record IsKept (past : List PastStep) (t : TableData) (u : View) (v : HeldView) : Type 0 where
  same : view_data u ≡ kept_view past v
  stands : Stands t u v
  held : held_view past v.session v.number ≡ Some v
  few : v.edit ≤ length past

record IsKeptThen (now : List PastStep) (t : TableData) (u : View) (v : HeldView) : Type 0 where
  same : view_data u ≡ kept_view now v
  stands : Stands t u v

cons_parts : {X : Type 0} (x y : X) (xs ys : List X) → x ∷ xs ≡ y ∷ ys → (x ≡ y) × (xs ≡ ys)
cons_parts x y xs ys e = (let h : x ≡ y = cc in h, let t : xs ≡ ys = cc in t)

all_kept : (past : List PastStep) (t : TableData) (us : List View) (vs : List HeldView) → map view_data us ≡ map (kept_view past) vs → AllZip (Stands t) us vs
    → All (λ v. held_view past v.session v.number ≡ Some v) vs → All (λ v. v.edit ≤ length past) vs → AllZip (IsKept past t) us vs
all_kept past t [] [] same stands held few = tt
all_kept past t [] (v ∷ vs) same stands held few = absurd stands
all_kept past t (u ∷ us) [] same stands held few = absurd stands
all_kept past t (u ∷ us) (v ∷ vs) same stands held few =
    let parts = cons_parts (view_data u) (kept_view past v) (map view_data us) (map (kept_view past) vs) same in (
      record {
        same = parts.0;
        stands = stands.0;
        held = All-head (λ w. held_view past w.session w.number ≡ Some w) v vs held;
        few = All-head (λ w. w.edit ≤ length past) v vs few;
      },
      all_kept past t us vs parts.1 stands.1 (All-tail (λ w. held_view past w.session w.number ≡ Some w) v vs held) (All-tail (λ w. w.edit ≤ length past) v vs few),
    )

then_data : (now : List PastStep) (t : TableData) (us : List View) (vs : List HeldView) → AllZip (IsKeptThen now t) us vs → map view_data us ≡ map (kept_view now) vs
then_data now t [] [] all = refl
then_data now t [] (v ∷ vs) all = absurd all
then_data now t (u ∷ us) [] all = absurd all
then_data now t (u ∷ us) (v ∷ vs) all = ap (λ x. x ∷ map view_data us) all.0.same ∙ ap (λ xs. kept_view now v ∷ xs) (then_data now t us vs all.1)

then_stand : (now : List PastStep) (t : TableData) (us : List View) (vs : List HeldView) → AllZip (IsKeptThen now t) us vs → AllZip (Stands t) us vs
then_stand now t [] [] all = tt
then_stand now t [] (v ∷ vs) all = absurd all
then_stand now t (u ∷ us) [] all = absurd all
then_stand now t (u ∷ us) (v ∷ vs) all = (all.0.stands, then_stand now t us vs all.1)

-- what a change makes of a held view
abbrev pub made_by : Effect → HeldView → HeldView
made_by e v = record v { plan = e.plan v.plan; opening = e.opening v.plan v.opening; edit = v.edit + 1 }

made_name : (e : Effect) (session number : ℕ) → KeepsNames (changed_at session number (made_by e))
made_name e session number v = by (is_view session number v)
  where
    by : (b : Bool) → IsSameName v (cond b (made_by e v) v)
    by true = record { session = refl; number = refl }
    by false = record { session = refl; number = refl }

-- a step that answers a change
abbrev pub change_step : ℕ → ℕ → Ask → ℕ → ℕ → ℕ → PastStep
change_step session number request n at edit = record { session = session; request = request; reply = record { n = n; version = at; body = body.Edited edit number } }

record IsChangeStep (past : List PastStep) (session number : ℕ) (request : Ask) (n at edit : ℕ) (e : Effect) (t : TableData) (version : ℕ) : Type 0 where
  are : views (change_step session number request n at edit ∷ past) ≡ map (changed_at session number (made_by e)) (views past)
  table : HoldsTable t version past
  short : length past < 2 ^ 53

-- the changed view
changed_live : (past : List PastStep) (session number n at edit version : ℕ) (request : Ask) (e : Effect) (t : TableData) (v : HeldView) (was after : LiveView)
    → IsChangeStep past session number request n at edit e t version → held_view past v.session v.number ≡ Some v → v.edit ≤ length past
    → held_view (change_step session number request n at edit ∷ past) v.session v.number ≡ Some (made_by e v)
    → live_data was ≡ live_at past v.session v.number v.bound v.edit
    → IsChanged (side_of v.plan v.opening t) (e.plan v.plan) (e.opening v.plan v.opening) t was after
    → live_data after ≡ live_at (change_step session number request n at edit ∷ past) v.session v.number v.bound (v.edit + 1)
changed_live past session number n at edit version request e t v was after is held few held_now same changed =
    let d : PastStep = change_step session number request n at edit in
    let s = v.session in
    let i = v.number in
    let w : HeldView = made_by e v in
    let keys = marked (base_or_none past s i).shown.rows (dirty past s i) in
    let a : Side = side_of v.plan v.opening t in
    let b : Side = side_of (e.plan v.plan) (e.opening v.plan v.opening) t in
    let distinct = table_keys t version past is.table in
    let bounds : was.dirty.bound ≡ v.bound = ap (λ (x : LiveData). x.dirty.bound) same in
    let was_dirty : was.dirty ≡ dirty_of was.dirty.bound keys (head_dirty past s i) =
    ap (λ (x : LiveData). x.dirty) same ∙ ap (λ k. dirty_of k keys (head_dirty past s i)) (sym bounds) in
    let was_edit : was.edit ≡ v.edit = ap (λ (x : LiveData). x.edit) same in
    joined_is past d s i v.bound (v.edit + 1) a b (live_data after) refl (record {
      shows = shown_at past v held ∙ table_view t version past is.table v;
      places = placed_at past v held ∙ table_placed t version past is.table v;
      shows_now = ap (shown_by (d ∷ past)) held_now ∙ table_view t version past is.table w;
      places_now = ap (placed_by (d ∷ past)) held_now ∙ table_placed t version past is.table w;
      bound = changed.bound ∙ ap (λ (x : LiveData). x.bound) same;
      edit = omega (arith, changed.edit, was_edit, few, is.short);
      shown = shows_live after.rows b changed.stands distinct;
      base = changed.base ∙ ap (λ (x : LiveData). x.base) same;
      dirty = changed.dirty keys (head_dirty past s i) was_dirty
          ∙ ap (λ k. dirty_of k (joined keys (touched_between a b)) (head_dirty past s i || head_touched a b)) bounds;
    })

-- ---- all views

-- a view of another name
other_stays : (past : List PastStep) (session number n at edit version : ℕ) (request : Ask) (e : Effect) (t : TableData) (u : View) (v : HeldView)
    → IsChangeStep past session number request n at edit e t version → IsKept past t u v → is_view session number v ≡ false
    → IsKeptThen (change_step session number request n at edit ∷ past) t u v
other_stays past session number n at edit version request e t u v is kept other =
    let d : PastStep = change_step session number request n at edit in
    let one : HeldView → HeldView = changed_at session number (made_by e) in
    let unchanged : one v ≡ v = ap (λ b. cond b (made_by e v) v) other in
    let held_now : held_view (d ∷ past) v.session v.number ≡ Some v =
    held_changed past d one v (made_name e session number) is.are kept.held ∙ ap (λ w. Some w) unchanged in
    record {
      same = kept.same ∙ kept_still past d v (record { before = kept.held; after = held_now; sides = refl }) refl;
      stands = kept.stands;
    }

named_alike : (past : List PastStep) (t : TableData) (session number : ℕ) (u : View) (v : HeldView) → IsKept past t u v → is_kept session number u ≡ is_view session number v
named_alike past t session number u v kept =
    ap (λ s. eqb s session && eqb u.number number) (ap (λ (x : ViewData). x.session) kept.same)
    ∙ ap (λ i. eqb v.session session && eqb i number) (ap (λ (x : ViewData). x.number) kept.same)

same_data : (a b c d : ℕ) (s t : StateData) → a ≡ b → c ≡ d → s ≡ t
    → let x : ViewData = record { session = a; number = c; state = s } in x ≡ record { session = b; number = d; state = t }
same_data a b c d s t p q r = cc

-- what is known of a live view that is held
record IsLiveAt (past : List PastStep) (t : TableData) (v : HeldView) (was : LiveView) : Type 0 where
  stands : StandsIn t v (Live was)
  lives : v.lost ≡ None
  data_is : live_data was ≡ live_at past v.session v.number v.bound v.edit

live_at_place : (past : List PastStep) (t : TableData) (u : View) (v : HeldView) (was : LiveView) → IsKept past t u v → u.state ≡ Live was → IsLiveAt past t v was
live_at_place past t u v was kept u_is = by v.lost refl
  where
    of_data : (lost : Option ℕ) → v.lost ≡ lost → live_now (live_data was) ≡ state_of past v lost
    of_data lost same = sym (ap state_data u_is) ∙ ap (λ (x : ViewData). x.state) kept.same ∙ ap (state_of past v) same

    by : (lost : Option ℕ) → v.lost ≡ lost → IsLiveAt past t v was
    by (Some gone) lost = absurd (let wrong : live_now (live_data was) ≡ lost_now gone = of_data (Some gone) lost in cc)
    by None lost =
        let told : live_now (live_data was) ≡ live_now (live_at past v.session v.number v.bound v.edit) = of_data None lost in
        record { stands = subst (StandsIn t v) u_is kept.stands; lives = lost; data_is = let same : live_data was ≡ live_at past v.session v.number v.bound v.edit = cc in same }

-- what is made of it, by the plan and the opening that it has
made_of : (past : List PastStep) (version : ℕ) (e : Effect) (t : TableData) (v : HeldView) (was after : LiveView) (edit : ℕ) → HoldsTable t version past → IsLiveAt past t v was
    → IsMadeTo e t was after edit → IsMade e t was after (side_of v.plan v.opening t)
made_of past version e t v was after edit table at its = its.made (side_of v.plan v.opening t) at.stands.rows (is_of_table v.plan v.opening t (table_keys t version past table))

changed_of : (e : Effect) (t : TableData) (v : HeldView) (was after : LiveView) → StandsIn t v (Live was) → IsMade e t was after (side_of v.plan v.opening t)
    → IsChanged (side_of v.plan v.opening t) (e.plan v.plan) (e.opening v.plan v.opening) t was after
changed_of e t v was after stands made = subst (λ o. IsChanged (side_of v.plan v.opening t) (e.plan v.plan) (e.opening v.plan o) t was after) stands.opening made.changed

-- the view that is changed
changed_then : (past : List PastStep) (session number n at edit version : ℕ) (request : Ask) (e : Effect) (t : TableData) (u w : View) (v : HeldView)
    → IsChangeStep past session number request n at edit e t version → IsKept past t u v → is_view session number v ≡ true
    → w.session ≡ u.session → w.number ≡ u.number
    → (was after : LiveView) → u.state ≡ Live was → w.state ≡ Live after → IsMadeTo e t was after edit
    → IsKeptThen (change_step session number request n at edit ∷ past) t w (made_by e v)
changed_then past session number n at edit version request e t u w v is kept here same_session same_number was after u_is w_is its =
    let d : PastStep = change_step session number request n at edit in
    let x : HeldView = made_by e v in
    let live : IsLiveAt past t v was = live_at_place past t u v was kept u_is in
    let changed = changed_of e t v was after live.stands (made_of past version e t v was after edit is.table live its) in
    let held_now : held_view (d ∷ past) v.session v.number ≡ Some x =
    held_changed past d (changed_at session number (made_by e)) v (made_name e session number) is.are kept.held ∙ ap (λ b. Some (cond b x v)) here in
    let lives : live_data after ≡ live_at (d ∷ past) v.session v.number v.bound (v.edit + 1) =
    changed_live past session number n at edit version request e t v was after is kept.held kept.few held_now live.data_is changed in
    record {
      same = same_data w.session v.session w.number v.number (state_data w.state) (state_of (d ∷ past) x v.lost)
          (same_session ∙ ap (λ (y : ViewData). y.session) kept.same) (same_number ∙ ap (λ (y : ViewData). y.number) kept.same)
          (ap state_data w_is ∙ ap live_now lives ∙ sym (ap (state_of (d ∷ past) x) live.lives));
      stands = subst (StandsIn t x) (sym w_is) (record { rows = changed.stands; opening = changed.opening });
    }

-- the views that are held once one was changed
changed_views : (v after : Views) (past : List PastStep) (session number place n at edit version : ℕ) (request : Ask) (e : Effect) (t : TableData) (d w : View) (was live : LiveView)
    → HoldsViews v t past → IsChangeStep past session number request n at edit e t version
    → place < length v.items.items → is_kept session number (get_or v.items.items place d) ≡ true
    → w.session ≡ (get_or v.items.items place d).session → w.number ≡ (get_or v.items.items place d).number
    → (get_or v.items.items place d).state ≡ Live was → w.state ≡ Live live → IsMadeTo e t was live edit
    → after.opened ≡ v.opened → after.items.items ≡ set v.items.items place w
    → HoldsViews after t (with_step session request n at (body.Edited edit number) past)
unfolding HoldsViews
changed_views v after past session number place n at edit version request e t d w was live h is lt found same_session same_number u_is w_is its counts changed =
    let us : List View = v.items.items in
    let vs : List HeldView = views past in
    let one : HeldView → HeldView = changed_at session number (made_by e) in
    let step : PastStep = change_step session number request n at edit in
    let kept : AllZip (IsKept past t) us vs = all_kept past t us vs h.0.views h.1 (own_found (opened_count past) vs h.0.numbered) (edits_le past) in
    let all : AllZip (IsKeptThen (step ∷ past) t) (set us place w) (map one vs) =
    set_one (IsKept past t) (IsKeptThen (step ∷ past) t) session number (made_by e) (opened_count past) us vs place w d h.0.numbered kept lt found
    (λ u x. named_alike past t session number u x)
    (λ u x same other. other_stays past session number n at edit version request e t u x is same other)
    (λ x same. changed_then past session number n at edit version request e t (get_or us place d) w x is same
    (sym (named_alike past t session number (get_or us place d) x same) ∙ found) same_session same_number was live u_is w_is its) in (
      record {
        made = h.0.made;
        views = ap (map view_data) changed ∙ then_data (step ∷ past) t (set us place w) (map one vs) all ∙ ap (map (kept_view (step ∷ past))) (sym is.are);
        size = ap length counts ∙ h.0.size;
        opened = λ s less. ap (λ cs. get_or cs s 0) counts ∙ h.0.opened s less;
        numbered = subst (AreNumbered (opened_count (step ∷ past))) (sym is.are) (numbered_changed (opened_count past) one vs (made_name e session number) h.0.numbered);
      },
      rw (changed, is.are) (then_stand (step ∷ past) t (set us place w) (map one vs) all),
    )

-- ---- what is answered

-- the held view at a place
record IsAt (past : List PastStep) (t : TableData) (session number : ℕ) (u : View) : Type 0 where
  view : HeldView
  kept : IsKept past t u view
  found : held_view past session number ≡ Some view

at_place : (v : Views) (past : List PastStep) (session number place : ℕ) (t : TableData) (d : View) → HoldsViews v t past → place < length v.items.items
    → is_kept session number (get_or v.items.items place d) ≡ true → IsAt past t session number (get_or v.items.items place d)
unfolding HoldsViews
at_place v past session number place t d h lt here =
    let us : List View = v.items.items in
    let vs : List HeldView = views past in
    let all : AllZip (IsKept past t) us vs = all_kept past t us vs h.0.views h.1 (own_found (opened_count past) vs h.0.numbered) (edits_le past) in
    let at = zip_some (IsKept past t) us vs place d all lt in
    let its : HeldView = at.0 in
    let kept : IsKept past t (get_or us place d) its = at.1 in
    let parts = and_parts (eqb its.session session) (eqb its.number number) (sym (named_alike past t session number (get_or us place d) its kept) ∙ here) in
    record {
      view = its;
      kept = kept;
      found = ap (λ s. held_view past s number) (sym (eqb-true its.session session parts.0)) ∙ ap (λ i. held_view past its.session i) (sym (eqb-true its.number number parts.1)) ∙ kept.held;
    }

-- a request that asks for that change of a view: what is tested of it, and what views are held once the tests are passed
pub record IsAsking (past : List PastStep) (session number : ℕ) (request : Ask) (e : Effect) : Type 0 where
  pub plain : (v : HeldView) → held_view past session number ≡ Some v
      → plain_in past session request ≡ first_of (lost_view (Some v) ∷ e.tests (shown past v) v.plan v.opening) (body.Edited (v.edit + 1) number)
  pub are : (v : HeldView) → held_view past session number ≡ Some v → Pass (e.tests (shown past v) v.plan v.opening)
      → (n at edit : ℕ) → views (change_step session number request n at edit ∷ past) ≡ map (changed_at session number (made_by e)) (views past)
  pub takes : TakesMemory request

abbrev pub edit_body : ℕ → Result ℕ Refusal → Body
edit_body number (Ok edit) = body.Edited edit number
edit_body number (Err why) = body.Refused why

same_item : (u w : View) (a b : ViewState) → w.session ≡ u.session → w.number ≡ u.number → u.state ≡ a → w.state ≡ b → b ≡ a → w ≡ u
same_item u w a b session number before after same = by w.session u.session w.number u.number w.state u.state session number (after ∙ same ∙ sym before)
  where
    by : (c e f g : ℕ) (s t : ViewState) → c ≡ e → f ≡ g → s ≡ t → let x : View = record { session = c; number = f; state = s } in x ≡ record { session = e; number = g; state = t }
    by c e f g s t p q r = cc

-- a refused change leaves all as it was
holds_still : (v after : Views) (t : TableData) (past : List PastStep) (place : ℕ) (d w : View) → HoldsViews v t past → after.opened ≡ v.opened → after.items.items ≡ set v.items.items place w
    → w ≡ get_or v.items.items place d → HoldsViews after t past
unfolding HoldsViews
holds_still v after t past place d w h counts changed same =
    let us : List View = v.items.items in
    let still : after.items.items ≡ us = changed ∙ ap (set us place) same ∙ set-get_or us place d in
    rw (counts, still) h

pub views_made : (v : Views) (t : TableData) (past : List PastStep) → HoldsViews v t past → is_none (history.schema past) ≡ false
unfolding HoldsViews
views_made v t past h = h.0.made

-- the answer of a change, by what the view at its place answers
pub change_gives : (v after : Views) (past : List PastStep) (session number place version : ℕ) (request : Ask) (e : Effect) (t : TableData) (d w : View) (result : Result ℕ Refusal)
    → HoldsViews v t past → HoldsTable t version past → length past < 2 ^ 53 → IsAsking past session number request e → place < length v.items.items
    → is_kept session number (get_or v.items.items place d) ≡ true → AnswersChangeOf e t (get_or v.items.items place d) w result
    → after.opened ≡ v.opened → after.items.items ≡ set v.items.items place w
    → Gives past session request (edit_body number result) (HoldsViews after t)
change_gives v after past session number place version request e t d w result h table short asking lt here answers counts changed = by u.state w.state refl refl result answers.state
  where
    u : View
    u = get_or v.items.items place d

    is : IsAt past t session number u
    is = at_place v past session number place t d h lt here

    -- what is tested of a view that can be asked
    tests_in : (was : LiveView) → IsLiveAt past t is.view was
        → e.tests (live_shown was.rows) is.view.plan was.opening ≡ e.tests (shown past is.view) is.view.plan is.view.opening
    tests_in was live =
        ap (λ x. e.tests x is.view.plan was.opening) (ap (λ (x : LiveData). x.shown) live.data_is ∙ shown_at past is.view is.kept.held)
        ∙ ap (e.tests (shown past is.view) is.view.plan) live.stands.opening

    live_plain : (was : LiveView) → IsLiveAt past t is.view was
        → plain_in past session request ≡ first_of (e.tests (shown past is.view) is.view.plan is.view.opening) (body.Edited (is.view.edit + 1) number)
    live_plain was live =
        asking.plain is.view is.found
        ∙ ap (λ (lost : Option ℕ). first_of (option_map view_lost lost ∷ e.tests (shown past is.view) is.view.plan is.view.opening) (body.Edited (is.view.edit + 1) number)) live.lives

    refuses : (why : Refusal) → w ≡ u → choice_of (body.Refused why) ≡ plenty → plain_in past session request ≡ body.Refused why
        → Gives past session request (body.Refused why) (HoldsViews after t)
    refuses why same unnamed plain = views_are_refused after t past session request why (holds_still v after t past place d w h counts changed same) unnamed plain

    tested : (was : LiveView) (why : Refusal) → u.state ≡ Live was → w ≡ u
        → ((s : Side) → StandsLive was.rows s → IsOfTable s t → Refuse (e.tests (live_shown was.rows) s.plan was.opening) why)
        → Gives past session request (body.Refused why) (HoldsViews after t)
    tested was why u_is same cause =
        let live = live_at_place past t u is.view was is.kept u_is in
        let its = cause (side_of is.view.plan is.view.opening t) live.stands.rows (is_of_table is.view.plan is.view.opening t (table_keys t version past table)) in
        refuses why same its.unnamed
        (live_plain was live ∙ ap (λ tests. first_of tests (body.Edited (is.view.edit + 1) number)) (sym (tests_in was live)) ∙ its.first (body.Edited (is.view.edit + 1) number))

    done : (was live : LiveView) (edit : ℕ) → u.state ≡ Live was → w.state ≡ Live live → IsMadeTo e t was live edit
        → Gives past session request (body.Edited edit number) (HoldsViews after t)
    done was live edit u_is w_is its =
        let at = live_at_place past t u is.view was is.kept u_is in
        let made = made_of past version e t is.view was live edit table at its in
        let few : is.view.edit ≤ length past = is.kept.few in
        let was_edit : was.edit ≡ is.view.edit = ap (λ (x : LiveData). x.edit) at.data_is in
        let counted : edit ≡ is.view.edit + 1 = omega (arith, its.told, made.changed.edit, was_edit, few, short) in
        let passed : Pass (e.tests (shown past is.view) is.view.plan is.view.opening) = subst Pass (tests_in was at) made.passed in
        record {
          given = plain_given past session request (body.Edited edit number) refl
              (live_plain was at ∙ passed (body.Edited (is.view.edit + 1) number) ∙ ap (λ k. body.Edited k number) (sym counted));
          holds = λ n when. changed_views v after past session number place n when edit version request e t d w was live h
              (record { are = asking.are is.view is.found passed n when edit; table = table; short = short }) lt here answers.session answers.number u_is w_is its counts changed;
        }

    by : (was now : ViewState) → u.state ≡ was → w.state ≡ now → (r : Result ℕ Refusal) → StateAnswersChange e t was now r
        → Gives past session request (edit_body number r) (HoldsViews after t)
    by (Lost gone) now u_is w_is r its =
        let same : w ≡ u = same_item u w (Lost gone) now answers.session answers.number u_is w_is its.0 in
        let of_data : state_data u.state ≡ state_of past is.view is.view.lost = ap (λ (x : ViewData). x.state) is.kept.same in
        let gone_is : is.view.lost ≡ Some gone = lost_is is.view.lost (sym of_data ∙ ap state_data u_is) in
        subst (λ x. Gives past session request (edit_body number x) (HoldsViews after t)) (sym its.1)
        (refuses (view_lost gone) same refl
        (asking.plain is.view is.found
        ∙ ap (λ (lost : Option ℕ). first_of (option_map view_lost lost ∷ e.tests (shown past is.view) is.view.plan is.view.opening) (body.Edited (is.view.edit + 1) number)) gone_is))
      where
        lost_is : (o : Option ℕ) → state_of past is.view o ≡ lost_now gone → o ≡ Some gone
        lost_is None told = absurd (let wrong : live_now _ ≡ lost_now gone = told in cc)
        lost_is (Some other) told = let its : other ≡ gone = cc in ap (λ k. Some k) its
    by (Live was) (Lost gone) u_is w_is r its = absurd its
    by (Live was) (Live live) u_is w_is (Ok edit) its = done was live edit u_is w_is its
    by (Live was) (Live live) u_is w_is (Err why) its =
        let same : w ≡ u = same_item u w (Live was) (Live live) answers.session answers.number u_is w_is (ap Live its.still) in
        elim its.cause [
          | inl cause ↦ tested was why u_is same cause
          | inr want ↦
              subst (λ y. Gives past session request (body.Refused y) (HoldsViews after t)) (sym want)
              (views_are_wanted after t past session request (holds_still v after t past place d w h counts changed same) asking.takes)
        ]

-- by the place that a search finds
pub placed_change_gives : (v after : Views) (past : List PastStep) (session number place version : ℕ) (request : Ask) (e : Effect) (t : TableData) (d w : View) (result : Result ℕ Refusal)
    → HoldsViews v t past → HoldsTable t version past → length past < 2 ^ 53 → IsAsking past session number request e → position (is_kept session number) v.items.items ≡ Some place
    → d ≡ get_or v.items.items place d → AnswersChangeOf e t d w result
    → after.opened ≡ v.opened → after.items.items ≡ set v.items.items place w
    → Gives past session request (edit_body number result) (HoldsViews after t)
placed_change_gives v after past session number place version request e t d w result h table short asking found is answers counts changed =
    let at = position-Some (is_kept session number) v.items.items place d found in
    change_gives v after past session number place version request e t d w result h table short asking at.0 at.1
    (subst (λ u. AnswersChangeOf e t u w result) is answers) counts changed
