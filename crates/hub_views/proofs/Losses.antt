-- The views after a batch was applied, by those that are lost.
use Rattle.std.proofs.Common.{◌≡◌, ℕ, suc, ◌+◌, ◌≤◌, eqb, ltb, Bool, true, false, ◌||◌, ◌&&◌, cond, List, [], ◌∷◌, length, map, get_or, All, Option, Some, None, Ordering, Less, Equal, Greater, if◌then◌else◌, inl, inr, refl, sym, ap, ◌∙◌, subst, arith}
use Rattle.std.specs.Prelude.{is_none}
use Rattle.std.specs.List.{AllZip, IsDistinct, list_any}
use Rattle.std.specs.List.Sorted.{IsPermutation, IsSorted}
use Rattle.std.specs.Ordering.{is_lt, nat_cmp, ordering_then}
use Rattle.std.proofs.lemmas.Bool.{cases_eq, eq-eqb, eqb-false, eqb-true, le-ltb, lt-ltb, ltb-false, ne_eqb}
use Rattle.std.proofs.lemmas.List.{map-id}
use Rattle.std.proofs.lemmas.List.Elements.{All-nil, All-cons, All-head, All-tail, All-weaker, recursion_from_All}
use Rattle.std.proofs.lemmas.List.Sorted.{All-permutation, list_any-IsPermutation}
use Rattle.std.proofs.lemmas.List.Sums.{list_all-from_AllPass}
use Rattle.std.proofs.lemmas.Map.Keys.{IsDistinct-IsPermutation, ge_from_not_lt}
use Rattle.frame_types.specs.Asks.{Ask}
use Rattle.table_core.specs.Tables.{TableData}
use Rattle.row_batch.specs.declared.change.RowChange.{RowChange}
use Rattle.view_kept.specs.Steps.{side_of}
use Rattle.hub_spec.specs.Past.{PastStep}
use Rattle.hub_spec.specs.Bases.{is_base}
use Rattle.hub_spec.specs.Giving.{with_step}
use Rattle.hub_spec.specs.HeldViews.{HeldView, is_live, is_view, lost_at}
use Rattle.hub_spec.specs.HeldViews as held
use Rattle.hub_spec.specs.Histories.{is_ascending}
use Rattle.hub_spec.specs.Ports as ports
use Rattle.hub_spec.proofs.Folding.{has_is_any}
use Rattle.hub_spec.proofs.Numbering.{lost_name}
use Rattle.hub_views.specs.Keeping.{AreNumbered, HoldsViews, Stands, StandsIn, kept_view, live_at, state_of}
use Rattle.hub_views.specs.Live.{StateData, ViewData, live_data, live_now, lost_now, state_data, view_data}
use Rattle.hub_views.specs.Refreshing.{AreLosses, AreRefreshed, AreSteps, Becomes, applied_body, is_loss, losses}
use Rattle.hub_views.specs.Tables.{HoldsTable}
use Rattle.hub_views.specs.declared.view.View.{View}
use Rattle.hub_views.specs.declared.view.ViewState.{ViewState}
use Rattle.hub_views.specs.declared.view.ViewState.TheVariants.{Live, Lost}
use Rattle.hub_views.specs.declared.views.Views.{Views}
use Rattle.hub_views.proofs.KeptViews.{with_state}
use Rattle.hub_views.proofs.Lists.{found_if, none_passes}
use Rattle.hub_views.proofs.Numbered.{IsBefore, earlier_is_other, held_changed, later_is_other, numbered_changed, numbered_still, own_found, own_is_view}
use Rattle.hub_views.proofs.Refreshes.{brought_is}

-- ---- one view

-- what is kept of a view after the step: it is lost at that version, or as it is to be kept then
abbrev pub StateAfter : List PastStep → ℕ → HeldView → Option ℕ → StateData → Type 0
StateAfter after version v (Some at) state = state ≡ lost_now at
StateAfter after version v None (live_now live) = live ≡ live_at after v.session v.number v.bound v.edit
StateAfter after version v None (lost_now at) = at ≡ version

pub record Follows (after : List PastStep) (version : ℕ) (v : HeldView) (w : ViewData) : Type 0 where
  pub session : w.session ≡ v.session
  pub number : w.number ≡ v.number
  pub state : StateAfter after version v v.lost w.state

-- the view could be asked before and can't be asked now
abbrev is_gone : Option ℕ → StateData → Bool
is_gone None (lost_now at) = true
is_gone None (live_now live) = false
is_gone (Some version) state = false

-- the version at which it is lost from then on, if at any
abbrev pub lost_then : Bool → ℕ → Option ℕ → Option ℕ
lost_then loses version was = if loses then Some version else was

state_after : (after : List PastStep) (version : ℕ) (v : HeldView) (o : Option ℕ) (state : StateData)
    → StateAfter after version v o state → state ≡ state_of after v (lost_then (is_gone o state) version o)
state_after after version v (Some at) state is = is
state_after after version v None (live_now live) is = ap live_now is
state_after after version v None (lost_now at) is = ap lost_now is

kept_then : (after : List PastStep) (version : ℕ) (v : HeldView) (loses : Bool)
    → kept_view after (if loses then record v { lost = Some version } else v) ≡ with_state v (state_of after v (lost_then loses version v.lost))
kept_then after version v true = refl
kept_then after version v false = refl

same_view : (a b c d : ℕ) (s t : StateData) → a ≡ b → c ≡ d → s ≡ t
    → let x : ViewData = record { session = a; number = c; state = s } in x ≡ record { session = b; number = d; state = t }
same_view a b c d s t p q r = cc

abbrev pub is_lost_in : List (ℕ × ℕ) → HeldView → Bool
is_lost_in lost v = list_any (λ (w : ℕ × ℕ). is_view w.0 w.1 v) lost

view_after : (after : List PastStep) (version : ℕ) (lost : List (ℕ × ℕ)) (v : HeldView) (w : ViewData) → Follows after version v w
    → is_lost_in lost v ≡ is_gone v.lost w.state → w ≡ kept_view after (lost_at version lost v)
view_after after version lost v w h flag =
    same_view w.session v.session w.number v.number w.state _ h.session h.number (state_after after version v v.lost w.state h.state)
    ∙ ap (λ b. with_state v (state_of after v (lost_then b version v.lost))) (sym flag)
    ∙ sym (kept_then after version v (is_lost_in lost v))

-- the names of the views that are gone
abbrev gone : List HeldView → List ViewData → List (ℕ × ℕ)
gone (v ∷ vs) (w ∷ ws) = if is_gone v.lost w.state then (v.session, v.number) ∷ gone vs ws else gone vs ws
gone vs ws = []

-- ---- the views that are lost

-- what holds of the name of each view that is lost holds of all their names
All-gone : (P : ℕ × ℕ → Type 0) (vs : List HeldView) (ws : List ViewData)
    → All (λ v. (w : ViewData) → is_gone v.lost w.state ≡ true → P (v.session, v.number)) vs → All P (gone vs ws)
All-gone P [] ws all = All-nil P
All-gone P (v ∷ vs) [] all = All-nil P
All-gone P (v ∷ vs) (w ∷ ws) all =
    by (is_gone v.lost w.state) refl (All-gone P vs ws (All-tail (λ u. (w : ViewData) → is_gone u.lost w.state ≡ true → P (u.session, u.number)) v vs all))
  where
    more : List (ℕ × ℕ)
    more = gone vs ws

    by : (b : Bool) → is_gone v.lost w.state ≡ b → All P more → All P (cond b ((v.session, v.number) ∷ more) more)
    by true is later =
        All-cons P (v.session, v.number) more (All-head (λ u. (w : ViewData) → is_gone u.lost w.state ≡ true → P (u.session, u.number)) v vs all w is) later
    by false is later = later

-- a view's session and number
abbrev name_of : HeldView → ℕ × ℕ
name_of v = (v.session, v.number)

none_in : (v : HeldView) (vs : List HeldView) (ws : List ViewData) → All (IsBefore v) vs → is_lost_in (gone vs ws) v ≡ false
none_in v vs ws before =
    none_passes (λ (x : ℕ × ℕ). is_view x.0 x.1 v) _
    (All-gone (λ x. is_view x.0 x.1 v ≡ false) vs ws
    (All-weaker (IsBefore v) (λ u. (w : ViewData) → is_gone u.lost w.state ≡ true → is_view u.session u.number v ≡ false) (λ u h w is. earlier_is_other v u h) vs before))

-- the list names the view exactly where it is lost
abbrev IsNamed : List (ℕ × ℕ) → HeldView → ViewData → Type 0
IsNamed lost v w = is_lost_in lost v ≡ is_gone v.lost w.state

named_alike : (lost other : List (ℕ × ℕ)) (vs : List HeldView) (ws : List ViewData) → All (λ v. is_lost_in other v ≡ is_lost_in lost v) vs
    → AllZip (IsNamed lost) vs ws → AllZip (IsNamed other) vs ws
named_alike lost other [] [] same h = tt
named_alike lost other [] (w ∷ ws) same h = absurd h
named_alike lost other (v ∷ vs) [] same h = absurd h
named_alike lost other (v ∷ vs) (w ∷ ws) same h = (
  All-head (λ u. is_lost_in other u ≡ is_lost_in lost u) v vs same ∙ h.0,
  named_alike lost other vs ws (All-tail (λ u. is_lost_in other u ≡ is_lost_in lost u) v vs same) h.1,
)

gone_named : (after : List PastStep) (version : ℕ) (opened : ℕ → ℕ) (vs : List HeldView) (ws : List ViewData) → AreNumbered opened vs
    → AllZip (Follows after version) vs ws → AllZip (IsNamed (gone vs ws)) vs ws
gone_named after version opened [] [] numbered h = tt
gone_named after version opened [] (w ∷ ws) numbered h = absurd h
gone_named after version opened (v ∷ vs) [] numbered h = absurd h
gone_named after version opened (v ∷ vs) (w ∷ ws) numbered h = by (is_gone v.lost w.state) refl (gone_named after version opened vs ws numbered.2 h.1)
  where
    more : List (ℕ × ℕ)
    more = gone vs ws

    others : All (λ u. is_lost_in (name_of v ∷ more) u ≡ is_lost_in more u) vs
    others = All-weaker (IsBefore v) (λ u. is_lost_in (name_of v ∷ more) u ≡ is_lost_in more u) (λ u before. rw (later_is_other v u before) refl) vs numbered.1

    by : (b : Bool) → is_gone v.lost w.state ≡ b → AllZip (IsNamed more) vs ws
        → (is_lost_in (cond b (name_of v ∷ more) more) v ≡ is_gone v.lost w.state) × AllZip (IsNamed (cond b (name_of v ∷ more) more)) vs ws
    by true is later = ((rw (own_is_view v) refl) ∙ sym is, named_alike more (name_of v ∷ more) vs ws others later)
    by false is later = (none_in v vs ws numbered.1 ∙ sym is, later)

-- each view is as it is kept after the step, where the list names those that are lost
views_after : (after : List PastStep) (version : ℕ) (lost : List (ℕ × ℕ)) (vs : List HeldView) (ws : List ViewData)
    → AllZip (Follows after version) vs ws → AllZip (IsNamed lost) vs ws → ws ≡ map (kept_view after) (map (lost_at version lost) vs)
views_after after version lost [] [] h named = refl
views_after after version lost [] (w ∷ ws) h named = absurd h
views_after after version lost (v ∷ vs) [] h named = absurd h
views_after after version lost (v ∷ vs) (w ∷ ws) h named =
    ap (λ x. x ∷ ws) (view_after after version lost v w h.0 named.0)
    ∙ ap (λ xs. kept_view after (lost_at version lost v) ∷ xs) (views_after after version lost vs ws h.1 named.1)

-- ---- what the update of each view gives

cons_parts : {X : Type 0} (x y : X) (xs ys : List X) → x ∷ xs ≡ y ∷ ys → (x ≡ y) × (xs ≡ ys)
cons_parts x y xs ys e = (let h : x ≡ y = cc in h, let t : xs ≡ ys = cc in t)

loss_gone : (past : List PastStep) (v : HeldView) (was after : ViewState) (o : Option ℕ) → state_data was ≡ state_of past v o → is_loss was after ≡ is_gone o (state_data after)
loss_gone past v (Live was) (Live after) None same = refl
loss_gone past v (Live was) (Lost at) None same = refl
loss_gone past v (Live was) after (Some version) same = absurd (cc)
loss_gone past v (Lost at) after None same = absurd (cc)
loss_gone past v (Lost at) after (Some version) same = refl

-- the views that are lost, by those that are held
losses_gone : (past : List PastStep) (us ws : List View) (vs : List HeldView) → map view_data us ≡ map (kept_view past) vs → losses us ws ≡ gone vs (map view_data ws)
losses_gone past [] ws [] same = refl
losses_gone past [] ws (v ∷ vs) same = absurd (cc)
losses_gone past (u ∷ us) ws [] same = absurd (cc)
losses_gone past (u ∷ us) [] (v ∷ vs) same = refl
losses_gone past (u ∷ us) (w ∷ ws) (v ∷ vs) same =
    let parts = cons_parts (view_data u) (kept_view past v) (map view_data us) (map (kept_view past) vs) same in
    let session : u.session ≡ v.session = ap (λ (x : ViewData). x.session) parts.0 in
    let number : u.number ≡ v.number = ap (λ (x : ViewData). x.number) parts.0 in
    let flag : is_loss u.state w.state ≡ is_gone v.lost (state_data w.state) = loss_gone past v u.state w.state v.lost (ap (λ (x : ViewData). x.state) parts.0) in
    rw (session, number, flag, losses_gone past us ws vs parts.1) refl

-- a step that applies a batch, which leads from one table to the other
record IsApplied (past : List PastStep) (d : PastStep) (at before : ℕ) (lost : List (ℕ × ℕ)) (was now : TableData) (changes : List RowChange) : Type 0 where
  made : is_none (ports.schema (d ∷ past)) ≡ false
  views : held.views (d ∷ past) ≡ map (lost_at at lost) (held.views past)
  opened : (s : ℕ) → held.opened_count (d ∷ past) s ≡ held.opened_count past s
  other : (s n : ℕ) → is_base s n d ≡ false
  table : HoldsTable was before past
  table_now : HoldsTable now at (d ∷ past)
  steps : AreSteps was changes now

-- by the same plan and opening
record IsSameView (v w : HeldView) : Type 0 where
  plan : w.plan ≡ v.plan
  opening : w.opening ≡ v.opening

lost_view_same : (at : ℕ) (lost : List (ℕ × ℕ)) (v : HeldView) → IsSameView v (lost_at at lost v)
lost_view_same at lost v = by (is_lost_in lost v)
  where
    by : (b : Bool) → IsSameView v (if b then record v { lost = Some at } else v)
    by true = record { plan = refl; opening = refl }
    by false = record { plan = refl; opening = refl }

state_follows : (past : List PastStep) (d : PastStep) (at before : ℕ) (lost : List (ℕ × ℕ)) (was now : TableData) (changes : List RowChange) (v : HeldView) → IsApplied past d at before lost was now changes
    → held.held_view past v.session v.number ≡ Some v → (old after : ViewState) (o : Option ℕ) → state_data old ≡ state_of past v o
    → StandsIn was v old → Becomes changes now at old after → StateAfter (d ∷ past) at v o (state_data after)
state_follows past d at before lost was now changes v is found (Lost version) after None same stands becomes = absurd (cc)
state_follows past d at before lost was now changes v is found (Lost version) after (Some gone_at) same stands becomes =
    let one : version ≡ gone_at = cc in ap state_data becomes ∙ ap lost_now one
state_follows past d at before lost was now changes v is found (Live old) after (Some gone_at) same stands becomes = absurd (cc)
state_follows past d at before lost was now changes v is found (Live old) (Lost version) None same stands becomes = becomes
state_follows past d at before lost was now changes v is found (Live old) (Live live) None same stands becomes =
    let its : live_data old ≡ live_at past v.session v.number v.bound v.edit = cc in
    let alike = lost_view_same at lost v in
    brought_is past d v was now before at changes old live is.table is.table_now is.steps found (lost_at at lost v) (held_changed past d (lost_at at lost) v (lost_name at lost) is.views found) alike.plan alike.opening
    (is.other v.session v.number) stands.rows its becomes

views_follow : (past : List PastStep) (d : PastStep) (at before : ℕ) (lost : List (ℕ × ℕ)) (was now : TableData) (changes : List RowChange) → IsApplied past d at before lost was now changes
    → (us ws : List View) (vs : List HeldView) → All (λ v. held.held_view past v.session v.number ≡ Some v) vs → map view_data us ≡ map (kept_view past) vs
    → AllZip (Stands was) us vs → AreRefreshed changes now at us ws → AllZip (Follows (d ∷ past) at) vs (map view_data ws)
views_follow past d at before lost was now changes is [] [] [] found same stands renewed = tt
views_follow past d at before lost was now changes is [] (w ∷ ws) vs found same stands renewed = absurd renewed
views_follow past d at before lost was now changes is (u ∷ us) [] vs found same stands renewed = absurd renewed
views_follow past d at before lost was now changes is [] [] (v ∷ vs) found same stands renewed = absurd stands
views_follow past d at before lost was now changes is (u ∷ us) (w ∷ ws) [] found same stands renewed = absurd stands
views_follow past d at before lost was now changes is (u ∷ us) (w ∷ ws) (v ∷ vs) found same stands renewed =
    let parts = cons_parts (view_data u) (kept_view past v) (map view_data us) (map (kept_view past) vs) same in (
      record {
        session = renewed.0.session ∙ ap (λ (x : ViewData). x.session) parts.0;
        number = renewed.0.number ∙ ap (λ (x : ViewData). x.number) parts.0;
        state = state_follows past d at before lost was now changes v is (All-head (λ x. held.held_view past x.session x.number ≡ Some x) v vs found) u.state w.state v.lost
            (ap (λ (x : ViewData). x.state) parts.0) stands.0 renewed.0.state;
      },
      views_follow past d at before lost was now changes is us ws vs (All-tail (λ x. held.held_view past x.session x.number ≡ Some x) v vs found) parts.1 stands.1 renewed.1,
    )

-- the rows of each stand for what its plan makes of the table now
stands_now : (changes : List RowChange) (was now : TableData) (version : ℕ) (v : HeldView) → AreSteps was changes now → (old after : ViewState) → StandsIn was v old
    → Becomes changes now version old after → StandsIn now v after
stands_now changes was now version v steps old (Lost at) stands becomes = tt
stands_now changes was now version v steps (Lost at) (Live live) stands becomes = absurd (cc)
stands_now changes was now version v steps (Live old) (Live live) stands becomes = record {
  rows = becomes.stands (side_of v.plan v.opening was) stands.rows (steps v.plan v.opening);
  opening = becomes.opening ∙ stands.opening;
}

stands_lost : (t : TableData) (at : ℕ) (lost : List (ℕ × ℕ)) (v : HeldView) (w : View) → StandsIn t v w.state → Stands t w (lost_at at lost v)
stands_lost t at lost v w h = by (is_lost_in lost v)
  where
    by : (b : Bool) → Stands t w (if b then record v { lost = Some at } else v)
    by true = stays_in w.state h
      where
        stays_in : (state : ViewState) → StandsIn t v state → StandsIn t (record v { lost = Some at }) state
        stays_in (Live live) stands = record { rows = stands.rows; opening = stands.opening }
        stays_in (Lost version) stands = tt
    by false = h

all_stand : (changes : List RowChange) (was now : TableData) (at : ℕ) (lost : List (ℕ × ℕ)) → AreSteps was changes now → (us ws : List View) (vs : List HeldView)
    → AllZip (Stands was) us vs → AreRefreshed changes now at us ws → AllZip (Stands now) ws (map (lost_at at lost) vs)
all_stand changes was now at lost steps [] [] [] stands renewed = tt
all_stand changes was now at lost steps [] (w ∷ ws) vs stands renewed = absurd renewed
all_stand changes was now at lost steps (u ∷ us) [] vs stands renewed = absurd renewed
all_stand changes was now at lost steps [] [] (v ∷ vs) stands renewed = absurd stands
all_stand changes was now at lost steps (u ∷ us) (w ∷ ws) [] stands renewed = absurd stands
all_stand changes was now at lost steps (u ∷ us) (w ∷ ws) (v ∷ vs) stands renewed = (
  stands_lost now at lost v w (stands_now changes was now at v steps u.state w.state stands.0 renewed.0.state),
  all_stand changes was now at lost steps us ws vs stands.1 renewed.1,
)

-- ---- the views after the step

refreshed : (v after : Views) (past : List PastStep) (d : PastStep) (at before : ℕ) (lost : List (ℕ × ℕ)) (was now : TableData) (changes : List RowChange)
    → HoldsViews v was past → AreRefreshed changes now at v.items.items after.items.items → after.opened ≡ v.opened → IsPermutation (losses v.items.items after.items.items) lost
    → IsApplied past d at before lost was now changes → HoldsViews after now (d ∷ past)
unfolding HoldsViews
refreshed v after past d at before lost was now changes h renewed counts moved is =
    let vs : List HeldView = held.views past in
    let us : List View = v.items.items in
    let ws : List View = after.items.items in
    let kept_data : List ViewData = map view_data ws in
    let found : All (λ v. held.held_view past v.session v.number ≡ Some v) vs = own_found (held.opened_count past) vs h.0.numbered in
    let follow : AllZip (Follows (d ∷ past) at) vs kept_data = views_follow past d at before lost was now changes is us ws vs found h.0.views h.1 renewed in
    let are : losses us ws ≡ gone vs kept_data = losses_gone past us ws vs h.0.views in
    let alike : All (λ v. is_lost_in lost v ≡ is_lost_in (gone vs kept_data) v) vs =
    λ k x lt.
    let test : ℕ × ℕ → Bool = λ w. is_view w.0 w.1 (get_or vs k x) in
    sym (list_any-IsPermutation test (losses us ws) lost moved) ∙ ap (list_any test) are in (
      record {
        made = is.made;
        views = views_after (d ∷ past) at lost vs kept_data follow (named_alike (gone vs kept_data) lost vs kept_data alike (gone_named (d ∷ past) at (held.opened_count past) vs kept_data h.0.numbered follow))
            ∙ ap (map (kept_view (d ∷ past))) (sym is.views);
        size = ap length counts ∙ h.0.size;
        opened = λ s lt. ap (λ cs. get_or cs s 0) counts ∙ h.0.opened s lt ∙ sym (is.opened s);
        numbered = subst (AreNumbered (held.opened_count (d ∷ past))) (sym is.views)
            (numbered_still (held.opened_count past) (held.opened_count (d ∷ past)) (map (lost_at at lost) vs) (λ s. omega (arith, is.opened s))
            (numbered_changed (held.opened_count past) (lost_at at lost) vs (lost_name at lost) h.0.numbered));
      },
      subst (AllZip (Stands now) ws) (sym is.views) (all_stand changes was now at lost is.steps us ws vs h.1 renewed),
    )

pub refreshed_views : (v after : Views) (past : List PastStep) (was now : TableData) (changes : List RowChange) (before number session n at port seq : ℕ) (request : Ask) (lost : List (ℕ × ℕ))
    → HoldsViews v was past → AreRefreshed changes now number v.items.items after.items.items → after.opened ≡ v.opened → IsPermutation (losses v.items.items after.items.items) lost
    → AreSteps was changes now → HoldsTable was before past → HoldsTable now number (with_step session request n at (applied_body port seq lost) past)
    → HoldsViews after now (with_step session request n at (applied_body port seq lost) past)
refreshed_views v after past was now changes before number session n at port seq request [] h renewed counts moved steps table table_now =
    refreshed v after past _ number before [] was now changes h renewed counts moved (record {
      made = ap is_none table_now.schema;
      views = sym (map-id (held.views past));
      opened = λ s. refl;
      other = λ s i. refl;
      table = table;
      table_now = table_now;
      steps = steps;
    })
refreshed_views v after past was now changes before number session n at port seq request (w ∷ lost) h renewed counts moved steps table table_now =
    refreshed v after past _ number before (w ∷ lost) was now changes h renewed counts moved (record {
      made = ap is_none table_now.schema;
      views = ap (λ k. map (lost_at k (w ∷ lost)) (held.views past)) (sym table_now.number);
      opened = λ s. refl;
      other = λ s i. refl;
      table = table;
      table_now = table_now;
      steps = steps;
    })

-- ---- the names in the order in which they are told

abbrev pub name_order : ℕ × ℕ → ℕ × ℕ → Ordering
name_order x y = ordering_then (nat_cmp x.0 y.0) (nat_cmp x.1 y.1)

abbrev same_name : ℕ × ℕ → ℕ × ℕ → Bool
same_name x y = eqb x.0 y.0 && eqb x.1 y.1

flips : (x y : ℕ × ℕ) → same_name x y ≡ same_name y x
flips x y = ap (λ b. b && eqb x.1 y.1) (eqb_flips x.0 y.0) ∙ ap (λ b. eqb y.0 x.0 && b) (eqb_flips x.1 y.1)
  where
    eqb_flips : (a b : ℕ) → eqb a b ≡ eqb b a
    eqb_flips a b =
        elim (cases_eq a b) as (λ _. eqb a b ≡ eqb b a) [
          | inl same ↦ eq-eqb a b same ∙ sym (eq-eqb b a (sym same))
          | inr other ↦ ne_eqb a b other ∙ sym (ne_eqb b a (λ e. other (sym e)))
        ]

gone_distinct : (opened : ℕ → ℕ) (vs : List HeldView) (ws : List ViewData) → AreNumbered opened vs → IsDistinct same_name (gone vs ws)
unfolding IsDistinct
gone_distinct opened [] ws numbered = tt
gone_distinct opened (v ∷ vs) [] numbered = tt
gone_distinct opened (v ∷ vs) (w ∷ ws) numbered = by (is_gone v.lost w.state) (gone_distinct opened vs ws numbered.2)
  where
    more : List (ℕ × ℕ)
    more = gone vs ws

    apart : All (λ y. same_name (name_of v) y ≡ false) more
    apart = All-gone (λ y. same_name (name_of v) y ≡ false) vs ws
        (All-weaker (IsBefore v) (λ u. (w : ViewData) → is_gone u.lost w.state ≡ true → same_name (name_of v) (name_of u) ≡ false) (λ u h x is. earlier_is_other v u h) vs numbered.1)

    by : (b : Bool) → IsDistinct same_name more → IsDistinct same_name (cond b (name_of v ∷ more) more)
    by true later = (recursion_from_All (λ y. same_name (name_of v) y ≡ false) more apart, later)
    by false later = later

next_above : (a b c d : ℕ) → is_lt (ordering_then (nat_cmp c a) (nat_cmp d b)) ≡ false → (eqb a c && eqb b d) ≡ false → (ltb a c || (eqb a c && ltb b d)) ≡ true
next_above a b c d later apart = by (ltb c a) (eqb c a) refl refl later
  where
    by : (x y : Bool) → ltb c a ≡ x → eqb c a ≡ y → is_lt (ordering_then (cond x Less (cond y Equal Greater)) (nat_cmp d b)) ≡ false
        → (ltb a c || (eqb a c && ltb b d)) ≡ true
    by true y less same first = absurd (let wrong : true ≡ false = first in cc)
    by false true less same first =
        let tied : a ≡ c = sym (eqb-true c a same) in
        let le : b ≤ d = ge_from_not_lt d b first in
        let other : b ≡ d → ⊥ = eqb-false b d (sym (ap (λ z. z && eqb b d) (eq-eqb a c tied)) ∙ apart) in
        rw (le-ltb a c (omega (arith, tied)), eq-eqb a c tied) (lt-ltb b d (omega (arith, le, other)))
    by false false less same first =
        let le : a ≤ c = ltb-false c a less in
        let other : c ≡ a → ⊥ = eqb-false c a same in
        rw (lt-ltb a c (omega (arith, le, other))) refl

sorted_tail : (x : ℕ × ℕ) (xs : List (ℕ × ℕ)) → IsSorted name_order (x ∷ xs) → IsSorted name_order xs
sorted_tail x xs up = λ k d le lt.
    let next : suc k + 1 ≡ suc (k + 1) = omega arith in
    subst (λ j. is_lt (name_order (get_or (x ∷ xs) j d) (get_or xs k d)) ≡ false) next (up (suc k) d (omega arith) (omega (arith, lt)))

-- what is sorted and names no view twice ascends
ascends : (xs : List (ℕ × ℕ)) → IsSorted name_order xs → IsDistinct same_name xs → is_ascending xs ≡ true
unfolding IsDistinct
ascends [] up distinct = refl
ascends (x ∷ []) up distinct = refl
ascends (x ∷ (y ∷ more)) up distinct =
    rw (next_above x.0 x.1 y.0 y.1 (up 0 x (omega arith) (omega arith)) distinct.0.0) (ascends (y ∷ more) (sorted_tail x (y ∷ more) up) distinct.1)

was_live : (o : Option ℕ) (state : StateData) → is_gone o state ≡ true → is_none o ≡ true
was_live None state is = refl
was_live (Some at) state is = absurd (let wrong : false ≡ true = is in cc)

pub are_losses : (v : Views) (ws : List View) (t : TableData) (past : List PastStep) (lost : List (ℕ × ℕ)) → HoldsViews v t past
    → IsPermutation (losses v.items.items ws) lost → IsSorted name_order lost → AreLosses past lost
unfolding HoldsViews
are_losses v ws t past lost h moved up =
    let vs : List HeldView = held.views past in
    let all : List (ℕ × ℕ) = gone vs (map view_data ws) in
    let shuffled : IsPermutation all lost = subst (λ names. IsPermutation names lost) (losses_gone past v.items.items ws vs h.0.views) moved in
    let each : All (λ w. is_live past w ≡ true) all =
    All-gone (λ w. is_live past w ≡ true) vs (map view_data ws) (λ k x lt w is.
    let u : HeldView = get_or vs k x in
    let test : HeldView → Bool = λ y. is_view u.session u.number y && is_none y.lost in
    sym (has_is_any test vs) ∙ found_if test vs k x lt (rw (own_is_view u) (was_live u.lost w.state is))) in
    record {
      ascending = ascends lost up (IsDistinct-IsPermutation same_name flips all lost shuffled (gone_distinct (held.opened_count past) vs (map view_data ws) h.0.numbered));
      live = list_all-from_AllPass (is_live past) lost (All-permutation (λ w. is_live past w ≡ true) all lost shuffled each);
    }
