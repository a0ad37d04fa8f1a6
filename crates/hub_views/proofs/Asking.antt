-- What is answered of a view that is asked.
use Rattle.std.proofs.Common.{◌≡◌, ℕ, eqb, leb, ltb, Bool, true, false, if◌then◌else◌, List, [], ◌∷◌, length, map, filter, find, Option, Some, None, option_map, Ok, Err, refl, sym, ap, ◌∙◌, subst}
use Rattle.std.specs.Prelude.{is_none}
use Rattle.std.proofs.lemmas.Bool.{eqb-true}
use Rattle.std.proofs.lemmas.List.{length-map}
use Rattle.view_types.specs.declared.key.ViewKey.{ViewKey}
use Rattle.view_types.specs.declared.shown.Shown.{Shown}
use Rattle.delta_core.specs.Deltas.{marked}
use Rattle.delta_core.specs.DirtySets.{dirty_of}
use Rattle.delta_core.specs.Rows.{has_row}
use Rattle.delta_core.specs.declared.delta.Mark.{Mark}
use Rattle.delta_core.specs.declared.touched.Touch.{Touch}
use Rattle.frame_types.specs.Asks.{Ask}
use Rattle.frame_types.specs.Asks as ask
use Rattle.frame_types.specs.Refusals.{bad_window, memory, no_table, no_view, view_lost}
use Rattle.frame_types.specs.declared.reply.Body.{Body}
use Rattle.frame_types.specs.declared.reply.Body.TheVariants as body
use Rattle.frame_types.specs.declared.reply.Refusal.{Refusal}
use Rattle.hub_spec.specs.Past.{PastStep}
use Rattle.hub_spec.specs.Answers.{first_of, grant, lost_view, refusals, refused_if, take_answer, window, window_of, without_table, without_view}
use Rattle.hub_spec.specs.Bases.{base_or_none, delta_in, dirty, edit_by, head_dirty, mark_in, shown_by, shown_in}
use Rattle.hub_spec.specs.Giving.{Gives, plain_in, with_step}
use Rattle.hub_spec.specs.HeldViews.{HeldView, held_view, held_by, is_view, shown, views}
use Rattle.hub_spec.specs.Histories.{choice_of, plenty}
use Rattle.hub_spec.specs.Ports.{schema}
use Rattle.hub_spec.specs.Ports as history
use Rattle.hub_spec.proofs.Giving.{TakesMemory, may_want, plain_given}
use Rattle.hub_views.specs.Keeping.{Keeps, asked_data, asked_state, is_named, kept_view, live_at, state_of}
use Rattle.hub_views.specs.Live.{LiveData, StateData, ViewData, live_take_answer, rebased_data}
use Rattle.hub_views.proofs.KeptViews.{and_parts, keeps_stay, rebased_views}
use Rattle.hub_views.proofs.Lists.{filter-map, find-map, found_passes}

-- ---- the view that is asked

abbrev state_in : List PastStep → HeldView → StateData
state_in past v = state_of past v v.lost

map_state : (past : List PastStep) (o : Option HeldView) → option_map (λ (k : ViewData). k.state) (option_map (kept_view past) o) ≡ option_map (state_in past) o
map_state past None = refl
map_state past (Some v) = refl

-- what is kept under a number is what is held under it
pub asked_is : (kept : List ViewData) (counts : List ℕ) (past : List PastStep) (session number : ℕ) → Keeps kept counts past
    → asked_data session number kept ≡ asked_state (option_map (state_in past) (held_view past session number))
asked_is kept counts past session number h =
    ap (asked_data session number) h.views
    ∙ ap (λ o. asked_state (option_map (λ (k : ViewData). k.state) o)) (find-map (is_named session number) (kept_view past) (views past))
    ∙ ap asked_state (map_state past (held_view past session number))

-- a view that can't be asked
record Refuses (o : Option HeldView) (why : Refusal) : Type 0 where
  first : (rest : List (Option Refusal)) (granted : Body) → first_of (refused_if (is_none o) no_view ∷ lost_view o ∷ rest) granted ≡ body.Refused why
  unnamed : choice_of (body.Refused why) ≡ plenty

refuses : (past : List PastStep) (o : Option HeldView) (why : Refusal) → asked_state (option_map (state_in past) o) ≡ Err why → Refuses o why
refuses past None why e = let same : no_view ≡ why = cc in subst (Refuses None) same (record { first = λ rest granted. refl; unnamed = refl })
refuses past (Some v) why e = by v.lost refl e
  where
    by : (lost : Option ℕ) → v.lost ≡ lost → asked_state (Some (state_of past v lost)) ≡ Err why → Refuses (Some v) why
    by None is e = absurd (cc)
    by (Some at) is e =
        let same : view_lost at ≡ why = cc in
        subst (Refuses (Some v)) same (record { first = λ rest granted. rw is refl; unnamed = refl })

-- what is refused, and what wants memory
pub views_refuse : (kept : List ViewData) (counts : List ℕ) (past : List PastStep) (session : ℕ) (request : Ask) (why : Refusal) → Keeps kept counts past
    → choice_of (body.Refused why) ≡ plenty → plain_in past session request ≡ body.Refused why → Gives past session request (body.Refused why) (Keeps kept counts)
views_refuse kept counts past session request why h unnamed is = record {
  given = plain_given past session request (body.Refused why) unnamed is;
  holds = λ n at. keeps_stay kept counts past session n at request (body.Refused why) refl h;
}

pub views_want : (kept : List ViewData) (counts : List ℕ) (past : List PastStep) (session : ℕ) (request : Ask) → Keeps kept counts past → TakesMemory request
    → Gives past session request (body.Refused memory) (Keeps kept counts)
views_want kept counts past session request h takes = record {
  given = record { right = refl; allowed = may_want past session request takes h.made };
  holds = λ n at. keeps_stay kept counts past session n at request (body.Refused memory) refl h;
}

-- the answer to a request that asks a view which can't be asked
pub unasked_refused : (kept : List ViewData) (counts : List ℕ) (past : List PastStep) (session number : ℕ) (request : Ask) (rest : List (Option Refusal)) (grants : Body) (why : Refusal)
    → Keeps kept counts past → asked_data session number kept ≡ Err why
    → plain_in past session request ≡ first_of (without_view past session number ∷ lost_view (held_view past session number) ∷ rest) grants
    → Gives past session request (body.Refused why) (Keeps kept counts)
unasked_refused kept counts past session number request rest grants why h e plain =
    let r = refuses past (held_view past session number) why (sym (asked_is kept counts past session number h) ∙ e) in
    views_refuse kept counts past session request why h r.unnamed (plain ∙ r.first rest grants)

pub asked_refused : (kept : List ViewData) (counts : List ℕ) (past : List PastStep) (session number : ℕ) (request : Ask) (rest : List (Option Refusal)) (why : Refusal)
    → Keeps kept counts past → asked_data session number kept ≡ Err why
    → refusals past session request ≡ without_table past ∷ without_view past session number ∷ lost_view (held_view past session number) ∷ rest
    → Gives past session request (body.Refused why) (Keeps kept counts)
asked_refused kept counts past session number request rest why h e are =
    let grants : Body = grant past session request in
    unasked_refused kept counts past session number request rest grants why h e
    (ap (λ (checks : List (Option Refusal)). first_of checks grants) are
    ∙ ap (λ b. first_of (refused_if b no_table ∷ without_view past session number ∷ lost_view (held_view past session number) ∷ rest) grants) h.made)

-- a view that can be asked
pub record IsAsked (past : List PastStep) (session number : ℕ) (live : LiveData) : Type 0 where
  pub view : HeldView
  pub found : held_view past session number ≡ Some view
  pub lives : view.lost ≡ None
  pub is : live ≡ live_at past session number view.bound view.edit

live_there : (past : List PastStep) (o : Option HeldView) (live : LiveData) → asked_state (option_map (state_in past) o) ≡ Ok live
    → (v : HeldView) × (o ≡ Some v) × (v.lost ≡ None) × (live_at past v.session v.number v.bound v.edit ≡ live)
live_there past None live e = absurd (cc)
live_there past (Some v) live e = by v.lost refl e
  where
    by : (lost : Option ℕ) → v.lost ≡ lost → asked_state (Some (state_of past v lost)) ≡ Ok live
        → (w : HeldView) × (Some v ≡ Some w) × (w.lost ≡ None) × (live_at past w.session w.number w.bound w.edit ≡ live)
    by None is e = (v, refl, is, let same : live_at past v.session v.number v.bound v.edit ≡ live = cc in same)
    by (Some at) is e = absurd (cc)

pub asked_there : (kept : List ViewData) (counts : List ℕ) (past : List PastStep) (session number : ℕ) (live : LiveData) → Keeps kept counts past
    → asked_data session number kept ≡ Ok live → IsAsked past session number live
asked_there kept counts past session number live h e =
    let there = live_there past (held_view past session number) live (sym (asked_is kept counts past session number h) ∙ e) in
    let v : HeldView = there.0 in
    let parts = and_parts (eqb v.session session) (eqb v.number number) (found_passes (is_view session number) (views past) v there.1) in
    record {
      view = v;
      found = there.1;
      lives = there.2;
      is = sym there.3 ∙ ap (λ s. live_at past s v.number v.bound v.edit) (eqb-true v.session session parts.0)
          ∙ ap (λ n. live_at past session n v.bound v.edit) (eqb-true v.number number parts.1);
    }

-- what follows is tested then
pub asked_plain : (past : List PastStep) (session number : ℕ) (live : LiveData) (rest : List (Option Refusal)) (grants : Option HeldView → Body)
    → is_none (schema past) ≡ false → (a : IsAsked past session number live)
    → first_of (without_table past ∷ without_view past session number ∷ lost_view (held_view past session number) ∷ rest) (grants (held_view past session number))
    ≡ first_of rest (grants (Some a.view))
asked_plain past session number live rest grants made a =
    let o : Option HeldView = held_view past session number in
    let behind : Option HeldView → Body = λ x. first_of (refused_if (is_none x) no_view ∷ lost_view x ∷ rest) (grants x) in
    ap (λ b. first_of (refused_if b no_table ∷ refused_if (is_none o) no_view ∷ lost_view o ∷ rest) (grants o)) made
    ∙ ap behind a.found ∙ ap (λ (lost : Option ℕ). first_of (option_map view_lost lost ∷ rest) (grants (Some a.view))) a.lives

-- ---- what changed in it is answers

-- the answer to a take, by whether few keys were touched
abbrev pub taken_body : List PastStep → ℕ → ℕ → ℕ → Bool → ℕ → Shown → Body
taken_body past session number bound few edit seen = if few then body.Delta (delta_in past session number) number else body.Resync bound edit seen number

pub taken_is : (past : List PastStep) (session number version : ℕ) (live : LiveData) (answer : Body) (a : IsAsked past session number live)
    → version ≡ history.version past
    → ((keys : List (ViewKey × Touch)) (header : Bool) → live.dirty ≡ dirty_of live.bound keys header
    → answer ≡ live_take_answer live keys header number (record { version = version; edit = live.edit }))
    → answer ≡ take_answer past session number (Some a.view)
taken_is past session number version live answer a now tells =
    let v : HeldView = a.view in
    let was = base_or_none past session number in
    let keys : List (ViewKey × Touch) = marked was.shown.rows (dirty past session number) in
    let header : Bool = head_dirty past session number in
    let kept : LiveData = live_at past session number v.bound v.edit in
    let IsDirty : LiveData → Type 0 = λ x. x.dirty ≡ dirty_of x.bound keys header in
    let mark : ℕ → ℕ → Mark = λ n e. record { version = n; edit = e } in
    let few : Bool = leb (length (dirty past session number)) v.bound in
    let answers : Bool → ℕ → Shown → Body = taken_body past session number v.bound in
    tells keys header (subst IsDirty (sym a.is) refl)
    ∙ ap (λ (x : LiveData). live_take_answer x keys header number (mark version x.edit)) a.is
    ∙ ap (λ n. live_take_answer kept keys header number (mark n v.edit)) now
    ∙ ap (λ e. live_take_answer kept keys header number (mark (history.version past) e)) (sym (ap edit_by a.found))
    ∙ ap (λ n. answers (leb n v.bound) (edit_by (held_view past session number)) (shown_in past session number)) (length-map (dirty past session number) (λ k. (k, record { was_shown = has_row k was.shown.rows })))
    ∙ ap (λ e. answers few e (shown_in past session number)) (ap edit_by a.found)
    ∙ ap (answers few v.edit) (ap (shown_by past) a.found)

-- a take is answered, and the view's base is then that step
pub take_gives : (kept after : List ViewData) (counts : List ℕ) (past : List PastStep) (session number version : ℕ) (wait : Bool) (live : LiveData) (answer : Body)
    → Keeps kept counts past → version ≡ history.version past → asked_data session number kept ≡ Ok live
    → ((keys : List (ViewKey × Touch)) (header : Bool) → live.dirty ≡ dirty_of live.bound keys header
    → answer ≡ live_take_answer live keys header number (record { version = version; edit = live.edit }))
    → after ≡ map (rebased_data session number (record { version = version; edit = live.edit })) kept
    → Gives past session (ask.take number wait) answer (Keeps after counts)
take_gives kept after counts past session number version wait live answer h now e tells rebased =
    let a = asked_there kept counts past session number live h e in
    let request : Ask = ask.take number wait in
    let mark : Mark = record { version = version; edit = live.edit } in
    let marked_so : mark_in past session number ≡ mark =
    ap (λ o. let m : Mark = record { version = history.version past; edit = edit_by o } in m) a.found
    ∙ ap (λ n. let m : Mark = record { version = n; edit = a.view.edit } in m) (sym now)
    ∙ ap (λ k. let m : Mark = record { version = version; edit = k } in m) (sym (ap (λ (x : LiveData). x.edit) a.is)) in
    let plain : plain_in past session request ≡ take_answer past session number (Some a.view) =
    asked_plain past session number live [] (take_answer past session number) h.made a in
    subst (λ b. Gives past session request b (Keeps after counts)) (sym (taken_is past session number version live answer a now tells))
    (rw rebased (by a.view mark (leb (length (dirty past session number)) a.view.bound) plain marked_so))
  where
    by : (v : HeldView) (mark : Mark) (few : Bool) → plain_in past session (ask.take number wait) ≡ taken_body past session number v.bound few v.edit (shown past v)
        → mark_in past session number ≡ mark → Gives past session (ask.take number wait) (taken_body past session number v.bound few v.edit (shown past v)) (Keeps (map (rebased_data session number mark) kept) counts)
    by v mark true plain marks = record {
      given = plain_given past session (ask.take number wait) _ refl plain;
      holds = λ n at. rebased_views kept counts past _ session number mark h refl (λ v. refl) refl (λ s. refl) (λ s i. refl) marks;
    }
    by v mark false plain marks = record {
      given = plain_given past session (ask.take number wait) _ refl plain;
      holds = λ n at. rebased_views kept counts past _ session number mark h refl (λ v. refl) refl (λ s. refl) (λ s i. refl) marks;
    }

-- a take leaves the list of views as it is
pub take_stays : (kept : List ViewData) (counts : List ℕ) (past : List PastStep) (session number version : ℕ) (wait : Bool) (live : LiveData) (answer : Body)
    → Keeps kept counts past → version ≡ history.version past → asked_data session number kept ≡ Ok live
    → ((keys : List (ViewKey × Touch)) (header : Bool) → live.dirty ≡ dirty_of live.bound keys header
    → answer ≡ live_take_answer live keys header number (record { version = version; edit = live.edit }))
    → (n at : ℕ) → views (with_step session (ask.take number wait) n at answer past) ≡ views past
take_stays kept counts past session number version wait live answer h now e tells n at =
    let a = asked_there kept counts past session number live h e in
    subst (λ b. views (with_step session (ask.take number wait) n at b past) ≡ views past) (sym (taken_is past session number version live answer a now tells))
    (by a.view (leb (length (dirty past session number)) a.view.bound))
  where
    by : (v : HeldView) (few : Bool) → views (with_step session (ask.take number wait) n at (taken_body past session number v.bound few v.edit (shown past v)) past) ≡ views past
    by v true = refl
    by v false = refl

-- ---- its rows are shown

pub rows_plain : (kept : List ViewData) (counts : List ℕ) (past : List PastStep) (session number first end : ℕ) (live : LiveData) (back : Bool)
    → Keeps kept counts past → asked_data session number kept ≡ Ok live → ltb end first ≡ back
    → plain_in past session (ask.rows number first end)
    ≡ first_of (refused_if back (bad_window first end) ∷ []) (body.Rows live.edit first (window first end live.shown) (length live.shown.rows) number)
rows_plain kept counts past session number first end live back h e is =
    let a = asked_there kept counts past session number live h e in
    let rows : Bool → ℕ → Shown → Body = λ b edit seen. first_of (refused_if b (bad_window first end) ∷ []) (body.Rows edit first (window first end seen) (length seen.rows) number) in
    asked_plain past session number live (refused_if (ltb end first) (bad_window first end) ∷ []) (λ o. window_of o (shown past) number first end) h.made a
    ∙ ap (rows (ltb end first) a.view.edit) (sym (ap (shown_by past) a.found)) ∙ sym (ap (λ (x : LiveData). rows (ltb end first) x.edit x.shown) a.is)
    ∙ ap (λ b. rows b live.edit live.shown) is

pub rows_give : (kept : List ViewData) (counts : List ℕ) (past : List PastStep) (session number first end size : ℕ) (part : Shown) (live : LiveData)
    → Keeps kept counts past → asked_data session number kept ≡ Ok live → ltb end first ≡ false → part ≡ window first end live.shown → size ≡ length live.shown.rows
    → Gives past session (ask.rows number first end) (body.Rows live.edit first part size number) (Keeps kept counts)
rows_give kept counts past session number first end size part live h e order cut count = record {
  given = plain_given past session (ask.rows number first end) _ refl
      (rows_plain kept counts past session number first end live false h e order
      ∙ ap (λ p. body.Rows live.edit first p (length live.shown.rows) number) (sym cut) ∙ ap (λ n. body.Rows live.edit first part n number) (sym count));
  holds = λ n at. keeps_stay kept counts past session n at (ask.rows number first end) _ refl h;
}

-- ---- views that are closed

-- how many views the session holds
pub count_is : (kept : List ViewData) (counts : List ℕ) (past : List PastStep) (session : ℕ) → Keeps kept counts past
    → length (filter (λ (v : ViewData). eqb v.session session) kept) ≡ held_by past session
count_is kept counts past session h =
    let ours : ViewData → Bool = λ v. eqb v.session session in
    ap (λ vs. length (filter ours vs)) h.views ∙ ap length (filter-map ours (kept_view past) (views past))
    ∙ length-map (filter (λ (v : HeldView). eqb v.session session) (views past)) (kept_view past)

-- the test of a closing
pub close_plain : (kept : List ViewData) (counts : List ℕ) (past : List PastStep) (session number : ℕ) (o : Option ViewData) → Keeps kept counts past
    → find (is_named session number) kept ≡ o
    → plain_in past session (ask.close number) ≡ first_of (refused_if (is_none o) no_view ∷ []) (body.Closed number)
close_plain kept counts past session number o h is =
    let none : is_none (held_view past session number) ≡ is_none o =
    sym (by (held_view past session number))
    ∙ ap is_none (sym (ap (find (is_named session number)) h.views ∙ find-map (is_named session number) (kept_view past) (views past)) ∙ is) in
    rw (h.made, none) refl
  where
    by : (v : Option HeldView) → is_none (option_map (kept_view past) v) ≡ is_none v
    by None = refl
    by (Some v) = refl
