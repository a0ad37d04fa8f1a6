-- What a step leaves of the views that are kept.
use Rattle.std.proofs.Common.{◌≡◌, ℕ, eqb, Bool, true, false, ◌||◌, ◌&&◌, if◌then◌else◌, List, [], ◌∷◌, map, filter, find, get_or, All, Option, Some, None, refl, sym, ap, ◌∙◌, arith}
use Rattle.std.specs.Prelude.{is_none}
use Rattle.std.proofs.lemmas.Bool.{eqb-true}
use Rattle.std.proofs.lemmas.List.Elements.{All-filter}
use Rattle.std.proofs.lemmas.Simd.{map-map}
use Rattle.view_types.specs.declared.shown.Shown.{Shown}
use Rattle.delta_core.specs.Deltas.{marked}
use Rattle.delta_core.specs.DirtySets.{DirtyData, dirty_of}
use Rattle.delta_core.specs.KeySets.{with_keys}
use Rattle.delta_core.specs.declared.delta.Mark.{Mark}
use Rattle.view_spec.specs.Touching.{touched_keys}
use Rattle.view_spec.specs.Views.{placed, view}
use Rattle.view_spec.specs.declared.placed.PlacedRow.{PlacedRow}
use Rattle.table_core.specs.Tables.{TableData}
use Rattle.frame_types.specs.Asks.{Ask}
use Rattle.frame_types.specs.declared.reply.Body.{Body}
use Rattle.frame_types.specs.declared.reply.Body.TheVariants as body
use Rattle.hub_spec.specs.Past.{PastStep}
use Rattle.hub_spec.specs.Bases.{base_or_none, dirty, head_dirty, header_differs, is_base, mark_in, placed_by, placed_in, shown_by, shown_in}
use Rattle.hub_spec.specs.Giving.{with_step}
use Rattle.hub_spec.specs.HeldViews.{HeldView, held_view, is_view, opened_count, side, views}
use Rattle.hub_spec.specs.Ports.{schema}
use Rattle.hub_spec.proofs.Folding.{touches_nothing, touches_no_header}
use Rattle.hub_views.specs.Keeping.{AreNumbered, HoldsViews, Keeps, kept_view, live_at, state_of}
use Rattle.hub_views.specs.Live.{LiveData, StateData, ViewData, live_now, rebased_data, rebased_state, view_data}
use Rattle.hub_views.specs.declared.views.Views.{Views}
use Rattle.hub_views.proofs.Lists.{filter-map, map_same}
use Rattle.hub_views.proofs.Numbered.{numbered_filter, numbered_still, own_found}

-- ---- one view

-- what is kept of a view that shows this once a step more was taken, which is not its base
abbrev pub live_next : List PastStep → ℕ → ℕ → ℕ → ℕ → Shown → List PlacedRow → LiveData
live_next past s number bound edit now places =
    let was = base_or_none past s number in
    record {
      bound = bound;
      edit = edit;
      shown = now;
      base = was.mark;
      dirty = dirty_of bound (marked was.shown.rows (with_keys (dirty past s number) (touched_keys (placed_in past s number) places)))
          (head_dirty past s number || header_differs (shown_in past s number) now);
    }

pub next_is : (past : List PastStep) (d : PastStep) (s number bound edit : ℕ) → is_base s number d ≡ false
    → live_at (d ∷ past) s number bound edit ≡ live_next past s number bound edit (shown_in (d ∷ past) s number) (placed_in (d ∷ past) s number)
next_is past d s number bound edit other = rw other refl

next_same : (past : List PastStep) (s number bound edit : ℕ)
    → live_next past s number bound edit (shown_in past s number) (placed_in past s number) ≡ live_at past s number bound edit
next_same past s number bound edit =
    let was = base_or_none past s number in
    let with_dirty : DirtyData → LiveData = λ dirt. record { bound = bound; edit = edit; shown = shown_in past s number; base = was.mark; dirty = dirt } in
    ap (λ keys. with_dirty (dirty_of bound (marked was.shown.rows keys) (head_dirty past s number || header_differs (shown_in past s number) (shown_in past s number))))
    (touches_nothing past (placed_in past s number) s number)
    ∙ ap (λ head. with_dirty (dirty_of bound (marked was.shown.rows (dirty past s number)) head)) (touches_no_header past (shown_in past s number) s number)

abbrev pub with_state : HeldView → StateData → ViewData
with_state v state = record { session = v.session; number = v.number; state = state }

-- what a view shows that is held under its number
pub shown_at : (past : List PastStep) (v : HeldView) → held_view past v.session v.number ≡ Some v → shown_in past v.session v.number ≡ view (side past v)
shown_at past v held = ap (shown_by past) held

pub placed_at : (past : List PastStep) (v : HeldView) → held_view past v.session v.number ≡ Some v → placed_in past v.session v.number ≡ placed (side past v)
placed_at past v held = ap (placed_by past) held

-- the view is held under its number before and after a step, over the same table
pub record IsStill (past : List PastStep) (d : PastStep) (v : HeldView) : Type 0 where
  pub before : held_view past v.session v.number ≡ Some v
  pub after : held_view (d ∷ past) v.session v.number ≡ Some v
  pub sides : side (d ∷ past) v ≡ side past v

shown_still : (past : List PastStep) (d : PastStep) (v : HeldView) → IsStill past d v → shown_in (d ∷ past) v.session v.number ≡ shown_in past v.session v.number
shown_still past d v still = shown_at (d ∷ past) v still.after ∙ ap view still.sides ∙ sym (shown_at past v still.before)

placed_still : (past : List PastStep) (d : PastStep) (v : HeldView) → IsStill past d v → placed_in (d ∷ past) v.session v.number ≡ placed_in past v.session v.number
placed_still past d v still = placed_at (d ∷ past) v still.after ∙ ap placed still.sides ∙ sym (placed_at past v still.before)

-- where that is so and the step is not its base, nothing of it changes
pub kept_still : (past : List PastStep) (d : PastStep) (v : HeldView) → IsStill past d v → is_base v.session v.number d ≡ false → kept_view past v ≡ kept_view (d ∷ past) v
kept_still past d v still other = by v.lost
  where
    live : live_at past v.session v.number v.bound v.edit ≡ live_at (d ∷ past) v.session v.number v.bound v.edit
    live = sym (next_is past d v.session v.number v.bound v.edit other
        ∙ ap (λ now. live_next past v.session v.number v.bound v.edit now (placed_in (d ∷ past) v.session v.number)) (shown_still past d v still)
        ∙ ap (live_next past v.session v.number v.bound v.edit (shown_in past v.session v.number)) (placed_still past d v still)
        ∙ next_same past v.session v.number v.bound v.edit)

    by : (o : Option ℕ) → with_state v (state_of past v o) ≡ with_state v (state_of (d ∷ past) v o)
    by None = ap (λ l. with_state v (live_now l)) live
    by (Some at) = refl

-- ---- a step that concerns no view

record IsQuiet (past : List PastStep) (d : PastStep) : Type 0 where
  made : schema (d ∷ past) ≡ schema past
  sides : (v : HeldView) → side (d ∷ past) v ≡ side past v
  views : views (d ∷ past) ≡ views past
  opened : (s : ℕ) → opened_count (d ∷ past) s ≡ opened_count past s
  other : (s number : ℕ) → is_base s number d ≡ false

quiet : (kept : List ViewData) (counts : List ℕ) (past : List PastStep) (d : PastStep) → IsQuiet past d → Keeps kept counts past → Keeps kept counts (d ∷ past)
quiet kept counts past d q h = record {
  made = ap is_none q.made ∙ h.made;
  views = h.views
      ∙ map_same (kept_view past) (kept_view (d ∷ past)) (views past) (λ k x lt.
      let v = get_or (views past) k x in
      let held = own_found (opened_count past) (views past) h.numbered k x lt in
      kept_still past d v (record { before = held; after = ap (find (is_view v.session v.number)) q.views ∙ held; sides = q.sides v }) (q.other v.session v.number))
      ∙ ap (map (kept_view (d ∷ past))) (sym q.views);
  size = h.size;
  opened = λ s lt. h.opened s lt ∙ sym (q.opened s);
  numbered = rw q.views (numbered_still (opened_count past) (opened_count (d ∷ past)) (views past) (λ s. omega (arith, q.opened s)) h.numbered);
}

-- the answer changes no view
abbrev pub leaves_views : Body → Bool
leaves_views (body.Refused why) = true
leaves_views (body.Rows edit start shown size view) = true
leaves_views (body.Port port) = true
leaves_views (body.PortClosed port) = true
leaves_views (body.Queued port seq) = true
leaves_views (body.Info columns index limit size waits) = true
leaves_views _ = false

quiet_by : (past : List PastStep) (session n version : ℕ) (request : Ask) (answer : Body) → leaves_views answer ≡ true
    → IsQuiet past (record { session = session; request = request; reply = record { n = n; version = version; body = answer } })
quiet_by past session n version request (body.Refused why) is = record { made = refl; sides = λ v. refl; views = refl; opened = λ s. refl; other = λ s i. refl }
quiet_by past session n version request (body.Rows edit start shown size view) is = record { made = refl; sides = λ v. refl; views = refl; opened = λ s. refl; other = λ s i. refl }
quiet_by past session n version request (body.Port port) is = record { made = refl; sides = λ v. refl; views = refl; opened = λ s. refl; other = λ s i. refl }
quiet_by past session n version request (body.PortClosed port) is = record { made = refl; sides = λ v. refl; views = refl; opened = λ s. refl; other = λ s i. refl }
quiet_by past session n version request (body.Queued port seq) is = record { made = refl; sides = λ v. refl; views = refl; opened = λ s. refl; other = λ s i. refl }
quiet_by past session n version request (body.Info columns index limit size waits) is =
    record { made = refl; sides = λ v. refl; views = refl; opened = λ s. refl; other = λ s i. refl }
quiet_by past session n version request _ is = absurd (let wrong : false ≡ true = is in cc)

pub keeps_stay : (kept : List ViewData) (counts : List ℕ) (past : List PastStep) (session n version : ℕ) (request : Ask) (answer : Body) → leaves_views answer ≡ true
    → Keeps kept counts past → Keeps kept counts (with_step session request n version answer past)
keeps_stay kept counts past session n version request answer is h = quiet kept counts past _ (quiet_by past session n version request answer is) h

-- after such an answer the views are those that were held before it
pub views_stay : (v : Views) (t : TableData) (past : List PastStep) (session n version : ℕ) (request : Ask) (answer : Body) → leaves_views answer ≡ true → HoldsViews v t past
    → HoldsViews v t (with_step session request n version answer past)
unfolding HoldsViews
views_stay v t past session n version request answer is h = (
  keeps_stay (map view_data v.items.items) v.opened past session n version request answer is h.0,
  rw (quiet_by past session n version request answer is).views h.1,
)

-- ---- views that are closed

pub filtered_views : (kept : List ViewData) (counts : List ℕ) (past : List PastStep) (d : PastStep) (test : ViewData → Bool) → Keeps kept counts past
    → schema (d ∷ past) ≡ schema past → ((v : HeldView) → side (d ∷ past) v ≡ side past v)
    → views (d ∷ past) ≡ filter (λ v. test (kept_view past v)) (views past)
    → ((s : ℕ) → opened_count (d ∷ past) s ≡ opened_count past s) → ((s number : ℕ) → is_base s number d ≡ false)
    → Keeps (filter test kept) counts (d ∷ past)
filtered_views kept counts past d test h made sides are counted other =
    let keeps : HeldView → Bool = λ v. test (kept_view past v) in
    let vs : List HeldView = views past in
    let left : List HeldView = filter keeps vs in
    let fewer : AreNumbered (opened_count past) left = numbered_filter (opened_count past) keeps vs h.numbered in
    let before : All (λ v. find (is_view v.session v.number) vs ≡ Some v) left =
    All-filter keeps (λ v. find (is_view v.session v.number) vs ≡ Some v) vs (own_found (opened_count past) vs h.numbered) in
    let each : All (λ v. kept_view past v ≡ kept_view (d ∷ past) v) left =
    λ k x lt.
    let v : HeldView = get_or left k x in
    let after : held_view (d ∷ past) v.session v.number ≡ Some v = ap (find (is_view v.session v.number)) are ∙ own_found (opened_count past) left fewer k x lt in
    kept_still past d v (record { before = before k x lt; after = after; sides = sides v }) (other v.session v.number) in
    record {
      made = ap is_none made ∙ h.made;
      views = ap (filter test) h.views ∙ filter-map test (kept_view past) vs ∙ map_same (kept_view past) (kept_view (d ∷ past)) left each
          ∙ ap (map (kept_view (d ∷ past))) (sym are);
      size = h.size;
      opened = λ s lt. h.opened s lt ∙ sym (counted s);
      numbered = rw are (numbered_still (opened_count past) (opened_count (d ∷ past)) left (λ s. omega (arith, counted s)) fewer);
    }

-- ---- views of which one has a new base

-- where the step is its base
pub based_is : (past : List PastStep) (d : PastStep) (s number bound edit : ℕ) → is_base s number d ≡ true
    → live_at (d ∷ past) s number bound edit
    ≡ record { bound = bound; edit = edit; shown = shown_in (d ∷ past) s number; base = mark_in (d ∷ past) s number; dirty = dirty_of bound [] false }
based_is past d s number bound edit here = rw here refl

rebased_kept : (past : List PastStep) (d : PastStep) (v : HeldView) (mark : Mark) (o : Option ℕ) → IsStill past d v → is_base v.session v.number d ≡ true
    → mark_in (d ∷ past) v.session v.number ≡ mark → rebased_state mark (state_of past v o) ≡ state_of (d ∷ past) v o
rebased_kept past d v mark (Some at) still here marks = refl
rebased_kept past d v mark None still here marks =
    let based : Shown → Mark → StateData = λ shown base. live_now (record { bound = v.bound; edit = v.edit; shown = shown; base = base; dirty = dirty_of v.bound [] false }) in
    ap (λ shown. based shown mark) (sym (shown_still past d v still)) ∙ ap (based (shown_in (d ∷ past) v.session v.number)) (sym marks)
    ∙ ap live_now (sym (based_is past d v.session v.number v.bound v.edit here))

pub and_parts : (a b : Bool) → (a && b) ≡ true → (a ≡ true) × (b ≡ true)
and_parts true b h = (refl, h)
and_parts false b h = absurd (let wrong : false ≡ true = h in cc)

rebased_one : (past : List PastStep) (d : PastStep) (session number : ℕ) (mark : Mark) (v : HeldView) → IsStill past d v
    → is_base v.session v.number d ≡ (eqb number v.number && eqb session v.session) → mark_in (d ∷ past) session number ≡ mark
    → rebased_data session number mark (kept_view past v) ≡ kept_view (d ∷ past) v
rebased_one past d session number mark v still base marks = by (eqb number v.number && eqb session v.session) refl
  where
    by : (b : Bool) → (eqb number v.number && eqb session v.session) ≡ b
        → (if b then with_state v (rebased_state mark (state_of past v v.lost)) else kept_view past v) ≡ kept_view (d ∷ past) v
    by false is = kept_still past d v still (base ∙ is)
    by true is =
        let parts = and_parts (eqb number v.number) (eqb session v.session) is in
        let its : mark_in (d ∷ past) v.session v.number ≡ mark =
        ap (λ s. mark_in (d ∷ past) s v.number) (sym (eqb-true session v.session parts.1))
        ∙ ap (mark_in (d ∷ past) session) (sym (eqb-true number v.number parts.0)) ∙ marks in
        ap (with_state v) (rebased_kept past d v mark v.lost still (base ∙ is) its)

pub rebased_views : (kept : List ViewData) (counts : List ℕ) (past : List PastStep) (d : PastStep) (session number : ℕ) (mark : Mark) → Keeps kept counts past
    → schema (d ∷ past) ≡ schema past → ((v : HeldView) → side (d ∷ past) v ≡ side past v) → views (d ∷ past) ≡ views past
    → ((s : ℕ) → opened_count (d ∷ past) s ≡ opened_count past s)
    → ((s i : ℕ) → is_base s i d ≡ (eqb number i && eqb session s)) → mark_in (d ∷ past) session number ≡ mark
    → Keeps (map (rebased_data session number mark) kept) counts (d ∷ past)
rebased_views kept counts past d session number mark h made sides same counted bases marks = record {
  made = ap is_none made ∙ h.made;
  views = ap (map (rebased_data session number mark)) h.views ∙ map-map (rebased_data session number mark) (kept_view past) (views past)
      ∙ map_same (λ v. rebased_data session number mark (kept_view past v)) (kept_view (d ∷ past)) (views past)
      (λ k x lt.
      let v = get_or (views past) k x in
      let held = own_found (opened_count past) (views past) h.numbered k x lt in
      rebased_one past d session number mark v (record { before = held; after = ap (find (is_view v.session v.number)) same ∙ held; sides = sides v })
      (bases v.session v.number) marks)
      ∙ ap (map (kept_view (d ∷ past))) (sym same);
  size = h.size;
  opened = λ s lt. h.opened s lt ∙ sym (counted s);
  numbered = rw same (numbered_still (opened_count past) (opened_count (d ∷ past)) (views past) (λ s. omega (arith, counted s)) h.numbered);
}
