-- What a client holds that folds each delta is what the view showed at its base.
use Rattle.std.proofs.Common.{◌≡◌, ℕ, eqb, Bool, true, false, ◌||◌, ◌&&◌, cond, List, [], ◌∷◌, ◌++◌, map, filter, fold, find, All, Option, Some, None, Result, Ok, Err, refl, sym, ap, ◌∙◌, subst, ◌⊎◌, inl, inr}
use Rattle.std.specs.Prelude.{is_some, not, unwrap_or, option_and_then}
use Rattle.std.specs.List.{IsDistinct, list_any}
use Rattle.std.specs.List.Sorted.{IsStrictlySortedBy}
use Rattle.std.proofs.lemmas.Bool.{eqb-true, eq-eqb}
use Rattle.std.proofs.lemmas.List.Folds.{list_any-append}
use Rattle.cell_core.specs.Schemas.{SchemaData}
use Rattle.plain_data.specs.Distinct.{AreDistinct}
use Rattle.row_batch.specs.Batches.{Store, empty_store}
use Rattle.row_batch.specs.Tables.{keys_of_rows}
use Rattle.row_batch.proofs.Keys.{KeepsKeys, batch_keeps, empty_is_counted}
use Rattle.frame_types.specs.Asks.{Ask}
use Rattle.frame_types.specs.Asks as ask
use Rattle.frame_types.specs.ReplyData.{ReplyData}
use Rattle.frame_types.specs.declared.reply.Body.{Body}
use Rattle.frame_types.specs.declared.reply.Body.TheVariants as body
use Rattle.frame_types.specs.declared.reply.Refusal.{Refusal}
use Rattle.view_types.specs.declared.key.ViewKey.{ViewKey}
use Rattle.view_types.specs.declared.shown.Shown.{Shown}
use Rattle.delta_core.specs.KeySets.{is_among, with_keys}
use Rattle.delta_core.specs.Deltas.{marked}
use Rattle.delta_core.specs.Laws.{Agree, FoldsTo}
use Rattle.delta_core.specs.declared.folding.Held.{Held}
use Rattle.delta_core.proofs.KeySetLemmas.{is_among-with_keys}
use Rattle.plan_types.specs.declared.plan.Plan.{Plan}
use Rattle.view_types.proofs.SameRows.{same_header_is_equal, same_header_itself}
use Rattle.view_spec.specs.Touching.{key_of, touched_keys}
use Rattle.view_spec.specs.declared.placed.PlacedRow.{PlacedRow}
use Rattle.view_spec.proofs.TouchLaws.{IsPlaced, delta_restores, is_placed, rows_of, touched_agree, touched_keys-itself}
use Rattle.hub_spec.specs.Past.{PastStep}
use Rattle.hub_spec.specs.Bases.{base, base_or_none, delta_in, dirty, edit_by, fold_in, folded_after, folded_in, head_dirty, header_differs, is_base, mark_in, no_base, placed_by, placed_in, shown_by, shown_in, tells_of}
use Rattle.hub_spec.specs.HeldViews.{HeldView, changed_at, held_view, is_view, lost_at, opened_view, shown, side, views, with_opened, with_view}
use Rattle.hub_spec.specs.Histories.{Entry, past_of, answer_to}
use Rattle.hub_spec.specs.Laws.{DeltasFold}
use Rattle.hub_spec.specs.Ports.{Applied, batches_applied, version_after}
use Rattle.hub_spec.specs.Plans.{plan_asked}
use Rattle.hub_spec.specs.Rows.{put_applied, rows, schema_or_none}
use Rattle.hub_spec.proofs.Numbering.{IsNumbered, KeepsNames, are_new, changed_name, edit_holds, found_new, lost_name, numbers_given}
use Rattle.hub_spec.proofs.Said.{Says, says_answer}

-- ---- no key stands twice among the rows

keys_kept : (schema : SchemaData) (s : Store) (done : List Applied) → KeepsKeys schema.keeping s → KeepsKeys schema.keeping (fold (put_applied schema) s done)
keys_kept schema s [] h = h
keys_kept schema s (a ∷ done) h = keys_kept schema (put_applied schema s a) done (batch_keeps schema s a.batch h.0 h.1)

pub distinct_rows : (past : List PastStep) → AreDistinct (keys_of_rows (rows past))
distinct_rows past = (keys_kept (schema_or_none past) empty_store (batches_applied past) (tt, empty_is_counted (schema_or_none past).keeping)).0

-- ---- what a view shows

none_placed : IsPlaced []
unfolding IsStrictlySortedBy IsDistinct
none_placed = record { ascends = tt; distinct = tt }

pub is_placed_by : (past : List PastStep) (v : Option HeldView) → IsPlaced (placed_by past v)
is_placed_by past None = none_placed
is_placed_by past (Some v) = is_placed (side past v) (distinct_rows past)

pub rows_placed : (past : List PastStep) (v : Option HeldView) → rows_of (placed_by past v) ≡ (shown_by past v).rows
rows_placed past None = refl
rows_placed past (Some v) = refl

-- ---- which views are held

abbrev Has : ℕ → ℕ → List HeldView → Bool
Has session number vs = is_some (find (is_view session number) vs)

pub has_is_any : (test : HeldView → Bool) (vs : List HeldView) → is_some (find test vs) ≡ list_any test vs
has_is_any test [] = refl
has_is_any test (v ∷ vs) = by (test v) (has_is_any test vs)
  where
    by : (b : Bool) → is_some (find test vs) ≡ list_any test vs → is_some (cond b (Some v) (find test vs)) ≡ (b || list_any test vs)
    by true later = refl
    by false later = later

or_cases : (a b : Bool) → (a || b) ≡ true → (a ≡ true) ⊎ (b ≡ true)
or_cases true b h = inl refl
or_cases false b h = inr h

or_false_right : (b : Bool) → (b || false) ≡ b
or_false_right true = refl
or_false_right false = refl

and_swap : (a b : Bool) → (a && b) ≡ (b && a)
and_swap true true = refl
and_swap true false = refl
and_swap false true = refl
and_swap false false = refl

any_more : (test : HeldView → Bool) (vs : List HeldView) (w : HeldView) → list_any test (vs ++ w ∷ []) ≡ (list_any test vs || test w)
any_more test vs w = list_any-append test vs (w ∷ []) ∙ ap (λ b. list_any test vs || b) (or_false_right (test w))

or_left : (a b : Bool) → a ≡ true → (a || b) ≡ true
or_left a b h = rw h refl

or_right : (a b : Bool) → b ≡ true → (a || b) ≡ true
or_right true b h = refl
or_right false b h = h

any_filtered : (test keeps : HeldView → Bool) (vs : List HeldView) → list_any test (filter keeps vs) ≡ true → list_any test vs ≡ true
any_filtered test keeps [] h = h
any_filtered test keeps (v ∷ vs) h = by (keeps v) h (λ more. any_filtered test keeps vs more)
  where
    by : (kept : Bool) → list_any test (cond kept (v ∷ filter keeps vs) (filter keeps vs)) ≡ true
        → (list_any test (filter keeps vs) ≡ true → list_any test vs ≡ true) → (test v || list_any test vs) ≡ true
    by true found later = elim (or_cases (test v) (list_any test (filter keeps vs)) found) [
      | inl here ↦ or_left (test v) (list_any test vs) here
      | inr more ↦ or_right (test v) (list_any test vs) (later more)
    ]
    by false found later = or_right (test v) (list_any test vs) (later found)

any_changed : (session number : ℕ) (f : HeldView → HeldView) (vs : List HeldView) → KeepsNames f → list_any (is_view session number) (map f vs) ≡ list_any (is_view session number) vs
any_changed session number f [] keeps = refl
any_changed session number f (v ∷ vs) keeps = let name = keeps v in rw (name.session, name.number, any_changed session number f vs keeps) refl

-- and so they are held under the same names
held_changed : (session number : ℕ) (f : HeldView → HeldView) (vs : List HeldView) → KeepsNames f → Has session number (map f vs) ≡ true → Has session number vs ≡ true
held_changed session number f vs keeps held =
    has_is_any (is_view session number) vs ∙ sym (any_changed session number f vs keeps) ∙ sym (has_is_any (is_view session number) (map f vs)) ∙ held

held_edited : (past : List PastStep) (session edit view : ℕ) (request : Ask) (s number : ℕ) (vs : List HeldView) → Has s number (with_view past session (body.Edited edit view) request vs) ≡ true
    → Has s number vs ≡ true
held_edited past session edit view request s number vs =
    edit_holds (λ ws. Has s number ws ≡ true → Has s number vs ≡ true) past session edit view request vs (λ held. held)
    (λ asked change is. held_changed s number (changed_at session asked change) vs (changed_name session asked change is.name))

abbrev step : ℕ → Ask → ℕ → ℕ → Body → PastStep
step session request n at answer = record { session = session; request = request; reply = record { n = n; version = at; body = answer } }

opened_before : (session view bound s number : ℕ) (asked : Result Plan Refusal) (vs : List HeldView) → Has s number (with_opened session view bound asked vs) ≡ true
    → ((eqb view number && eqb session s) ≡ true) ⊎ (Has s number vs ≡ true)
opened_before session view bound s number (Err why) vs h = inr h
opened_before session view bound s number (Ok plan) vs h =
    let w : HeldView = opened_view session view plan bound in
    let found = sym (has_is_any (is_view s number) (vs ++ w ∷ [])) ∙ h in
    elim (or_cases (list_any (is_view s number) vs) (is_view s number w) (sym (any_more (is_view s number) vs w) ∙ found)) [
      | inl before ↦ inr (has_is_any (is_view s number) vs ∙ before)
      | inr here ↦ inl (and_swap (eqb view number) (eqb session s) ∙ here)
    ]

-- a view that is held was held before, or has its base in this step
held_before : (past : List PastStep) (session n at : ℕ) (request : Ask) (answer : Body) (s number : ℕ)
    → is_some (held_view (step session request n at answer ∷ past) s number) ≡ true
    → (is_base s number (step session request n at answer) ≡ true) ⊎ (is_some (held_view past s number) ≡ true)
held_before past session n at (ask.open_view plan bound) (body.Opened edit shown view) s number h =
    opened_before session view bound s number (plan_asked (schema_or_none past) plan) (views past) h
held_before past session n at request (body.Opened edit shown view) s number h = inr h
held_before past session n at request (body.Edited edit view) s number h = inr (held_edited past session edit view request s number (views past) h)
held_before past session n at request (body.AppliedLosing lost port seq) s number h =
    let at_loss : ℕ = version_after past (body.AppliedLosing lost port seq) in
    inr (held_changed s number (lost_at at_loss lost) (views past) (lost_name at_loss lost) h)
held_before past session n at request (body.Closed view) s number h =
    let keeps : HeldView → Bool = λ v. not (is_view session view v) in
    inr (has_is_any (is_view s number) (views past)
    ∙ any_filtered (is_view s number) keeps (views past) (sym (has_is_any (is_view s number) (filter keeps (views past))) ∙ h))
held_before past session n at request (body.Left closed) s number h =
    let keeps : HeldView → Bool = λ v. not (eqb v.session session) in
    inr (has_is_any (is_view s number) (views past)
    ∙ any_filtered (is_view s number) keeps (views past) (sym (has_is_any (is_view s number) (filter keeps (views past))) ∙ h))
held_before past session n at request _ s number h = inr h

-- ---- what holds of a view after each step

neither : (a b : Bool) → (a || b) ≡ false → (a ≡ false) × (b ≡ false)
neither true b h = absurd (let wrong : true ≡ false = h in cc)
neither false b h = (refl, h)

-- the rows of a view at its base, at their places
abbrev pub placed_at_base : List PastStep → ℕ → ℕ → List PlacedRow
placed_at_base [] s number = []
placed_at_base (d ∷ past) s number = cond (is_base s number d) (placed_in (d ∷ past) s number) (placed_at_base past s number)

pub rows_at_base : (past : List PastStep) (s number : ℕ) → rows_of (placed_at_base past s number) ≡ (base_or_none past s number).shown.rows
rows_at_base [] s number = refl
rows_at_base (d ∷ past) s number = by (is_base s number d) refl (rows_at_base past s number)
  where
    by : (b : Bool) → is_base s number d ≡ b → rows_of (placed_at_base past s number) ≡ (base_or_none past s number).shown.rows
        → rows_of (placed_at_base (d ∷ past) s number) ≡ (base_or_none (d ∷ past) s number).shown.rows
    by true here before = rw here (rows_placed (d ∷ past) (held_view (d ∷ past) s number))
    by false other before = rw other before

-- outside the dirty keys a view shows what it showed at its base
pub agree_since : (past : List PastStep) (s number : ℕ) → Agree key_of (dirty past s number) (placed_at_base past s number) (placed_in past s number)
agree_since [] s number = λ k off. refl
agree_since (d ∷ past) s number = by (is_base s number d) refl (agree_since past s number)
  where
    touched : List ViewKey
    touched = touched_keys (placed_in past s number) (placed_in (d ∷ past) s number)

    by : (b : Bool) → is_base s number d ≡ b
        → Agree key_of (dirty past s number) (placed_at_base past s number) (placed_in past s number)
        → Agree key_of (dirty (d ∷ past) s number) (placed_at_base (d ∷ past) s number) (placed_in (d ∷ past) s number)
    by true here before = rw here (λ k off. refl)
    by false other before = rw other (λ k off.
        let parts = neither (is_among (dirty past s number) k) (is_among touched k) (sym (is_among-with_keys (dirty past s number) touched k) ∙ off) in
        before k parts.0 ∙ touched_agree (placed_in past s number) (placed_in (d ∷ past) s number) k parts.1)

same_headers : (a b : Shown) → header_differs a b ≡ false → a.header ≡ b.header
same_headers a b h = same_header_is_equal a.header b.header (same_of _ h)
  where
    same_of : (b : Bool) → not b ≡ false → b ≡ true
    same_of true h = refl
    same_of false h = absurd (let wrong : true ≡ false = h in cc)

-- and so is its header, where no step touched that
pub headers_since : (past : List PastStep) (s number : ℕ) → head_dirty past s number ≡ false
    → (base_or_none past s number).shown.header ≡ (shown_in past s number).header
headers_since [] s number = λ none. refl
headers_since (d ∷ past) s number = by (is_base s number d) refl (headers_since past s number)
  where
    Before : Type 0
    Before = head_dirty past s number ≡ false → (base_or_none past s number).shown.header ≡ (shown_in past s number).header

    touched : Bool
    touched = header_differs (shown_in past s number) (shown_in (d ∷ past) s number)

    by : (b : Bool) → is_base s number d ≡ b → Before → head_dirty (d ∷ past) s number ≡ false
        → (base_or_none (d ∷ past) s number).shown.header ≡ (shown_in (d ∷ past) s number).header
    by true here before = rw here (λ none. refl)
    by false other before = rw other (λ none.
        let parts = neither (head_dirty past s number) touched none in
        before parts.0 ∙ same_headers (shown_in past s number) (shown_in (d ∷ past) s number) parts.1)

is_placed_at_base : (past : List PastStep) (s number : ℕ) → IsPlaced (placed_at_base past s number)
is_placed_at_base [] s number = none_placed
is_placed_at_base (d ∷ past) s number = by (is_base s number d) refl (is_placed_at_base past s number)
  where
    by : (b : Bool) → is_base s number d ≡ b → IsPlaced (placed_at_base past s number) → IsPlaced (placed_at_base (d ∷ past) s number)
    by true here before = rw here (is_placed_by (d ∷ past) (held_view (d ∷ past) s number))
    by false other before = rw other before

pub record Kept (past : List PastStep) (s number : ℕ) : Type 0 where
  pub folds : folded_in past s number ≡ base past s number
  pub based : is_some (held_view past s number) ≡ true → is_some (base past s number) ≡ true

same_held : (a b : Shown) (v w e f : ℕ) → a ≡ b → v ≡ w → e ≡ f
    → let x : Held = record { shown = a; mark = record { version = v; edit = e } } in x ≡ record { shown = b; mark = record { version = w; edit = f } }
same_held a b v w e f p q r = cc

-- the base is there where it isn't none
based_at : (past : List PastStep) (s number : ℕ) → is_some (base past s number) ≡ true → base past s number ≡ Some (base_or_none past s number)
based_at past s number some = by (base past s number) some
  where
    by : (o : Option Held) → is_some o ≡ true → o ≡ Some (unwrap_or o no_base)
    by None h = absurd (let wrong : false ≡ true = h in cc)
    by (Some held) h = refl

-- a delta that is taken folds into the base
delta_folds : (past : List PastStep) (s number : ℕ) → is_some (held_view past s number) ≡ true → Kept past s number
    → option_and_then (fold_in (delta_in past s number)) (folded_in past s number) ≡ Some (record { shown = shown_in past s number; mark = mark_in past s number })
delta_folds past s number some kept =
    let was : Held = base_or_none past s number in
    let now : Shown = shown_in past s number in
    let keys : List ViewKey = dirty past s number in
    let head : Bool = head_dirty past s number in
    let placed_restored = delta_restores (placed_at_base past s number) (placed_in past s number) keys head was.shown.header now.header was.mark (mark_in past s number)
    (is_placed_at_base past s number) (is_placed_by past (held_view past s number)) (agree_since past s number) (headers_since past s number) in
    let restored : FoldsTo (marked was.shown.rows keys) head was.shown now was.mark (mark_in past s number) =
    subst (λ rs. FoldsTo (marked was.shown.rows keys) head was.shown (record { header = now.header; rows = rs }) was.mark (mark_in past s number)) (rows_placed past (held_view past s number))
    (subst (λ rs. FoldsTo (marked rs keys) head (record { header = was.shown.header; rows = rs }) (record { header = now.header; rows = rows_of (placed_in past s number) }) was.mark (mark_in past s number))
    (rows_at_base past s number) placed_restored) in
    let held : folded_in past s number ≡ Some was = kept.folds ∙ based_at past s number (kept.based some) in
    rw held (rw restored.0 (ap Some restored.1))

-- where a step is the base of a view, what a client holds of it is what is shown then
folds_base : (past : List PastStep) (s n at number : ℕ) (request : Ask) (answer : Body) → Says past s request answer → at ≡ version_after past answer
    → tells_of number answer ≡ true → All (IsNumbered past) (views past) → Kept past s number
    → folded_after number at answer (folded_in past s number)
    ≡ Some (record { shown = shown_in (step s request n at answer ∷ past) s number; mark = mark_in (step s request n at answer ∷ past) s number })
folds_base past s n at number (ask.open_view plan bound) (body.Opened edit seen view) says version here given kept =
    let after = step s (ask.open_view plan bound) n at (body.Opened edit seen view) ∷ past in
    let same : view ≡ number = eqb-true view number here in
    let w : HeldView = opened_view s view says.plan bound in
    let all : held_view after s number ≡ Some w =
    ap (λ asked. find (is_view s number) (with_opened s view bound asked (views past))) says.read
    ∙ found_new (is_view s number) (views past) w (subst (λ i. All (λ v. is_view s i v ≡ false) (views past)) (sym says.next ∙ same) (are_new past s given)) (rw (eq-eqb s s refl, here) refl) in
    rw here (ap Some (same_held _ _ _ _ _ _ (says.shows ∙ sym (ap (shown_by after) all)) version (says.unedited ∙ sym (ap edit_by all))))
folds_base past s n at number _ (body.Opened edit seen view) says version here given kept = absurd says
folds_base past s n at number request (body.Resync bound edit shown view) says version here given kept =
    let same : view ≡ number = eqb-true view number here in
    rw here (ap Some (same_held _ _ _ _ _ _ (says.1 ∙ ap (λ i. shown_in past s i) same) version (says.0 ∙ ap (λ i. edit_by (held_view past s i)) same)))
folds_base past s n at number request (body.Delta delta view) says version here given kept =
    let same : view ≡ number = eqb-true view number here in
    let is : delta ≡ delta_in past s number = says.1 ∙ ap (λ i. delta_in past s i) same in
    let some : is_some (held_view past s number) ≡ true = ap (λ i. is_some (held_view past s i)) (sym same) ∙ says.0 in
    rw (here, is) (delta_folds past s number some kept)
folds_base past s n at number request _ says version here given kept = absurd (let wrong : false ≡ true = here in cc)

-- where it isn't, that stays
folds_other : (number at : ℕ) (answer : Body) (was : Option Held) → tells_of number answer ≡ false → folded_after number at answer was ≡ was
folds_other number at (body.Opened edit shown view) was other = rw other refl
folds_other number at (body.Delta delta view) was other = rw other refl
folds_other number at (body.Resync bound edit shown view) was other = rw other refl
folds_other number at _ was other = refl

and_false : (a b : Bool) → (a && b) ≡ false → (a ≡ false) ⊎ (b ≡ false)
and_false true b h = inr h
and_false false b h = inl refl

and_true : (a b : Bool) → (a && b) ≡ true → (a ≡ true) × (b ≡ true)
and_true true b h = (refl, h)
and_true false b h = absurd (let wrong : false ≡ true = h in cc)

stays_folded : (past : List PastStep) (session n at s number : ℕ) (request : Ask) (answer : Body) → is_base s number (step session request n at answer) ≡ false
    → folded_in (step session request n at answer ∷ past) s number ≡ folded_in past s number
stays_folded past session n at s number request answer other = by (eqb session s) refl
  where
    by : (ours : Bool) → eqb session s ≡ ours → cond ours (folded_after number at answer (folded_in past s number)) (folded_in past s number) ≡ folded_in past s number
    by false is = refl
    by true is = elim (and_false (tells_of number answer) (eqb session s) other) [
      | inl untold ↦ folds_other number at answer (folded_in past s number) untold
      | inr theirs ↦ absurd (let wrong : true ≡ false = sym is ∙ theirs in cc)
    ]

kept_at_base : (past : List PastStep) (session n at s number : ℕ) (request : Ask) (answer : Body) → Says past session request answer → at ≡ version_after past answer
    → is_base s number (step session request n at answer) ≡ true → All (IsNumbered past) (views past) → Kept past s number
    → Kept (step session request n at answer ∷ past) s number
kept_at_base past session n at s number request answer says version here given kept =
    let after = step session request n at answer ∷ past in
    let parts = and_true (tells_of number answer) (eqb session s) here in
    let ours : session ≡ s = eqb-true session s parts.1 in
    let SaysOf : ℕ → Type 0 = λ i. Says past i request answer in
    record {
      folds = rw (here, parts.1) (rw ours (folds_base past s n at number request answer (subst SaysOf ours says) version parts.0 given kept));
      based = λ some. rw here refl;
    }

kept_between : (past : List PastStep) (session n at s number : ℕ) (request : Ask) (answer : Body)
    → is_base s number (step session request n at answer) ≡ false → Kept past s number → Kept (step session request n at answer ∷ past) s number
kept_between past session n at s number request answer other kept =
    let after = step session request n at answer ∷ past in
    record {
      folds = stays_folded past session n at s number request answer other ∙ kept.folds ∙ (rw other refl);
      based = λ some. elim (held_before past session n at request answer s number some) [
        | inl here ↦ absurd (let wrong : true ≡ false = sym here ∙ other in cc)
        | inr before ↦ rw other (kept.based before)
      ];
    }

kept_step : (past : List PastStep) (session n at s number : ℕ) (request : Ask) (answer : Body) → Says past session request answer → at ≡ version_after past answer
    → All (IsNumbered past) (views past) → Kept past s number → Kept (step session request n at answer ∷ past) s number
kept_step past session n at s number request answer says version given kept = by (is_base s number (step session request n at answer)) refl
  where
    by : (b : Bool) → is_base s number (step session request n at answer) ≡ b → Kept (step session request n at answer ∷ past) s number
    by true here = kept_at_base past session n at s number request answer says version here given kept
    by false other = kept_between past session n at s number request answer other kept

pub kept : (limit : ℕ) (h : List Entry) (s number : ℕ) → Kept (past_of limit h) s number
kept limit [] s number = record {
  folds = refl;
  based = λ some. some;
}
kept limit (e ∷ h) s number =
    let past = past_of limit h in
    let reply : ReplyData = answer_to limit past e.session e.request e.choice in
    kept_step past e.session reply.n reply.version s number e.request reply.body (says_answer limit past e.session e.request e.choice) refl (numbers_given limit h) (kept limit h s number)

pub deltas_fold : DeltasFold
deltas_fold limit h session number = (kept limit h session number).folds

-- ---- a step that changes neither rows nor views touches nothing

pub touches_nothing : (past : List PastStep) (rows : List PlacedRow) (s number : ℕ) → with_keys (dirty past s number) (touched_keys rows rows) ≡ dirty past s number
touches_nothing past rows s number = ap (with_keys (dirty past s number)) (touched_keys-itself rows)

pub touches_no_header : (past : List PastStep) (shows : Shown) (s number : ℕ) → (head_dirty past s number || header_differs shows shows) ≡ head_dirty past s number
touches_no_header past shows s number = ap (λ same. head_dirty past s number || not same) (same_header_itself shows.header) ∙ or_false_right (head_dirty past s number)

pub same_folded : (past : List PastStep) (session n at s number : ℕ) (request : Ask) (why : Refusal)
    → folded_in (step session request n at (body.Refused why) ∷ past) s number ≡ folded_in past s number
same_folded past session n at s number request why = by (eqb session s)
  where
    by : (b : Bool) → cond b (folded_in past s number) (folded_in past s number) ≡ folded_in past s number
    by true = refl
    by false = refl
