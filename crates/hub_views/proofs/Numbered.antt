-- Each held view stands under its own session and number.
use Rattle.std.proofs.Common.{◌≡◌, ℕ, ◌<◌, ◌≤◌, eqb, Bool, true, false, ◌&&◌, cond, List, [], ◌∷◌, ◌++◌, map, filter, find, get_or, All, Some, None, option_map, inl, inr, refl, ap, ◌∙◌, sym, arith}
use Rattle.std.proofs.lemmas.Bool.{cases_eq, eq-eqb, ne_eqb}
use Rattle.std.proofs.lemmas.List.Elements.{All-nil, All-cons, All-head, All-tail, All-push, All-filter, All-map, All-weaker}
use Rattle.hub_spec.specs.Past.{PastStep}
use Rattle.hub_spec.specs.HeldViews.{HeldView, held_view, is_view, views}
use Rattle.hub_spec.proofs.Numbering.{KeepsNames, not_view}
use Rattle.hub_views.specs.Keeping.{AreNumbered}

pub own_is_view : (v : HeldView) → is_view v.session v.number v ≡ true
own_is_view v = rw (eq-eqb v.session v.session refl, eq-eqb v.number v.number refl) refl

-- a view was opened before another
abbrev pub IsBefore : HeldView → HeldView → Type 0
IsBefore v w = v.session ≡ w.session → v.number < w.number

pub earlier_is_other : (v w : HeldView) → IsBefore v w → is_view w.session w.number v ≡ false
earlier_is_other v w before = not_view w.session w.number v (λ s n. absurd (let less : v.number < w.number = before s in omega (arith, less, n)))

pub later_is_other : (v w : HeldView) → IsBefore v w → is_view v.session v.number w ≡ false
later_is_other v w before = not_view v.session v.number w (λ s n. absurd (let less : v.number < w.number = before (sym s) in omega (arith, less, n)))

-- a later view is not an earlier one
pub are_apart : (v w : HeldView) → IsBefore v w → (eqb w.number v.number && eqb w.session v.session) ≡ false
are_apart v w before =
    elim (cases_eq w.number v.number) as (λ _. (eqb w.number v.number && eqb w.session v.session) ≡ false) [
      | inl same ↦ rw (eq-eqb w.number v.number same)
          (ne_eqb w.session v.session (λ s. absurd (let less : v.number < w.number = before (sym s) in omega (arith, less, same))))
      | inr other ↦ rw (ne_eqb w.number v.number other) refl
    ]

-- each held view is the one of its session and number
pub own_found : (opened : ℕ → ℕ) (vs : List HeldView) → AreNumbered opened vs → All (λ v. find (is_view v.session v.number) vs ≡ Some v) vs
own_found opened [] h = All-nil (λ v. None ≡ Some v)
own_found opened (v ∷ vs) h =
    All-cons (λ u. find (is_view u.session u.number) (v ∷ vs) ≡ Some u) v vs (rw (own_is_view v) refl)
    (λ k x lt. rw (earlier_is_other v (get_or vs k x) (h.1 k x lt)) (own_found opened vs h.2 k x lt))

-- each number is one that the session has given
pub numbers_given : (opened : ℕ → ℕ) (vs : List HeldView) → AreNumbered opened vs → All (λ v. v.number < opened v.session) vs
numbers_given opened [] h = All-nil (λ v. v.number < opened v.session)
numbers_given opened (v ∷ vs) h = All-cons (λ w. w.number < opened w.session) v vs h.0 (numbers_given opened vs h.2)

-- ---- what keeps lists numbered

-- more views were opened
pub numbered_still : (few more : ℕ → ℕ) (vs : List HeldView) → ((s : ℕ) → few s ≤ more s) → AreNumbered few vs → AreNumbered more vs
numbered_still few more [] le h = tt
numbered_still few more (v ∷ vs) le h = (omega (arith, le v.session, h.0), h.1, numbered_still few more vs le h.2)

-- some views went
pub numbered_filter : (opened : ℕ → ℕ) (keeps : HeldView → Bool) (vs : List HeldView) → AreNumbered opened vs → AreNumbered opened (filter keeps vs)
numbered_filter opened keeps [] h = tt
numbered_filter opened keeps (v ∷ vs) h = by (keeps v) (numbered_filter opened keeps vs h.2)
  where
    by : (b : Bool) → AreNumbered opened (filter keeps vs) → AreNumbered opened (cond b (v ∷ filter keeps vs) (filter keeps vs))
    by true later = (h.0, All-filter keeps (IsBefore v) vs h.1, later)
    by false later = later

-- one came with a greater number
pub numbered_push : (opened : ℕ → ℕ) (vs : List HeldView) (w : HeldView) → AreNumbered opened vs → w.number < opened w.session
    → All (λ v. IsBefore v w) vs → AreNumbered opened (vs ++ w ∷ [])
numbered_push opened [] w h lt before = (lt, All-nil (IsBefore w), tt)
numbered_push opened (v ∷ vs) w h lt before = (
  h.0,
  All-push (IsBefore v) vs w h.1 (All-head (λ u. IsBefore u w) v vs before),
  numbered_push opened vs w h.2 lt (All-tail (λ u. IsBefore u w) v vs before),
)

-- some were changed
pub numbered_changed : (opened : ℕ → ℕ) (f : HeldView → HeldView) (vs : List HeldView) → KeepsNames f → AreNumbered opened vs → AreNumbered opened (map f vs)
numbered_changed opened f [] keeps h = tt
numbered_changed opened f (v ∷ vs) keeps h =
    let name = keeps v in (
      rw (name.session, name.number) h.0,
      All-map (IsBefore (f v)) f vs (All-weaker (IsBefore v) (λ u. IsBefore (f v) (f u))
          (λ u before. let its = keeps u in rw (name.session, name.number, its.session, its.number) before) vs h.1),
      numbered_changed opened f vs keeps h.2,
    )

-- a changed view is held under the number that it had
found_changed : (session number : ℕ) (f : HeldView → HeldView) (vs : List HeldView) → KeepsNames f
    → find (is_view session number) (map f vs) ≡ option_map f (find (is_view session number) vs)
found_changed session number f [] keeps = refl
found_changed session number f (v ∷ vs) keeps =
    let name = keeps v in
    let same : is_view session number (f v) ≡ is_view session number v =
    ap (λ s. eqb s session && eqb (f v).number number) name.session ∙ ap (λ n. eqb v.session session && eqb n number) name.number in
    ap (λ b. cond b (Some (f v)) (find (is_view session number) (map f vs))) same ∙ by (is_view session number v) (found_changed session number f vs keeps)
  where
    by : (b : Bool) → find (is_view session number) (map f vs) ≡ option_map f (find (is_view session number) vs)
        → cond b (Some (f v)) (find (is_view session number) (map f vs)) ≡ option_map f (cond b (Some v) (find (is_view session number) vs))
    by true later = refl
    by false later = later

pub held_changed : (past : List PastStep) (d : PastStep) (f : HeldView → HeldView) (v : HeldView) → KeepsNames f → views (d ∷ past) ≡ map f (views past)
    → held_view past v.session v.number ≡ Some v → held_view (d ∷ past) v.session v.number ≡ Some (f v)
held_changed past d f v keeps are found =
    ap (find (is_view v.session v.number)) are ∙ found_changed v.session v.number f (views past) keeps ∙ ap (option_map f) found
