use Rattle.std.proofs.Common.{◌≡◌, ℕ, Bool, true, false, not, ◌||◌, List, [], ◌∷◌, ◌++◌, map, filter, ap, ◌∙◌, refl}
use Rattle.std.specs.List.{list_any}
use Rattle.std.proofs.lemmas.Bool.{eq-eqb}
use Rattle.std.proofs.lemmas.List.{append_assoc}
use Rattle.std.proofs.lemmas.List.Elements.{filter-append}
use Rattle.update_hooks.specs.declared.booked.Booked.{Booked}
use Rattle.update_hooks.specs.Booked.{is_of, NoneOf, TakesFirst}

or_parts : (x y : Bool) → (x || y) ≡ false → (x ≡ false) × (y ≡ false)
or_parts false y p = (refl, p)
or_parts true y p = cc

-- where no element passes, none is taken and all are kept
none_taken : {X : Type 0} (p : X → Bool) (xs : List X) → list_any p xs ≡ false → filter p xs ≡ []
none_taken p [] h = refl
none_taken p (x ∷ xs) h = let t = or_parts (p x) (list_any p xs) h in rw t.0 (none_taken p xs t.1)

all_kept : {X : Type 0} (p : X → Bool) (xs : List X) → list_any p xs ≡ false → filter (λ x. not (p x)) xs ≡ xs
all_kept p [] h = refl
all_kept p (x ∷ xs) h = let t = or_parts (p x) (list_any p xs) h in rw t.0 (ap (λ t. x ∷ t) (all_kept p xs t.1))

-- the first that passes is taken out: the rest has the others of both kinds
taken_first : {X : Type 0} (p : X → Bool) (before after : List X) (b : X) → list_any p before ≡ false → p b ≡ true
    → filter p (before ++ b ∷ after) ≡ b ∷ filter p (before ++ after)
taken_first p before after b h t =
    rw (filter-append p before (b ∷ after), filter-append p before after, none_taken p before h, t) refl

kept_first : {X : Type 0} (p : X → Bool) (before after : List X) (b : X) → p b ≡ true
    → filter (λ x. not (p x)) (before ++ b ∷ after) ≡ filter (λ x. not (p x)) (before ++ after)
kept_first p before after b t =
    rw (filter-append (λ x. not (p x)) before (b ∷ after), filter-append (λ x. not (p x)) before after, t) refl

module _ {J : Type 0} where
  of_itself : (session view : ℕ) (job : J) → is_of session view (record { session = session; view = view; job = job }) ≡ true
  of_itself session view job = rw (eq-eqb session session refl, eq-eqb view view refl) refl

  -- of a view's first job that is taken out: one end is due now, and the others later
  pub due_first : {E : Type 0} (end : E) (session view : ℕ) (job : J) (old new : List (Booked J)) (ended : List E) → TakesFirst session view job old new
      → (ended ++ end ∷ []) ++ map (λ _. end) (filter (is_of session view) new) ≡ ended ++ map (λ _. end) (filter (is_of session view) old)
  due_first end session view job old new ended t =
      append_assoc ended (end ∷ []) (map (λ _. end) (filter (is_of session view) new))
      ∙ rw (t.split, t.rest, taken_first (is_of session view) t.before t.after (record { session = session; view = view; job = job }) t.none (of_itself session view job)) refl

  pub others_stay : (session view : ℕ) (job : J) (old new : List (Booked J)) → TakesFirst session view job old new
      → filter (λ booked. not (is_of session view booked)) new ≡ filter (λ booked. not (is_of session view booked)) old
  others_stay session view job old new t =
      rw (t.split, t.rest, kept_first (is_of session view) t.before t.after (record { session = session; view = view; job = job }) (of_itself session view job)) refl

  pub none_due : (session view : ℕ) (jobs : List (Booked J)) → NoneOf session view jobs → filter (is_of session view) jobs ≡ []
  none_due session view jobs h = none_taken (is_of session view) jobs h

  pub none_gone : (session view : ℕ) (jobs : List (Booked J)) → NoneOf session view jobs → filter (λ booked. not (is_of session view booked)) jobs ≡ jobs
  none_gone session view jobs h = all_kept (is_of session view) jobs h
