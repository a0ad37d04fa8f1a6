-- Two lists compared key by key.
use Rattle.std.proofs.Common.{◌≡◌, ℕ, zero, suc, ◌+◌, ◌-◌, Bool, true, false, cond, List, [], ◌∷◌, drop, length, Option, Some, None, is_some, refl, sym, ◌∙◌, ap, arith, slice_get}
use Rattle.std.specs.List.{IsDistinct}
use Rattle.std.specs.Map.{lookup}
use Rattle.std.specs.Option.{option_map}
use Rattle.std.proofs.lemmas.Option.{same_Some}
use Rattle.cell_core.specs.declared.schema.Column.{Column}
use Rattle.plan_types.specs.declared.plan.Plan.{Plan}
use Rattle.view_columns.specs.Headers.{under}
use Rattle.view_types.specs.Keys.{same_key}
use Rattle.view_types.specs.declared.key.ViewKey.{ViewKey}
use Rattle.view_types.proofs.KeyOrder.{same_key_is_equal}
use Rattle.delta_core.specs.DirtySets.{with_touched}
use Rattle.delta_core.specs.Rows.{at_key}
use Rattle.delta_core.specs.declared.touched.Touch.{Touch}
use Rattle.view_spec.specs.Touching.{same_found}
use Rattle.live_list.specs.Live.{live_key}
use Rattle.key_map.specs.Keyed.{same_by}
use Rattle.key_map.proofs.Keyed.{at_key-there, none_from_all}
use Rattle.flat_live.specs.FlatRows.{FlatRow}
use Rattle.flat_live.specs.Rows.{Heads, TellsNew, TellsOld, as_placed, told}
use Rattle.flat_live.proofs.Drops.{all_dropped, next_item}
use Rattle.flat_live.proofs.Options.{lookup-with_touched, none_there}

-- nothing of that key stands behind
pub none_behind : (xs : List FlatRow) (at : ℕ) (x : FlatRow) → IsDistinct (same_by live_key) xs → slice_get xs at ≡ Some x → at_key live_key (live_key x) (drop (at + 1) xs) ≡ None
unfolding IsDistinct
none_behind xs at x s is = ap (λ n. at_key live_key (live_key x) (drop n xs)) (let e : at + 1 ≡ suc at = omega arith in e) ∙ from xs at x s is
  where
    from : (xs : List FlatRow) (at : ℕ) (x : FlatRow) → IsDistinct (same_by live_key) xs → slice_get xs at ≡ Some x → at_key live_key (live_key x) (drop (suc at) xs) ≡ None
    from [] at x s is = absurd (let wrong : None ≡ Some x = is in cc)
    from (y ∷ xs) zero x s is = ap (λ z. at_key live_key (live_key z) xs) (sym (same_Some y x is)) ∙ none_from_all live_key (live_key y) xs s.0
    from (y ∷ xs) (suc at) x s is = from xs at x s.1 is

-- told of the keys met so far, and now of one key more
told_more : (first last : Heads) (was now : List FlatRow) (x : FlatRow) (k : ViewKey) (a o e : Option Touch) (m : Option FlatRow) → a ≡ told first last (at_key live_key (live_key x) was) (at_key live_key (live_key x) now)
    → o ≡ cond (is_some m) (told first last (at_key live_key k was) (at_key live_key k now)) e
    → cond (same_key (live_key x) k) a o ≡ cond (is_some (cond (same_key (live_key x) k) (Some x) m)) (told first last (at_key live_key k was) (at_key live_key k now)) e
told_more first last was now x k a o e m mine other = by (same_key (live_key x) k) refl
  where
    by : (b : Bool) → same_key (live_key x) k ≡ b → cond b a o ≡ cond (is_some (cond b (Some x) m)) (told first last (at_key live_key k was) (at_key live_key k now)) e
    by true is = mine ∙ ap (λ z. told first last (at_key live_key z was) (at_key live_key z now)) (same_key_is_equal (live_key x) k is)
    by false is = other

pub old_stays : (first last : Heads) (was now : List FlatRow) (x : FlatRow) (at : ℕ) (noted : List (ViewKey × Touch)) → IsDistinct (same_by live_key) was → slice_get was at ≡ Some x
    → TellsOld first last was now (drop (at + 1) was) noted → same_found (Some (as_placed first x)) (option_map (as_placed last) (at_key live_key (live_key x) now)) ≡ true
    → TellsOld first last was now (drop at was) noted
old_stays first last was now x at noted s is h same =
    let there : at_key live_key (live_key x) was ≡ Some x = at_key-there live_key was at x s is in
    let unknown : lookup (same_key (live_key x)) noted ≡ None
    = h.each (live_key x) ∙ ap (λ m. cond (is_some m) (told first last (at_key live_key (live_key x) was) (at_key live_key (live_key x) now)) None) (none_behind was at x s is) in
    let mine : None ≡ told first last (at_key live_key (live_key x) was) (at_key live_key (live_key x) now)
    = sym (ap (λ o. told first last o (at_key live_key (live_key x) now)) there ∙ ap (λ b. cond b None (Some (record { was_shown = true }))) same) in
    record {
      each = λ k.
          none_there (λ q. lookup (same_key q) noted) (live_key x) k unknown
          ∙ told_more first last was now x k None (lookup (same_key k) noted) None (at_key live_key k (drop (at + 1) was)) mine (h.each k)
          ∙ ap (λ (ys : List FlatRow). cond (is_some (at_key live_key k ys)) (told first last (at_key live_key k was) (at_key live_key k now)) None) (sym (next_item was at x is));
    }

pub old_differs : (first last : Heads) (was now : List FlatRow) (x : FlatRow) (at : ℕ) (noted : List (ViewKey × Touch)) → IsDistinct (same_by live_key) was → slice_get was at ≡ Some x
    → TellsOld first last was now (drop (at + 1) was) noted → same_found (Some (as_placed first x)) (option_map (as_placed last) (at_key live_key (live_key x) now)) ≡ false
    → TellsOld first last was now (drop at was) (with_touched noted (live_key x, record { was_shown = true }))
old_differs first last was now x at noted s is h same =
    let there : at_key live_key (live_key x) was ≡ Some x = at_key-there live_key was at x s is in
    let unknown : lookup (same_key (live_key x)) noted ≡ None
    = h.each (live_key x) ∙ ap (λ m. cond (is_some m) (told first last (at_key live_key (live_key x) was) (at_key live_key (live_key x) now)) None) (none_behind was at x s is) in
    let touch : Touch = record { was_shown = true } in
    let mine : Some touch ≡ told first last (at_key live_key (live_key x) was) (at_key live_key (live_key x) now)
    = sym (ap (λ o. told first last o (at_key live_key (live_key x) now)) there ∙ ap (λ b. cond b None (Some touch)) same) in
    record {
      each = λ k.
          lookup-with_touched noted (live_key x) touch k unknown
          ∙ told_more first last was now x k (Some touch) (lookup (same_key k) noted) None (at_key live_key k (drop (at + 1) was)) mine (h.each k)
          ∙ ap (λ (ys : List FlatRow). cond (is_some (at_key live_key k ys)) (told first last (at_key live_key k was) (at_key live_key k now)) None) (sym (next_item was at x is));
    }

-- ---- the new rows

as_is : (x : FlatRow) (f : ViewKey → Option Touch) (k : ViewKey) → f k ≡ cond (same_key (live_key x) k) (f (live_key x)) (f k)
as_is x f k = by (same_key (live_key x) k) refl
  where
    by : (b : Bool) → same_key (live_key x) k ≡ b → f k ≡ cond b (f (live_key x)) (f k)
    by true is = ap f (sym (same_key_is_equal (live_key x) k is))
    by false is = refl

at_first : (first last : Heads) (was now : List FlatRow) (x : FlatRow) (at : ℕ) (noted : List (ViewKey × Touch)) → IsDistinct (same_by live_key) now → slice_get now at ≡ Some x
    → TellsNew first last was now (drop (at + 1) now) noted
    → lookup (same_key (live_key x)) noted ≡ cond (is_some (at_key live_key (live_key x) was)) (told first last (at_key live_key (live_key x) was) (at_key live_key (live_key x) now)) None
at_first first last was now x at noted s is h =
    h.each (live_key x)
    ∙ ap (λ m. cond (is_some m) (told first last (at_key live_key (live_key x) was) (at_key live_key (live_key x) now)) (cond (is_some (at_key live_key (live_key x) was)) (told first last (at_key live_key (live_key x) was) (at_key live_key (live_key x) now)) None))
    (none_behind now at x s is)

pub new_known : (first last : Heads) (was now : List FlatRow) (x : FlatRow) (at : ℕ) (noted : List (ViewKey × Touch)) → IsDistinct (same_by live_key) now → slice_get now at ≡ Some x
    → TellsNew first last was now (drop (at + 1) now) noted → is_some (at_key live_key (live_key x) was) ≡ true → TellsNew first last was now (drop at now) noted
new_known first last was now x at noted s is h known = record {
  each = λ k.
      as_is x (λ q. lookup (same_key q) noted) k
      ∙ told_more first last was now x k (lookup (same_key (live_key x)) noted) (lookup (same_key k) noted) (cond (is_some (at_key live_key k was)) (told first last (at_key live_key k was) (at_key live_key k now)) None) (at_key live_key k (drop (at + 1) now))
      (at_first first last was now x at noted s is h ∙ ap (λ b. cond b (told first last (at_key live_key (live_key x) was) (at_key live_key (live_key x) now)) None) known) (h.each k)
      ∙ ap (λ (ys : List FlatRow). cond (is_some (at_key live_key k ys)) (told first last (at_key live_key k was) (at_key live_key k now)) (cond (is_some (at_key live_key k was)) (told first last (at_key live_key k was) (at_key live_key k now)) None)) (sym (next_item now at x is));
}

no_row : (o : Option FlatRow) → is_some o ≡ false → o ≡ None
no_row None h = refl
no_row (Some x) h = absurd (let wrong : true ≡ false = h in cc)

pub new_noted : (first last : Heads) (was now : List FlatRow) (x : FlatRow) (at : ℕ) (noted : List (ViewKey × Touch)) → IsDistinct (same_by live_key) now → slice_get now at ≡ Some x
    → TellsNew first last was now (drop (at + 1) now) noted → is_some (at_key live_key (live_key x) was) ≡ false → TellsNew first last was now (drop at now) (with_touched noted (live_key x, record { was_shown = false }))
new_noted first last was now x at noted s is h other =
    let none : at_key live_key (live_key x) was ≡ None = no_row (at_key live_key (live_key x) was) other in
    let there : at_key live_key (live_key x) now ≡ Some x = at_key-there live_key now at x s is in
    let touch : Touch = record { was_shown = false } in
    let mine : Some touch ≡ told first last (at_key live_key (live_key x) was) (at_key live_key (live_key x) now)
    = sym (ap (λ o. told first last o (at_key live_key (live_key x) now)) none ∙ ap (told first last None) there) in
    record {
      each = λ k.
          lookup-with_touched noted (live_key x) touch k (at_first first last was now x at noted s is h ∙ ap (λ b. cond b (told first last (at_key live_key (live_key x) was) (at_key live_key (live_key x) now)) None) other)
          ∙ told_more first last was now x k (Some touch) (lookup (same_key k) noted) (cond (is_some (at_key live_key k was)) (told first last (at_key live_key k was) (at_key live_key k now)) None) (at_key live_key k (drop (at + 1) now)) mine (h.each k)
          ∙ ap (λ (ys : List FlatRow). cond (is_some (at_key live_key k ys)) (told first last (at_key live_key k was) (at_key live_key k now)) (cond (is_some (at_key live_key k was)) (told first last (at_key live_key k was) (at_key live_key k now)) None)) (sym (next_item now at x is));
    }

-- ---- none met, all met

pub old_none : (first last : Heads) (was now : List FlatRow) (noted : List (ViewKey × Touch)) → noted ≡ [] → TellsOld first last was now (drop (length was - 0) was) noted
old_none first last was now noted none = rw (all_dropped was, none) (record { each = λ k. refl })

pub new_none : (first last : Heads) (was now : List FlatRow) (noted : List (ViewKey × Touch)) → TellsOld first last was now was noted → TellsNew first last was now (drop (length now - 0) now) noted
new_none first last was now noted h = rw (all_dropped now) (record { each = λ k. h.each k })

pub all_met : (first last : Heads) (was now : List FlatRow) (noted : List (ViewKey × Touch)) → TellsNew first last was now now noted
    → (k : ViewKey) → lookup (same_key k) noted ≡ told first last (at_key live_key k was) (at_key live_key k now)
all_met first last was now noted h k = h.each k ∙ by (at_key live_key k was) (at_key live_key k now)
  where
    by : (o n : Option FlatRow) → cond (is_some n) (told first last o n) (cond (is_some o) (told first last o n) None) ≡ told first last o n
    by None None = refl
    by (Some x) None = refl
    by None (Some y) = refl
    by (Some x) (Some y) = refl

-- ---- as it is asked of columns and rows that were lent

pub as_asked : (was_columns was_lent now_columns now_lent : List Column) (was_plan now_plan : Plan) (x : FlatRow) (found lent : Option FlatRow) → was_lent ≡ was_columns → now_lent ≡ now_columns → lent ≡ found
    → same_found (Some (as_placed (under was_columns was_plan) x)) (option_map (as_placed (under now_columns now_plan)) found)
    ≡ same_found (Some (as_placed (under was_lent was_plan) x)) (option_map (as_placed (under now_lent now_plan)) lent)
as_asked was_columns was_lent now_columns now_lent was_plan now_plan x found lent was now row =
    λ i. same_found (Some (as_placed (under (sym was i) was_plan) x)) (option_map (as_placed (under (sym now i) now_plan)) (sym row i))
