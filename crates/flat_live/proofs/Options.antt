-- Facts of results, and of what is told under keys.
use Rattle.std.proofs.Common.{◌≡◌, Bool, true, false, cond, List, [], ◌∷◌, Option, Some, None, Less, Equal, Greater, Ordering, refl, sym, ◌∙◌, ap, is_some, Bor}
use Rattle.std.specs.Prelude.{OnOk, Result, Ok, Err}
use Rattle.std.specs.Map.{lookup}
use Rattle.std.specs.Option.{option_copied}
use Rattle.std.specs.Ordering.{is_eq, match_ordering}
use Rattle.view_types.specs.Keys.{key_order, same_key}
use Rattle.view_types.specs.declared.key.ViewKey.{ViewKey}
use Rattle.view_types.proofs.KeyOrder.{same_key_is_equal, same_key_itself, same_key-symm}
use Rattle.delta_core.specs.DirtySets.{with_touched}
use Rattle.delta_core.specs.declared.touched.Touch.{Touch}

pub ok_map : {A E : Type 0} {P Q : Type 0} (r : Result A E) → (P → Q) → OnOk r P → OnOk r Q
ok_map (Ok x) f p = f p
ok_map (Err e) f p = tt

pub ok_plain : {A E : Type 0} {P : Type 0} (r : Result A E) → P → OnOk r P
ok_plain (Ok x) p = p
ok_plain (Err e) p = tt

pub ok_both : {A E : Type 0} {P Q R : Type 0} (r : Result A E) → (P → Q → R) → OnOk r P → OnOk r Q → OnOk r R
ok_both (Ok x) f p q = f p q
ok_both (Err e) f p q = tt

pub copied_some : {X : Type 0} (o : Option (Bor X)) → is_some (option_copied o) ≡ is_some o
copied_some None = refl
copied_some (Some x) = refl

-- nothing stands under the key
pub none_there : {X : Type 0} (f : ViewKey → Option X) (k q : ViewKey) → f k ≡ None → f q ≡ cond (same_key k q) None (f q)
none_there {X} f k q none = by (same_key k q) refl
  where
    by : (b : Bool) → same_key k q ≡ b → f q ≡ cond b None (f q)
    by true is = ap f (sym (same_key_is_equal k q is)) ∙ none
    by false is = refl

-- the test may look at the key itself
pub at_same : {X : Type 0} (f : ViewKey → Option X) (k q : ViewKey) (o : Option X) → cond (same_key k q) (f k) o ≡ cond (same_key k q) (f q) o
at_same {X} f k q o = by (same_key k q) refl
  where
    by : (b : Bool) → same_key k q ≡ b → cond b (f k) o ≡ cond b (f q) o
    by true is = ap f (same_key_is_equal k q is)
    by false is = refl

pub itself : {X : Type 0} (k : ViewKey) (a o : Option X) → cond (same_key k k) a o ≡ a
itself k a o = ap (λ b. cond b a o) (same_key_itself k)

-- ---- one key more is touched

first_put : (k q : ViewKey) (t : Touch) (o : Option Touch) → cond (same_key q k) (Some t) o ≡ cond (same_key k q) (Some t) o
first_put k q t o = ap (λ c. cond c (Some t) o) (same_key-symm q k)

swapped : (k q : ViewKey) (t : Touch) (e : ViewKey × Touch) (o : Option Touch) → same_key k e.0 ≡ false → (c d : Bool) → same_key q e.0 ≡ c → same_key k q ≡ d
    → cond c (Some e.1) (cond d (Some t) o) ≡ cond d (Some t) (cond c (Some e.1) o)
swapped k q t e o apart true true is there =
    let same : k ≡ q = same_key_is_equal k q there in
    let wrong : true ≡ false = sym (ap (λ z. same_key z e.0) same ∙ is) ∙ apart in absurd (cc)
swapped k q t e o apart true false is there = refl
swapped k q t e o apart false true is there = refl
swapped k q t e o apart false false is there = refl

step : (e : ViewKey × Touch) (es : List (ViewKey × Touch)) (k : ViewKey) (t : Touch) (q : ViewKey) (o : Ordering) → key_order k e.0 ≡ o → cond (is_eq o) (Some e.1) (lookup (same_key k) es) ≡ None
    → (lookup (same_key k) es ≡ None → lookup (same_key q) (with_touched es (k, t)) ≡ cond (same_key k q) (Some t) (lookup (same_key q) es))
    → lookup (same_key q) (match_ordering o ((k, t) ∷ e ∷ es) (e ∷ es) (e ∷ with_touched es (k, t))) ≡ cond (same_key k q) (Some t) (cond (same_key q e.0) (Some e.1) (lookup (same_key q) es))
step e es k t q Less is none later = first_put k q t (cond (same_key q e.0) (Some e.1) (lookup (same_key q) es))
step e es k t q Equal is none later = absurd (let wrong : Some e.1 ≡ None = none in cc)
step e es k t q Greater is none later =
    ap (λ o. cond (same_key q e.0) (Some e.1) o) (later none)
    ∙ swapped k q t e (lookup (same_key q) es) (ap is_eq is) (same_key q e.0) (same_key k q) refl refl

pub lookup-with_touched : (es : List (ViewKey × Touch)) (k : ViewKey) (t : Touch) (q : ViewKey) → lookup (same_key k) es ≡ None
    → lookup (same_key q) (with_touched es (k, t)) ≡ cond (same_key k q) (Some t) (lookup (same_key q) es)
lookup-with_touched [] k t q none = first_put k q t None
lookup-with_touched (e ∷ es) k t q none = step e es k t q (key_order k e.0) refl none (lookup-with_touched es k t q)
