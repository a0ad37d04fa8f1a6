-- What the places of keys keep.
use Rattle.std.proofs.Common.{◌≡◌, ℕ, zero, suc, ◌+◌, ◌<◌, Bool, true, false, cond, List, [], ◌∷◌, length, Option, Some, None, IsSome, refl, sym, ◌∙◌, ap, subst, arith, insert, remove, slice_get, Contains}
use Rattle.std.specs.List.{IsDistinct}
use Rattle.std.specs.List.Sorted.{IsStrictlySortedBy}
use Rattle.std.specs.Map.{keys_of, lookup}
use Rattle.std.specs.Option.{option_map}
use Rattle.std.specs.Prelude.{◌↔◌, IfSome, OnSome}
use Rattle.std.proofs.lemmas.Option.{same_Some}
use Rattle.place_order.specs.PlaceLaws.{place_order-total}
use Rattle.place_order.specs.Places.{place_order}
use Rattle.place_order.specs.declared.rank.Rank.{Rank}
use Rattle.view_types.specs.Keys.{same_key}
use Rattle.view_types.specs.declared.key.ViewKey.{ViewKey}
use Rattle.view_types.proofs.KeyOrder.{same_key_is_equal}
use Rattle.delta_core.specs.Rows.{at_key}
use Rattle.rank_list.proofs.Entries.{key_found}
use Rattle.rank_list.proofs.Order.{Contains-from_slice_get}
use Rattle.live_list.specs.declared.list.LiveRow.{LiveRow}
use Rattle.key_map.specs.Keyed.{index_of}
use Rattle.key_map.proofs.Keyed.{at_key-key, index_of-none, index_of-there, pick, picked, somewhere}
use Rattle.live_list.specs.Live.{IsIndexed, live_key}
use Rattle.live_list.proofs.Told.{at_key-insert, at_key-remove, differ-insert, differ-remove, one_place}

abbrev pub Entry : Type 0 → Type 0
Entry V = List Rank × LiveRow V

abbrev pub Places : Type 0
Places = List (ViewKey × List Rank)

pub indexed_none : {V : Type 0} → IsIndexed {V = V} [] []
unfolding IsDistinct
indexed_none = record { differ = tt; told = λ k. refl }

map_none : {X Y : Type 0} (f : X → Y) (o : Option X) → option_map f o ≡ None → o ≡ None
map_none f None h = refl
map_none f (Some x) h = absurd (let wrong : Some (f x) ≡ None = h in cc)

map_some : {X Y : Type 0} (f : X → Y) (o : Option X) (y : Y) → option_map f o ≡ Some y → (x : X) × (o ≡ Some x) × (f x ≡ y)
map_some f None y h = absurd (let wrong : None ≡ Some y = h in cc)
map_some f (Some x) y h = (x, refl, same_Some (f x) y h)

pub absent_told : {V : Type 0} (xs : List (Entry V)) (ps : Places) (k : ViewKey) → IsIndexed xs ps → lookup (same_key k) ps ≡ None → at_key live_key k xs ≡ None
absent_told xs ps k h none = map_none (λ e. e.0) (at_key live_key k xs) (sym (h.told k) ∙ none)

pub none_told : {V : Type 0} (xs : List (Entry V)) (ps : Places) (k : ViewKey) → IsIndexed xs ps → at_key live_key k xs ≡ None → lookup (same_key k) ps ≡ None
none_told xs ps k h none = h.told k ∙ ap (option_map (λ e. e.0)) none

pub absent_index : {V : Type 0} (xs : List (Entry V)) (ps : Places) (k : ViewKey) → IsIndexed xs ps → lookup (same_key k) ps ≡ None → index_of live_key k xs ≡ None
absent_index xs ps k h none = index_of-none live_key k xs (absent_told xs ps k h none)

-- the entry whose place stands beside the key
pub record Stands {V : Type 0} (xs : List (Entry V)) (k : ViewKey) (p : List Rank) : Type 0 where
  pub entry : Entry V
  pub found : at_key live_key k xs ≡ Some entry
  pub place : entry.0 ≡ p
  pub at : ℕ
  pub there : slice_get xs at ≡ Some entry
  pub keyed : slice_get (keys_of xs) at ≡ Some p

pub stands : {V : Type 0} (xs : List (Entry V)) (ps : Places) (k : ViewKey) (p : List Rank) → IsIndexed xs ps → lookup (same_key k) ps ≡ Some p → Stands xs k p
stands xs ps k p h is =
    let e = map_some (λ (e : _). e.0) (at_key live_key k xs) p (sym (h.told k) ∙ is) in
    let w = somewhere live_key k xs e.0 e.1 in
    record { entry = e.0; found = e.1; place = e.2; at = w.0; there = w.1; keyed = key_found xs w.0 e.0 w.1 ∙ ap Some e.2 }

pub place_told : {V : Type 0} (xs : List (Entry V)) (ps : Places) (k : ViewKey) (p : List Rank) → IsIndexed xs ps → IsStrictlySortedBy place_order (keys_of xs) → lookup (same_key k) ps ≡ Some p
    → (o : Option ℕ) → IsSome o ↔ Contains (keys_of xs) p → IfSome o (λ at. slice_get (keys_of xs) at ≡ Some p) → o ≡ index_of live_key k xs
place_told xs ps k p h up is None there found =
    let s = stands xs ps k p h is in
    let wrong : false ≡ true = there.1 (Contains-from_slice_get (keys_of xs) s.at p s.keyed) in absurd (cc)
place_told xs ps k p h up is (Some at) there found =
    let s = stands xs ps k p h is in
    let same : s.at ≡ at = one_place place_order place_order-total (keys_of xs) s.at at p up s.keyed found in
    sym (ap (λ q. index_of live_key q xs) (sym (at_key-key live_key k xs s.entry s.found)) ∙ index_of-there live_key xs s.at s.entry h.differ s.there ∙ ap Some same)

pub pick_told : {V : Type 0} (xs : List (Entry V)) (k : ViewKey) (i : ℕ) → Some i ≡ index_of live_key k xs → slice_get xs i ≡ at_key live_key k xs
pick_told xs k i is = ap (pick xs) is ∙ sym (picked live_key k xs)

pub pick_none : {V : Type 0} (xs : List (Entry V)) (k : ViewKey) → None ≡ index_of live_key k xs → None ≡ at_key live_key k xs
pick_none xs k is = ap (pick xs) is ∙ sym (picked live_key k xs)

-- ---- steps

map_cond : {X Y : Type 0} (f : X → Y) (b : Bool) (n o : Option X) → option_map f (cond b n o) ≡ cond b (option_map f n) (option_map f o)
map_cond f true n o = refl
map_cond f false n o = refl

pub indexed_put : {V : Type 0} (xs : List (Entry V)) (ps now : Places) (i : ℕ) (e : Entry V) → IsIndexed xs ps → at_key live_key (live_key e) xs ≡ None
    → ((q : ViewKey) → lookup (same_key q) now ≡ cond (same_key (live_key e) q) (Some e.0) (lookup (same_key q) ps)) → IsIndexed (insert xs i e) now
indexed_put xs ps now i e h none each = record {
  differ = differ-insert live_key xs i e none h.differ;
  told = λ k.
      each k ∙ ap (cond (same_key (live_key e) k) (Some e.0)) (h.told k)
      ∙ sym (ap (option_map (λ (x : _). x.0)) (at_key-insert live_key xs i e k none) ∙ map_cond (λ (x : _). x.0) (same_key (live_key e) k) (Some e) (at_key live_key k xs));
}

-- a key that isn't there, forgotten
pub without_absent : (k q : ViewKey) (was : Places) → lookup (same_key k) was ≡ None → cond (same_key k q) None (lookup (same_key q) was) ≡ lookup (same_key q) was
without_absent k q was none = by (same_key k q) refl
  where
    by : (b : Bool) → same_key k q ≡ b → cond b None (lookup (same_key q) was) ≡ lookup (same_key q) was
    by true is = sym (ap (λ z. lookup (same_key z) was) (sym (same_key_is_equal k q is)) ∙ none)
    by false is = refl

pub indexed_absent : {V : Type 0} (xs : List (Entry V)) (ps now : Places) (k : ViewKey) → IsIndexed xs ps → lookup (same_key k) ps ≡ None
    → ((q : ViewKey) → lookup (same_key q) now ≡ cond (same_key k q) None (lookup (same_key q) ps)) → IsIndexed xs now
indexed_absent xs ps now k h none each = record { differ = h.differ; told = λ q. each q ∙ without_absent k q ps none ∙ h.told q }

twice : {X : Type 0} (b : Bool) (p : Option X) (o : Option X) → cond b None (cond b p o) ≡ cond b None o
twice true p o = refl
twice false p o = refl

-- put and forgotten
pub indexed_restored : {V : Type 0} (xs : List (Entry V)) (ps more now : Places) (k : ViewKey) (p : List Rank) → IsIndexed xs ps → at_key live_key k xs ≡ None
    → ((q : ViewKey) → lookup (same_key q) more ≡ cond (same_key k q) (Some p) (lookup (same_key q) ps))
    → ((q : ViewKey) → lookup (same_key q) now ≡ cond (same_key k q) None (lookup (same_key q) more)) → IsIndexed xs now
indexed_restored xs ps more now k p h none put each =
    indexed_absent xs ps now k h (none_told xs ps k h none) (λ q. each q ∙ ap (cond (same_key k q) None) (put q) ∙ twice (same_key k q) (Some p) (lookup (same_key q) ps))

-- by way of copies of the key and the place
pub put_as : (k copy : ViewKey) (p other : List Rank) (was now : Places) → copy ≡ k → other ≡ p
    → ((q : ViewKey) → lookup (same_key q) now ≡ cond (same_key copy q) (Some other) (lookup (same_key q) was)) → (q : ViewKey) → lookup (same_key q) now ≡ cond (same_key k q) (Some p) (lookup (same_key q) was)
put_as k copy p other was now same_k same_p each q =
    each q ∙ ap (λ z. cond (same_key z q) (Some other) (lookup (same_key q) was)) same_k ∙ ap (λ z. cond (same_key k q) (Some z) (lookup (same_key q) was)) same_p

pub forgot_as : (k copy : ViewKey) (was now : Places) → copy ≡ k
    → ((q : ViewKey) → lookup (same_key q) now ≡ cond (same_key copy q) None (lookup (same_key q) was)) → (q : ViewKey) → lookup (same_key q) now ≡ cond (same_key k q) None (lookup (same_key q) was)
forgot_as k copy was now same_k each q = each q ∙ ap (λ z. cond (same_key z q) None (lookup (same_key q) was)) same_k

-- ---- an entry taken out

pub record IsTaken {V : Type 0} (xs : List (Entry V)) (now : Places) (k : ViewKey) (i : ℕ) (e : Entry V) : Type 0 where
  pub found : Some e ≡ at_key live_key k xs
  pub indexed : IsIndexed (remove xs i) now
  pub told : (q : ViewKey) → at_key live_key q (remove xs i) ≡ cond (same_key k q) None (at_key live_key q xs)

pub taken : {V : Type 0} (xs : List (Entry V)) (ps now : Places) (k : ViewKey) (p : List Rank) (i : ℕ) (e : Entry V) → IsIndexed xs ps → IsStrictlySortedBy place_order (keys_of xs)
    → lookup (same_key k) ps ≡ Some p → slice_get xs i ≡ Some e → e.0 ≡ p
    → ((q : ViewKey) → lookup (same_key q) now ≡ cond (same_key k q) None (lookup (same_key q) ps)) → IsTaken xs now k i e
taken {V} xs ps now k p i e h up is there place each =
    let s = stands xs ps k p h is in
    let same : s.at ≡ i = one_place place_order place_order-total (keys_of xs) s.at i p up s.keyed (key_found xs i e there ∙ ap Some place) in
    let found : at_key live_key k xs ≡ Some e = s.found ∙ sym s.there ∙ ap (slice_get xs) same ∙ there in
    let key : live_key e ≡ k = at_key-key live_key k xs e found in
    let out : (q : ViewKey) → at_key live_key q (remove xs i) ≡ cond (same_key k q) None (at_key live_key q xs)
    = λ q. at_key-remove live_key xs i e q h.differ there ∙ ap (λ z. cond (same_key z q) None (at_key live_key q xs)) key in
    record {
      found = sym found;
      indexed = record {
        differ = differ-remove live_key xs i h.differ;
        told = λ q. each q ∙ ap (cond (same_key k q) None) (h.told q) ∙ sym (ap (option_map (λ (x : Entry V). x.0)) (out q) ∙ map_cond (λ (x : Entry V). x.0) (same_key k q) None (at_key live_key q xs));
      };
      told = out;
    }

-- what the call leaves
pub record IsOut {V : Type 0} (xs new : List (Entry V)) (now : Places) (k : ViewKey) (o : Option (Entry V)) : Type 0 where
  pub found : o ≡ at_key live_key k xs
  pub indexed : IsIndexed new now
  pub told : (q : ViewKey) → at_key live_key q new ≡ cond (same_key k q) None (at_key live_key q xs)

pub taken_out : {V : Type 0} (xs new : List (Entry V)) (ps now : Places) (k : ViewKey) (p : List Rank) (at : ℕ) (o : Option (Entry V)) → IsIndexed xs ps → IsStrictlySortedBy place_order (keys_of xs)
    → Some p ≡ lookup (same_key k) ps → IsSome o ↔ Contains (keys_of xs) p → IfSome o (λ e. slice_get xs at ≡ Some e) → IfSome o (λ e. e.0 ≡ p) → OnSome o (new ≡ remove xs at)
    → ((q : ViewKey) → lookup (same_key q) now ≡ cond (same_key k q) None (lookup (same_key q) ps)) → IsOut xs new now k o
taken_out xs new ps now k p at None h up is there found place rest each =
    let s = stands xs ps k p h (sym is) in
    let wrong : false ≡ true = there.1 (Contains-from_slice_get (keys_of xs) s.at p s.keyed) in absurd (cc)
taken_out {V} xs new ps now k p at (Some e) h up is there found place rest each =
    let t = taken xs ps now k p at e h up (sym is) found place each in
    record {
      found = t.found;
      indexed = subst (λ (ys : List (Entry V)). IsIndexed ys now) (sym rest) t.indexed;
      told = λ q. ap (at_key live_key q) rest ∙ t.told q;
    }

pub not_out : {V : Type 0} (xs : List (Entry V)) (ps now : Places) (k : ViewKey) → IsIndexed xs ps → None ≡ lookup (same_key k) ps
    → ((q : ViewKey) → lookup (same_key q) now ≡ cond (same_key k q) None (lookup (same_key q) ps)) → IsOut xs xs now k None
not_out xs ps now k h is each =
    let none = absent_told xs ps k h (sym is) in
    record {
      found = sym none;
      indexed = indexed_absent xs ps now k h (sym is) each;
      told = λ q. by q none (same_key k q) refl;
    }
  where
    by : (q : ViewKey) → at_key live_key k xs ≡ None → (b : Bool) → same_key k q ≡ b → at_key live_key q xs ≡ cond b None (at_key live_key q xs)
    by q none true same = ap (λ z. at_key live_key z xs) (sym (same_key_is_equal k q same)) ∙ none
    by q none false same = refl

pub ruleset indexes = (indexed_none, absent_index, place_told, pick_told, pick_none)
