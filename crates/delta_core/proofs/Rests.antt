-- Two lists that ascend by one order and agree off a set of keys, and why folding a delta restores what is shown.
use Rattle.std.proofs.Common.{◌≡◌, ◌≢◌, ◌⊎◌, inl, inr, ℕ, ◌+◌, Bool, true, false, not, ◌&&◌, ◌||◌, cond, nat_lt, List, [], ◌∷◌, ◌++◌, length, get_or, drop, map, filter, find, fold, All, Some, None, unwrap_or, refl, sym, ap, ◌∙◌, subst, arith}
use Rattle.std.proofs.lemmas.Bool.{and_parts, or_left, or_right, and_left, and_right, both_ways, le-ltb, eq-eqb}
use Rattle.std.proofs.lemmas.List.{append_assoc, take_at, drop_at, length-append}
use Rattle.std.proofs.lemmas.List.Elements.{All-nil, All-cons, All-head, All-tail, All-weaker}
use Rattle.std.proofs.lemmas.Option.{same_Some}
use Rattle.std.specs.Map.{keys_of}
use Rattle.plain_data.specs.Distinct.{AreDistinct}
use Rattle.view_types.specs.Keys.{same_key}
use Rattle.view_types.specs.declared.key.ViewKey.{ViewKey}
use Rattle.view_types.specs.declared.shown.HeaderColumn.{HeaderColumn}
use Rattle.view_types.specs.declared.shown.Shown.{Shown}
use Rattle.view_types.specs.declared.shown.ShownRow.{ShownRow}
use Rattle.delta_core.specs.Deltas.{delta_of, removed_keys, puts_from, sent}
use Rattle.delta_core.specs.Folding.{drops, keys_put, past_end, put_in, is_same_mark}
use Rattle.delta_core.specs.KeySets.{is_among}
use Rattle.delta_core.specs.Laws.{Agree, Ascends, DeltasRestore, FoldsTo, IsOneWay, RestsAreEqual, key_in, rest, row_in}
use Rattle.delta_core.specs.Rows.{at_key, has_row}
use Rattle.delta_core.specs.declared.delta.Mark.{Mark}
use Rattle.delta_core.specs.declared.delta.Put.{Put}
use Rattle.delta_core.specs.declared.touched.Touch.{Touch}
use Rattle.view_types.proofs.KeyOrder.{same_key_is_equal, same_key_itself, same_key-other, same_key-symm}

-- ---- parts of a list

All-filter : {X : Type 0} (P : X → Type 0) (p : X → Bool) (xs : List X) → All P xs → All P (filter p xs)
All-filter P p [] all = all
All-filter P p (x ∷ xs) all = at_side (p x) (All-filter P p xs (All-tail P x xs all))
  where
    at_side : (b : Bool) → All P (filter p xs) → All P (cond b (x ∷ filter p xs) (filter p xs))
    at_side true later = All-cons P x (filter p xs) (All-head P x xs all) later
    at_side false later = later

pub Ascends-filter : {X : Type 0} (before : X → X → Bool) (p : X → Bool) (xs : List X) → Ascends before xs → Ascends before (filter p xs)
Ascends-filter before p [] up = up
Ascends-filter before p (x ∷ xs) up = at_side (p x) (Ascends-filter before p xs up.1)
  where
    at_side : (b : Bool) → Ascends before (filter p xs) → Ascends before (cond b (x ∷ filter p xs) (filter p xs))
    at_side true later = (All-filter (λ y. before x y ≡ true) p xs up.0, later)
    at_side false later = later

-- ---- what ascends is determined by its items

module _ {X : Type 0} (before : X → X → Bool) where
  -- y is x, or x stands before y
  place_in : (x : X) (xs : List X) → Ascends before (x ∷ xs) → All (λ z. (x ≡ z) ⊎ (before x z ≡ true)) (x ∷ xs)
  place_in x xs up =
      All-cons (λ z. (x ≡ z) ⊎ (before x z ≡ true)) x xs (inl refl)
      (All-weaker (λ z. before x z ≡ true) (λ z. (x ≡ z) ⊎ (before x z ≡ true)) (λ z less. inr less) xs up.0)

  same_first : IsOneWay before → (x y : X) → (x ≡ y) ⊎ (before x y ≡ true) → (y ≡ x) ⊎ (before y x ≡ true) → x ≡ y
  same_first one_way x y (inl same) other = same
  same_first one_way x y (inr less) (inl same) = sym same
  same_first one_way x y (inr less) (inr more) = absurd (both_ways (before y x) (one_way x y less) more)

  -- what holds of all behind x holds of all behind the same first item of the other list
  behind : IsOneWay before → (x y : X) (xs ys : List X) → x ≡ y → Ascends before (y ∷ ys)
      → ((P : X → Type 0) → All P (x ∷ xs) → All P (y ∷ ys)) → (P : X → Type 0) → All P xs → All P ys
  behind one_way x y xs ys same up there P h =
      let Q : X → Type 0 = λ z. before x z ≡ true → P z in
      let first : before x x ≡ true → P x = λ less. absurd (both_ways (before x x) (one_way x x less) less) in
      let held = there Q (All-cons Q x xs first (All-weaker P Q (λ z p less. p) xs h)) in
      λ k d l. All-tail Q y ys held k d l (subst (λ w. before w (get_or ys k d) ≡ true) (sym same) (up.0 k d l))

  -- two lists that ascend by one order, and have the same items, are one
  pub same_ascending : IsOneWay before → (xs ys : List X) → Ascends before xs → Ascends before ys
      → ((P : X → Type 0) → All P xs → All P ys) → ((P : X → Type 0) → All P ys → All P xs) → xs ≡ ys
  same_ascending one_way [] [] up down there back = refl
  same_ascending one_way [] (y ∷ ys) up down there back = absurd (All-head (λ z. ⊥) y ys (there (λ z. ⊥) (All-nil (λ z. ⊥))))
  same_ascending one_way (x ∷ xs) [] up down there back = absurd (All-head (λ z. ⊥) x xs (back (λ z. ⊥) (All-nil (λ z. ⊥))))
  same_ascending one_way (x ∷ xs) (y ∷ ys) up down there back =
      let same : x ≡ y =
      same_first one_way x y (All-head (λ z. (x ≡ z) ⊎ (before x z ≡ true)) y ys (there (λ z. (x ≡ z) ⊎ (before x z ≡ true)) (place_in x xs up)))
      (All-head (λ z. (y ≡ z) ⊎ (before y z ≡ true)) x xs (back (λ z. (y ≡ z) ⊎ (before y z ≡ true)) (place_in y ys down))) in
      let later : xs ≡ ys =
      same_ascending one_way xs ys up.1 down.1 (behind one_way x y xs ys same down there) (behind one_way y x ys xs (sym same) up back) in
      cc

-- ---- the rests of two lists that agree off a set of keys

module _ {X : Type 0} (key_of : X → ViewKey) where
  -- under a key that no item has nothing stands
  at_no_key : (k : ViewKey) (xs : List X) → All (λ j. j ≢ k) (map key_of xs) → at_key key_of k xs ≡ None
  at_no_key k [] others = refl
  at_no_key k (x ∷ xs) others =
      let here = same_key-other (key_of x) k (All-head (λ j. j ≢ k) (key_of x) (map key_of xs) others) in
      rw here (at_no_key k xs (All-tail (λ j. j ≢ k) (key_of x) (map key_of xs) others))

  -- what holds of the rest holds of what stands under a key outside the set
  at_rest : (P : X → Type 0) (keys : List ViewKey) (k : ViewKey) (x : X) (xs : List X) → is_among keys k ≡ false → at_key key_of k xs ≡ Some x
      → All P (rest key_of keys xs) → P x
  at_rest P keys k x [] off found all = absurd (let wrong : None ≡ Some x = found in cc)
  at_rest P keys k x (y ∷ ys) off found all = at_side (same_key (key_of y) k) refl found (at_rest P keys k x ys off)
    where
      later : (b : Bool) → All P (cond (not b) (y ∷ rest key_of keys ys) (rest key_of keys ys)) → All P (rest key_of keys ys)
      later true all = all
      later false all = All-tail P y (rest key_of keys ys) all

      at_side : (b : Bool) → same_key (key_of y) k ≡ b → cond b (Some y) (at_key key_of k ys) ≡ Some x
          → (at_key key_of k ys ≡ Some x → All P (rest key_of keys ys) → P x) → P x
      at_side true is here more =
          let off_too : is_among keys (key_of y) ≡ false = ap (is_among keys) (same_key_is_equal (key_of y) k is) ∙ off in
          let kept : All P (y ∷ rest key_of keys ys) = subst (λ b. All P (cond (not b) (y ∷ rest key_of keys ys) (rest key_of keys ys))) off_too all in
          subst P (same_Some y x here) (All-head P y (rest key_of keys ys) kept)
      at_side false is there more = more there (later (is_among keys (key_of y)) all)

  -- what holds of what stands under each key outside the set holds of the rest
  all_rest : (P : X → Type 0) (keys : List ViewKey) (xs : List X) → AreDistinct (map key_of xs)
      → ((k : ViewKey) (x : X) → is_among keys k ≡ false → at_key key_of k xs ≡ Some x → P x) → All P (rest key_of keys xs)
  all_rest P keys [] distinct each = All-nil P
  all_rest P keys (x ∷ xs) distinct each = at_side (is_among keys (key_of x)) refl (all_rest P keys xs distinct.1 each_later)
    where
      found_here : at_key key_of (key_of x) (x ∷ xs) ≡ Some x
      found_here = let same = same_key_itself (key_of x) in rw same refl

      each_later : (k : ViewKey) (y : X) → is_among keys k ≡ false → at_key key_of k xs ≡ Some y → P y
      each_later k y off found = at_test (same_key (key_of x) k) refl
        where
          at_test : (b : Bool) → same_key (key_of x) k ≡ b → P y
          at_test true is =
              let same = same_key_is_equal (key_of x) k is in
              let nothing : at_key key_of k xs ≡ None = subst (λ j. at_key key_of j xs ≡ None) same (at_no_key (key_of x) xs distinct.0) in
              absurd (let wrong : None ≡ Some y = sym nothing ∙ found in cc)
          at_test false is = each k y off (let past : at_key key_of k (x ∷ xs) ≡ at_key key_of k xs = rw is refl in past ∙ found)

      at_side : (b : Bool) → is_among keys (key_of x) ≡ b → All P (rest key_of keys xs) → All P (cond (not b) (x ∷ rest key_of keys xs) (rest key_of keys xs))
      at_side true is later = later
      at_side false is later = All-cons P x (rest key_of keys xs) (each (key_of x) x is found_here) later

  same_items : (P : X → Type 0) (keys : List ViewKey) (xs ys : List X) → AreDistinct (map key_of ys) → Agree key_of keys xs ys → All P (rest key_of keys xs) → All P (rest key_of keys ys)
  same_items P keys xs ys distinct agree all = all_rest P keys ys distinct (λ k x off found. at_rest P keys k x xs off (agree k off ∙ found) all)

  -- two lists that ascend by one order and have no key twice, and that agree outside a set of keys, have
  -- equal rests outside it
  pub same_rests : (before : X → X → Bool) (keys : List ViewKey) (xs ys : List X) → IsOneWay before → Ascends before xs → Ascends before ys
      → AreDistinct (map key_of xs) → AreDistinct (map key_of ys) → Agree key_of keys xs ys → rest key_of keys xs ≡ rest key_of keys ys
  same_rests before keys xs ys one_way up down distinct distinct_too agree =
      same_ascending before one_way (rest key_of keys xs) (rest key_of keys ys)
      (Ascends-filter before (λ x. not (is_among keys (key_of x))) xs up) (Ascends-filter before (λ x. not (is_among keys (key_of x))) ys down)
      (λ P. same_items P keys xs ys distinct_too agree) (λ P. same_items P keys ys xs distinct (λ k off. sym (agree k off)))

-- ---- a list by its puts

abbrev pub key_of_row : ShownRow → ViewKey
key_of_row r = r.key

-- what is left of rows outside a set of keys
abbrev pub left : List ViewKey → List ShownRow → List ShownRow
left keys rows = rest key_of_row keys rows

-- a row put behind what stands before it
put_behind : (before after : List ShownRow) (r : ShownRow) → put_in (before ++ after) (record { position = length before; row = r }) ≡ (before ++ r ∷ []) ++ after
put_behind before after r =
    ap (λ rows. rows ++ r ∷ drop (length before) (before ++ after)) (take_at before after (length before) refl)
    ∙ ap (λ rows. before ++ r ∷ rows) (drop_at before after (length before) refl)
    ∙ sym (append_assoc before (r ∷ []) after)

not_past : (before after : List ShownRow) → nat_lt (length (before ++ after)) (length before) ≡ false
not_past before after = le-ltb (length (before ++ after)) (length before) (omega (arith, length-append before after))

-- the puts at these places make of what is left the rows
abbrev pub Restores : List ShownRow → List ShownRow → List Put → List ShownRow → Type 0
Restores before rest puts rows = (past_end (before ++ rest) puts ≡ None) × (fold put_in (before ++ rest) puts ≡ before ++ rows)

restores_step : (before others rows : List ShownRow) (puts : List Put) (r : ShownRow) (b : Bool) → Restores (before ++ r ∷ []) others puts rows
    → Restores before (cond (not b) (r ∷ others) others) (cond b (record { position = length before; row = r } ∷ puts) puts) (r ∷ rows)
restores_step before others rows puts r true more =
    let at_place = put_behind before others r in
    let within = not_past before others in
    (rw within (ap (λ held. past_end held puts) at_place ∙ more.0), ap (λ held. fold put_in held puts) at_place ∙ more.1 ∙ append_assoc before (r ∷ []) rows)
restores_step before others rows puts r false more =
    let joined = append_assoc before (r ∷ []) others in
    (ap (λ held. past_end held puts) (sym joined) ∙ more.0, ap (λ held. fold put_in held puts) (sym joined) ∙ more.1 ∙ append_assoc before (r ∷ []) rows)

pub puts_restore : (keys : List ViewKey) (before rows : List ShownRow) → Restores before (left keys rows) (puts_from keys (length before) rows) rows
puts_restore keys before [] = (refl, refl)
puts_restore keys before (r ∷ rows) =
    let more = puts_restore keys (before ++ r ∷ []) rows in
    let one_more : length (before ++ r ∷ []) ≡ length before + 1 = length-append before (r ∷ []) in
    restores_step before (left keys rows) rows (puts_from keys (length before + 1) rows) r (is_among keys r.key)
    (subst (λ n. Restores (before ++ r ∷ []) (left keys rows) (puts_from keys n rows) rows) one_more more)

-- ---- which keys a delta drops

abbrev pub Flagged : Type 0
Flagged = ViewKey × Touch

-- the key was shown and is not shown now
abbrev is_gone : List ShownRow → Flagged → Bool
is_gone now e = e.1.was_shown && not (has_row e.0 now)

removes_step : (now : List ShownRow) (k : ViewKey) (e : Flagged) (gone keys : List Flagged) (same b : Bool) → same_key k e.0 ≡ same → is_gone now e ≡ b
    → (k ≡ e.0 → e.1.was_shown ≡ true) → is_among (keys_of gone) k ≡ (is_among (keys_of keys) k && not (has_row k now))
    → is_among (keys_of (cond b (e ∷ gone) gone)) k ≡ ((same || is_among (keys_of keys) k) && not (has_row k now))
removes_step now k e gone keys false true is test flag later = rw is later
removes_step now k e gone keys false false is test flag later = later
removes_step now k e gone keys true true is test flag later =
    let same = same_key_is_equal k e.0 is in
    let other : not (has_row e.0 now) ≡ true = (and_parts e.1.was_shown (not (has_row e.0 now)) test).1 in
    rw is (sym other ∙ ap (λ j. not (has_row j now)) (sym same))
removes_step now k e gone keys true false is test flag later =
    let same = same_key_is_equal k e.0 is in
    let other : not (has_row k now) ≡ false = ap (λ j. not (has_row j now)) same ∙ ap (λ b. b && not (has_row e.0 now)) (sym (flag same)) ∙ test in
    later ∙ and_right (is_among (keys_of keys) k) (not (has_row k now)) other ∙ sym other

-- a shown key is removed where it was touched and is shown no longer
removes : (was now : List ShownRow) (k : ViewKey) → has_row k was ≡ true → (keys : List Flagged) → All (λ (e : Flagged). e.1.was_shown ≡ has_row e.0 was) keys
    → is_among (removed_keys keys now) k ≡ (is_among (keys_of keys) k && not (has_row k now))
removes was now k shown [] marked = refl
removes was now k shown (e ∷ keys) marked =
    removes_step now k e (filter (is_gone now) keys) keys (same_key k e.0) (is_gone now e) refl refl
    (λ same. All-head (λ (e : Flagged). e.1.was_shown ≡ has_row e.0 was) e keys marked ∙ ap (λ j. has_row j was) (sym same) ∙ shown)
    (removes was now k shown keys (All-tail (λ (e : Flagged). e.1.was_shown ≡ has_row e.0 was) e keys marked))

pub has_row-step : (k : ViewKey) (r : ShownRow) (rows : List ShownRow) → has_row k (r ∷ rows) ≡ (same_key k r.key || has_row k rows)
has_row-step k r rows = at_side (same_key r.key k) refl
  where
    at_side : (b : Bool) → same_key r.key k ≡ b → has_row k (r ∷ rows) ≡ (same_key k r.key || has_row k rows)
    at_side true is = let back = same_key-symm k r.key ∙ is in rw (is, back) refl
    at_side false is = let back = same_key-symm k r.key ∙ is in rw (is, back) refl

puts_step : (keys : List ViewKey) (k : ViewKey) (p : Put) (puts : List Put) (h same b : Bool) → same_key k p.row.key ≡ same → is_among keys p.row.key ≡ b
    → is_among (keys_put puts) k ≡ (is_among keys k && h)
    → is_among (keys_put (cond b (p ∷ puts) puts)) k ≡ (is_among keys k && (same || h))
puts_step keys k p puts h true true is among later =
    let touched : is_among keys k ≡ true = ap (is_among keys) (same_key_is_equal k p.row.key is) ∙ among in
    rw (is, touched) refl
puts_step keys k p puts h true false is among later =
    let other : is_among keys k ≡ false = ap (is_among keys) (same_key_is_equal k p.row.key is) ∙ among in
    later ∙ and_left (is_among keys k) h other ∙ sym (and_left (is_among keys k) true other)
puts_step keys k p puts h false true is among later = rw is later
puts_step keys k p puts h false false is among later = later

-- a key is put where it was touched and is shown
puts_are : (keys : List ViewKey) (k : ViewKey) (n : ℕ) (rows : List ShownRow) → is_among (keys_put (puts_from keys n rows)) k ≡ (is_among keys k && has_row k rows)
puts_are keys k n [] = sym (and_right (is_among keys k) false refl)
puts_are keys k n (r ∷ rows) =
    puts_step keys k (record { position = n; row = r }) (puts_from keys (n + 1) rows) (has_row k rows) (same_key k r.key) (is_among keys r.key) refl refl
    (puts_are keys k (n + 1) rows)
    ∙ ap (λ b. is_among keys k && b) (sym (has_row-step k r rows))

either_way : (a h : Bool) → ((a && not h) || (a && h)) ≡ a
either_way true true = refl
either_way true false = refl
either_way false h = refl

-- a shown key is dropped where it was touched
drops_touched : (keys : List Flagged) (header : Bool) (was : List ShownRow) (now : Shown) (start end : Mark) (k : ViewKey) → has_row k was ≡ true
    → All (λ (e : Flagged). e.1.was_shown ≡ has_row e.0 was) keys → drops (delta_of keys header now start end) k ≡ is_among (keys_of keys) k
drops_touched keys header was now start end k shown marked =
    let removed = removes was now.rows k shown keys marked in
    let put = puts_are (keys_of keys) k 0 now.rows in
    rw (removed, put) (either_way (is_among (keys_of keys) k) (has_row k now.rows))

filter_step : {X : Type 0} (x : X) (xs ys : List X) (b c : Bool) → b ≡ c → xs ≡ ys → cond b (x ∷ xs) xs ≡ cond c (x ∷ ys) ys
filter_step x xs ys b c same later = cc

filters_agree : {X : Type 0} (p q : X → Bool) (xs : List X) → All (λ x. p x ≡ q x) xs → filter p xs ≡ filter q xs
filters_agree p q [] same = refl
filters_agree p q (x ∷ xs) same =
    filter_step x (filter p xs) (filter q xs) (p x) (q x) (All-head (λ x. p x ≡ q x) x xs same) (filters_agree p q xs (All-tail (λ x. p x ≡ q x) x xs same))

all_shown : (rows : List ShownRow) → All (λ (r : ShownRow). has_row r.key rows ≡ true) rows
all_shown [] = All-nil (λ (r : ShownRow). has_row r.key [] ≡ true)
all_shown (r ∷ rows) =
    All-cons (λ (q : ShownRow). has_row q.key (r ∷ rows) ≡ true) r rows
    (has_row-step r.key r rows ∙ or_left (same_key r.key r.key) (has_row r.key rows) (same_key_itself r.key))
    (All-weaker (λ (q : ShownRow). has_row q.key rows ≡ true) (λ (q : ShownRow). has_row q.key (r ∷ rows) ≡ true)
    (λ q shown. has_row-step q.key r rows ∙ or_right (same_key q.key r.key) (has_row q.key rows) shown) rows (all_shown rows))

-- what a client holds after the drops is what is left outside the touched keys
left_by_drops : (keys : List Flagged) (header : Bool) (was : List ShownRow) (now : Shown) (start end : Mark) → All (λ (e : Flagged). e.1.was_shown ≡ has_row e.0 was) keys
    → filter (λ (r : ShownRow). not (drops (delta_of keys header now start end) r.key)) was ≡ left (keys_of keys) was
left_by_drops keys header was now start end marked =
    filters_agree (λ (r : ShownRow). not (drops (delta_of keys header now start end) r.key)) (λ (r : ShownRow). not (is_among (keys_of keys) r.key)) was
    (All-weaker (λ (r : ShownRow). has_row r.key was ≡ true)
    (λ (r : ShownRow). not (drops (delta_of keys header now start end) r.key) ≡ not (is_among (keys_of keys) r.key))
    (λ r shown. ap not (drops_touched keys header was now start end r.key shown marked)) was (all_shown was))

-- ---- a delta's faults

absent_step : (was : List ShownRow) (e : Flagged) (now : List ShownRow) (gone : List Flagged) (b : Bool) → is_gone now e ≡ b → e.1.was_shown ≡ has_row e.0 was
    → find (λ k. not (has_row k was)) (keys_of gone) ≡ None → find (λ k. not (has_row k was)) (keys_of (cond b (e ∷ gone) gone)) ≡ None
absent_step was e now gone true test marked later =
    let shown : has_row e.0 was ≡ true = sym marked ∙ (and_parts e.1.was_shown (not (has_row e.0 now)) test).0 in
    rw shown later
absent_step was e now gone false test marked later = later

-- each removed key was shown
none_absent : (was now : List ShownRow) (keys : List Flagged) → All (λ (e : Flagged). e.1.was_shown ≡ has_row e.0 was) keys → find (λ k. not (has_row k was)) (removed_keys keys now) ≡ None
none_absent was now [] marked = refl
none_absent was now (e ∷ keys) marked =
    absent_step was e now (filter (is_gone now) keys) (is_gone now e) refl (All-head (λ (e : Flagged). e.1.was_shown ≡ has_row e.0 was) e keys marked)
    (none_absent was now keys (All-tail (λ (e : Flagged). e.1.was_shown ≡ has_row e.0 was) e keys marked))

same_mark : (m : Mark) → is_same_mark m m ≡ true
same_mark m = let versions = eq-eqb m.version m.version refl in let edits = eq-eqb m.edit m.edit refl in rw (versions, edits) refl

header_sent : (header : Bool) (was now : List HeaderColumn) → (header ≡ false → was ≡ now) → unwrap_or (sent header now) was ≡ now
header_sent true was now same = refl
header_sent false was now same = same refl

-- ---- folding

pub rests_fold : (keys : List Flagged) (header : Bool) (was now : Shown) (start end : Mark) → left (keys_of keys) was.rows ≡ left (keys_of keys) now.rows
    → All (λ (e : Flagged). e.1.was_shown ≡ has_row e.0 was.rows) keys → (header ≡ false → was.header ≡ now.header) → FoldsTo keys header was now start end
rests_fold keys header was now start end same marked headers =
    let dropped = left_by_drops keys header was.rows now start end marked ∙ same in
    let restored = puts_restore (keys_of keys) [] now.rows in
    let begins = same_mark start in
    let shown = none_absent was.rows now.rows keys marked in
    let sent_is = header_sent header was.header now.header headers in
    let puts = puts_from (keys_of keys) 0 now.rows in
    let faultless : past_end (filter (λ (r : ShownRow). not (drops (delta_of keys header now start end) r.key)) was.rows) puts ≡ None =
    ap (λ held. past_end held puts) dropped ∙ restored.0 in
    let rows = ap (λ held. fold put_in held puts) dropped ∙ restored.1 in
    (rw (begins, shown) faultless, λ i. record { shown = record { header = sent_is i; rows = rows i }; mark = end })

-- ---- the laws of deltas

module _ {X : Type 0} (key_of : X → ViewKey) (row_of : X → ShownRow) (is_key : (x : X) → key_of x ≡ (row_of x).key) where
  left_step : (keys : List ViewKey) (x : X) (xs : List X) (rows : List ShownRow) (b c : Bool) → b ≡ c → map row_of xs ≡ rows
      → map row_of (cond b (x ∷ xs) xs) ≡ cond c (row_of x ∷ rows) rows
  left_step keys x xs rows true c same later = subst (λ c. map row_of (x ∷ xs) ≡ cond c (row_of x ∷ rows) rows) same (ap (λ rows. row_of x ∷ rows) later)
  left_step keys x xs rows false c same later = subst (λ c. map row_of xs ≡ cond c (row_of x ∷ rows) rows) same later

  pub rows_left : (keys : List ViewKey) (xs : List X) → map row_of (rest key_of keys xs) ≡ left keys (map row_of xs)
  rows_left keys [] = refl
  rows_left keys (x ∷ xs) =
      left_step keys x (rest key_of keys xs) (left keys (map row_of xs)) (not (is_among keys (key_of x))) (not (is_among keys (row_of x).key))
      (ap (λ k. not (is_among keys k)) (is_key x)) (rows_left keys xs)

  -- of two lists that ascend by one order, have no key twice and agree outside the touched keys, folding the
  -- delta into the rows of the first gives the rows of the second
  pub fold_restores : (before : X → X → Bool) (keys : List Flagged) (header : Bool) (was now : List HeaderColumn) (xs ys : List X) (start end : Mark)
      → IsOneWay before → Ascends before xs → Ascends before ys → AreDistinct (map key_of xs) → AreDistinct (map key_of ys) → Agree key_of (keys_of keys) xs ys
      → All (λ (e : Flagged). e.1.was_shown ≡ has_row e.0 (map row_of xs)) keys → (header ≡ false → was ≡ now)
      → FoldsTo keys header (record { header = was; rows = map row_of xs }) (record { header = now; rows = map row_of ys }) start end
  fold_restores before keys header was now xs ys start end one_way up down distinct distinct_too agree marked headers =
      let same = same_rests key_of before (keys_of keys) xs ys one_way up down distinct distinct_too agree in
      let left_same = sym (rows_left (keys_of keys) xs) ∙ ap (map row_of) same ∙ rows_left (keys_of keys) ys in
      rests_fold keys header (record { header = was; rows = map row_of xs }) (record { header = now; rows = map row_of ys }) start end left_same marked headers

pub rests_are_equal : (P : Type 0) → RestsAreEqual P
rests_are_equal P = same_rests (key_in {P = P})

pub deltas_restore : (P : Type 0) → DeltasRestore P
deltas_restore P before keys header head head_now was now start end update headers =
    fold_restores (key_in {P = P}) (row_in {P = P}) (λ x. refl) before keys header head head_now was now start end
    update.one_way update.first update.last update.first_keys update.last_keys update.agree update.flags headers
