-- Sets of keys as ascending lists: what is among them, that they ascend, and that their members determine them.
use Rattle.std.proofs.Common.{◌≡◌, Bool, true, false, ◌||◌, List, [], ◌∷◌, map, All, Less, Equal, Greater, refl, sym, ap, ◌∙◌, subst}
use Rattle.std.proofs.lemmas.Bool.{or_left, or_right, or_from, or_parts}
use Rattle.std.proofs.lemmas.List.Elements.{All-nil, All-cons, All-head, All-tail, All-weaker, All-from_recursion}
use Rattle.std.proofs.lemmas.Map.Keys.{sorted_head, sorted_tail}
use Rattle.std.specs.List.{AllByRecursion}
use Rattle.std.specs.List.Sorted.{IsStrictlySortedBy}
use Rattle.std.specs.Map.{keys_of}
use Rattle.std.specs.Ordering.{is_eq, is_lt, match_ordering, ordering_reverse}
use Rattle.std.specs.declared.cmp.Ordering.{Ordering}
use Rattle.view_types.specs.Keys.{key_order, same_key}
use Rattle.view_types.specs.declared.key.ViewKey.{ViewKey}
use Rattle.delta_core.specs.DirtySets.{with_touched, joined}
use Rattle.delta_core.specs.KeySets.{with_key, with_keys, is_among}
use Rattle.delta_core.specs.Laws.{Ascends, IsOneWay}
use Rattle.delta_core.specs.declared.touched.Touch.{Touch}
use Rattle.view_types.proofs.KeyOrder.{exact, total, same_key_is_equal, same_key_itself}
use Rattle.delta_core.proofs.Rests.{same_ascending}

-- ---- members

pub or_comm : (a b : Bool) → (a || b) ≡ (b || a)
or_comm true true = refl
or_comm true false = refl
or_comm false true = refl
or_comm false false = refl

pub or_assoc : (a b c : Bool) → ((a || b) || c) ≡ (a || (b || c))
or_assoc true b c = refl
or_assoc false b c = refl

pub or_again : (a b : Bool) → (a || b) ≡ ((a || b) || a)
or_again true b = refl
or_again false true = refl
or_again false false = refl

among_step : (x k q : ViewKey) (xs : List ViewKey) (o : Ordering) → key_order k x ≡ o → is_among (with_key xs k) q ≡ (is_among xs q || same_key q k)
    → is_among (match_ordering o (k ∷ x ∷ xs) (x ∷ xs) (x ∷ with_key xs k)) q ≡ (is_among (x ∷ xs) q || same_key q k)
among_step x k q xs Less is later = or_comm (same_key q k) (is_among (x ∷ xs) q)
among_step x k q xs Equal is later =
    or_again (same_key q x) (is_among xs q) ∙ ap (λ j. is_among (x ∷ xs) q || same_key q j) (sym (exact k x is))
among_step x k q xs Greater is later = ap (λ b. same_key q x || b) later ∙ sym (or_assoc (same_key q x) (is_among xs q) (same_key q k))

pub is_among-with_key : (xs : List ViewKey) (k q : ViewKey) → is_among (with_key xs k) q ≡ (is_among xs q || same_key q k)
is_among-with_key [] k q = or_comm (same_key q k) false
is_among-with_key (x ∷ xs) k q = among_step x k q xs (key_order k x) refl (is_among-with_key xs k q)

-- a key is among a union where it is among either part
pub is_among-with_keys : (ks more : List ViewKey) (q : ViewKey) → is_among (with_keys ks more) q ≡ (is_among ks q || is_among more q)
is_among-with_keys ks [] q = or_comm false (is_among ks q)
is_among-with_keys ks (k ∷ more) q =
    is_among-with_keys (with_key ks k) more q ∙ ap (λ b. b || is_among more q) (is_among-with_key ks k q)
    ∙ or_assoc (is_among ks q) (same_key q k) (is_among more q)

-- ---- sets ascend

all_step : (P : ViewKey → Type 0) (x k : ViewKey) (xs : List ViewKey) (o : Ordering) → P k → AllByRecursion P (x ∷ xs) → AllByRecursion P (with_key xs k)
    → AllByRecursion P (match_ordering o (k ∷ x ∷ xs) (x ∷ xs) (x ∷ with_key xs k))
all_step P x k xs Less here all later = (here, all)
all_step P x k xs Equal here all later = all
all_step P x k xs Greater here all later = (all.0, later)

all_with_key : (P : ViewKey → Type 0) (xs : List ViewKey) (k : ViewKey) → P k → AllByRecursion P xs → AllByRecursion P (with_key xs k)
all_with_key P [] k here all = (here, tt)
all_with_key P (x ∷ xs) k here all = all_step P x k xs (key_order k x) here all (all_with_key P xs k here all.1)

all_behind : (k x : ViewKey) (xs : List ViewKey) → key_order k x ≡ Less → AllByRecursion (λ y. key_order x y ≡ Less) xs → AllByRecursion (λ y. key_order k y ≡ Less) xs
all_behind k x [] less all = tt
all_behind k x (y ∷ ys) less all = (total.trans k x y less all.0, all_behind k x ys less all.1)

sorted_step : (x k : ViewKey) (xs : List ViewKey) (o : Ordering) → key_order k x ≡ o → IsStrictlySortedBy key_order (x ∷ xs) → IsStrictlySortedBy key_order (with_key xs k)
    → IsStrictlySortedBy key_order (match_ordering o (k ∷ x ∷ xs) (x ∷ xs) (x ∷ with_key xs k))
unfolding IsStrictlySortedBy
sorted_step x k xs Less is up later = ((is, all_behind k x xs is up.0), up)
sorted_step x k xs Equal is up later = up
sorted_step x k xs Greater is up later = (all_with_key (λ y. key_order x y ≡ Less) xs k (total.antisymm x k ∙ ap ordering_reverse is) up.0, later)

pub with_key-ascends : (xs : List ViewKey) (k : ViewKey) → IsStrictlySortedBy key_order xs → IsStrictlySortedBy key_order (with_key xs k)
unfolding IsStrictlySortedBy
with_key-ascends [] k up = (tt, tt)
with_key-ascends (x ∷ xs) k up = sorted_step x k xs (key_order k x) refl up (with_key-ascends xs k up.1)

-- a union of an ascending set and any keys ascends
pub with_keys-ascends : (ks more : List ViewKey) → IsStrictlySortedBy key_order ks → IsStrictlySortedBy key_order (with_keys ks more)
with_keys-ascends ks [] up = up
with_keys-ascends ks (k ∷ more) up = with_keys-ascends (with_key ks k) more (with_key-ascends ks k up)

pub no_keys_ascend : IsStrictlySortedBy key_order []
unfolding IsStrictlySortedBy
no_keys_ascend = tt

-- a union that begins with nothing ascends
pub unions_ascend : (more : List ViewKey) → IsStrictlySortedBy key_order (with_keys [] more)
unions_ascend more = with_keys-ascends [] more no_keys_ascend

-- ---- the members of a set determine it

abbrev is_before : ViewKey → ViewKey → Bool
is_before a b = is_lt (key_order a b)

one_way : IsOneWay is_before
one_way a b h = at_side (key_order a b) refl h
  where
    at_side : (o : Ordering) → key_order a b ≡ o → is_lt o ≡ true → is_lt (key_order b a) ≡ false
    at_side Less is h = ap is_lt (total.antisymm b a ∙ ap ordering_reverse is)
    at_side Equal is h = absurd (let wrong : false ≡ true = h in cc)
    at_side Greater is h = absurd (let wrong : false ≡ true = h in cc)

ascends : (ks : List ViewKey) → IsStrictlySortedBy key_order ks → Ascends is_before ks
unfolding IsStrictlySortedBy
ascends [] up = tt
ascends (k ∷ ks) up =
    (All-weaker (λ y. key_order k y ≡ Less) (λ y. is_before k y ≡ true) (λ y less. ap is_lt less) ks (All-from_recursion (λ y. key_order k y ≡ Less) ks up.0), ascends ks up.1)

-- what holds of all in a list holds of what is among it
pub holds_among : (P : ViewKey → Type 0) (ks : List ViewKey) (q : ViewKey) → is_among ks q ≡ true → All P ks → P q
holds_among P [] q in_it all = absurd (let wrong : false ≡ true = in_it in cc)
holds_among P (k ∷ ks) q in_it all = at_side (same_key q k) refl in_it (λ later. holds_among P ks q later (All-tail P k ks all))
  where
    at_side : (b : Bool) → same_key q k ≡ b → (b || is_among ks q) ≡ true → (is_among ks q ≡ true → P q) → P q
    at_side true is h more = subst P (sym (same_key_is_equal q k is)) (All-head P k ks all)
    at_side false is h more = more h

pub all_among : (ks : List ViewKey) → All (λ k. is_among ks k ≡ true) ks
all_among [] = All-nil (λ k. is_among [] k ≡ true)
all_among (k ∷ ks) =
    All-cons (λ q. is_among (k ∷ ks) q ≡ true) k ks (or_left (same_key k k) (is_among ks k) (same_key_itself k))
    (All-weaker (λ q. is_among ks q ≡ true) (λ q. is_among (k ∷ ks) q ≡ true) (λ q h. or_right (same_key q k) (is_among ks q) h) ks (all_among ks))

same_in : (P : ViewKey → Type 0) (ks others : List ViewKey) → ((q : ViewKey) → is_among ks q ≡ is_among others q) → All P ks → All P others
same_in P ks others same all = All-weaker (λ q. is_among others q ≡ true) P (λ q h. holds_among P ks q (same q ∙ h) all) others (all_among others)

-- two ascending lists with the same members are one
pub same_members : (ks others : List ViewKey) → IsStrictlySortedBy key_order ks → IsStrictlySortedBy key_order others → ((q : ViewKey) → is_among ks q ≡ is_among others q) → ks ≡ others
same_members ks others up down same =
    same_ascending is_before one_way ks others (ascends ks up) (ascends others down) (λ P. same_in P ks others same) (λ P. same_in P others ks (λ q. sym (same q)))

-- ---- keys beside what is known of them

-- each key beside what f says of it
abbrev pub beside : (ViewKey → Bool) → List ViewKey → List (ViewKey × Touch)
beside f ks = map (λ k. (k, record { was_shown = f k })) ks

pub keys_of-beside : (f : ViewKey → Bool) (ks : List ViewKey) → keys_of (beside f ks) ≡ ks
keys_of-beside f [] = refl
keys_of-beside f (k ∷ ks) = ap (λ later. k ∷ later) (keys_of-beside f ks)

pub All-beside : (f : ViewKey → Bool) (ks : List ViewKey) → All (λ (e : ViewKey × Touch). e.1.was_shown ≡ f e.0) (beside f ks)
All-beside f [] = All-nil (λ (e : ViewKey × Touch). e.1.was_shown ≡ f e.0)
All-beside f (k ∷ ks) = All-cons (λ (e : ViewKey × Touch). e.1.was_shown ≡ f e.0) (k, record { was_shown = f k }) (beside f ks) refl (All-beside f ks)

not_among : (k : ViewKey) (xs : List ViewKey) → AllByRecursion (λ y. key_order k y ≡ Less) xs → is_among xs k ≡ false
not_among k [] all = refl
not_among k (x ∷ xs) all = or_from (same_key k x) (is_among xs k) (ap is_eq all.0) (not_among k xs all.1)

beside_step : (f g : ViewKey → Bool) (x k : ViewKey) (xs : List ViewKey) (o : Ordering) → key_order k x ≡ o → IsStrictlySortedBy key_order (x ∷ xs)
    → (is_among (x ∷ xs) k ≡ false → f k ≡ g k)
    → ((is_among xs k ≡ false → f k ≡ g k) → beside f (with_key xs k) ≡ with_touched (beside f xs) (k, record { was_shown = g k }))
    → beside f (match_ordering o (k ∷ x ∷ xs) (x ∷ xs) (x ∷ with_key xs k))
    ≡ match_ordering o ((k, record { was_shown = g k }) ∷ beside f (x ∷ xs)) (beside f (x ∷ xs)) ((x, record { was_shown = f x }) ∷ with_touched (beside f xs) (k, record { was_shown = g k }))
beside_step f g x k xs Less is up same later =
    let behind = all_behind k x xs is (sorted_head key_order x xs up) in
    let other : is_among (x ∷ xs) k ≡ false = or_from (same_key k x) (is_among xs k) (ap is_eq is) (not_among k xs behind) in
    ap (λ b. (k, record { was_shown = b }) ∷ beside f (x ∷ xs)) (same other)
beside_step f g x k xs Equal is up same later = refl
beside_step f g x k xs Greater is up same later =
    ap (λ es. (x, record { was_shown = f x }) ∷ es) (later (λ off. same (or_from (same_key k x) (is_among xs k) (ap is_eq is) off)))

-- a key more, of which g says what f says unless it is there
pub beside-with_key : (f g : ViewKey → Bool) (ks : List ViewKey) (k : ViewKey) → IsStrictlySortedBy key_order ks → (is_among ks k ≡ false → f k ≡ g k)
    → beside f (with_key ks k) ≡ with_touched (beside f ks) (k, record { was_shown = g k })
beside-with_key f g [] k up same = ap (λ b. (k, record { was_shown = b }) ∷ []) (same refl)
beside-with_key f g (x ∷ xs) k up same =
    beside_step f g x k xs (key_order k x) refl up same (beside-with_key f g xs k (sorted_tail key_order x xs up))

-- the union of an ascending set and more keys, each beside what f says of it, is joined of the two, where g says
-- what f says of each further key that the set doesn't have
pub beside-with_keys : (f g : ViewKey → Bool) (ks more : List ViewKey) → IsStrictlySortedBy key_order ks
    → ((k : ViewKey) → is_among more k ≡ true → is_among ks k ≡ false → f k ≡ g k) → beside f (with_keys ks more) ≡ joined (beside f ks) (beside g more)
beside-with_keys f g ks [] up same = refl
beside-with_keys f g ks (k ∷ more) up same =
    beside-with_keys f g (with_key ks k) more (with_key-ascends ks k up)
    (λ q further off. same q (or_right (same_key q k) (is_among more q) further) (or_parts (is_among ks q) (same_key q k) (sym (is_among-with_key ks k q) ∙ off)).0)
    ∙ ap (λ es. joined es (beside g more)) (beside-with_key f g ks k up (same k (or_left (same_key k k) (is_among more k) (same_key_itself k))))
