-- What a fold checks by sets of keys and by counts is what its definition asks.
use Rattle.std.proofs.Common.{◌≡◌, ℕ, ◌+◌, Bool, true, false, not, ◌&&◌, ◌||◌, cond, nat_lt, List, [], ◌∷◌, length, take, drop, filter, find, All, Option, Some, None, option_map, Ordering, refl, sym, ap, ◌∙◌, true≢false, arith}
use Rattle.std.proofs.lemmas.List.{length-append, take-append-drop}
use Rattle.std.proofs.lemmas.List.Elements.{All-head, All-tail, All-weaker}
use Rattle.std.specs.BTreeMap.{is_at}
use Rattle.std.specs.BTreeSet.{insert_key}
use Rattle.std.specs.List.{list_any}
use Rattle.std.specs.Ordering.{match_ordering}
use Rattle.view_types.proofs.KeyOrder.{derived, same_key_is_equal}
use Rattle.view_types.specs.Keys.{key_order, same_key}
use Rattle.view_types.specs.contracts.key.ViewKeyOrd.TheImpl.{ghosts}
use Rattle.view_types.specs.declared.key.ViewKey.{ViewKey}
use Rattle.view_types.specs.declared.shown.ShownRow.{ShownRow}
use Rattle.delta_core.specs.Folding.{absent, drops, fold_fault, gap, is_same_mark, keys_put, past_end, put_in}
use Rattle.delta_core.specs.KeySets.{is_among, with_key, with_keys}
use Rattle.delta_core.specs.Preparing.{found_among, kept_rows, others, past_after}
use Rattle.delta_core.specs.Rows.{has_row}
use Rattle.delta_core.specs.declared.delta.Delta.{Delta}
use Rattle.delta_core.specs.declared.delta.Put.{Put}
use Rattle.delta_core.specs.declared.folding.FoldRefused.{FoldRefused}
use Rattle.delta_core.specs.declared.folding.FoldRefused.TheVariants.{Absent, Past}
use Rattle.delta_core.specs.declared.folding.Held.{Held}
use Rattle.delta_core.proofs.KeySetLemmas.{all_among, is_among-with_key, is_among-with_keys}
use Rattle.delta_core.proofs.Rests.{has_row-step}

-- ---- what the calls of a set do, by the order of keys

by_order : (ks : List ViewKey) (k : ViewKey) → insert_key key_order ks k ≡ with_key ks k
by_order [] k = refl
by_order (x ∷ xs) k = ap (λ z. match_ordering (key_order k x) (k ∷ x ∷ xs) (x ∷ xs) (x ∷ z)) (by_order xs k)

pub inserted : (ks : List ViewKey) (k : ViewKey) → insert_key ghosts.cmp ks k ≡ with_key ks k
inserted ks k = ap (λ (R : ViewKey → ViewKey → Ordering). insert_key R ks k) derived ∙ by_order ks k

pub has_by : (ks : List ViewKey) (k : ViewKey) → list_any (is_at (ghosts.cmp k)) ks ≡ is_among ks k
has_by ks k = ap (λ (R : ViewKey → ViewKey → Ordering). list_any (is_at (R k)) ks) derived

-- ---- the keys of a delta

pub dropped_are : (ks : List ViewKey) (d : Delta) → ks ≡ with_keys (with_keys [] d.removed) (keys_put d.puts) → (k : ViewKey) → is_among ks k ≡ drops d k
dropped_are ks d is k =
    ap (λ z. is_among z k) is ∙ is_among-with_keys (with_keys [] d.removed) (keys_put d.puts) k
    ∙ ap (λ b. b || is_among (keys_put d.puts) k) (is_among-with_keys [] d.removed k)

-- ---- the keys that are held

bools : (f d h same b : Bool) → (same ≡ true → d ≡ b) → (cond b (f || same) f || (d && h)) ≡ (f || (d && (same || h)))
bools true d h same true e = refl
bools true d h same false e = refl
bools false true h true true e = refl
bools false true h true false e = absurd (true≢false (e refl))
bools false false h true true e = absurd (true≢false (sym (e refl)))
bools false false h true false e = refl
bools false d h false true e = refl
bools false d h false false e = refl

found_step : (found : List ViewKey) (k q : ViewKey) (b : Bool) → is_among (cond b (with_key found q) found) k ≡ cond b (is_among found k || same_key k q) (is_among found k)
found_step found k q true = is_among-with_key found q k
found_step found k q false = refl

none_held : (f d : Bool) → f ≡ (f || (d && false))
none_held true d = refl
none_held false true = refl
none_held false false = refl

pub found_are : (ks found : List ViewKey) (rows : List ShownRow) (k : ViewKey) → is_among (found_among ks found rows) k ≡ (is_among found k || (is_among ks k && has_row k rows))
found_are ks found [] k = none_held (is_among found k) (is_among ks k)
found_are ks found (r ∷ rows) k =
    found_are ks (cond (is_among ks r.key) (with_key found r.key) found) rows k
    ∙ ap (λ b. b || (is_among ks k && has_row k rows)) (found_step found k r.key (is_among ks r.key))
    ∙ bools (is_among found k) (is_among ks k) (has_row k rows) (same_key k r.key) (is_among ks r.key) (λ same. ap (is_among ks) (same_key_is_equal k r.key same))
    ∙ ap (λ b. is_among found k || (is_among ks k && b)) (sym (has_row-step k r rows))

-- ---- the first removed key that isn't held

find_step : {X : Type 0} (x : X) (b c : Bool) (o p : Option X) → b ≡ c → o ≡ p → cond b (Some x) o ≡ cond c (Some x) p
find_step x b c o p same later = cc

finds_agree : {X : Type 0} (p q : X → Bool) (xs : List X) → All (λ x. p x ≡ q x) xs → find p xs ≡ find q xs
finds_agree p q [] same = refl
finds_agree p q (x ∷ xs) same =
    find_step x (p x) (q x) (find p xs) (find q xs) (All-head (λ x. p x ≡ q x) x xs same) (finds_agree p q xs (All-tail (λ x. p x ≡ q x) x xs same))

held_where_found : (ks : List ViewKey) (d : Delta) (rows : List ShownRow) → ((k : ViewKey) → is_among ks k ≡ drops d k) → (k : ViewKey) → is_among d.removed k ≡ true
    → not (is_among (found_among ks [] rows) k) ≡ not (has_row k rows)
held_where_found ks d rows dropped k removed =
    let in_it : is_among ks k ≡ true = dropped k ∙ ap (λ b. b || is_among (keys_put d.puts) k) removed in
    ap not (found_are ks [] rows k ∙ ap (λ b. b && has_row k rows) in_it)

pub missing_are : (ks : List ViewKey) (d : Delta) (rows : List ShownRow) → ((k : ViewKey) → is_among ks k ≡ drops d k)
    → find (λ k. not (is_among (found_among ks [] rows) k)) d.removed ≡ find (λ k. not (has_row k rows)) d.removed
missing_are ks d rows dropped =
    finds_agree (λ k. not (is_among (found_among ks [] rows) k)) (λ k. not (has_row k rows)) d.removed
    (All-weaker (λ k. is_among d.removed k ≡ true) (λ k. not (is_among (found_among ks [] rows) k) ≡ not (has_row k rows))
    (held_where_found ks d rows dropped) d.removed (all_among d.removed))

-- ---- the rows that a delta leaves

pub others_are : (ks : List ViewKey) (d : Delta) (rows : List ShownRow) → ((k : ViewKey) → is_among ks k ≡ drops d k) → others ks rows ≡ kept_rows d rows
others_are ks d rows dropped = λ i. filter (λ r. not (dropped r.key i)) rows

-- ---- the first position past the end

length-put_in : (rows : List ShownRow) (p : Put) → length (put_in rows p) ≡ length rows + 1
length-put_in rows p =
    let parts = length-append (take p.position rows) (drop p.position rows) in
    let whole = ap length (take-append-drop p.position rows) in
    let put = length-append (take p.position rows) (p.row ∷ drop p.position rows) in
    omega arith

past_step : (n : ℕ) (o : Option ℕ) (b : Bool) → option_map Past (cond b (Some n) o) ≡ cond b (Some (Past n)) (option_map Past o)
past_step n o true = refl
past_step n o false = refl

pub past_by_count : (rows : List ShownRow) (puts : List Put) → option_map Past (past_after (length rows) puts) ≡ past_end rows puts
past_by_count rows [] = refl
past_by_count rows (p ∷ puts) =
    past_step p.position (past_after (length rows + 1) puts) (nat_lt (length rows) p.position)
    ∙ ap (λ o. cond (nat_lt (length rows) p.position) (Some (Past p.position)) o)
    (ap (λ n. option_map Past (past_after n puts)) (sym (length-put_in rows p)) ∙ past_by_count (put_in rows p) puts)

-- ---- the causes

pub marks_same : (held : Held) (d : Delta) → is_same_mark held.mark d.«from» ≡ true → gap held d ≡ None
marks_same held d same = rw same refl

pub removed_missing : (held : Held) (d : Delta) (ks found removed : List ViewKey) (rows : List ShownRow) (first : Option ViewKey) → ((k : ViewKey) → is_among ks k ≡ drops d k)
    → rows ≡ held.shown.rows → found ≡ found_among ks [] rows → removed ≡ d.removed → first ≡ find (λ k. not (is_among found k)) removed → absent held d ≡ option_map Absent first
removed_missing held d ks found removed rows first dropped rows_is found_is removed_is first_is =
    let by_found : found ≡ found_among ks [] held.shown.rows = found_is ∙ ap (found_among ks []) rows_is in
    ap (option_map Absent) (sym (missing_are ks d held.shown.rows dropped) ∙ (λ i. find (λ k. not (is_among (sym by_found i) k)) (sym removed_is i)) ∙ sym first_is)

pub puts_past : (held : Held) (d : Delta) (ks : List ViewKey) (rows : List ShownRow) (count : ℕ) (puts : List Put) (first : Option ℕ) → ((k : ViewKey) → is_among ks k ≡ drops d k)
    → rows ≡ held.shown.rows → count ≡ length (others ks rows) → puts ≡ d.puts → first ≡ past_after count puts → past_end (kept_rows d held.shown.rows) d.puts ≡ option_map Past first
puts_past held d ks rows count puts first dropped rows_is count_is puts_is first_is =
    let counted : count ≡ length (kept_rows d held.shown.rows) =
    count_is ∙ ap (λ rs. length (others ks rs)) rows_is ∙ ap length (others_are ks d held.shown.rows dropped) in
    sym (past_by_count (kept_rows d held.shown.rows) d.puts) ∙ (λ i. option_map Past (past_after (sym counted i) (sym puts_is i))) ∙ ap (option_map Past) (sym first_is)

-- ---- the first cause

pub absent_first : (held : Held) (d : Delta) (why : FoldRefused) → gap held d ≡ None → absent held d ≡ Some why → fold_fault held d ≡ Some why
absent_first held d why marks missing = rw (marks, missing) refl

pub past_last : (held : Held) (d : Delta) (last : Option FoldRefused) → gap held d ≡ None → absent held d ≡ None → past_end (kept_rows d held.shown.rows) d.puts ≡ last → fold_fault held d ≡ last
past_last held d last marks missing past = rw (marks, missing) past
