-- A group's members are those rows that count in it, and a change of other rows leaves them as they are.
use Rattle.std.proofs.Common.{◌≡◌, ◌≢◌, Bool, true, false, cond, ◌&&◌, List, [], ◌∷◌, ◌++◌, map, filter, All, Option, Some, None, refl, sym, ◌∙◌, ap, subst}
use Rattle.std.specs.Prelude.{not}
use Rattle.std.specs.Cmp.{IsTotalOrder}
use Rattle.std.specs.List.{AllByRecursion, IsDistinct}
use Rattle.std.specs.Option.{IfSome, option_map, option_to_list}
use Rattle.std.specs.Ordering.{eq_by_cmp}
use Rattle.std.proofs.lemmas.List.{append-nil}
use Rattle.std.proofs.lemmas.List.Elements.{All-nil, All-cons, All-head, All-tail, filter-append}
use Rattle.plain_data.specs.Distinct.{AreDistinct}
use Rattle.plain_data.specs.Sorting.{sorted_by}
use Rattle.cell_core.specs.Cells.{same_cell}
use Rattle.cell_core.specs.declared.cell.Cell.{Cell}
use Rattle.cell_core.proofs.CellOrder.{total}
use Rattle.row_batch.specs.Batches.{pair_of}
use Rattle.row_batch.specs.Changes.{FitRows, changed, changed_all, row_at}
use Rattle.row_batch.specs.Tables.{keys_of_rows}
use Rattle.row_batch.specs.declared.batch.Pair.{Pair}
use Rattle.row_batch.specs.declared.change.RowChange.{RowChange}
use Rattle.row_batch.proofs.ChangeLists.{distinct_changed}
use Rattle.row_batch.proofs.Lookups.{same_decides, not_same}
use Rattle.plan_types.specs.declared.plan.Plan.{Plan}
use Rattle.view_spec.specs.Kept.{by_key, full_pair, is_kept, kept}
use Rattle.view_spec.specs.Members.{is_member, members}
use Rattle.view_spec.specs.Steps.{PassesBy, counts_in}
use Rattle.std.specs.List.Sorted.{IsPermutation}
use Rattle.std.proofs.lemmas.List.Sorted.{IsPermutation-map}
use Rattle.view_spec.proofs.Sorting.{IsDistinct-filter, filter-sorted_by, sorted_by-IsPermutation}

-- ---- rows by key

pub by_key-total : IsTotalOrder by_key
by_key-total = record {
  antisymm = λ a b. total.antisymm a.key b.key;
  trans = λ a b c. total.trans a.key b.key c.key;
  congr = λ a b c. total.congr a.key b.key c.key;
}

apart : (p : Pair) (ps : List Pair) → All (λ k. k ≢ p.key) (keys_of_rows ps) → AllByRecursion (λ q. eq_by_cmp by_key p q ≡ false) ps
apart p [] h = tt
apart p (q ∷ ps) h = (not_same p.key q.key (All-head (λ k. k ≢ p.key) q.key (keys_of_rows ps) h), apart p ps (All-tail (λ k. k ≢ p.key) q.key (keys_of_rows ps) h))

-- rows under different keys differ by key
pub keys_differ : (ps : List Pair) → AreDistinct (keys_of_rows ps) → IsDistinct (eq_by_cmp by_key) ps
unfolding IsDistinct
keys_differ [] h = tt
keys_differ (p ∷ ps) h = (apart p ps h.0, keys_differ ps h.1)

full_apart : (plan : Plan) (p : Pair) (ps : List Pair) → AllByRecursion (λ q. eq_by_cmp by_key p q ≡ false) ps
    → AllByRecursion (λ q. eq_by_cmp by_key (full_pair plan p) q ≡ false) (map (full_pair plan) ps)
full_apart plan p [] h = tt
full_apart plan p (q ∷ ps) h = (h.0, full_apart plan p ps h.1)

pub full_differ : (plan : Plan) (ps : List Pair) → IsDistinct (eq_by_cmp by_key) ps → IsDistinct (eq_by_cmp by_key) (map (full_pair plan) ps)
unfolding IsDistinct
full_differ plan [] h = tt
full_differ plan (p ∷ ps) h = (full_apart plan p ps h.0, full_differ plan ps h.1)

-- ---- filters of lists

filter_twice : {X Y : Type 0} (f : X → Y) (p q : Y → Bool) (xs : List X) → filter q (filter p (map f xs)) ≡ map f (filter (λ x. p (f x) && q (f x)) xs)
filter_twice f p q [] = refl
filter_twice {X} {Y} f p q (x ∷ xs) = by (p (f x)) (q (f x)) refl refl (filter_twice f p q xs)
  where
    by : (a b : Bool) → p (f x) ≡ a → q (f x) ≡ b → filter q (filter p (map f xs)) ≡ map f (filter (λ x. p (f x) && q (f x)) xs)
        → filter q (filter p (map f (x ∷ xs))) ≡ map f (filter (λ x. p (f x) && q (f x)) (x ∷ xs))
    by true true e g later = rw (e, g) (ap (λ ys. f x ∷ ys) later)
    by true false e g later = rw (e, g) later
    by false b e g later = rw e later

-- ---- the rows that count in a group

-- a group's members are the rows that count in it, ascending by key
pub members-of_pairs : (plan : Plan) (path : List Cell) (ps : List Pair) → AreDistinct (keys_of_rows ps)
    → members plan (kept plan ps) path ≡ sorted_by by_key (map (full_pair plan) (filter (counts_in plan path) ps))
members-of_pairs plan path ps distinct =
    filter-sorted_by by_key by_key-total (is_member plan path) (filter (is_kept plan) (map (full_pair plan) ps)) passed
    ∙ ap (sorted_by by_key) (filter_twice (full_pair plan) (is_kept plan) (is_member plan path) ps)
  where
    passed : IsDistinct (eq_by_cmp by_key) (filter (is_kept plan) (map (full_pair plan) ps))
    passed = IsDistinct-filter (eq_by_cmp by_key) (is_kept plan) (map (full_pair plan) ps) (full_differ plan ps (keys_differ ps distinct))

-- ---- a change of other rows

filter_without : (t : Pair → Bool) (key : Cell) (ps : List Pair) → All (λ (p : Pair). same_cell key p.key ≡ true → t p ≡ false) ps
    → filter t (filter (λ (p : Pair). not (same_cell key p.key)) ps) ≡ filter t ps
filter_without t key [] h = refl
filter_without t key (p ∷ ps) h =
    by (same_cell key p.key) (t p) refl refl (All-head (λ (p : Pair). same_cell key p.key ≡ true → t p ≡ false) p ps h)
    (filter_without t key ps (All-tail (λ (p : Pair). same_cell key p.key ≡ true → t p ≡ false) p ps h))
  where
    by : (a b : Bool) → same_cell key p.key ≡ a → t p ≡ b → (same_cell key p.key ≡ true → t p ≡ false)
        → filter t (filter (λ (p : Pair). not (same_cell key p.key)) ps) ≡ filter t ps
        → filter t (filter (λ (p : Pair). not (same_cell key p.key)) (p ∷ ps)) ≡ filter t (p ∷ ps)
    by true true e g h later = absurd (let wrong : true ≡ false = sym g ∙ h e in cc)
    by true false e g h later = rw (e, g) later
    by false true e g h later = rw (e, g) (ap (λ qs. p ∷ qs) later)
    by false false e g h later = rw (e, g) later

filter_new : (t : Pair → Bool) (key : Cell) (new : Option (List Cell)) → IfSome new (λ row. t (pair_of key row) ≡ false)
    → filter t (option_to_list (option_map (pair_of key) new)) ≡ []
filter_new t key None h = refl
filter_new t key (Some row) h = rw h refl

-- what stood at the key is the only row there
old_rows : (t : Pair → Bool) (key : Cell) (ps : List Pair) → AreDistinct (keys_of_rows ps) → IfSome (row_at ps key) (λ row. t (pair_of key row) ≡ false)
    → All (λ (p : Pair). same_cell key p.key ≡ true → t p ≡ false) ps
old_rows t key [] distinct h = All-nil (λ (p : Pair). same_cell key p.key ≡ true → t p ≡ false)
old_rows t key (p ∷ ps) distinct h = by (same_cell key p.key) refl h (old_rows t key ps distinct.1)
  where
    others : (qs : List Pair) → key ≡ p.key → All (λ k. k ≢ p.key) (keys_of_rows qs) → All (λ (q : Pair). same_cell key q.key ≡ true → t q ≡ false) qs
    others [] e apart = All-nil (λ (q : Pair). same_cell key q.key ≡ true → t q ≡ false)
    others (q ∷ qs) e apart =
        All-cons (λ (q : Pair). same_cell key q.key ≡ true → t q ≡ false) q qs
        (λ same. absurd (All-head (λ k. k ≢ p.key) q.key (keys_of_rows qs) apart (sym ((same_decides key q.key).0 same) ∙ e)))
        (others qs e (All-tail (λ k. k ≢ p.key) q.key (keys_of_rows qs) apart))

    by : (b : Bool) → same_cell key p.key ≡ b → IfSome (cond b (Some p.row) (row_at ps key)) (λ row. t (pair_of key row) ≡ false)
        → (IfSome (row_at ps key) (λ row. t (pair_of key row) ≡ false) → All (λ (p : Pair). same_cell key p.key ≡ true → t p ≡ false) ps)
        → All (λ (p : Pair). same_cell key p.key ≡ true → t p ≡ false) (p ∷ ps)
    by true is h more =
        let e : key ≡ p.key = (same_decides key p.key).0 is in
        All-cons (λ (p : Pair). same_cell key p.key ≡ true → t p ≡ false) p ps (λ _. subst (λ k. t (pair_of k p.row) ≡ false) e h) (others ps e distinct.0)
    by false is h more =
        All-cons (λ (p : Pair). same_cell key p.key ≡ true → t p ≡ false) p ps (λ yes. absurd (let wrong : true ≡ false = sym yes ∙ is in cc)) (more h)

pub filter-changed : (t : Pair → Bool) (ps : List Pair) (change : RowChange) → AreDistinct (keys_of_rows ps) → change.old ≡ row_at ps change.key
    → PassesBy t change → filter t (changed ps change) ≡ filter t ps
filter-changed t ps change distinct stood by =
    let rest = filter (λ (p : Pair). not (same_cell change.key p.key)) ps in
    let more = option_to_list (option_map (pair_of change.key) change.new) in
    filter-append t rest more
    ∙ ap (λ qs. filter t rest ++ qs) (filter_new t change.key change.new by.new)
    ∙ append-nil (filter t rest)
    ∙ filter_without t change.key ps (old_rows t change.key ps distinct (subst (λ o. IfSome o (λ row. t (pair_of change.key row) ≡ false)) stood by.old))

pub filter-changed_all : (t : Pair → Bool) (ps : List Pair) (changes : List RowChange) → AreDistinct (keys_of_rows ps) → FitRows ps changes
    → All (PassesBy t) changes → filter t (changed_all ps changes) ≡ filter t ps
filter-changed_all t ps [] distinct fit by = refl
filter-changed_all t ps (change ∷ changes) distinct fit by =
    filter-changed_all t (changed ps change) changes (distinct_changed ps change distinct) fit.3 (All-tail (PassesBy t) change changes by)
    ∙ filter-changed t ps change distinct fit.0 (All-head (PassesBy t) change changes by)

-- LOCALITY: a group none of whose members changes has the members that it had
pub members-changed_all : (plan : Plan) (path : List Cell) (ps : List Pair) (changes : List RowChange) → AreDistinct (keys_of_rows ps)
    → AreDistinct (keys_of_rows (changed_all ps changes)) → FitRows ps changes → All (PassesBy (counts_in plan path)) changes
    → members plan (kept plan (changed_all ps changes)) path ≡ members plan (kept plan ps) path
members-changed_all plan path ps changes distinct after fit by =
    members-of_pairs plan path (changed_all ps changes) after
    ∙ ap (λ qs. sorted_by by_key (map (full_pair plan) qs)) (filter-changed_all (counts_in plan path) ps changes distinct fit by)
    ∙ sym (members-of_pairs plan path ps distinct)

-- ---- the order of a table's rows does not matter

pub kept-IsPermutation : (plan : Plan) (ps qs : List Pair) → AreDistinct (keys_of_rows ps) → AreDistinct (keys_of_rows qs) → IsPermutation ps qs → kept plan ps ≡ kept plan qs
kept-IsPermutation plan ps qs first last moved =
    sym (filter-sorted_by by_key by_key-total (is_kept plan) (map (full_pair plan) ps) (full_differ plan ps (keys_differ ps first)))
    ∙ ap (filter (is_kept plan)) (sorted_by-IsPermutation by_key by_key-total (map (full_pair plan) ps) (map (full_pair plan) qs) (full_differ plan ps (keys_differ ps first)) (IsPermutation-map (full_pair plan) ps qs moved))
    ∙ filter-sorted_by by_key by_key-total (is_kept plan) (map (full_pair plan) qs) (full_differ plan qs (keys_differ qs last))
