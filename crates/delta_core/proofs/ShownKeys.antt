-- Tests of keys among shown rows, said in more than one way.
use Rattle.std.proofs.Common.{◌≡◌, ℕ, suc, ◌+◌, ◌<◌, ◌≤◌, Bool, true, false, ◌||◌, cond, ltb, List, [], ◌∷◌, length, Option, Some, None, is_some, option_map, refl, sym, ap, ◌∙◌, add-one, one-add, arith}
use Rattle.std.proofs.lemmas.Bool.{ltb-true, ltb-false, lt-ltb, le-ltb}
use Rattle.std.specs.List.{list_any, position, position_or_len}
use Rattle.view_types.specs.Keys.{same_key}
use Rattle.view_types.specs.declared.key.ViewKey.{ViewKey}
use Rattle.view_types.specs.declared.shown.ShownRow.{ShownRow}
use Rattle.delta_core.specs.Rows.{has_row, position_of, row_at}

is_some-map : {X Y : Type 0} (f : X → Y) (o : Option X) → is_some (option_map f o) ≡ is_some o
is_some-map f None = refl
is_some-map f (Some x) = refl

-- a key has a position where it has a row
pub position_has : (k : ViewKey) (rows : List ShownRow) → is_some (position_of k rows) ≡ has_row k rows
position_has k [] = refl
position_has k (r ∷ rows) =
    elim (same_key r.key k) as (λ b. is_some (cond b (Some 0) (option_map (λ i. i + 1) (position_of k rows))) ≡ is_some (cond b (Some r) (row_at k rows))) [
      | true ↦ refl
      | false ↦ is_some-map (λ i. i + 1) (position_of k rows) ∙ position_has k rows
    ]

pub any_has : (k : ViewKey) (rows : List ShownRow) → list_any (λ r. same_key r.key k) rows ≡ has_row k rows
any_has k [] = refl
any_has k (r ∷ rows) =
    elim (same_key r.key k) as (λ b. (b || list_any (λ r. same_key r.key k) rows) ≡ is_some (cond b (Some r) (row_at k rows))) [
      | true ↦ refl
      | false ↦ any_has k rows
    ]

-- ---- the position of the first row with a key

one_less : (q n : ℕ) (b : Bool) → ltb q n ≡ b → cond (ltb (suc q) (suc n)) (Some (suc q)) None ≡ option_map (λ i. i + 1) (cond b (Some q) None)
one_less q n true is =
    let less : q < n = ltb-true q n is in
    let more : ltb (suc q) (suc n) ≡ true = lt-ltb (suc q) (suc n) (omega arith) in
    ap (λ b. cond b (Some (suc q)) None) more ∙ ap Some (sym (add-one q))
one_less q n false is =
    let least : n ≤ q = ltb-false q n is in
    let none : ltb (suc q) (suc n) ≡ false = le-ltb (suc q) (suc n) (omega arith) in
    ap (λ b. cond b (Some (suc q)) None) none

position_cons : {X : Type 0} (p : X → Bool) (x : X) (xs : List X) (b : Bool) → p x ≡ b → position p (x ∷ xs) ≡ cond b (Some 0) (option_map (λ i. i + 1) (position p xs))
position_cons p x xs true is =
    let first : position_or_len p (x ∷ xs) ≡ 0 = rw is refl in
    let within : ltb 0 (suc (length xs)) ≡ true = lt-ltb 0 (suc (length xs)) (omega arith) in
    ap (λ i. cond (ltb i (suc (length xs))) (Some i) None) first ∙ ap (λ b. cond b (Some 0) None) within
position_cons p x xs false is =
    let later : position_or_len p (x ∷ xs) ≡ suc (position_or_len p xs) = rw is (one-add (position_or_len p xs)) in
    ap (λ i. cond (ltb i (suc (length xs))) (Some i) None) later ∙ one_less (position_or_len p xs) (length xs) (ltb (position_or_len p xs) (length xs)) refl

pub position_is : (k : ViewKey) (rows : List ShownRow) → position (λ r. same_key r.key k) rows ≡ position_of k rows
position_is k [] = refl
position_is k (r ∷ rows) =
    position_cons (λ (r : ShownRow). same_key r.key k) r rows (same_key r.key k) refl
    ∙ ap (λ o. cond (same_key r.key k) (Some 0) (option_map (λ i. i + 1) o)) (position_is k rows)
