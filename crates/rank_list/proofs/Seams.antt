-- Edits of a list around the item x, which stands between the lists l and r.
use Rattle.std.proofs.Common.{◌≡◌, ℕ, zero, suc, ◌-◌, ◌<◌, ◌≤◌, List, [], ◌∷◌, ◌++◌, length, Some, refl, ap, ◌∙◌, arith, length-append, insert, remove, slice_get}
use Rattle.std.proofs.lemmas.List.Edits.{insert-append_left, insert-append_right, remove-append_left, remove-append_right, length-remove}

pub insert_before : {T : Type 0} (l : List T) (x : T) (r : List T) (place : ℕ) (y : T) → place ≤ length l → insert (l ++ x ∷ r) place y ≡ insert l place y ++ x ∷ r
insert_before l x r place y within = insert-append_left l (x ∷ r) place y within

insert_later : {T : Type 0} (x : T) (r : List T) (n : ℕ) (y : T) → 0 < n → insert (x ∷ r) n y ≡ x ∷ insert r (n - 1) y
insert_later x r zero y late = absurd (omega arith)
insert_later x r (suc n) y late = rw (let e : suc n - 1 ≡ n = omega arith in e) refl

pub insert_after : {T : Type 0} (l : List T) (x : T) (r : List T) (place : ℕ) (y : T) → length l < place → insert (l ++ x ∷ r) place y ≡ l ++ x ∷ insert r (place - length l - 1) y
insert_after l x r place y late =
    insert-append_right l (x ∷ r) (length l) place y refl (omega arith) ∙ ap (λ rest. l ++ rest) (insert_later x r (place - length l) y (omega arith))

pub remove_before : {T : Type 0} (l : List T) (x : T) (r : List T) (place : ℕ) → place < length l → remove (l ++ x ∷ r) place ≡ remove l place ++ x ∷ r
remove_before l x r place within = remove-append_left l (x ∷ r) place within

remove_later : {T : Type 0} (x : T) (r : List T) (n : ℕ) → 0 < n → remove (x ∷ r) n ≡ x ∷ remove r (n - 1)
remove_later x r zero late = absurd (omega arith)
remove_later x r (suc n) late = rw (let e : suc n - 1 ≡ n = omega arith in e) refl

pub remove_after : {T : Type 0} (l : List T) (x : T) (r : List T) (place : ℕ) → length l < place → remove (l ++ x ∷ r) place ≡ l ++ x ∷ remove r (place - length l - 1)
remove_after l x r place late =
    remove-append_right l (x ∷ r) (length l) place refl (omega arith) ∙ ap (λ rest. l ++ rest) (remove_later x r (place - length l) (omega arith))

pub remove_middle : {T : Type 0} (l : List T) (x : T) (r : List T) (place : ℕ) → place ≡ length l → remove (l ++ x ∷ r) place ≡ l ++ r
remove_middle [] x r place at = rw at refl
remove_middle (y ∷ l) x r place at = rw at (ap (λ rest. y ∷ rest) (remove_middle l x r (length l) refl))

pub get_before : {T : Type 0} (l : List T) (x : T) (r : List T) (place : ℕ) → place < length l → slice_get (l ++ x ∷ r) place ≡ slice_get l place
get_before [] x r place within = absurd (omega arith)
get_before (y ∷ l) x r zero within = refl
get_before (y ∷ l) x r (suc place) within = get_before l x r place (omega arith)

pub get_after : {T : Type 0} (l : List T) (x : T) (r : List T) (place : ℕ) → length l < place → slice_get (l ++ x ∷ r) place ≡ slice_get r (place - length l - 1)
get_after [] x r zero late = absurd (omega arith)
get_after [] x r (suc place) late = rw (let e : suc place - 0 - 1 ≡ place = omega arith in e) refl
get_after (y ∷ l) x r zero late = absurd (omega arith)
get_after (y ∷ l) x r (suc place) late = rw (let e : suc place - suc (length l) - 1 ≡ place - length l - 1 = omega arith in e) (get_after l x r place (omega arith))

pub get_middle : {T : Type 0} (l : List T) (x : T) (r : List T) (place : ℕ) → place ≡ length l → slice_get (l ++ x ∷ r) place ≡ Some x
get_middle [] x r place at = rw at refl
get_middle (y ∷ l) x r place at = rw at (get_middle l x r (length l) refl)

-- the first item and what is left without it are the list
pub first_and_rest : {T : Type 0} (r : List T) (y : T) → slice_get r 0 ≡ Some y → y ∷ remove r 0 ≡ r
first_and_rest [] y is = cc
first_and_rest (z ∷ r) y is = cc

pub ruleset seams = (insert_before, insert_after, remove_before, remove_after, remove_middle, get_before, get_after, get_middle, first_and_rest, length-remove, length-append)
