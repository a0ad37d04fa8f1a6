use Rattle.std.proofs.Common.{◌≡◌, ℕ, ◌+◌, ◌<◌, List, [], ◌∷◌, ◌++◌, length, map, take, drop, slice_index_or, slice_set, arith, sym, ap, subst, ◌∙◌}
use Rattle.std.proofs.lemmas.Grind.{common_steps}
use Rattle.std.proofs.lemmas.List.{drop_more, take_more, map-append, append_assoc, take-append-drop}
use Rattle.std.proofs.Math.Seq.{set-append_seam, get_or-append_seam}
use Rattle.update_hooks.specs.declared.booked.Booked.{Booked}

-- two reads of one place give one value
pub same_read : {X : Type 0} (xs : List X) (i : ℕ) (x y : X) → i < length xs → x ≡ slice_index_or xs i x → y ≡ slice_index_or xs i y → x ≡ y
same_read xs i x y lt p q = grind (arith, common_steps)

read_seam : {X : Type 0} (front rest : List X) (y d : X) (i : ℕ) → length front ≡ i → slice_index_or (front ++ y ∷ rest) i d ≡ y
read_seam {X = X} front rest y d i n =
    let P : ℕ → Type 0 = λ k. slice_index_or (front ++ y ∷ rest) k d ≡ y in subst P n (get_or-append_seam front y rest d)

set_seam : {X : Type 0} (front rest : List X) (y a : X) (i : ℕ) → length front ≡ i → slice_set (front ++ y ∷ rest) i a ≡ front ++ a ∷ rest
set_seam {X = X} front rest y a i n =
    let P : ℕ → Type 0 = λ k. slice_set (front ++ y ∷ rest) k a ≡ front ++ a ∷ rest in subst P n (set-append_seam front y rest a)

joined : {X : Type 0} (front rest : List X) (y : X) → (front ++ y ∷ []) ++ rest ≡ front ++ y ∷ rest
joined front rest y = append_assoc front (y ∷ []) rest

-- a list around one of its places
pub split_here : {X : Type 0} (xs : List X) (i : ℕ) (d : X) → i < length xs → xs ≡ take i xs ++ slice_index_or xs i d ∷ drop (i + 1) xs
split_here xs i d lt = sym (take-append-drop i xs) ∙ ap (λ t. take i xs ++ t) (drop_more xs i d lt)

-- a step of a loop that writes f of each element
pub mapped_step : {X : Type 0} (f : X → X) (xs : List X) (i : ℕ) (d : X) → i < length xs
    → slice_set (map f (take i xs) ++ drop i xs) i (f (slice_index_or (map f (take i xs) ++ drop i xs) i d)) ≡ map f (take (i + 1) xs) ++ drop (i + 1) xs
mapped_step {X = X} f xs i d lt =
    let front : List X = map f (take i xs) in
    let rest : List X = drop (i + 1) xs in
    let y : X = slice_index_or xs i d in
    let n : length (map f (take i xs)) ≡ i = grind (arith, common_steps) in
    let e : drop i xs ≡ y ∷ rest = drop_more xs i d lt in
    let q : slice_index_or (front ++ drop i xs) i d ≡ y = ap (λ t. slice_index_or (front ++ t) i d) e ∙ read_seam front rest y d i n in
    let b : map f (take (i + 1) xs) ≡ front ++ f y ∷ [] = ap (λ t. map f t) (take_more xs i d lt) ∙ map-append f (take i xs) (y ∷ []) in
    ap (λ v. slice_set (front ++ drop i xs) i (f v)) q ∙ ap (λ t. slice_set (front ++ t) i (f y)) e ∙ set_seam front rest y (f y) i n
    ∙ sym (ap (λ t. t ++ rest) b ∙ joined front rest (f y))

-- a job whose view is known
pub booked_is : {J : Type 0} (b : Booked J) (s v : ℕ) → b.session ≡ s → b.view ≡ v → b ≡ record { session = s; view = v; job = b.job }
booked_is {J = J} b s v p q =
    let F : ℕ → Booked J = λ t. record { session = t; view = b.view; job = b.job } in
    let G : ℕ → Booked J = λ t. record { session = s; view = t; job = b.job } in
    ap F p ∙ ap G q
