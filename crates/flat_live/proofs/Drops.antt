-- Lists without their first items, as loops from the last item to the first meet them.
use Rattle.std.proofs.Common.{◌≡◌, ℕ, ◌+◌, ◌-◌, ◌<◌, ◌≤◌, List, [], ◌∷◌, Some, drop, get_or, length, sym, ap, ◌∙◌, arith, slice_get}
use Rattle.std.proofs.Math.Seq.{drop-length}
use Rattle.std.proofs.lemmas.List.{drop_more}
use Rattle.std.proofs.lemmas.Option.{get_or_from_slice_get, slice_get_within}

-- the next item, as it is read
pub next_read : {X : Type 0} (xs : List X) (at : ℕ) (x : X) → at < length xs → x ≡ get_or xs at x → drop at xs ≡ x ∷ drop (at + 1) xs
next_read xs at x within is = drop_more xs at x within ∙ ap (λ y. y ∷ drop (at + 1) xs) (sym is)

pub next_item : {X : Type 0} (xs : List X) (at : ℕ) (x : X) → slice_get xs at ≡ Some x → drop at xs ≡ x ∷ drop (at + 1) xs
next_item xs at x is = next_read xs at x (slice_get_within xs at x is) (sym (get_or_from_slice_get xs at x x is))

-- none was met yet
pub all_dropped : {X : Type 0} (xs : List X) → drop (length xs - 0) xs ≡ []
all_dropped xs = ap (λ n. drop n xs) (let e : length xs - 0 ≡ length xs = omega arith in e) ∙ drop-length xs

-- all were met
pub none_dropped : {X : Type 0} (xs : List X) (i : ℕ) → length xs ≤ i → drop (length xs - i) xs ≡ xs
none_dropped xs i past = ap (λ n. drop n xs) (let e : length xs - i ≡ 0 = omega arith in e)
