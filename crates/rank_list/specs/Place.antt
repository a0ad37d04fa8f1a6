-- Where an item stands in an ascending list.
use Rattle.std.specs.Prelude.{ℕ, List, count_by}
use Rattle.std.specs.declared.cmp.Ordering.{Ordering}
use Rattle.std.specs.Ordering.{is_lt}

-- how many of the items stand before this one
abbrev pub place_in : {T : Type 0} → (T → T → Ordering) → List T → T → ℕ
place_in order items item = count_by (λ other. is_lt (order other item)) items
