-- Sorting a list by an order.
use Rattle.std.specs.Prelude.{List, [], ◌∷◌, fold, if◌then◌else◌}
use Rattle.std.specs.declared.cmp.Ordering.{Ordering}
use Rattle.std.specs.Ordering.{is_lt}

-- the item in front of the first that it stands before
abbrev pub insert_by : {X : Type 0} → (X → X → Ordering) → X → List X → List X
insert_by order x [] = x ∷ []
insert_by order x (y ∷ ys) = if is_lt (order x y) then x ∷ y ∷ ys else y ∷ insert_by order x ys

-- ascending by the order; items that are equal in it stay as they stood
abbrev pub sorted_by : {X : Type 0} → (X → X → Ordering) → List X → List X
sorted_by order xs = fold (λ sorted x. insert_by order x sorted) [] xs
