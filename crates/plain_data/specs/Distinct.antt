-- Lists in which nothing stands twice.
use Rattle.std.specs.Prelude.{◌≢◌, List, [], ◌∷◌, All}

abbrev pub AreDistinct : {X : Type 0} → List X → Type 0
AreDistinct [] = Unit {0}
AreDistinct (x ∷ xs) = All (λ y. y ≢ x) xs × AreDistinct xs
