-- Lists of another length than a filter or a sort has.
use Rattle.std.proofs.Common.{◌≡◌, List, [], ◌∷◌, length, get_or, map, None, Some, refl, arith}
use Rattle.cell_core.specs.RawViews.{raw_view, items_of}
use Rattle.cell_core.specs.declared.raw.Raw.{Raw}
use Rattle.plan_json.specs.Reading.{filter_from, filter_in, sort_in}

pub sort_in-other : (values : List Raw) → (length values ≡ 2 → ⊥) → sort_in (items_of (map raw_view values)) ≡ None
sort_in-other [] h = refl
sort_in-other (a ∷ []) h = refl
sort_in-other (a ∷ b ∷ []) h = absurd (h refl)
sort_in-other (a ∷ b ∷ c ∷ more) h = refl

pub filter_in-other : (values : List Raw) → (length values ≡ 2 → ⊥) → (length values ≡ 3 → ⊥) → filter_in (items_of (map raw_view values)) ≡ None
filter_in-other [] h g = refl
filter_in-other (a ∷ []) h g = refl
filter_in-other (a ∷ b ∷ []) h g = absurd (h refl)
filter_in-other (a ∷ b ∷ c ∷ []) h g = absurd (g refl)
filter_in-other (a ∷ b ∷ c ∷ d ∷ more) h g = refl

-- a filter without a value, and one with it
pub filter_in-two : (values : List Raw) (a b : Raw) → length values ≡ 2 → a ≡ get_or values 0 a → b ≡ get_or values 1 b
    → filter_in (items_of (map raw_view values)) ≡ filter_from (raw_view a) (raw_view b) None
filter_in-two [] a b h p q = absurd (omega arith)
filter_in-two (x ∷ []) a b h p q = absurd (omega arith)
filter_in-two (x ∷ y ∷ []) a b h p q = let e : a ≡ x = p in let f : b ≡ y = q in rw (e, f) refl
filter_in-two (x ∷ y ∷ z ∷ more) a b h p q = absurd (omega arith)

pub filter_in-three : (values : List Raw) (a b v : Raw) → length values ≡ 3 → a ≡ get_or values 0 a → b ≡ get_or values 1 b → v ≡ get_or values 2 v
    → filter_in (items_of (map raw_view values)) ≡ filter_from (raw_view a) (raw_view b) (Some (raw_view v))
filter_in-three [] a b v h p q r = absurd (omega arith)
filter_in-three (x ∷ []) a b v h p q r = absurd (omega arith)
filter_in-three (x ∷ y ∷ []) a b v h p q r = absurd (omega arith)
filter_in-three (x ∷ y ∷ z ∷ []) a b v h p q r = let e : a ≡ x = p in let f : b ≡ y = q in let g : v ≡ z = r in rw (e, f, g) refl
filter_in-three (x ∷ y ∷ z ∷ w ∷ more) a b v h p q r = absurd (omega arith)
