-- Lists that are no pair.
use Rattle.std.proofs.Common.{◌≡◌, ◌<◌, ◌≤◌, arith, List, [], ◌∷◌, length, None, refl}
use Rattle.std.proofs.lemmas.Bool.{le-leb, lt-leb}
use Rattle.serde_json.specs.View.{items_view}
use Rattle.serde_json.specs.declared.value.Value.{Value}
use Rattle.frame_json.specs.Parts.{pair_part, parts_of, count_items, few_parts as few}
use Rattle.frame_json.specs.Requests.{pair_of}

pub pair_of-other : (vs : List Value) → (length vs ≡ 2 → ⊥) → pair_of (items_view vs) ≡ None
pair_of-other [] h = refl
pair_of-other (a ∷ []) h = refl
pair_of-other (a ∷ b ∷ []) h = absurd (h refl)
pair_of-other (a ∷ b ∷ c ∷ vs) h = refl

pub pair_part-other : (vs : List Value) → (length vs ≡ 2 → ⊥) → pair_part (items_view vs) ≡ None
pair_part-other [] h = refl
pair_part-other (a ∷ []) h = refl
pair_part-other (a ∷ b ∷ []) h = absurd (h refl)
pair_part-other (a ∷ b ∷ c ∷ vs) h = refl

-- as many items as values
pub count_items-length : (vs : List Value) → count_items (items_view vs) ≡ length vs
count_items-length [] = refl
count_items-length (v ∷ vs) = omega (arith, count_items-length vs)

pub few_parts : (vs : List Value) → length vs ≤ 8 → few (items_view vs) ≡ parts_of (items_view vs)
few_parts vs le = rw (le-leb (count_items (items_view vs)) 8 (omega (arith, count_items-length vs, le))) refl

pub many_parts : (vs : List Value) → 8 < length vs → few (items_view vs) ≡ None
many_parts vs lt = rw (lt-leb (count_items (items_view vs)) 8 (omega (arith, count_items-length vs, lt))) refl
