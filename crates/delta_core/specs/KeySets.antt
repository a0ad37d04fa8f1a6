-- Sets of view keys, as lists that ascend by the order of keys and have no key twice.
use Rattle.std.specs.Prelude.{List, [], ◌∷◌, fold, Bool}
use Rattle.std.specs.List.{list_any}
use Rattle.std.specs.Ordering.{match_ordering}
use Rattle.view_types.specs.Keys.{key_order, same_key}
use Rattle.view_types.specs.declared.key.ViewKey.{ViewKey}

-- the set with one key more; a key that is there stays
abbrev pub with_key : List ViewKey → ViewKey → List ViewKey
with_key [] k = k ∷ []
with_key (x ∷ xs) k = match_ordering (key_order k x) (k ∷ x ∷ xs) (x ∷ xs) (x ∷ with_key xs k)

-- the union of a set and the keys of a list
abbrev pub with_keys : List ViewKey → List ViewKey → List ViewKey
with_keys set keys = fold with_key set keys

abbrev pub is_among : List ViewKey → ViewKey → Bool
is_among keys key = list_any (same_key key) keys
