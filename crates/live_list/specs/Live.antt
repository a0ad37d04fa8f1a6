-- The entries of a live list.
use Rattle.std.specs.Prelude.{◌≡◌, List, Option, option_map}
use Rattle.std.specs.List.{IsDistinct}
use Rattle.std.specs.List.Sorted.{IsStrictlySortedBy}
use Rattle.std.specs.Map.{keys_of, lookup}
use Rattle.delta_core.specs.Rows.{at_key}
use Rattle.place_order.specs.Places.{place_order}
use Rattle.place_order.specs.declared.rank.Rank.{Rank}
use Rattle.view_types.specs.Keys.{same_key}
use Rattle.view_types.specs.declared.key.ViewKey.{ViewKey}
use Rattle.key_map.specs.Keyed.{same_by}
use Rattle.live_list.specs.declared.list.LiveRow.{LiveRow}

abbrev pub live_key : {V : Type 0} → List Rank × LiveRow V → ViewKey
live_key e = e.1.key

-- places ascend strictly, and no key stands twice
pub record IsLive {V : Type 0} (xs : List (List Rank × LiveRow V)) : Type 0 where
  pub ascend : IsStrictlySortedBy place_order (keys_of xs)
  pub differ : IsDistinct (same_by live_key) xs

-- keys differ, and the place of each key stands beside it
pub record IsIndexed {V : Type 0} (xs : List (List Rank × LiveRow V)) (places : List (ViewKey × List Rank)) : Type 0 where
  pub differ : IsDistinct (same_by live_key) xs
  pub told : (k : ViewKey) → lookup (same_key k) places ≡ option_map (λ e. e.0) (at_key live_key k xs)
