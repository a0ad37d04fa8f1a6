-- The keys that steps touched since some mark.
use Rattle.std.specs.Prelude.{ℕ, nat_lt, List, [], ◌∷◌, length, fold, Bool, if◌then◌else◌}
use Rattle.std.specs.Map.{remove_entry}
use Rattle.std.specs.Ordering.{match_ordering}
use Rattle.view_types.specs.Keys.{key_order, same_key}
use Rattle.view_types.specs.declared.key.ViewKey.{ViewKey}
use Rattle.delta_core.specs.declared.touched.Touch.{Touch}

-- what a dirty set keeps: the touched keys, each beside what is known of it from the step that touched it first,
-- or none of them once they are more than the bound; and whether a header was touched
pub record DirtyData : Type 0 where
  pub bound : ℕ
  pub keys : List (ViewKey × Touch)
  pub over : Bool
  pub header : Bool

-- the key in its place by the order of keys; one that is there stays as it is
abbrev pub with_touched : List (ViewKey × Touch) → (ViewKey × Touch) → List (ViewKey × Touch)
with_touched [] t = t ∷ []
with_touched (e ∷ es) t = match_ordering (key_order t.0 e.0) (t ∷ e ∷ es) (e ∷ es) (e ∷ with_touched es t)

-- the union of the keys touched so far and those touched by one step more
abbrev pub joined : List (ViewKey × Touch) → List (ViewKey × Touch) → List (ViewKey × Touch)
joined keys touched = fold with_touched keys touched

-- what is left once these keys are taken out, the last of them first
abbrev pub without : List ViewKey → List (ViewKey × Touch) → List (ViewKey × Touch)
without [] touched = touched
without (k ∷ ks) touched = remove_entry (same_key k) (without ks touched)

-- the dirty set for all these keys
abbrev pub dirty_of : ℕ → List (ViewKey × Touch) → Bool → DirtyData
dirty_of bound keys header = record {
  bound = bound;
  keys = if nat_lt bound (length keys) then [] else keys;
  over = nat_lt bound (length keys);
  header = header;
}
