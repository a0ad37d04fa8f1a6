-- Laws of two lists of shown rows.
use Rattle.std.specs.Prelude.{◌≡◌, List, [], ◌∷◌, Bool, true, false, not, filter, map, All, None}
use Rattle.view_types.specs.declared.key.ViewKey.{ViewKey}
use Rattle.view_types.specs.declared.shown.HeaderColumn.{HeaderColumn}
use Rattle.view_types.specs.declared.shown.Shown.{Shown}
use Rattle.view_types.specs.declared.shown.ShownRow.{ShownRow}
use Rattle.delta_core.specs.Deltas.{delta_of}
use Rattle.delta_core.specs.Folding.{fold_fault, folded}
use Rattle.delta_core.specs.KeySets.{is_among}
use Rattle.delta_core.specs.Rows.{at_key, has_row}
use Rattle.delta_core.specs.declared.delta.Mark.{Mark}
use Rattle.delta_core.specs.declared.folding.Held.{Held}
use Rattle.delta_core.specs.declared.touched.Touch.{Touch}
use Rattle.plain_data.specs.Distinct.{AreDistinct}

-- no two stand before one another
abbrev pub IsOneWay : {X : Type 0} → (X → X → Bool) → Type 0
IsOneWay {X} before = (x y : X) → before x y ≡ true → before y x ≡ false

-- each stands before all behind it
abbrev pub Ascends : {X : Type 0} → (X → X → Bool) → List X → Type 0
Ascends before [] = Unit {0}
Ascends before (x ∷ xs) = All (λ y. before x y ≡ true) xs × Ascends before xs

-- what two lists have under the keys outside a set is the same
abbrev pub Agree : {X : Type 0} → (X → ViewKey) → List ViewKey → List X → List X → Type 0
Agree key_of keys xs ys = (k : ViewKey) → is_among keys k ≡ false → at_key key_of k xs ≡ at_key key_of k ys

-- what is left of a list outside a set of keys
abbrev pub rest : {X : Type 0} → (X → ViewKey) → List ViewKey → List X → List X
rest key_of keys xs = filter (λ x. not (is_among keys (key_of x))) xs

-- ---- rows at their places, of whatever kind the places are

abbrev pub row_in : {P : Type 0} → P × ShownRow → ShownRow
row_in x = x.1

abbrev pub key_in : {P : Type 0} → P × ShownRow → ViewKey
key_in x = (row_in x).key

abbrev pub rows_in : {P : Type 0} → List (P × ShownRow) → List ShownRow
rows_in xs = map row_in xs

-- two lists that ascend by one order and have no key twice, and that agree outside a set of keys, have the
-- same rests outside it, in the same order
abbrev pub RestsAreEqual : Type 0 → Type 0
RestsAreEqual P = (before : P × ShownRow → P × ShownRow → Bool) (keys : List ViewKey) (xs ys : List (P × ShownRow)) → IsOneWay before
    → Ascends before xs → Ascends before ys → AreDistinct (map key_in xs) → AreDistinct (map key_in ys)
    → Agree key_in keys xs ys → rest key_in keys xs ≡ rest key_in keys ys

-- rows that were shown and rows that are: both ascend by one order and have no key twice, and they agree outside
-- the touched keys, beside each of which stands whether it was shown
pub record IsUpdate {P : Type 0} (before : P × ShownRow → P × ShownRow → Bool) (keys : List (ViewKey × Touch)) (was now : List (P × ShownRow)) : Type 0 where
  pub one_way : IsOneWay before
  pub first : Ascends before was
  pub last : Ascends before now
  pub first_keys : AreDistinct (map key_in was)
  pub last_keys : AreDistinct (map key_in now)
  pub agree : Agree key_in (map (λ e. e.0) keys) was now
  pub flags : All (λ (e : ViewKey × Touch). e.1.was_shown ≡ has_row e.0 (rows_in was)) keys

-- the delta for these keys folds without fault into what was shown at the first mark, and gives what is shown at
-- the second
abbrev pub FoldsTo : List (ViewKey × Touch) → Bool → Shown → Shown → Mark → Mark → Type 0
FoldsTo keys header was now start end =
    let held : Held = record { shown = was; mark = start } in
    (fold_fault held (delta_of keys header now start end) ≡ None)
    × (folded held (delta_of keys header now start end) ≡ record { shown = now; mark = end })

-- so does the delta of an update, where the header is the same or was touched
abbrev pub DeltasRestore : Type 0 → Type 0
DeltasRestore P = (before : P × ShownRow → P × ShownRow → Bool) (keys : List (ViewKey × Touch)) (header : Bool) (head head_now : List HeaderColumn)
    (was now : List (P × ShownRow)) (start end : Mark) → IsUpdate before keys was now → (header ≡ false → head ≡ head_now)
    → FoldsTo keys header (record { header = head; rows = rows_in was }) (record { header = head_now; rows = rows_in now }) start end
