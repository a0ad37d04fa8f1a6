-- A map of the names of a header that were found.
use Rattle.std.proofs.Common.{◌≡◌, ℕ, ◌+◌, ◌<◌, List, length, get_or, take, Bool, true, false, ◌||◌, cond, Option, Some, Ordering, Bor, sym, ap, ◌∙◌, subst}
use Rattle.std.specs.Prelude.{is_some}
use Rattle.std.specs.BTreeMap.{BTreeMap, get, get_by, Updates}
use Rattle.std.specs.Cmp.Lexicographic.{slice_cmp}
use Rattle.std.specs.List.{list_any}
use Rattle.std.specs.Ordering.{nat_cmp}
use Rattle.std.specs.Str.{bytes_eq}
use Rattle.std.proofs.Math.Bool.{or-true, or-false}
use Rattle.std.proofs.lemmas.List.Folds.{list_any_more}
use Rattle.std.proofs.lemmas.Map.Text.{btree_map_updates_str}

-- the map has exactly these names
abbrev pub Holds : BTreeMap (Bor (List ℕ)) (Unit {0}) → List (List ℕ) → Type 0
Holds found names = (s : List ℕ) → is_some (get_by (λ (k : Bor (List ℕ)). slice_cmp nat_cmp s k.now) found) ≡ list_any (λ other. bytes_eq other s) names

abbrev by_bytes : Bor (List ℕ) → Bor (List ℕ) → Ordering
by_bytes x y = slice_cmp nat_cmp x.now y.now

-- what the map had at a name says whether it stands earlier
pub is_earlier : (names : List (List ℕ)) (name : List ℕ) (found : BTreeMap (Bor (List ℕ)) (Unit {0})) (key : Bor (List ℕ)) (old : Option (Unit {0})) (b : Bool)
    → Holds found names → key.now ≡ name → old ≡ get by_bytes found key → is_some old ≡ b → list_any (λ other. bytes_eq other name) names ≡ b
is_earlier names name found key old b holds is was test =
    subst (λ s. list_any (λ other. bytes_eq other s) names ≡ b) is (sym (holds key.now) ∙ ap is_some (sym was) ∙ test)

some_if : (b : Bool) (o : Option (Unit {0})) → is_some (cond b (Some tt) o) ≡ (is_some o || b)
some_if true o = sym (or-true (is_some o))
some_if false o = sym (or-false (is_some o))

-- a name more
pub more_held : (names : List (List ℕ)) (i : ℕ) (name : List ℕ) (old new : BTreeMap (Bor (List ℕ)) (Unit {0})) (key : Bor (List ℕ)) → i < length names
    → name ≡ get_or names i name → key.now ≡ name → Updates by_bytes old new key (Some tt) → Holds old (take i names) → Holds new (take (i + 1) names)
more_held names i name old new key lt at is put holds = λ s.
    let test = λ (other : List ℕ). bytes_eq other s in
    ap is_some (btree_map_updates_str key.now old new (Some tt) put s)
    ∙ some_if (bytes_eq key.now s) (get_by (λ (k : Bor (List ℕ)). slice_cmp nat_cmp s k.now) old)
    ∙ ap (λ b. b || bytes_eq key.now s) (holds s)
    ∙ ap (λ n. list_any test (take i names) || bytes_eq n s) (is ∙ at)
    ∙ sym (list_any_more test names i name lt)
