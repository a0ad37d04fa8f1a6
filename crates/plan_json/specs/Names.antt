-- Texts under names.
use Rattle.std.specs.Prelude.{ℕ, List, map}
use Rattle.std.specs.Cmp.Lexicographic.{slice_cmp}
use Rattle.std.specs.List.Sorted.{IsStrictlySortedBy}
use Rattle.std.specs.Ordering.{nat_cmp}
use Rattle.plan_json.specs.declared.named.NamedText.{NamedText}

abbrev pub named : List ℕ → List ℕ → NamedText
named name text = record { name = name; text = text }

-- the names ascend by their bytes, and none stands twice
abbrev pub NamesAscend : List NamedText → Type 0
NamesAscend texts = IsStrictlySortedBy (slice_cmp nat_cmp) (map (λ n. n.name) texts)
