-- Two rows of a flat view with the keys 1 and 2 are shown together.
use Rattle.std.proofs.Common.{◌≡◌, ◌≢◌, ℕ, ◌<◌, lit<, Bool, false, ℤ, pos, [], ◌∷◌, sym, subst, arith}
use Rattle.std.proofs.lemmas.List.Elements.{All-nil, All-cons}
use Rattle.cell_core.specs.declared.cell.Cell.TheVariants.{Int}
use Rattle.view_types.specs.Rows.{IsMarked, AreShownRows}
use Rattle.view_types.specs.declared.key.ViewKey.{ViewKey}
use Rattle.view_types.specs.declared.key.ViewKey.TheVariants.{Row}
use Rattle.view_types.specs.declared.shown.ShownRow.{ShownRow}

abbrev pub IsRow : ℤ → ShownRow → Type 0
IsRow key r = (r.key ≡ Row (Int key)) × (r.mark ≡ false)

row-marked : (k : ViewKey) (mark : Bool) (key : ℤ) → k ≡ Row (Int key) → mark ≡ false → IsMarked k mark
row-marked k mark key is free = subst (λ (q : ViewKey). IsMarked q mark) (sym is) free

numbers-apart : (m n : ℕ) → m < n → pos m ≡ pos n → ⊥
numbers-apart m n less same = let e : m ≡ n = cc in absurd (omega arith)

keys-apart : (a b : ViewKey) → a ≡ Row (Int (pos 1)) → b ≡ Row (Int (pos 2)) → b ≢ a
keys-apart a b first second same = let e : pos 1 ≡ pos 2 = cc in numbers-apart 1 2 (lit< tt) e

abbrev IsNot : ViewKey → ViewKey → Type 0
IsNot k l = l ≢ k

abbrev Marked : ShownRow → Type 0
Marked r = IsMarked r.key r.mark

pub two_rows-shown : (a b : ShownRow) → IsRow (pos 1) a → IsRow (pos 2) b → AreShownRows (a ∷ b ∷ [])
two_rows-shown a b first second = record {
  distinct = (All-cons (IsNot a.key) b.key [] (keys-apart a.key b.key first.0 second.0) (All-nil (IsNot a.key)), (All-nil (IsNot b.key), tt));
  marked = All-cons Marked a (b ∷ []) (row-marked a.key a.mark (pos 1) first.0 first.1) (All-cons Marked b [] (row-marked b.key b.mark (pos 2) second.0 second.1) (All-nil Marked));
}
