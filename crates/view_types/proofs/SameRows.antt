-- Cells, rows and headers are the same exactly where they are equal.
use Rattle.std.proofs.Common.{◌≡◌, ℕ, ◌+◌, ◌*◌, Bool, true, false, ◌&&◌, List, [], ◌∷◌, length, get_or, refl, ap, arith}
use Rattle.std.proofs.lemmas.Cmp.{tied_itself, nat_list_cmp_total}
use Rattle.std.proofs.lemmas.Map.Lookups.{exact_bytes}
use Rattle.std.specs.Ordering.{is_eq, nat_cmp}
use Rattle.std.specs.Cmp.Lexicographic.{slice_cmp}
use Rattle.value_core.specs.Values.{value_order}
use Rattle.value_core.specs.ValueLaws.{value_order-exact, value_order_total}
use Rattle.value_core.specs.declared.value.Value.{Value}
use Rattle.view_types.specs.Same.{same_text, same_value, same_mark, same_cells, same_row, same_header}
use Rattle.view_types.specs.Keys.{same_key}
use Rattle.view_types.specs.Types.{shown_type_name}
use Rattle.view_types.specs.declared.shown.HeaderColumn.{HeaderColumn}
use Rattle.view_types.specs.declared.shown.ShownRow.{ShownRow}
use Rattle.view_types.specs.declared.shown.ShownType.{ShownType}
use Rattle.view_types.specs.declared.shown.ShownType.TheVariants as shown
use Rattle.view_types.proofs.KeyOrder.{equal_from_is_eq, same_key_is_equal, same_key_itself}

-- ---- both of two tests, and all of three

pub both_first : (a b : Bool) → a && b ≡ true → a ≡ true
both_first true b h = refl
both_first false b h = h

pub both_second : (a b : Bool) → a && b ≡ true → b ≡ true
both_second true b h = h
both_second false b h = cc

pub both : (a b : Bool) → a ≡ true → b ≡ true → a && b ≡ true
both true b h k = k
both false b h k = h

-- ---- texts, values and marks

same_text_is_equal : (a b : List ℕ) → same_text a b ≡ true → a ≡ b
same_text_is_equal a b h = exact_bytes a b (equal_from_is_eq (slice_cmp nat_cmp a b) h)

same_text_itself : (a : List ℕ) → same_text a a ≡ true
same_text_itself a = ap is_eq (tied_itself nat_list_cmp_total a)

same_value_is_equal : (a b : Value) → same_value a b ≡ true → a ≡ b
same_value_is_equal a b h = value_order-exact a b (equal_from_is_eq (value_order a b) h)

same_value_itself : (a : Value) → same_value a a ≡ true
same_value_itself a = ap is_eq (tied_itself value_order_total a)

same_mark_is_equal : (a b : Bool) → same_mark a b ≡ true → a ≡ b
same_mark_is_equal true true h = refl
same_mark_is_equal true false h = absurd (let wrong : false ≡ true = h in cc)
same_mark_is_equal false true h = absurd (let wrong : false ≡ true = h in cc)
same_mark_is_equal false false h = refl

same_mark_itself : (a : Bool) → same_mark a a ≡ true
same_mark_itself true = refl
same_mark_itself false = refl

-- ---- cells

pub same_cells_are_equal : (a b : List (List ℕ × Value)) → same_cells a b ≡ true → a ≡ b
same_cells_are_equal [] [] h = refl
same_cells_are_equal [] (b ∷ bs) h = absurd (let wrong : false ≡ true = h in cc)
same_cells_are_equal (a ∷ as_) [] h = absurd (let wrong : false ≡ true = h in cc)
same_cells_are_equal (a ∷ as_) (b ∷ bs) h =
    let first = both_first (same_text a.0 b.0 && same_value a.1 b.1) (same_cells as_ bs) h in
    let text : a.0 ≡ b.0 = same_text_is_equal a.0 b.0 (both_first (same_text a.0 b.0) (same_value a.1 b.1) first) in
    let value : a.1 ≡ b.1 = same_value_is_equal a.1 b.1 (both_second (same_text a.0 b.0) (same_value a.1 b.1) first) in
    let rest : as_ ≡ bs = same_cells_are_equal as_ bs (both_second (same_text a.0 b.0 && same_value a.1 b.1) (same_cells as_ bs) h) in
    λ i. (text i, value i) ∷ rest i

pub same_cells_itself : (a : List (List ℕ × Value)) → same_cells a a ≡ true
same_cells_itself [] = refl
same_cells_itself (a ∷ as_) =
    both (same_text a.0 a.0 && same_value a.1 a.1) (same_cells as_ as_)
    (both (same_text a.0 a.0) (same_value a.1 a.1) (same_text_itself a.0) (same_value_itself a.1))
    (same_cells_itself as_)

-- ---- rows

pub same_row_is_equal : (a b : ShownRow) → same_row a b ≡ true → a ≡ b
same_row_is_equal a b h =
    let first = both_first (same_key a.key b.key && same_mark a.mark b.mark) (same_cells a.cells b.cells) h in
    let key = same_key_is_equal a.key b.key (both_first (same_key a.key b.key) (same_mark a.mark b.mark) first) in
    let mark = same_mark_is_equal a.mark b.mark (both_second (same_key a.key b.key) (same_mark a.mark b.mark) first) in
    let cells = same_cells_are_equal a.cells b.cells (both_second (same_key a.key b.key && same_mark a.mark b.mark) (same_cells a.cells b.cells) h) in
    λ i. record { key = key i; mark = mark i; cells = cells i }

pub same_row_itself : (a : ShownRow) → same_row a a ≡ true
same_row_itself a =
    both (same_key a.key a.key && same_mark a.mark a.mark) (same_cells a.cells a.cells)
    (both (same_key a.key a.key) (same_mark a.mark a.mark) (same_key_itself a.key) (same_mark_itself a.mark))
    (same_cells_itself a.cells)

-- ---- headers

-- tells the names of types apart
abbrev measure : List ℕ → ℕ
measure name = 256 * length name + get_or name 0 0

types_by_name : (a b : ShownType) → shown_type_name a ≡ shown_type_name b → a ≡ b
types_by_name shown.Integer shown.Integer h = refl
types_by_name shown.Boolean shown.Boolean h = refl
types_by_name shown.Date shown.Date h = refl
types_by_name shown.Moment shown.Moment h = refl
types_by_name shown.Words shown.Words h = refl
types_by_name shown.Fraction shown.Fraction h = refl
types_by_name a b h = absurd (let apart : measure (shown_type_name a) ≡ measure (shown_type_name b) = ap measure h in omega arith)

pub same_header_is_equal : (a b : List HeaderColumn) → same_header a b ≡ true → a ≡ b
same_header_is_equal [] [] h = refl
same_header_is_equal [] (b ∷ bs) h = absurd (let wrong : false ≡ true = h in cc)
same_header_is_equal (a ∷ as_) [] h = absurd (let wrong : false ≡ true = h in cc)
same_header_is_equal (a ∷ as_) (b ∷ bs) h =
    let texts = same_text a.text b.text in
    let kinds = same_text (shown_type_name a.kind) (shown_type_name b.kind) in
    let first = both_first (texts && kinds) (same_header as_ bs) h in
    let text = same_text_is_equal a.text b.text (both_first texts kinds first) in
    let kind = types_by_name a.kind b.kind (same_text_is_equal (shown_type_name a.kind) (shown_type_name b.kind) (both_second texts kinds first)) in
    let rest = same_header_is_equal as_ bs (both_second (texts && kinds) (same_header as_ bs) h) in
    let column : a ≡ b = λ i. record { text = text i; kind = kind i } in
    λ i. column i ∷ rest i

pub same_header_itself : (a : List HeaderColumn) → same_header a a ≡ true
same_header_itself [] = refl
same_header_itself (a ∷ as_) =
    let texts = same_text a.text a.text in
    let kinds = same_text (shown_type_name a.kind) (shown_type_name a.kind) in
    both (texts && kinds) (same_header as_ as_)
    (both texts kinds (same_text_itself a.text) (same_text_itself (shown_type_name a.kind)))
    (same_header_itself as_)
