-- What follows where no fault stands against a schema.
use Rattle.std.proofs.Common.{◌≡◌, ◌≢◌, ℕ, suc, ℤ, pos, negsuc, ◌+◌, ◌<◌, ◌≤◌, eqb, ltb, ◌||◌, List, [], ◌∷◌, ◌++◌, length, map, All, Bool, true, false, not, cond, Option, Some, None, is_some, is_none, option_map, unwrap_or, Ok, Err, position, refl, sym, ap, ◌∙◌, subst, append_assoc, arith}
use Rattle.std.proofs.lemmas.Bool.{lt-ltb}
use Rattle.std.proofs.lemmas.Bool.Decides.{nat_tests}
use Rattle.std.specs.List.{cons_option, position_or_len}
use Rattle.std.proofs.lemmas.List.{length-map}
use Rattle.std.proofs.lemmas.List.Elements.{All-nil, All-cons}
use Rattle.std.proofs.lemmas.List.Quantifiers.{position-Some}
use Rattle.std.proofs.lemmas.Slice.Eq.{bytes_eq-Decides}
use Rattle.std.specs.Str.{bytes_eq}
use Rattle.plain_data.specs.Distinct.{AreDistinct}
use Rattle.plain_data.specs.Faults.{first_fault}
use Rattle.cell_core.specs.declared.cell.CellType.{CellType}
use Rattle.cell_core.specs.declared.schema.ColumnWords.{ColumnWords}
use Rattle.cell_core.specs.declared.schema.Column.{Column}
use Rattle.cell_core.specs.declared.schema.Keeping.{Keeping}
use Rattle.cell_core.specs.declared.schema.SchemaRefused.{SchemaRefused}
use Rattle.cell_core.specs.declared.schema.Numbers.TheVariants.{Zero}
use Rattle.cell_core.specs.declared.schema.SchemaCause.TheVariants.{Index, Limit}
use Rattle.cell_core.specs.declared.schema.SchemaRefused.TheVariants.{Bad, Memory}
use Rattle.cell_core.specs.Schemas.{type_named, column_faults, keeping_faults, keeping_of, schema_faults, outcome_of, typed_columns, is_named, stands_in, names_none, is_bad_name, is_bad_limit, names_of, IsName, IsKeeping, IsSchema}

pub none_first : {X : Type 0} (xs ys : List (Bool × X)) → first_fault (xs ++ ys) ≡ None → (first_fault xs ≡ None) × (first_fault ys ≡ None)
none_first [] ys h = (refl, h)
none_first ((true, why) ∷ xs) ys h = absurd (let wrong : Some why ≡ None = h in cc)
none_first ((false, why) ∷ xs) ys h = none_first xs ys h

pub none_then : {X : Type 0} (xs ys : List (Bool × X)) → first_fault xs ≡ None → first_fault (xs ++ ys) ≡ first_fault ys
none_then [] ys h = refl
none_then ((true, why) ∷ xs) ys h = absurd (let wrong : Some why ≡ None = h in cc)
none_then ((false, why) ∷ xs) ys h = none_then xs ys h

pub some_then : {X : Type 0} (xs ys : List (Bool × X)) (why : X) → first_fault xs ≡ Some why → first_fault (xs ++ ys) ≡ Some why
some_then [] ys why h = absurd (let wrong : None ≡ Some why = h in cc)
some_then ((true, w) ∷ xs) ys why h = h
some_then ((false, w) ∷ xs) ys why h = some_then xs ys why h

abbrev Faults : Type 0
Faults = List (Bool × SchemaRefused)

past_widths : (words : List ColumnWords) (index : Option (List ℕ)) (limit : Option ℤ) → 0 < length words → length words ≤ 32
    → first_fault (schema_faults words index limit) ≡ first_fault (column_faults [] 0 words ++ keeping_faults words index limit)
past_widths words index limit some few =
    let is_some : eqb (length words) 0 ≡ false = grind (arith, nat_tests) in
    let is_few : ltb 32 (length words) ≡ false = grind (arith, nat_tests) in
    rw (is_some, is_few) refl

pub refused_column : (words : List ColumnWords) (index : Option (List ℕ)) (limit : Option ℤ) (k : Keeping) (why : SchemaRefused) → 0 < length words → length words ≤ 32
    → first_fault (column_faults [] 0 words) ≡ Some why → outcome_of (first_fault (schema_faults words index limit)) k ≡ Err why
refused_column words index limit k why some few h =
    ap (λ e. outcome_of e k) (past_widths words index limit some few ∙ some_then (column_faults [] 0 words) (keeping_faults words index limit) why h)

pub no_refused_column : (words : List ColumnWords) (index : Option (List ℕ)) (limit : Option ℤ) (k : Keeping) → 0 < length words → length words ≤ 32
    → first_fault (column_faults [] 0 words) ≡ None → outcome_of (first_fault (schema_faults words index limit)) k ≡ outcome_of (first_fault (keeping_faults words index limit)) k
no_refused_column words index limit k some few h =
    ap (λ e. outcome_of e k) (past_widths words index limit some few ∙ none_then (column_faults [] 0 words) (keeping_faults words index limit) h)

-- ---- no fault

ok_none : {X E : Type 0} (e : Option E) (x y : X) → outcome_of e x ≡ Ok y → (e ≡ None) × (x ≡ y)
ok_none None x y h = (refl, (cc))
ok_none (Some e) x y h = absurd (let wrong : Err e ≡ Ok y = h in cc)

two_none : {X : Type 0} (a b : Bool) (x y : X) (rest : List (Bool × X)) → first_fault ((a, x) ∷ (b, y) ∷ rest) ≡ None
    → (a ≡ false) × (b ≡ false) × (first_fault rest ≡ None)
two_none true b x y rest h = absurd (let wrong : Some x ≡ None = h in cc)
two_none false true x y rest h = absurd (let wrong : Some y ≡ None = h in cc)
two_none false false x y rest h = (refl, refl, h)

three_none : {X : Type 0} (a b c : Bool) (x y z : X) (rest : List (Bool × X)) → first_fault ((a, x) ∷ (b, y) ∷ (c, z) ∷ rest) ≡ None
    → (a ≡ false) × (b ≡ false) × (c ≡ false) × (first_fault rest ≡ None)
three_none true b c x y z rest h = absurd (let wrong : Some x ≡ None = h in cc)
three_none false b c x y z rest h = let more = two_none b c y z rest h in (refl, more.0, more.1, more.2)

place_within : (words : List ColumnWords) (name : List ℕ) (o : Option ℕ) → position (is_named name) words ≡ o → not (is_some o) ≡ false → unwrap_or o 0 < length words
place_within words name None is h = absurd (let wrong : true ≡ false = h in cc)
place_within words name (Some i) is h = (position-Some (is_named name) words i (record { name = []; kind = [] }) is).0

kept : (words : List ColumnWords) (index : Option (List ℕ)) (limit : Option ℤ) → first_fault (keeping_faults words index limit) ≡ None → IsKeeping (length words) (keeping_of words index limit)
kept words None None h = tt
kept words (Some name) (Some n) h = absurd (let wrong : Some _ ≡ None = h in cc)
kept words (Some name) None h =
    let none = three_none false (names_none words (Some name)) false Memory (Bad Index Zero) Memory [] h in
    place_within words name (position (is_named name) words) refl none.1
kept words None (Some (negsuc n)) h = absurd (let wrong : Some _ ≡ None = h in cc)
kept words None (Some (pos n)) h =
    let none = three_none false false (is_bad_limit (Some (pos n))) Memory Memory (Bad Limit Zero) [] h in
    let bad : (eqb n 0 || ltb 65536 n) ≡ false = none.2 in
    (grind (arith, nat_tests), grind (arith, nat_tests))

-- ---- names

found : (p : ColumnWords → Bool) (front : List ColumnWords) (c : ColumnWords) (back : List ColumnWords) → p c ≡ true
    → position_or_len p (front ++ c ∷ back) < length (front ++ c ∷ back)
found p [] c back is = rw is (omega arith)
found p (f ∷ front) c back is = by (p f) (found p front c back is)
  where
    by : (b : Bool) → position_or_len p (front ++ c ∷ back) < length (front ++ c ∷ back)
        → cond (not b) (1 + position_or_len p (front ++ c ∷ back)) 0 < suc (length (front ++ c ∷ back))
    by true more = omega arith
    by false more = omega arith

-- a name that stands in front stands there
stands : (front : List ColumnWords) (c : ColumnWords) (back : List ColumnWords) (name : List ℕ) → name ≡ c.name → stands_in (front ++ c ∷ back) name ≡ true
stands front c back name same =
    let is : is_named name c ≡ true = (bytes_eq-Decides c.name name).1 (sym same) in
    rw (lt-ltb _ _ (found (is_named name) front c back is)) refl

-- the names of columns and of what stands in front of them differ
differ : (front : List ColumnWords) (c : ColumnWords) (back : List ColumnWords) (i : ℕ) (words : List ColumnWords)
    → first_fault (column_faults (front ++ c ∷ back) i words) ≡ None → All (λ y. y ≢ c.name) (map (λ w. w.name) words)
differ front c back i [] h = All-nil (λ y. y ≢ c.name)
differ front c back i (w ∷ words) h =
    let before = front ++ c ∷ back in
    let none = three_none (is_bad_name w.name) (is_none (type_named w.kind)) (stands_in before w.name) _ _ _ (column_faults (before ++ w ∷ []) (i + 1) words) h in
    let rest = subst (λ (b : List ColumnWords). first_fault (column_faults b (i + 1) words) ≡ None) (append_assoc front (c ∷ back) (w ∷ [])) none.3 in
    All-cons (λ y. y ≢ c.name) w.name _
    (λ same. let wrong : true ≡ false = sym (stands front c back w.name same) ∙ none.2 in cc)
    (differ front c (back ++ w ∷ []) (i + 1) words rest)

distinct : (before : List ColumnWords) (i : ℕ) (words : List ColumnWords) → first_fault (column_faults before i words) ≡ None → AreDistinct (map (λ w. w.name) words)
distinct before i [] h = tt
distinct before i (w ∷ words) h =
    let none = three_none (is_bad_name w.name) (is_none (type_named w.kind)) (stands_in before w.name) _ _ _ (column_faults (before ++ w ∷ []) (i + 1) words) h in
    (differ before w [] (i + 1) words none.3, distinct (before ++ w ∷ []) (i + 1) words none.3)

good_name : (name : List ℕ) → is_bad_name name ≡ false → IsName name
good_name name h =
    let bad : (eqb (length name) 0 || ltb 256 (length name)) ≡ false = h in
    (grind (arith, nat_tests), grind (arith, nat_tests))

named : (before : List ColumnWords) (i : ℕ) (words : List ColumnWords) → first_fault (column_faults before i words) ≡ None → All IsName (map (λ w. w.name) words)
named before i [] h = All-nil IsName
named before i (w ∷ words) h =
    let none = three_none (is_bad_name w.name) (is_none (type_named w.kind)) (stands_in before w.name) _ _ _ (column_faults (before ++ w ∷ []) (i + 1) words) h in
    All-cons IsName w.name _ (good_name w.name none.0) (named (before ++ w ∷ []) (i + 1) words none.3)

typed_name : (o : Option CellType) (name : List ℕ) (more : List Column) → is_none o ≡ false
    → names_of (cons_option (option_map (λ (k : CellType). let made : Column = record { name = name; kind = k } in made) o) more) ≡ name ∷ names_of more
typed_name None name more h = absurd (let wrong : true ≡ false = h in cc)
typed_name (Some k) name more h = refl

-- columns with their types have the names that were asked for
same_names : (before : List ColumnWords) (i : ℕ) (words : List ColumnWords) → first_fault (column_faults before i words) ≡ None → names_of (typed_columns words) ≡ map (λ w. w.name) words
same_names before i [] h = refl
same_names before i (w ∷ words) h =
    let none = three_none (is_bad_name w.name) (is_none (type_named w.kind)) (stands_in before w.name) _ _ _ (column_faults (before ++ w ∷ []) (i + 1) words) h in
    typed_name (type_named w.kind) w.name (typed_columns words) none.1 ∙ ap (λ ns. w.name ∷ ns) (same_names (before ++ w ∷ []) (i + 1) words none.3)

-- a schema is made where there is no fault
pub made : (words : List ColumnWords) (index : Option (List ℕ)) (limit : Option ℤ) (k : Keeping)
    → outcome_of (first_fault (schema_faults words index limit)) (keeping_of words index limit) ≡ Ok k
    → IsSchema (record { columns = typed_columns words; keeping = k })
made words index limit k h =
    let ok = ok_none (first_fault (schema_faults words index limit)) (keeping_of words index limit) k h in
    let width = two_none (eqb (length words) 0) (ltb 32 (length words)) _ _ (column_faults [] 0 words ++ keeping_faults words index limit) ok.0 in
    let rest = none_first (column_faults [] 0 words) (keeping_faults words index limit) width.2 in
    let names = same_names [] 0 words rest.0 in
    let all : length (typed_columns words) ≡ length words = sym (length-map (typed_columns words) (λ c. c.name)) ∙ ap length names ∙ length-map words (λ w. w.name) in
    let same : keeping_of words index limit ≡ k = ok.1 in
    record {
      some = rw all (grind (arith, nat_tests, width.0));
      few = rw all (grind (arith, nat_tests, width.1));
      distinct = rw names (distinct [] 0 words rest.0);
      named = rw names (named [] 0 words rest.0);
      keeping = rw (all, ← same) (kept words index limit rest.1);
    }
