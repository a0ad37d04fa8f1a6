-- The records that a reader gives are the records of the text.
use Rattle.std.proofs.Common.{◌≡◌, ℕ, zero, suc, ◌+◌, ◌<◌, ◌≤◌, eqb, List, [], ◌∷◌, ◌++◌, length, Bool, true, false, ◌&&◌, cond, Option, Some, None, refl, sym, ap, ◌∙◌, subst, arith, take, drop, get_or}
use Rattle.std.proofs.lemmas.Bool.{cond-true, cond-false}
use Rattle.std.proofs.lemmas.List.{drop_more, take_more}
use Rattle.std.specs.List.{list_any}
use Rattle.std.specs.Str.{bytes_eq}
use Rattle.cell_core.specs.declared.schema.Numbers.TheVariants.{One}
use Rattle.row_batch.specs.declared.refused.BatchRefused.{BatchRefused}
use Rattle.row_batch.specs.declared.refused.RowCause.TheVariants as cause
use Rattle.csv.specs.Records.{field_at}
use Rattle.csv_rows.specs.Reading.{twice_from}
use Rattle.csv.specs.Machine.{ends_with, after_end, is_byte, in_field, start_field, start_record, step, ends_at_end, is_end, fields_after, field_after, Read, next_record}
use Rattle.csv.specs.Reading.{records_next, records_from, records, default_config, Reached, AreRecords}
use Rattle.csv.specs.declared.parser.Action.{Action}
use Rattle.csv.specs.declared.parser.Action.TheVariants as act
use Rattle.csv.specs.declared.parser.Config.{Config}
use Rattle.csv.specs.declared.parser.State.{State}
use Rattle.csv.specs.declared.parser.State.TheVariants as st
use Rattle.csv.specs.declared.parser.Terminator.{Terminator}
use Rattle.csv.specs.declared.parser.Terminator.TheVariants as term

-- ---- a record that ended leaves nothing that the end of the text would end

abbrev Closes : State × Action → Type 0
Closes p = is_end p.1 ≡ true → ends_at_end p.0 ≡ false

closes_if : (b : Bool) (p q : State × Action) → Closes p → Closes q → Closes (cond b p q)
closes_if true p q h k = h
closes_if false p q h k = k

after_end-closes : (t : Terminator) (c : ℕ) → ends_at_end (after_end t c) ≡ false
after_end-closes term.CRLF c = by_cr (eqb c 13)
  where
    by_cr : (b : Bool) → ends_at_end (cond b st.AfterCr st.StartRecord) ≡ false
    by_cr true = refl
    by_cr false = refl
after_end-closes (term.Any t) c = refl

in_field-closes : (cfg : Config) (c : ℕ) → Closes (in_field cfg c)
in_field-closes cfg c =
    closes_if (eqb c cfg.delimiter) (st.StartField, act.EndField) _ (λ h. cc)
    (closes_if (ends_with cfg.terminator c) (after_end cfg.terminator c, act.EndRecord) (st.InField, act.Copy) (λ h. after_end-closes cfg.terminator c) (λ h. cc))

start_field-closes : (cfg : Config) (c : ℕ) → Closes (start_field cfg c)
start_field-closes cfg c = closes_if (cfg.quoting && eqb c cfg.quote) (st.InQuoted, act.Skip) (in_field cfg c) (λ h. cc) (in_field-closes cfg c)

start_record-closes : (cfg : Config) (c : ℕ) → Closes (start_record cfg c)
start_record-closes cfg c =
    closes_if (ends_with cfg.terminator c) (st.StartRecord, act.Skip) _ (λ h. cc)
    (closes_if (is_byte cfg.comment c) (st.InComment, act.Skip) (start_field cfg c) (λ h. cc) (start_field-closes cfg c))

step-closes : (cfg : Config) (s : State) (c : ℕ) → Closes (step cfg s c)
step-closes cfg st.StartRecord c = start_record-closes cfg c
step-closes cfg st.StartField c = start_field-closes cfg c
step-closes cfg st.InField c = in_field-closes cfg c
step-closes cfg st.InQuoted c =
    closes_if (cfg.quoting && eqb c cfg.quote) (st.AfterQuote, act.Skip) _ (λ h. cc)
    (closes_if (cfg.quoting && is_byte cfg.escape c) (st.InEscape, act.Skip) (st.InQuoted, act.Copy) (λ h. cc) (λ h. cc))
step-closes cfg st.InEscape c = λ h. cc
step-closes cfg st.AfterQuote c =
    closes_if (cfg.quoting && cfg.double_quote && eqb c cfg.quote) (st.InQuoted, act.Copy) (in_field cfg c) (λ h. cc) (in_field-closes cfg c)
step-closes cfg st.InComment c = closes_if (eqb c 10) (st.StartRecord, act.Skip) (st.InComment, act.Skip) (λ h. cc) (λ h. cc)
step-closes cfg st.AfterCr c = closes_if (eqb c 10) (st.StartRecord, act.Skip) (start_record cfg c) (λ h. cc) (start_record-closes cfg c)

-- ---- each record takes a byte at least

abbrev rest_len : List ℕ → ℕ
rest_len [] = 0
rest_len (c ∷ xs) = length xs

rest_len-le : (xs : List ℕ) → rest_len xs ≤ length xs
rest_len-le [] = omega arith
rest_len-le (c ∷ xs) = omega arith

record Leaves (xs : List ℕ) (q : Read) : Type 0 where
  less : length q.2 ≤ rest_len xs
  closed : ends_at_end q.1 ≡ false

at_end : (b : Bool) (x q : Read) → cond b (Some x) None ≡ Some q → x ≡ q
at_end true x q h = cc
at_end false x q h = cc

at_byte : (b : Bool) (x q : Read) (more : Option Read) (P : Type 0) → cond b (Some x) more ≡ Some q → (b ≡ true → x ≡ q → P) → (more ≡ Some q → P) → P
at_byte true x q more P h f g = let same : x ≡ q = cc in f refl same
at_byte false x q more P h f g = g h

leaves : (cfg : Config) (s : State) (fields : List (List ℕ)) (field xs : List ℕ) (q : Read) → next_record cfg s fields field xs ≡ Some q → Leaves xs q
unfolding next_record
leaves cfg s fields field [] q h =
    let same = at_end (ends_at_end s) (fields ++ (field ∷ []), st.StartRecord, []) q h in
    subst (Leaves []) same (record { less = omega arith; closed = refl })
leaves cfg s fields field (c ∷ xs) q h =
    at_byte (is_end (step cfg s c).1) (fields_after (step cfg s c).1 fields field, (step cfg s c).0, xs) q
    (next_record cfg (step cfg s c).0 (fields_after (step cfg s c).1 fields field) (field_after (step cfg s c).1 c field) xs) (Leaves (c ∷ xs) q) h
    (λ end same. subst (Leaves (c ∷ xs)) same (record { less = omega arith; closed = step-closes cfg s c end }))
    (λ more.
    let rest = leaves cfg (step cfg s c).0 (fields_after (step cfg s c).1 fields field) (field_after (step cfg s c).1 c field) xs q more in
    let le = rest_len-le xs in
    let less : length q.2 ≤ length xs = omega (arith, rest.less, le) in
    record { less = less; closed = rest.closed })

none_left : (cfg : Config) (s : State) (p : Read) → ends_at_end s ≡ false → next_record cfg s [] [] [] ≡ Some p → ⊥
unfolding next_record
none_left cfg s p closed h = let none : ◌≡◌ {A = Option Read} None (Some p) = rw closed at h in cc

-- ---- no more records than bytes

count : (cfg : Config) (s : State) (xs : List ℕ) (rows : List (List (List ℕ))) (s2 : State) (ys : List ℕ) → ends_at_end s ≡ false
    → Reached cfg s xs rows s2 ys → length rows ≤ length xs
unfolding Reached
count cfg s xs [] s2 ys closed h = omega arith
count cfg s [] (r ∷ rows) s2 ys closed h = absurd (none_left cfg s h.0 closed h.1)
count cfg s (c ∷ xs) (r ∷ rows) s2 ys closed h =
    let q = leaves cfg s [] [] (c ∷ xs) h.0 h.1 in
    let fewer = count cfg h.0.1 h.0.2 rows s2 ys q.closed h.3 in
    let less : length h.0.2 ≤ length xs = q.less in
    let le : length rows ≤ length xs = omega (arith, fewer, less) in
    omega (arith, le)

-- ---- they are the records

reached : (cfg : Config) (n : ℕ) (s : State) (xs : List ℕ) (rows : List (List (List ℕ))) (s2 : State) (ys : List ℕ) → length rows < n
    → Reached cfg s xs rows s2 ys → next_record cfg s2 [] [] ys ≡ None → records_from cfg n s xs ≡ rows
unfolding Reached records_from
reached cfg zero s xs rows s2 ys few h none = absurd (omega arith)
reached cfg (suc n) s xs [] s2 ys few h none =
    ap (records_next (records_from cfg n)) (ap (λ x. next_record cfg x [] [] xs) h.0 ∙ ap (next_record cfg s2 [] []) h.1 ∙ none)
reached cfg (suc n) s xs (r ∷ rows) s2 ys few h none =
    let fewer : length rows < n = omega arith in
    ap (records_next (records_from cfg n)) h.1
    ∙ ap (λ more. h.0.0 ∷ more) (reached cfg n h.0.1 h.0.2 rows s2 ys fewer h.3 none) ∙ ap (λ x. x ∷ rows) (sym h.2)

pub are_records : (xs : List ℕ) (rows : List (List (List ℕ))) → AreRecords default_config st.StartRecord xs rows → rows ≡ records default_config xs
are_records xs rows h =
    let most = count default_config st.StartRecord xs rows h.0 h.1 refl h.2 in
    let few : length rows < length xs + 1 = omega (arith, most) in
    sym (reached default_config (length xs + 1) st.StartRecord xs rows h.0 h.1 few h.2 h.3)

-- ---- the fields of a record, in turn

pub take-field : (fields : List (List ℕ)) (i : ℕ) (x : List ℕ) → Some x ≡ field_at fields i → take i fields ++ x ∷ [] ≡ take (suc i) fields
unfolding field_at
take-field [] i x h = cc
take-field (f ∷ fields) zero x h = let same : x ≡ f = cc in ap (λ y. y ∷ []) same
take-field (f ∷ fields) (suc i) x h = ap (λ y. f ∷ y) (take-field fields i x h)

pub take-fields : (fields : List (List ℕ)) (i : ℕ) → None ≡ field_at fields i → take i fields ≡ fields
unfolding field_at
take-fields [] zero h = refl
take-fields [] (suc i) h = refl
take-fields (f ∷ fields) zero h = cc
take-fields (f ∷ fields) (suc i) h = ap (λ y. f ∷ y) (take-fields fields i h)

-- ---- the names of a header, in turn

left : (names : List (List ℕ)) (i : ℕ) (name : List ℕ) → i < length names → name ≡ get_or names i name → drop i names ≡ name ∷ drop (i + 1) names
left names i name h is = drop_more names i name h ∙ ap (λ x. x ∷ drop (i + 1) names) (sym is)

pub twice-here : (names : List (List ℕ)) (i : ℕ) (name : List ℕ) (whole : Option BatchRefused) → i < length names → name ≡ get_or names i name
    → list_any (λ other. bytes_eq other name) (take i names) ≡ true → twice_from (take i names) i (drop i names) ≡ whole
    → Some (record { cause = cause.Twice; at = One i }) ≡ whole
twice-here names i name whole h is found so =
    sym (ap (λ x. twice_from (take i names) i x) (left names i name h is) ∙ cond-true (list_any (λ other. bytes_eq other name) (take i names)) _ _ found) ∙ so

pub twice-next : (names : List (List ℕ)) (i : ℕ) (name : List ℕ) (whole : Option BatchRefused) → i < length names → name ≡ get_or names i name
    → list_any (λ other. bytes_eq other name) (take i names) ≡ false → twice_from (take i names) i (drop i names) ≡ whole
    → twice_from (take (i + 1) names) (i + 1) (drop (i + 1) names) ≡ whole
twice-next names i name whole h is found so =
    let front : take i names ++ name ∷ [] ≡ take (i + 1) names = ap (λ x. take i names ++ x ∷ []) is ∙ sym (take_more names i name h) in
    ap (λ x. twice_from x (i + 1) (drop (i + 1) names)) (sym front)
    ∙ sym (ap (λ x. twice_from (take i names) i x) (left names i name h is) ∙ cond-false (list_any (λ other. bytes_eq other name) (take i names)) _ _ found) ∙ so
