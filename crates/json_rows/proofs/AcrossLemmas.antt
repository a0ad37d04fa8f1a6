-- Rows across an object of lists.
use Rattle.std.proofs.Common.{◌≡◌, ℕ, zero, suc, ◌+◌, ◌-◌, ◌<◌, ◌≤◌, List, [], ◌∷◌, ◌++◌, length, Bool, true, false, not, ◌&&◌, cond, Option, Some, None, option_map, nat_cmp, Result, Ok, Err, refl, sym, ap, subst, ◌∙◌, append-nil, arith}
use Rattle.std.proofs.lemmas.Bool.{cond-true}
use Rattle.std.specs.Cmp.Lexicographic.{slice_cmp}
use Rattle.std.specs.Ordering.{match_ordering}
use Rattle.plain_data.specs.Faults.{first_fault}
use Rattle.cell_core.specs.RawData.{raw_map, RawMembers, no_raw_members, raw_member, get_raw}
use Rattle.cell_core.specs.Schemas.{SchemaData}
use Rattle.cell_core.specs.declared.schema.Column.{Column}
use Rattle.row_batch.specs.Reading.{RefusesRows}
use Rattle.row_batch.specs.declared.batch.PatchCell.{PatchCell}
use Rattle.row_batch.specs.declared.refused.BatchRefused.{BatchRefused}
use Rattle.row_batch.specs.declared.refused.RowsRefused.{RowsRefused}
use Rattle.row_cells.specs.Rows.{too_many, unless_refused, in_front, read_each, read_batch, read_patch, names_column}
use Rattle.row_cells.proofs.Fronts.{with_front, with_front-push, refused_by, read_batch-many, read_batch-few}
use Rattle.json_rows.proofs.Members.{at-match_ordering}
use Rattle.json_rows.specs.Reading.{member_of, names_columns, read_row, row_count, lists_faults, value_at, row_across, rows_across, read_lists}

-- ---- one row across

names_columns-row_across : (columns : List Column) (k : ℕ) (ms : RawMembers) → names_columns columns (row_across k ms) ≡ names_columns columns ms
names_columns-row_across columns k no_raw_members = refl
names_columns-row_across columns k (raw_member name d ms) = ap (λ b. names_column columns name && b) (names_columns-row_across columns k ms)

pub get_raw-row_across : (k : ℕ) (name : List ℕ) (ms : RawMembers) → get_raw name (row_across k ms) ≡ option_map (value_at k) (get_raw name ms)
get_raw-row_across k name no_raw_members = refl
get_raw-row_across k name (raw_member l d ms) =
    ap (λ o. match_ordering (slice_cmp nat_cmp name l) o (Some (value_at k d)) o) (get_raw-row_across k name ms)
    ∙ sym (at-match_ordering (option_map (value_at k)) (slice_cmp nat_cmp name l) (get_raw name ms) (Some d) (get_raw name ms))

read_row-across : (schema : SchemaData) (k : ℕ) (ms : RawMembers) → names_columns schema.columns ms ≡ true
    → read_row schema k (raw_map (row_across k ms)) ≡ read_patch schema k (member_of (row_across k ms))
read_row-across schema k ms h = cond-true (names_columns schema.columns (row_across k ms)) _ _ (names_columns-row_across schema.columns k ms ∙ h)

-- ---- the rows that are left

rows_across-left : (ms : RawMembers) (k count : ℕ) → k < count → rows_across ms k (count - k) ≡ raw_map (row_across k ms) ∷ rows_across ms (k + 1) (count - (k + 1))
rows_across-left ms k count h = let e : count - k ≡ suc (count - (k + 1)) = omega arith in rw e refl

rows_across-none : (ms : RawMembers) (k count : ℕ) → count ≤ k → rows_across ms k (count - k) ≡ []
rows_across-none ms k count h = let e : count - k ≡ 0 = omega arith in rw e refl

abbrev pub Whole : Type 0
Whole = Result (List (List PatchCell)) BatchRefused

opened : (schema : SchemaData) (ms : RawMembers) (k count : ℕ) (found : List (List PatchCell)) (whole : Whole) → k < count → names_columns schema.columns ms ≡ true
    → with_front found (read_each (read_row schema) k (rows_across ms k (count - k))) ≡ whole
    → with_front found (in_front (read_patch schema k (member_of (row_across k ms))) (read_each (read_row schema) (k + 1) (rows_across ms (k + 1) (count - (k + 1))))) ≡ whole
opened schema ms k count found whole h names so =
    ap (λ r. with_front found (in_front r (read_each (read_row schema) (k + 1) (rows_across ms (k + 1) (count - (k + 1)))))) (sym (read_row-across schema k ms names))
    ∙ ap (λ rows. with_front found (read_each (read_row schema) k rows)) (sym (rows_across-left ms k count h)) ∙ so

pub across-push : (schema : SchemaData) (ms : RawMembers) (k count : ℕ) (found : List (List PatchCell)) (patch : List PatchCell) (whole : Whole) → k < count
    → names_columns schema.columns ms ≡ true → read_patch schema k (member_of (row_across k ms)) ≡ Ok patch
    → with_front found (read_each (read_row schema) k (rows_across ms k (count - k))) ≡ whole
    → with_front (found ++ patch ∷ []) (read_each (read_row schema) (k + 1) (rows_across ms (k + 1) (count - (k + 1)))) ≡ whole
across-push schema ms k count found patch whole h names good so =
    let rest = read_each (read_row schema) (k + 1) (rows_across ms (k + 1) (count - (k + 1))) in
    with_front-push found patch rest ∙ ap (λ r. with_front found (in_front r rest)) (sym good) ∙ opened schema ms k count found whole h names so

pub across-refused : (schema : SchemaData) (ms : RawMembers) (k count : ℕ) (found : List (List PatchCell)) (whole : Whole) (e : RowsRefused) → k < count
    → names_columns schema.columns ms ≡ true → RefusesRows (read_patch schema k (member_of (row_across k ms))) e
    → with_front found (read_each (read_row schema) k (rows_across ms k (count - k))) ≡ whole → RefusesRows whole e
across-refused schema ms k count found whole e h names bad so =
    refused_by found (read_patch schema k (member_of (row_across k ms))) (read_each (read_row schema) (k + 1) (rows_across ms (k + 1) (count - (k + 1)))) whole e
    (opened schema ms k count found whole h names so) bad

pub across-end : (schema : SchemaData) (ms : RawMembers) (k count : ℕ) (found : List (List PatchCell)) (whole : Whole) → count ≤ k
    → with_front found (read_each (read_row schema) k (rows_across ms k (count - k))) ≡ whole → whole ≡ Ok found
across-end schema ms k count found whole h so =
    sym so ∙ ap (λ rows. with_front found (read_each (read_row schema) k rows)) (rows_across-none ms k count h) ∙ ap Ok (append-nil found)

-- ---- the causes against the whole

length-rows_across : (ms : RawMembers) (k count : ℕ) → length (rows_across ms k count) ≡ count
length-rows_across ms k zero = refl
length-rows_across ms k (suc count) = ap suc (length-rows_across ms (k + 1) count)

-- nothing is to be said against the whole, and it has so many rows
pub record IsWhole (schema : SchemaData) (ms : RawMembers) (count : ℕ) : Type 0 where
  pub fault : None ≡ first_fault (lists_faults schema.columns ms)
  pub rows : count ≡ row_count ms

-- so it is where the members are seen as these
pub whole_from : (schema : SchemaData) (ms seen : RawMembers) (fault : Option BatchRefused) (count : ℕ) → seen ≡ ms → fault ≡ first_fault (lists_faults schema.columns seen)
    → fault ≡ None → count ≡ row_count seen → IsWhole schema ms count
whole_from schema ms seen fault count same is none rows =
    record { fault = sym none ∙ is ∙ ap (λ x. first_fault (lists_faults schema.columns x)) same; rows = rows ∙ ap row_count same }

untested : (named : Bool) (why : BatchRefused) (more : Option BatchRefused) → None ≡ cond (not named) (Some why) more → named ≡ true
untested true why more h = refl
untested false why more h = cc

pub whole_named : (schema : SchemaData) (ms : RawMembers) (count : ℕ) → IsWhole schema ms count → names_columns schema.columns ms ≡ true
whole_named schema ms count is = untested (names_columns schema.columns ms) _ _ is.fault

passed : (schema : SchemaData) (ms : RawMembers) (count : ℕ) → IsWhole schema ms count → read_lists schema ms ≡ read_batch (read_row schema) (rows_across ms 0 count)
passed schema ms count is = rw is.rows (ap (λ why. unless_refused why (read_batch (read_row schema) (rows_across ms 0 (row_count ms)))) (sym is.fault))

pub across-many : (schema : SchemaData) (ms : RawMembers) (count : ℕ) → IsWhole schema ms count → 1024 < count → read_lists schema ms ≡ Err (too_many count)
across-many schema ms count is many =
    passed schema ms count is ∙ read_batch-many (read_row schema) (rows_across ms 0 count) count (length-rows_across ms 0 count) many

pub across-few : (schema : SchemaData) (ms : RawMembers) (count : ℕ) → IsWhole schema ms count → count ≤ 1024 → read_lists schema ms ≡ read_each (read_row schema) 0 (rows_across ms 0 count)
across-few schema ms count is few =
    passed schema ms count is ∙ read_batch-few (read_row schema) (rows_across ms 0 count) count (length-rows_across ms 0 count) few
