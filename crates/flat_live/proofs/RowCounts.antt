-- How many rows have each split path, as one row more or less is counted.
use Rattle.std.proofs.Common.{◌≡◌, ℕ, zero, suc, ◌+◌, ◌-◌, ◌<◌, Bool, true, false, cond, List, [], ◌∷◌, Option, Some, None, Ordering, refl, sym, ◌∙◌, ap, subst, arith, is_some, insert}
use Rattle.std.specs.BTreeMap.{BTreeMap, UpdatesBy, is_at}
use Rattle.std.specs.Cmp.Lexicographic.{slice_cmp}
use Rattle.std.specs.List.{count_by}
use Rattle.std.specs.List.Sorted.{IsPermutation, IsStrictlySortedBy}
use Rattle.std.specs.Map.{lookup}
use Rattle.std.specs.Option.{IsSome, SomeIff}
use Rattle.std.proofs.lemmas.List.Sorted.{IsPermutation-insert, IsPermutation-refl, sum_by-IsPermutation}
use Rattle.std.proofs.lemmas.List.Sums.{sum_by-cons}
use Rattle.std.proofs.lemmas.Option.{same_Some}
use Rattle.cell_core.specs.declared.cell.Cell.{Cell}
use Rattle.cell_core.specs.contracts.cell.CellOrd.TheImpl.{ghosts}
use Rattle.view_types.proofs.KeyOrder.{same_key-symm}
use Rattle.view_types.specs.declared.key.ViewKey.TheVariants.{Group}
use Rattle.view_spec.specs.Paths.{path_order, same_path}
use Rattle.view_spec.proofs.PathLaws.{same_path_is_equal, same_path_itself}
use Rattle.flat_show.proofs.SplitLaws.{derived}
use Rattle.flat_live.specs.FlatRows.{AreCounted, FlatRow, NotesSplits, count_under, has_split, is_counted, some_rows}

abbrev pub Counts : Type 0
Counts = List (List Cell × ℕ)

-- ---- the map's order is that of paths

of_paths : (P : (List Cell → List Cell → Ordering) → Type 0) → P path_order → P (slice_cmp ghosts.cmp)
of_paths P h = subst P (sym derived) h

pub found_path : (path : List Cell) (es : Counts) → lookup (is_at (slice_cmp ghosts.cmp path)) es ≡ lookup (same_path path) es
found_path path es = of_paths (λ R. lookup (is_at (R path)) es ≡ lookup (same_path path) es) refl

-- under one path stands this, and under the others what stood there
pub record Turns (was now : Counts) (path : List Cell) (value : Option ℕ) : Type 0 where
  pub told : (q : List Cell) → lookup (same_path q) now ≡ cond (same_path path q) value (lookup (same_path q) was)

pub turned : (path : List Cell) (m n : BTreeMap (List Cell) ℕ) (w : Option ℕ) → UpdatesBy (slice_cmp ghosts.cmp) (slice_cmp ghosts.cmp path) m n w → Turns m.entries n.entries path w
turned path m n w u =
    of_paths
    (λ R. ((q : List Cell) → lookup (is_at (R q)) n.entries ≡ cond (is_at (R path) q) w (lookup (is_at (R q)) m.entries)) → Turns m.entries n.entries path w)
    (λ h. record { told = h }) u.0

-- by way of a copy of the path
pub inserted : (path copy : List Cell) (first m n : BTreeMap (List Cell) ℕ) (w : Option ℕ) → copy ≡ path → m ≡ first → UpdatesBy (slice_cmp ghosts.cmp) (slice_cmp ghosts.cmp copy) m n w
    → Turns first.entries n.entries path w
inserted path copy first m n w same kept u =
    turned path first n w (subst (λ z. UpdatesBy (slice_cmp ghosts.cmp) (slice_cmp ghosts.cmp path) z n w) kept (subst (λ z. UpdatesBy (slice_cmp ghosts.cmp) (slice_cmp ghosts.cmp z) m n w) same u))

pub twice_turned : (a b c : Counts) (path : List Cell) (v w : Option ℕ) → Turns a b path v → Turns b c path w → Turns a c path w
twice_turned a b c path v w first last = record { told = λ q. last.told q ∙ by q (same_path path q) refl }
  where
    by : (q : List Cell) (d : Bool) → same_path path q ≡ d → cond d w (lookup (same_path q) b) ≡ cond d w (lookup (same_path q) a)
    by q true is = refl
    by q false is = first.told q ∙ ap (λ d. cond d v (lookup (same_path q) a)) is

pub paths_ascend : (paths : List (List Cell)) → IsStrictlySortedBy (slice_cmp ghosts.cmp) paths → IsStrictlySortedBy path_order paths
paths_ascend paths = of_paths (λ R. IsStrictlySortedBy R paths → IsStrictlySortedBy path_order paths) (λ h. h)

pub some_there : {X : Type 0} (x : X) (o : Option X) → Some x ≡ o → IsSome o
some_there x o is = subst IsSome is refl

pub sum_read : (o : Option ℕ) (n m : ℕ) (P : Type 0) → o ≡ Some m → SomeIff o P n → m ≡ n
sum_read None n m P is h = absurd (let wrong : None ≡ Some m = is in cc)
sum_read (Some k) n m P is h = sym (same_Some k m is) ∙ h.1

-- ---- numbers of rows

abbrev number_of : Option ℕ → ℕ
number_of None = 0
number_of (Some n) = n

number_of-some_rows : (n : ℕ) → number_of (some_rows n) ≡ n
number_of-some_rows zero = refl
number_of-some_rows (suc n) = refl

pub some_rows-more : (n : ℕ) → some_rows (1 + n) ≡ Some (n + 1)
some_rows-more n = ap some_rows (let e : 1 + n ≡ suc n = omega arith in e) ∙ ap Some (let e : suc n ≡ n + 1 = omega arith in e)

pub some_rows-positive : (n : ℕ) → 0 < n → some_rows n ≡ Some n
some_rows-positive zero h = absurd (omega arith)
some_rows-positive (suc n) h = refl

-- ---- one row in front

same_path-symm : (a b : List Cell) → same_path a b ≡ same_path b a
same_path-symm a b = same_key-symm (Group a) (Group b)

own_path : (rows : List FlatRow) (row : FlatRow) (c : Cell) (cs : List Cell) → row.1.value.split ≡ c ∷ cs → count_under (c ∷ cs) (row ∷ rows) ≡ some_rows (1 + count_by (has_split (c ∷ cs)) rows)
own_path rows row c cs split =
    ap some_rows (sum_by-cons (λ e. cond (has_split (c ∷ cs) e) 1 0) row rows)
    ∙ ap (λ b. some_rows (cond b 1 0 + count_by (has_split (c ∷ cs)) rows)) (ap (same_path (c ∷ cs)) split ∙ same_path_itself (c ∷ cs))

other_path : (rows : List FlatRow) (row : FlatRow) (path : List Cell) → same_path row.1.value.split path ≡ false → count_under path (row ∷ rows) ≡ count_under path rows
other_path rows row [] apart = refl
other_path rows row (c ∷ cs) apart =
    ap some_rows (sum_by-cons (λ e. cond (has_split (c ∷ cs) e) 1 0) row rows)
    ∙ ap (λ b. some_rows (cond b 1 0 + count_by (has_split (c ∷ cs)) rows)) (same_path-symm (c ∷ cs) row.1.value.split ∙ apart)
    ∙ ap some_rows (let n = count_by (has_split (c ∷ cs)) rows in let e : 0 + n ≡ n = omega arith in e)

uncounted : (rows : List FlatRow) (row : FlatRow) (path : List Cell) → row.1.value.split ≡ [] → count_under path (row ∷ rows) ≡ count_under path rows
uncounted rows row [] empty = refl
uncounted rows row (c ∷ cs) empty = other_path rows row (c ∷ cs) (ap (λ z. same_path z (c ∷ cs)) empty)

-- ---- in another order

count_under-permuted : (rows more : List FlatRow) (path : List Cell) → IsPermutation rows more → count_under path rows ≡ count_under path more
count_under-permuted rows more [] moved = refl
count_under-permuted rows more (c ∷ cs) moved = ap some_rows (sym (sum_by-IsPermutation (λ e. cond (has_split (c ∷ cs) e) 1 0) rows more moved))

pub counted-permuted : (rows more : List FlatRow) (counts : Counts) → IsPermutation rows more → AreCounted rows counts → AreCounted more counts
counted-permuted rows more counts moved h = record { told = λ path. h.told path ∙ count_under-permuted rows more path moved }

pub is_counted-permuted : (rows more : List FlatRow) (path : List Cell) → IsPermutation rows more → is_counted rows path ≡ is_counted more path
is_counted-permuted rows more path moved = ap is_some (count_under-permuted rows more path moved)

-- ---- one row more is counted

pub counted_up : (rows : List FlatRow) (row : FlatRow) (was now : Counts) (split : List Cell) (o : Option ℕ) → row.1.value.split ≡ split → (split ≡ [] → ⊥) → AreCounted rows was
    → o ≡ lookup (same_path split) was → Turns was now split (Some (number_of o + 1)) → AreCounted (row ∷ rows) now
counted_up rows row was now [] o mine some h is t = absurd (some refl)
counted_up rows row was now (c ∷ cs) o mine some h is t = record { told = λ path. t.told path ∙ by path (same_path (c ∷ cs) path) refl }
  where
    by : (path : List Cell) (b : Bool) → same_path (c ∷ cs) path ≡ b → cond b (Some (number_of o + 1)) (lookup (same_path path) was) ≡ count_under path (row ∷ rows)
    by path true same =
        ap (λ k. Some (k + 1)) (ap number_of (is ∙ h.told (c ∷ cs)) ∙ number_of-some_rows (count_by (has_split (c ∷ cs)) rows))
        ∙ sym (own_path rows row c cs mine ∙ some_rows-more (count_by (has_split (c ∷ cs)) rows))
        ∙ ap (λ q. count_under q (row ∷ rows)) (same_path_is_equal (c ∷ cs) path same)
    by path false same = h.told path ∙ sym (other_path rows row path (ap (λ z. same_path z path) mine ∙ same))

-- ---- one row less

pub skipped_down : (rows : List FlatRow) (row : FlatRow) (counts : Counts) (split : List Cell) → row.1.value.split ≡ split → AreCounted (row ∷ rows) counts → None ≡ lookup (same_path split) counts
    → AreCounted rows counts
skipped_down rows row counts [] mine h none = record { told = λ path. h.told path ∙ uncounted rows row path mine }
skipped_down rows row counts (c ∷ cs) mine h none =
    let n : ℕ = count_by (has_split (c ∷ cs)) rows in
    let wrong : None ≡ Some (n + 1) = none ∙ h.told (c ∷ cs) ∙ own_path rows row c cs mine ∙ some_rows-more n in
    absurd (cc)

pub counted_down : (rows : List FlatRow) (row : FlatRow) (was now : Counts) (split : List Cell) (n : ℕ) (left : Option ℕ) → row.1.value.split ≡ split → AreCounted (row ∷ rows) was
    → Some n ≡ lookup (same_path split) was → left ≡ some_rows (n - 1) → Turns was now split left → AreCounted rows now
counted_down rows row was now [] n left mine h is less t = absurd (let wrong : Some n ≡ None = is ∙ h.told [] in cc)
counted_down rows row was now (c ∷ cs) n left mine h is less t =
    let m : ℕ = count_by (has_split (c ∷ cs)) rows in
    let one : n ≡ m + 1 = ap number_of (is ∙ h.told (c ∷ cs) ∙ own_path rows row c cs mine ∙ some_rows-more m) in
    let rest : left ≡ some_rows m = less ∙ ap some_rows (let e : n - 1 ≡ m = omega arith in e) in
    record { told = λ path. t.told path ∙ by path rest (same_path (c ∷ cs) path) refl }
  where
    by : (path : List Cell) → left ≡ some_rows (count_by (has_split (c ∷ cs)) rows) → (b : Bool) → same_path (c ∷ cs) path ≡ b → cond b left (lookup (same_path path) was) ≡ count_under path rows
    by path rest true same = rest ∙ ap (λ q. count_under q rows) (same_path_is_equal (c ∷ cs) path same)
    by path rest false same = h.told path ∙ other_path rows row path (ap (λ z. same_path z path) mine ∙ same)

-- ---- what is noted

pub noted : (was : Bool) (first last : List FlatRow) → NotesSplits was true first last
noted was first last = record { before = λ h. absurd (let wrong : true ≡ false = h in cc); same = λ h path. absurd (let wrong : true ≡ false = h in cc) }

pub still : (moved : Bool) (first last : List FlatRow) → ((path : List Cell) → is_counted first path ≡ is_counted last path) → NotesSplits moved moved first last
still moved first last same = record { before = λ h. h; same = λ h path. same path }

pub then_noted : (a b c : Bool) (first next last : List FlatRow) → NotesSplits a b first next → NotesSplits b c next last → NotesSplits a c first last
then_noted a b c first next last h more = record {
  before = λ none. h.before (more.before none);
  same = λ none path. h.same (more.before none) path ∙ more.same none path;
}

pub noted-permuted : (was now : Bool) (first from last to : List FlatRow) → IsPermutation from first → IsPermutation last to → NotesSplits was now first last → NotesSplits was now from to
noted-permuted was now first from last to before after h = record {
  before = h.before;
  same = λ none path. is_counted-permuted from first path before ∙ h.same none path ∙ is_counted-permuted last to path after;
}

-- the same counts stand for both
pub one_counts : (a b : List FlatRow) (counts : Counts) → AreCounted a counts → AreCounted b counts → (path : List Cell) → is_counted a path ≡ is_counted b path
one_counts a b counts ha hb path = ap is_some (sym (ha.told path) ∙ hb.told path)

-- a number stands where one stood
pub number_turned : (a b : List FlatRow) (was now : Counts) (split : List Cell) (n m : ℕ) → AreCounted a was → AreCounted b now → Some n ≡ lookup (same_path split) was → Turns was now split (Some m)
    → (path : List Cell) → is_counted a path ≡ is_counted b path
number_turned a b was now split n m ha hb is t path = sym (ap is_some (ha.told path)) ∙ by (same_path split path) refl ∙ sym (ap is_some (t.told path)) ∙ ap is_some (hb.told path)
  where
    by : (d : Bool) → same_path split path ≡ d → is_some (lookup (same_path path) was) ≡ is_some (cond d (Some m) (lookup (same_path path) was))
    by true same = ap (λ q. is_some (lookup (same_path q) was)) (sym (same_path_is_equal split path same)) ∙ ap is_some (sym is)
    by false same = refl

-- ---- a row put in

pub put_counted : (first last : List FlatRow) (at : ℕ) (row : FlatRow) (counts : Counts) → last ≡ insert first at row → AreCounted (row ∷ first) counts → AreCounted last counts
put_counted first last at row counts put h =
    subst (λ rows. AreCounted rows counts) (sym put) (counted-permuted (row ∷ first) (insert first at row) counts (IsPermutation-insert first at row) h)

pub put_noted : (was now : Bool) (first last : List FlatRow) (at : ℕ) (row : FlatRow) → last ≡ insert first at row → NotesSplits was now first (row ∷ first) → NotesSplits was now first last
put_noted was now first last at row put h =
    subst (λ rows. NotesSplits was now first rows) (sym put)
    (noted-permuted was now first first (row ∷ first) (insert first at row) (IsPermutation-refl first) (IsPermutation-insert first at row) h)
