-- Beginnings of told paths, as one path more is told.
use Rattle.std.proofs.Common.{◌≡◌, ℕ, ◌+◌, ◌<◌, ◌≤◌, Bool, true, false, ◌&&◌, ◌||◌, List, [], ◌∷◌, ◌++◌, length, get_or, take, drop, Option, Some, Ordering, Less, Equal, Greater, refl, sym, ◌∙◌, ap, subst}
use Rattle.std.specs.BTreeSet.{BTreeSet, insert_key}
use Rattle.std.specs.List.{list_any}
use Rattle.std.specs.Option.{is_some}
use Rattle.std.specs.Ordering.{is_eq, ordering_then}
use Rattle.std.proofs.Math.Bool.{or-false}
use Rattle.std.proofs.lemmas.Bool.{true≢false}
use Rattle.std.proofs.lemmas.List.{drop_more, take-append-drop, take_all, take_more}
use Rattle.std.proofs.lemmas.List.Folds.{list_any_more}
use Rattle.cell_core.specs.Cells.{cell_order, same_cell}
use Rattle.cell_core.specs.declared.cell.Cell.{Cell}
use Rattle.cell_core.specs.contracts.cell.CellOrd.TheImpl.{ghosts}
use Rattle.cell_core.proofs.CellOrder as order
use Rattle.agg_core.proofs.Cells.{derived}
use Rattle.delta_core.proofs.KeySetLemmas.{or_assoc}
use Rattle.view_spec.specs.Paths.{begins_with, path_order, same_path}
use Rattle.view_spec.proofs.PathLaws.{any-insert_key, same_path_is_equal}
use Rattle.pivot_tree.specs.Families.{at_path}
use Rattle.pivot_tree.proofs.NodeSteps.{apart_sym}
use Rattle.pivot_tree.proofs.TreeSteps.{same_cell_sym}
use Rattle.group_walk.specs.Told.{AreBeginnings, leads_to, values_at}

-- ---- values

-- a value put into a set of values
pub value_put : (old new : List Cell) (k d : Cell) → k ≡ d → new ≡ insert_key ghosts.cmp old k → (c : Cell) → list_any (same_cell c) new ≡ (list_any (same_cell c) old || same_cell c d)
value_put old new k d same put c =
    ap (list_any (same_cell c)) (put ∙ ap (insert_key ghosts.cmp old) same ∙ ap (λ (R : Cell → Cell → Ordering). insert_key R old d) derived)
    ∙ any-insert_key cell_order order.exact (same_cell c) old d

-- ---- one beginning

or_true : (a : Bool) → true ≡ (a || true)
or_true true = refl
or_true false = refl

-- an entry is there where it was, and at the one beginning
pub there_with : (b : List Cell) (old new : List (List Cell × BTreeSet Cell)) (g : BTreeSet Cell) → at_path new b ≡ Some g → ((q : List Cell) → same_path b q ≡ false → at_path new q ≡ at_path old q)
    → (q : List Cell) → is_some (at_path new q) ≡ (is_some (at_path old q) || same_path q b)
there_with b old new g here others q = by (same_path q b) refl
  where
    by : (t : Bool) → same_path q b ≡ t → is_some (at_path new q) ≡ (is_some (at_path old q) || t)
    by true same = ap (λ r. is_some (at_path new r)) (same_path_is_equal q b same) ∙ ap is_some here ∙ or_true (is_some (at_path old q))
    by false apart = ap is_some (others q (apart_sym q b apart)) ∙ sym (or-false (is_some (at_path old q)))

-- and it has the values that it had, and at the one beginning one value more
pub values_with : (b : List Cell) (old new : List (List Cell × BTreeSet Cell)) (g : BTreeSet Cell) (n : Option Cell) → at_path new b ≡ Some g → ((q : List Cell) → same_path b q ≡ false → at_path new q ≡ at_path old q)
    → ((c : Cell) → list_any (same_cell c) g.keys ≡ (list_any (same_cell c) (values_at (at_path old b)) || leads_to n c))
    → (q : List Cell) (c : Cell) → list_any (same_cell c) (values_at (at_path new q)) ≡ (list_any (same_cell c) (values_at (at_path old q)) || (same_path q b && leads_to n c))
values_with b old new g n here others values q c = by (same_path q b) refl
  where
    by : (t : Bool) → same_path q b ≡ t → list_any (same_cell c) (values_at (at_path new q)) ≡ (list_any (same_cell c) (values_at (at_path old q)) || (t && leads_to n c))
    by true same =
        let one : q ≡ b = same_path_is_equal q b same in
        ap (λ r. list_any (same_cell c) (values_at (at_path new r))) one ∙ ap (λ o. list_any (same_cell c) (values_at o)) here ∙ values c
        ∙ ap (λ r. list_any (same_cell c) (values_at (at_path old r)) || leads_to n c) (sym one)
    by false apart = ap (λ o. list_any (same_cell c) (values_at o)) (others q (apart_sym q b apart)) ∙ sym (or-false (list_any (same_cell c) (values_at (at_path old q))))

-- ---- beginnings of one path

and_self : (a b r : Bool) → a ≡ b → (b && r) ≡ ((a && true) && (b && r))
and_self true true r same = refl
and_self true false r same = refl
and_self false true r same = absurd (true≢false (sym same))
and_self false false r same = refl

and_or_true : (a : Bool) → (a && true) ≡ (a || false)
and_or_true true = refl
and_or_true false = refl

no_tail : (a b x y : Bool) → (x && y) ≡ false → ((a && x) && (b && y)) ≡ false
no_tail true true x y none = none
no_tail true false x y none = by x
  where
    by : (x : Bool) → (x && false) ≡ false
    by true = refl
    by false = refl
no_tail false b x y none = refl

tail : (o p : Ordering) (a x y z : Bool) → a ≡ is_eq o → (x && y) ≡ (is_eq p || (z && y)) → ((a && x) && (is_eq o && y)) ≡ (is_eq (ordering_then o p) || ((a && z) && (is_eq o && y)))
tail Equal p true x y z same later = later
tail Equal p false x y z same later = absurd (true≢false (sym same))
tail Less p true x y z same later = absurd (true≢false same)
tail Less p false x y z same later = refl
tail Greater p true x y z same later = absurd (true≢false same)
tail Greater p false x y z same later = refl

tail_next : (o p : Ordering) (a x y z s : Bool) → a ≡ is_eq o → (x && y) ≡ (is_eq p && s || (z && y)) → ((a && x) && (is_eq o && y)) ≡ (is_eq (ordering_then o p) && s || ((a && z) && (is_eq o && y)))
tail_next Equal p true x y z s same later = later
tail_next Equal p false x y z s same later = absurd (true≢false (sym same))
tail_next Less p true x y z s same later = absurd (true≢false same)
tail_next Less p false x y z s same later = refl
tail_next Greater p true x y z s same later = absurd (true≢false same)
tail_next Greater p false x y z s same later = refl

tail_end : (o p : Ordering) (a x y : Bool) → a ≡ is_eq o → (x && y) ≡ is_eq p → ((a && x) && (is_eq o && y)) ≡ is_eq (ordering_then o p)
tail_end Equal p true x y same later = later
tail_end Equal p false x y same later = absurd (true≢false (sym same))
tail_end Less p true x y same later = absurd (true≢false same)
tail_end Less p false x y same later = refl
tail_end Greater p true x y same later = absurd (true≢false same)
tail_end Greater p false x y same later = refl

-- the beginnings of a path that go on from one of them: that one, and those that go on with the next value
longer : (b rest q : List Cell) (c : Cell) → (begins_with b q && begins_with q (b ++ c ∷ rest)) ≡ (same_path q b || (begins_with (b ++ c ∷ []) q && begins_with q (b ++ c ∷ rest)))
longer [] rest [] c = refl
longer [] rest (d ∷ ds) c = and_self (same_cell c d) (same_cell d c) (begins_with ds rest) (same_cell_sym c d)
longer (e ∷ es) rest [] c = refl
longer (e ∷ es) rest (d ∷ ds) c =
    tail (cell_order d e) (path_order ds es) (same_cell e d) (begins_with es ds) (begins_with ds (es ++ c ∷ rest)) (begins_with (es ++ c ∷ []) ds) (same_cell_sym e d) (longer es rest ds c)

longer_next : (b rest q : List Cell) (d c : Cell)
    → (begins_with b q && begins_with (q ++ c ∷ []) (b ++ d ∷ rest)) ≡ (same_path q b && same_cell c d || (begins_with (b ++ d ∷ []) q && begins_with (q ++ c ∷ []) (b ++ d ∷ rest)))
longer_next [] rest [] d c = and_or_true (same_cell c d)
longer_next [] rest (e ∷ es) d c = and_self (same_cell d e) (same_cell e d) (begins_with (es ++ c ∷ []) rest) (same_cell_sym d e)
longer_next (e ∷ es) rest [] d c = refl
longer_next (e ∷ es) rest (f ∷ fs) d c =
    tail_next (cell_order f e) (path_order fs es) (same_cell e f) (begins_with es fs) (begins_with (fs ++ c ∷ []) (es ++ d ∷ rest)) (begins_with (es ++ d ∷ []) fs) (same_cell c d) (same_cell_sym e f)
    (longer_next es rest fs d c)

-- of a whole path none but itself goes on
whole : (b q : List Cell) → (begins_with b q && begins_with q b) ≡ same_path q b
whole [] [] = refl
whole [] (d ∷ ds) = refl
whole (e ∷ es) [] = refl
whole (e ∷ es) (d ∷ ds) = tail_end (cell_order d e) (path_order ds es) (same_cell e d) (begins_with es ds) (begins_with ds es) (same_cell_sym e d) (whole es ds)

whole_next : (b q : List Cell) (c : Cell) → (begins_with b q && begins_with (q ++ c ∷ []) b) ≡ false
whole_next [] [] c = refl
whole_next [] (d ∷ ds) c = refl
whole_next (e ∷ es) [] c = refl
whole_next (e ∷ es) (d ∷ ds) c = no_tail (same_cell e d) (same_cell d e) (begins_with es ds) (begins_with (ds ++ c ∷ []) es) (whole_next es ds c)

-- the entries so far, and those of the path's beginnings that go on from one of them, are all
pub record AreAdding (old new : List (List Cell × BTreeSet Cell)) (path : List Cell) (i : ℕ) (beginning : List Cell) : Type 0 where
  pub so_far : beginning ≡ take i path
  pub each : (q : List Cell) → (is_some (at_path new q) || (begins_with beginning q && begins_with q path)) ≡ (is_some (at_path old q) || begins_with q path)
  pub next : (q : List Cell) (c : Cell)
      → (list_any (same_cell c) (values_at (at_path new q)) || (begins_with beginning q && begins_with (q ++ c ∷ []) path)) ≡ (list_any (same_cell c) (values_at (at_path old q)) || begins_with (q ++ c ∷ []) path)

pub adding_start : (old : List (List Cell × BTreeSet Cell)) (path beginning : List Cell) → beginning ≡ [] → AreAdding old old path 0 beginning
adding_start old path beginning empty = record {
  so_far = empty;
  each = λ q. ap (λ b. is_some (at_path old q) || (begins_with b q && begins_with q path)) empty;
  next = λ q c. ap (λ b. list_any (same_cell c) (values_at (at_path old q)) || (begins_with b q && begins_with (q ++ c ∷ []) path)) empty;
}

-- one beginning more
pub adding_more : (old new made : List (List Cell × BTreeSet Cell)) (path : List Cell) (i : ℕ) (beginning longer_by_one : List Cell) (d k : Cell) → i < length path → d ≡ get_or path i d → k ≡ d
    → longer_by_one ≡ beginning ++ k ∷ [] → AreAdding old new path i beginning
    → ((q : List Cell) → is_some (at_path made q) ≡ (is_some (at_path new q) || same_path q beginning))
    → ((q : List Cell) (c : Cell) → list_any (same_cell c) (values_at (at_path made q)) ≡ (list_any (same_cell c) (values_at (at_path new q)) || (same_path q beginning && same_cell c d)))
    → AreAdding old made path (i + 1) longer_by_one
adding_more old new made path i beginning longer_by_one d k inside at same put h each next =
    let rest = drop (i + 1) path in
    let path_is : path ≡ beginning ++ d ∷ rest =
    sym (take-append-drop i path) ∙ (λ j. sym h.so_far j ++ (drop_more path i d inside ∙ ap (λ e. e ∷ rest) (sym at)) j) in
    let by : longer_by_one ≡ beginning ++ d ∷ [] = put ∙ ap (λ e. beginning ++ e ∷ []) same in
    record {
      so_far = by ∙ (λ j. h.so_far j ++ at j ∷ []) ∙ sym (take_more path i d inside);
      each = λ q.
          let on : (begins_with beginning q && begins_with q path) ≡ (same_path q beginning || (begins_with (beginning ++ d ∷ []) q && begins_with q path)) =
          subst (λ p. (begins_with beginning q && begins_with q p) ≡ (same_path q beginning || (begins_with (beginning ++ d ∷ []) q && begins_with q p))) (sym path_is) (longer beginning rest q d) in
          (λ j. each q j || (begins_with (by j) q && begins_with q path)) ∙ or_assoc (is_some (at_path new q)) (same_path q beginning) (begins_with (beginning ++ d ∷ []) q && begins_with q path)
          ∙ ap (λ b. is_some (at_path new q) || b) (sym on) ∙ h.each q;
      next = λ q c.
          let values = list_any (same_cell c) (values_at (at_path new q)) in
          let on : (begins_with beginning q && begins_with (q ++ c ∷ []) path) ≡ (same_path q beginning && same_cell c d || (begins_with (beginning ++ d ∷ []) q && begins_with (q ++ c ∷ []) path)) =
          subst (λ p. (begins_with beginning q && begins_with (q ++ c ∷ []) p) ≡ (same_path q beginning && same_cell c d || (begins_with (beginning ++ d ∷ []) q && begins_with (q ++ c ∷ []) p))) (sym path_is)
          (longer_next beginning rest q d c) in
          (λ j. next q c j || (begins_with (by j) q && begins_with (q ++ c ∷ []) path))
          ∙ or_assoc values (same_path q beginning && same_cell c d) (begins_with (beginning ++ d ∷ []) q && begins_with (q ++ c ∷ []) path)
          ∙ ap (λ b. values || b) (sym on) ∙ h.next q c;
    }

-- the whole path as the last
pub adding_end : (old new made : List (List Cell × BTreeSet Cell)) (path : List Cell) (i : ℕ) (beginning : List Cell) → length path ≤ i → AreAdding old new path i beginning
    → ((q : List Cell) → is_some (at_path made q) ≡ (is_some (at_path new q) || same_path q beginning))
    → (q : List Cell) → is_some (at_path made q) ≡ (is_some (at_path old q) || begins_with q path)
adding_end old new made path i beginning past h each q =
    let all : beginning ≡ path = h.so_far ∙ take_all i path past in
    each q ∙ ap (λ b. is_some (at_path new q) || b) (sym (whole beginning q) ∙ ap (λ p. begins_with beginning q && begins_with q p) all) ∙ h.each q

and_false : (a : Bool) → (a && false) ≡ false
and_false true = refl
and_false false = refl

pub adding_next_end : (old new made : List (List Cell × BTreeSet Cell)) (path : List Cell) (i : ℕ) (beginning : List Cell) → length path ≤ i → AreAdding old new path i beginning
    → ((q : List Cell) (c : Cell) → list_any (same_cell c) (values_at (at_path made q)) ≡ (list_any (same_cell c) (values_at (at_path new q)) || (same_path q beginning && false)))
    → (q : List Cell) (c : Cell) → list_any (same_cell c) (values_at (at_path made q)) ≡ (list_any (same_cell c) (values_at (at_path old q)) || begins_with (q ++ c ∷ []) path)
adding_next_end old new made path i beginning past h next q c =
    let all : beginning ≡ path = h.so_far ∙ take_all i path past in
    next q c
    ∙ ap (λ b. list_any (same_cell c) (values_at (at_path new q)) || b) (and_false (same_path q beginning) ∙ sym (whole_next beginning q c) ∙ ap (λ p. begins_with beginning q && begins_with (q ++ c ∷ []) p) all)
    ∙ h.next q c

-- ---- all told paths

pub told_none : (entries : List (List Cell × BTreeSet Cell)) → entries ≡ [] → AreBeginnings [] entries
told_none entries none = record {
  each = λ q. ap (λ es. is_some (at_path es q)) none;
  next = λ q c. ap (λ es. list_any (same_cell c) (values_at (at_path es q))) none;
}

-- the beginnings of one path more
pub told_more : (told : List (List Cell)) (i : ℕ) (path : List Cell) (old new : List (List Cell × BTreeSet Cell)) → i < length told → path ≡ get_or told i path → AreBeginnings (take i told) old
    → ((q : List Cell) → is_some (at_path new q) ≡ (is_some (at_path old q) || begins_with q path))
    → ((q : List Cell) (c : Cell) → list_any (same_cell c) (values_at (at_path new q)) ≡ (list_any (same_cell c) (values_at (at_path old q)) || begins_with (q ++ c ∷ []) path))
    → AreBeginnings (take (i + 1) told) new
told_more told i path old new inside at h each next = record {
  each = λ q. each q ∙ (λ j. h.each q j || begins_with q (at j)) ∙ sym (list_any_more (begins_with q) told i path inside);
  next = λ q c. next q c ∙ (λ j. h.next q c j || begins_with (q ++ c ∷ []) (at j)) ∙ sym (list_any_more (begins_with (q ++ c ∷ [])) told i path inside);
}

pub told_all : (told kept : List (List Cell)) (i : ℕ) (entries : List (List Cell × BTreeSet Cell)) → length told ≤ i → kept ≡ take i told → AreBeginnings (take i told) entries → AreBeginnings kept entries
told_all told kept i entries past is h = subst (λ ps. AreBeginnings ps entries) (sym is) h
