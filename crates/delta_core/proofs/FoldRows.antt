-- The rows after a delta may be shown together.
use Rattle.std.proofs.Common.{◌≡◌, ◌≢◌, ℕ, Bool, true, false, ◌||◌, not, List, [], ◌∷◌, ◌++◌, map, filter, fold, get_or, take, drop, refl, sym, ap, ◌∙◌, subst}
use Rattle.std.proofs.lemmas.List.{append-nil, map-append, take-append-drop}
use Rattle.std.proofs.lemmas.List.Elements.{All-nil, All-cons, All-head, All-tail, All-map, All-push, All-weaker, filter_passes}
use Rattle.std.specs.List.{All, list_any}
use Rattle.plain_data.specs.Distinct.{AreDistinct}
use Rattle.view_types.proofs.KeyOrder.{same_key_itself}
use Rattle.view_types.specs.Keys.{same_key}
use Rattle.view_types.specs.Rows.{AreShownRows, IsMarked}
use Rattle.view_types.specs.declared.key.ViewKey.{ViewKey}
use Rattle.view_types.specs.declared.shown.ShownRow.{ShownRow}
use Rattle.delta_core.specs.Folding.{drops, folded_rows, keys_put, put_in}
use Rattle.delta_core.specs.KeySets.{is_among}
use Rattle.delta_core.specs.Rows.{has_row}
use Rattle.delta_core.specs.declared.delta.Delta.{Delta}
use Rattle.delta_core.specs.declared.delta.Put.{Put}
use Rattle.delta_core.proofs.DistinctRows.{All-insert, All-unmap, AreDistinct-insert, AreShownRows-filter}

abbrev key_of : ShownRow → ViewKey
key_of r = r.key

-- no row has the key that is put
abbrev IsNew : List ShownRow → Put → Type 0
IsNew rows p = All (λ y. y ≢ p.row.key) (map key_of rows)

-- ---- one put more

keys_around : (rows : List ShownRow) (n : ℕ) → map key_of rows ≡ map key_of (take n rows) ++ map key_of (drop n rows)
keys_around rows n = ap (λ z. map key_of z) (sym (take-append-drop n rows)) ∙ map-append key_of (take n rows) (drop n rows)

keys_put_in : (rows : List ShownRow) (p : Put) → map key_of (take p.position rows) ++ p.row.key ∷ map key_of (drop p.position rows) ≡ map key_of (put_in rows p)
keys_put_in rows p = sym (map-append key_of (take p.position rows) (p.row ∷ drop p.position rows))

put_in_shown : (rows : List ShownRow) (p : Put) → AreShownRows rows → IsMarked p.row.key p.row.mark → IsNew rows p → AreShownRows (put_in rows p)
put_in_shown rows p h mark new =
    let n = p.position in
    let around = keys_around rows n in
    record {
      distinct = subst (λ ks. AreDistinct ks) (keys_put_in rows p)
          (AreDistinct-insert (map key_of (take n rows)) (map key_of (drop n rows)) p.row.key
          (subst (λ ks. AreDistinct ks) around h.distinct) (subst (λ ks. All (λ y. y ≢ p.row.key) ks) around new));
      marked = All-insert (λ (r : ShownRow). IsMarked r.key r.mark) (take n rows) (drop n rows) p.row
          (subst (λ rs. All (λ (r : ShownRow). IsMarked r.key r.mark) rs) (sym (take-append-drop n rows)) h.marked) mark;
    }

still_new : (rows : List ShownRow) (p q : Put) → IsNew rows q → p.row.key ≢ q.row.key → IsNew (put_in rows p) q
still_new rows p q new other =
    subst (λ ks. All (λ y. y ≢ q.row.key) ks) (keys_put_in rows p)
    (All-insert (λ y. y ≢ q.row.key) (map key_of (take p.position rows)) (map key_of (drop p.position rows)) p.row.key
    (subst (λ ks. All (λ y. y ≢ q.row.key) ks) (keys_around rows p.position) new) other)

-- ---- all puts

fold_shown : (rows : List ShownRow) (puts : List Put) → AreShownRows rows → AreShownRows (map (λ (p : Put). p.row) puts) → All (IsNew rows) puts → AreShownRows (fold put_in rows puts)
fold_shown rows [] h shown new = h
fold_shown rows (p ∷ ps) h shown new =
    let row_of : Put → ShownRow = λ q. q.row in
    let IsGood : ShownRow → Type 0 = λ r. IsMarked r.key r.mark in
    let first : AreShownRows (put_in rows p) = put_in_shown rows p h (All-head IsGood p.row (map row_of ps) shown.marked) (All-head (IsNew rows) p ps new) in
    let rest : AreShownRows (map row_of ps) = record { distinct = shown.distinct.1; marked = All-tail IsGood p.row (map row_of ps) shown.marked } in
    let others : All (λ (q : Put). q.row.key ≢ p.row.key) ps =
    All-unmap (λ (r : ShownRow). r.key ≢ p.row.key) row_of ps (All-unmap (λ y. y ≢ p.row.key) key_of (map row_of ps) shown.distinct.0) in
    let tail = All-tail (IsNew rows) p ps new in
    let left : All (IsNew (put_in rows p)) ps = λ k d l. still_new rows p (get_or ps k d) (tail k d l) (λ same. others k d l (sym same)) in
    fold_shown (put_in rows p) ps first rest left

-- ---- the rows that are kept

or_second : (a b : Bool) → not (a || b) ≡ true → b ≡ false
or_second true b h = absurd (let wrong : false ≡ true = h in cc)
or_second false true h = absurd (let wrong : false ≡ true = h in cc)
or_second false false h = refl

either_first : (a b : Bool) → (a || b) ≡ false → a ≡ false
either_first true b h = h
either_first false b h = refl

either_second : (a b : Bool) → (a || b) ≡ false → b ≡ false
either_second true b h = absurd (let wrong : true ≡ false = h in cc)
either_second false b h = h

apart_from_puts : (k : ViewKey) (puts : List Put) → is_among (keys_put puts) k ≡ false → All (λ (p : Put). k ≢ p.row.key) puts
apart_from_puts k [] none = All-nil (λ (p : Put). k ≢ p.row.key)
apart_from_puts k (p ∷ ps) none =
    let here = either_first (same_key k p.row.key) (list_any (same_key k) (keys_put ps)) none in
    let other : k ≢ p.row.key = λ same. let wrong : true ≡ false = sym (ap (same_key k) (sym same) ∙ same_key_itself k) ∙ here in cc in
    All-cons (λ (p : Put). k ≢ p.row.key) p ps other (apart_from_puts k ps (either_second (same_key k p.row.key) (list_any (same_key k) (keys_put ps)) none))

kept_new : (rows : List ShownRow) (d : Delta) → All (IsNew (filter (λ r. not (drops d r.key)) rows)) d.puts
kept_new rows d =
    let kept = filter (λ r. not (drops d r.key)) rows in
    let apart : All (λ (r : ShownRow). All (λ (p : Put). r.key ≢ p.row.key) d.puts) kept =
    All-weaker (λ (r : ShownRow). not (drops d r.key) ≡ true) (λ (r : ShownRow). All (λ (p : Put). r.key ≢ p.row.key) d.puts)
    (λ r passes. apart_from_puts r.key d.puts (or_second (is_among d.removed r.key) (is_among (keys_put d.puts) r.key) passes))
    kept (filter_passes (λ r. not (drops d r.key)) rows) in
    λ j e m. All-map (λ y. y ≢ (get_or d.puts j e).row.key) key_of kept (λ i c l. apart i c l j e m)

pub folded_shown : (rows : List ShownRow) (d : Delta) → AreShownRows rows → AreShownRows (map (λ (p : Put). p.row) d.puts) → AreShownRows (folded_rows rows d)
folded_shown rows d h shown =
    fold_shown (filter (λ r. not (drops d r.key)) rows) d.puts (AreShownRows-filter (λ r. not (drops d r.key)) rows h) shown (kept_new rows d)

-- ---- a row more at the end

apart_step : (k : ViewKey) (r : ShownRow) (rows : List ShownRow) (b : Bool) → same_key r.key k ≡ b → has_row k (r ∷ rows) ≡ false → (has_row k rows ≡ false → All (λ y. y ≢ k) (map key_of rows)) → All (λ y. y ≢ k) (map key_of (r ∷ rows))
apart_step k r rows true is none later = let found : true ≡ false = rw is at none in absurd (cc)
apart_step k r rows false is none later =
    let rest : has_row k rows ≡ false = rw is at none in
    let other : r.key ≢ k = λ same. let wrong : true ≡ false = sym (ap (same_key r.key) (sym same) ∙ same_key_itself r.key) ∙ is in cc in
    All-cons (λ y. y ≢ k) r.key (map key_of rows) other (later rest)

apart_from_rows : (k : ViewKey) (rows : List ShownRow) → has_row k rows ≡ false → All (λ y. y ≢ k) (map key_of rows)
apart_from_rows k [] none = All-nil (λ y. y ≢ k)
apart_from_rows k (r ∷ rows) none = apart_step k r rows (same_key r.key k) refl none (apart_from_rows k rows)

pub pushed_shown : (rows : List ShownRow) (r : ShownRow) → AreShownRows rows → has_row r.key rows ≡ false → IsMarked r.key r.mark → AreShownRows (rows ++ r ∷ [])
pushed_shown rows r h none mark = record {
  distinct = subst (λ ks. AreDistinct ks) (sym (map-append key_of rows (r ∷ [])))
      (AreDistinct-insert (map key_of rows) [] r.key
      (subst (λ ks. AreDistinct ks) (sym (append-nil (map key_of rows))) h.distinct)
      (subst (λ ks. All (λ y. y ≢ r.key) ks) (sym (append-nil (map key_of rows))) (apart_from_rows r.key rows none)));
  marked = All-push (λ (z : ShownRow). IsMarked z.key z.mark) rows r h.marked mark;
}
