-- What is kept of a view once a batch more was applied, and the loop over all views.
use Rattle.std.proofs.Common.{◌≡◌, ℕ, ◌+◌, ◌<◌, Bool, true, false, ◌||◌, cond, List, [], ◌∷◌, ◌++◌, get_or, take, drop, set, length, Some, if◌then◌else◌, refl, sym, ap, ◌∙◌, arith}
use Rattle.std.specs.Prelude.{is_some}
use Rattle.std.specs.List.Sorted.{IsStrictlySortedBy}
use Rattle.std.proofs.lemmas.List.{append-nil, append_assoc, drop-drop, drop-set-lt, get_or-drop, length-set, take_more, take_more_set}
use Rattle.std.proofs.lemmas.List.Elements.{AllZip-push}
use Rattle.view_types.specs.Keys.{key_order, same_key}
use Rattle.view_types.specs.declared.key.ViewKey.{ViewKey}
use Rattle.view_types.specs.declared.shown.Shown.{Shown}
use Rattle.view_types.specs.declared.shown.ShownRow.{ShownRow}
use Rattle.row_batch.specs.declared.change.RowChange.{RowChange}
use Rattle.table_core.specs.Tables.{TableData}
use Rattle.view_spec.specs.LookUps.{has_placed}
use Rattle.view_spec.specs.Touching.{head_touched, key_of, touched_keys}
use Rattle.view_spec.specs.Views.{Side, placed, view}
use Rattle.view_spec.specs.declared.placed.PlacedRow.{PlacedRow}
use Rattle.view_spec.proofs.TouchLaws.{rows_of}
use Rattle.view_kept.specs.Steps.{side_of, touched_between}
use Rattle.live_rows.specs.Live.{StandsLive, shows_live}
use Rattle.delta_core.specs.Deltas.{marked}
use Rattle.delta_core.specs.DirtySets.{DirtyData, dirty_of, joined}
use Rattle.delta_core.specs.KeySets.{with_keys}
use Rattle.delta_core.specs.Rows.{at_key, has_row, row_at}
use Rattle.delta_core.specs.declared.delta.Mark.{Mark}
use Rattle.delta_core.proofs.KeySetLemmas.{beside-with_keys, no_keys_ascend, with_keys-ascends}
use Rattle.hub_spec.specs.Past.{PastStep}
use Rattle.hub_spec.specs.Bases.{base_or_none, dirty, head_dirty, header_differs, is_base, placed_by, placed_in, shown_by, shown_in}
use Rattle.hub_spec.specs.HeldViews.{HeldView, held_view}
use Rattle.hub_spec.proofs.Folding.{agree_since, placed_at_base, rows_at_base, rows_placed}
use Rattle.hub_views.specs.Keeping.{live_at}
use Rattle.hub_views.specs.Live.{LiveData, live_data}
use Rattle.hub_views.specs.Tables.{HoldsTable}
use Rattle.hub_views.specs.Refreshing.{AreRefreshed, AreSteps, IsBrought, IsRefreshed, is_loss, losses}
use Rattle.hub_views.specs.declared.live.LiveView.{LiveView}
use Rattle.hub_views.specs.declared.view.View.{View}
use Rattle.hub_views.proofs.KeptViews.{live_next, next_is, placed_at, shown_at}
use Rattle.hub_views.proofs.Sides.{table_keys, table_placed, table_view}

-- ---- what is joined to the dirty keys

has_row_of : (k : ViewKey) (xs : List PlacedRow) → has_row k (rows_of xs) ≡ has_placed k xs
has_row_of k [] = refl
has_row_of k (x ∷ xs) = by (same_key (key_of x) k) (has_row_of k xs)
  where
    by : (b : Bool) → has_row k (rows_of xs) ≡ has_placed k xs → is_some (cond b (Some x.row) (row_at k (rows_of xs))) ≡ is_some (cond b (Some x) (at_key key_of k xs))
    by true later = refl
    by false later = later

dirty_ascends : (past : List PastStep) (s number : ℕ) → IsStrictlySortedBy key_order (dirty past s number)
dirty_ascends [] s number = no_keys_ascend
dirty_ascends (d ∷ past) s number = by (is_base s number d) (dirty_ascends past s number)
  where
    touched : List ViewKey
    touched = touched_keys (placed_in past s number) (placed_in (d ∷ past) s number)

    by : (b : Bool) → IsStrictlySortedBy key_order (dirty past s number) → IsStrictlySortedBy key_order (cond b [] (with_keys (dirty past s number) touched))
    by true up = no_keys_ascend
    by false up = with_keys-ascends (dirty past s number) touched up

-- a key that is touched first was shown at the base exactly where it was shown before the step
joined_since : (past : List PastStep) (s number : ℕ) (touched : List ViewKey)
    → joined (marked (base_or_none past s number).shown.rows (dirty past s number)) (marked (shown_in past s number).rows touched)
    ≡ marked (base_or_none past s number).shown.rows (with_keys (dirty past s number) touched)
joined_since past s number touched =
    let at_base : List ShownRow = (base_or_none past s number).shown.rows in
    let before : List ShownRow = (shown_in past s number).rows in
    sym (beside-with_keys (λ k. has_row k at_base) (λ k. has_row k before) (dirty past s number) touched (dirty_ascends past s number)
    (λ k further off.
    ap (has_row k) (sym (rows_at_base past s number)) ∙ has_row_of k (placed_at_base past s number)
    ∙ ap is_some (agree_since past s number k off)
    ∙ sym (has_row_of k (placed_in past s number)) ∙ ap (has_row k) (rows_placed past (held_view past s number))))

-- ---- one view

same_live : (live other : LiveData) → live.bound ≡ other.bound → live.edit ≡ other.edit → live.shown ≡ other.shown → live.base ≡ other.base → live.dirty ≡ other.dirty
    → live ≡ other
same_live live other a b c d e = by live.bound other.bound live.edit other.edit live.shown other.shown live.base other.base live.dirty other.dirty a b c d e
  where
    by : (b c e f : ℕ) (s t : Shown) (m n : Mark) (d g : DirtyData) → b ≡ c → e ≡ f → s ≡ t → m ≡ n → d ≡ g
        → let x : LiveData = record { bound = b; edit = e; shown = s; base = m; dirty = d } in x ≡ record { bound = c; edit = f; shown = t; base = n; dirty = g }
    by b c e f s t m n d g p q r u v = cc

-- a view that shows one side before a step and another after it is kept as it is then, where what is touched between
-- them is joined
pub record IsJoined (past : List PastStep) (d : PastStep) (s n most edits : ℕ) (a b : Side) (live : LiveData) : Type 0 where
  pub shows : shown_in past s n ≡ view a
  pub places : placed_in past s n ≡ placed a
  pub shows_now : shown_in (d ∷ past) s n ≡ view b
  pub places_now : placed_in (d ∷ past) s n ≡ placed b
  pub bound : live.bound ≡ most
  pub edit : live.edit ≡ edits
  pub shown : live.shown ≡ view b
  pub base : live.base ≡ (base_or_none past s n).mark
  pub dirty : live.dirty ≡ dirty_of most (joined (marked (base_or_none past s n).shown.rows (dirty past s n)) (touched_between a b)) (head_dirty past s n || head_touched a b)

pub joined_is : (past : List PastStep) (d : PastStep) (s n bound edit : ℕ) (a b : Side) (live : LiveData) → is_base s n d ≡ false → IsJoined past d s n bound edit a b live
    → live ≡ live_at (d ∷ past) s n bound edit
joined_is past d s n bound edit a b live other is =
    let at_base : List ShownRow = (base_or_none past s n).shown.rows in
    let touched : List ViewKey = touched_keys (placed_in past s n) (placed_in (d ∷ past) s n) in
    let marks : touched_between a b ≡ marked (shown_in past s n).rows touched =
    ap (λ (x : Shown). marked x.rows (touched_keys (placed a) (placed b))) (sym is.shows)
    ∙ ap (λ ps. marked (shown_in past s n).rows (touched_keys ps (placed b))) (sym is.places) ∙ ap (λ ps. marked (shown_in past s n).rows (touched_keys (placed_in past s n) ps)) (sym is.places_now) in
    let heads : head_touched a b ≡ header_differs (shown_in past s n) (shown_in (d ∷ past) s n) =
    ap (λ x. header_differs x (view b)) (sym is.shows) ∙ ap (header_differs (shown_in past s n)) (sym is.shows_now) in
    let dirt : live.dirty ≡ (live_next past s n bound edit (shown_in (d ∷ past) s n) (placed_in (d ∷ past) s n)).dirty =
    is.dirty
    ∙ ap (λ ks. dirty_of bound (joined (marked at_base (dirty past s n)) ks) (head_dirty past s n || head_touched a b)) marks
    ∙ ap (λ ks. dirty_of bound ks (head_dirty past s n || head_touched a b)) (joined_since past s n touched)
    ∙ ap (λ h. dirty_of bound (marked at_base (with_keys (dirty past s n) touched)) (head_dirty past s n || h)) heads in
    same_live live (live_next past s n bound edit (shown_in (d ∷ past) s n) (placed_in (d ∷ past) s n)) is.bound is.edit (is.shown ∙ sym is.shows_now) is.base dirt
    ∙ sym (next_is past d s n bound edit other)

-- a live view that is brought to the table after a step is kept as it is then
pub brought_is : (past : List PastStep) (d : PastStep) (v : HeldView) (was now : TableData) (before after : ℕ) (changes : List RowChange) (old live : LiveView)
    → HoldsTable was before past → HoldsTable now after (d ∷ past) → AreSteps was changes now
    → held_view past v.session v.number ≡ Some v → (w : HeldView) → held_view (d ∷ past) v.session v.number ≡ Some w → w.plan ≡ v.plan → w.opening ≡ v.opening
    → is_base v.session v.number d ≡ false → StandsLive old.rows (side_of v.plan v.opening was)
    → live_data old ≡ live_at past v.session v.number v.bound v.edit → IsBrought changes now old live
    → live_data live ≡ live_at (d ∷ past) v.session v.number v.bound v.edit
brought_is past d v was now before after changes old live table table_now steps held w held_now plans openings other stands is brought =
    let s = v.session in
    let n = v.number in
    let keys = marked (base_or_none past s n).shown.rows (dirty past s n) in
    let a : Side = side_of v.plan v.opening was in
    let b : Side = side_of v.plan v.opening now in
    let same : side_of w.plan w.opening now ≡ b = ap (λ p. side_of p w.opening now) plans ∙ ap (λ o. side_of v.plan o now) openings in
    let step = steps v.plan v.opening in
    let bounds : old.dirty.bound ≡ v.bound = ap (λ (x : LiveData). x.dirty.bound) is in
    let was_dirty : old.dirty ≡ dirty_of old.dirty.bound keys (head_dirty past s n) =
    ap (λ (x : LiveData). x.dirty) is ∙ ap (λ k. dirty_of k keys (head_dirty past s n)) (sym bounds) in
    joined_is past d s n v.bound v.edit a b (live_data live) other (record {
      shows = shown_at past v held ∙ table_view was before past table v;
      places = placed_at past v held ∙ table_placed was before past table v;
      shows_now = ap (shown_by (d ∷ past)) held_now ∙ table_view now after (d ∷ past) table_now w ∙ ap view same;
      places_now = ap (placed_by (d ∷ past)) held_now ∙ table_placed now after (d ∷ past) table_now w ∙ ap placed same;
      bound = brought.bound ∙ ap (λ (x : LiveData). x.bound) is;
      edit = brought.edit ∙ ap (λ (x : LiveData). x.edit) is;
      shown = shows_live live.rows b (brought.stands a stands step) (table_keys now after (d ∷ past) table_now);
      base = brought.base ∙ ap (λ (x : LiveData). x.base) is;
      dirty = brought.dirty a keys (head_dirty past s n) stands step was_dirty
          ∙ ap (λ k. dirty_of k (joined keys (touched_between a b)) (head_dirty past s n || head_touched a b)) bounds;
    })

-- ---- the loop over the views

-- the session and number of a view, where it is lost
abbrev pub loss : View → View → List (ℕ × ℕ)
loss v w = if is_loss v.state w.state then (v.session, v.number) ∷ [] else []

losses_cons : (v w : View) (vs ws : List View) → losses (v ∷ vs) (w ∷ ws) ≡ loss v w ++ losses vs ws
losses_cons v w vs ws = by (is_loss v.state w.state)
  where
    by : (b : Bool) → cond b ((v.session, v.number) ∷ losses vs ws) (losses vs ws) ≡ cond b ((v.session, v.number) ∷ []) [] ++ losses vs ws
    by true = refl
    by false = refl

losses_more : (changes : List RowChange) (now : TableData) (version : ℕ) (vs ws : List View) (v w : View) → AreRefreshed changes now version vs ws
    → losses (vs ++ v ∷ []) (ws ++ w ∷ []) ≡ losses vs ws ++ loss v w
losses_more changes now version [] [] v w h = losses_cons v w [] [] ∙ append-nil (loss v w)
losses_more changes now version [] (y ∷ ws) v w h = absurd h
losses_more changes now version (x ∷ vs) [] v w h = absurd h
losses_more changes now version (x ∷ vs) (y ∷ ws) v w h =
    losses_cons x y (vs ++ v ∷ []) (ws ++ w ∷ []) ∙ ap (λ l. loss x y ++ l) (losses_more changes now version vs ws v w h.1)
    ∙ sym (append_assoc (loss x y) (losses vs ws) (loss v w))
    ∙ sym (ap (λ l. l ++ loss v w) (losses_cons x y vs ws))

-- what holds once so many views were brought up to date, of those before and after, and of the names that were noted
pub record IsSoFar (changes : List RowChange) (now : TableData) (version : ℕ) (old items : List View) (before names : List (ℕ × ℕ)) (i : ℕ) : Type 0 where
  pub refreshed : AreRefreshed changes now version (take i old) (take i items)
  pub lost : names ≡ before ++ losses (take i old) (take i items)
  pub rest : drop i items ≡ drop i old
  pub size : length items ≡ length old

still_there : (old items : List View) (i : ℕ) (d : View) → drop i items ≡ drop i old → get_or old i d ≡ get_or items i d
still_there old items i d rest =
    let zero_more : i + 0 ≡ i = omega arith in
    let at_old : get_or (drop i old) 0 d ≡ get_or old i d = get_or-drop i old 0 d ∙ ap (λ k. get_or old k d) zero_more in
    let at_items : get_or (drop i items) 0 d ≡ get_or items i d = get_or-drop i items 0 d ∙ ap (λ k. get_or items k d) zero_more in
    sym at_old ∙ ap (λ xs. get_or xs 0 d) (sym rest) ∙ at_items

pub one_more : (changes : List RowChange) (now : TableData) (version : ℕ) (old items : List View) (noted lost more : List (ℕ × ℕ)) (i : ℕ) (d w : View) → i < length items
    → IsRefreshed changes now version (get_or items i d) w → more ≡ lost ++ loss (get_or items i d) w → IsSoFar changes now version old items noted lost i
    → IsSoFar changes now version old (set items i w) noted more (i + 1)
one_more changes now version old items noted lost more i d w lt here is h =
    let v : View = get_or items i d in
    let within : i < length old = omega (arith, lt, h.size) in
    let before : take (i + 1) old ≡ take i old ++ v ∷ [] = take_more old i d within ∙ ap (λ x. take i old ++ x ∷ []) (still_there old items i d h.rest) in
    let after : take (i + 1) (set items i w) ≡ take i items ++ w ∷ [] = take_more_set items i w lt in
    let less : i < i + 1 = omega arith in
    record {
      refreshed = rw (before, after) (AllZip-push (IsRefreshed changes now version) (take i old) (take i items) v w h.refreshed here);
      lost = rw (before, after) (is ∙ ap (λ l. l ++ loss v w) h.lost ∙ append_assoc noted (losses (take i old) (take i items)) (loss v w)
          ∙ sym (ap (λ l. noted ++ l) (losses_more changes now version (take i old) (take i items) v w h.refreshed)));
      rest = drop-set-lt (i + 1) items i w less ∙ sym (drop-drop 1 i items) ∙ ap (drop 1) h.rest ∙ drop-drop 1 i old;
      size = length-set items i w ∙ h.size;
    }

-- a view that is lost is noted by what it is after as by what it was
pub noted_loss : (lost : List (ℕ × ℕ)) (changes : List RowChange) (now : TableData) (version : ℕ) (v w : View) → is_loss v.state w.state ≡ true → IsRefreshed changes now version v w
    → lost ++ (w.session, w.number) ∷ [] ≡ lost ++ loss v w
noted_loss lost changes now version v w loses h =
    ap (λ s. lost ++ (s, w.number) ∷ []) h.session ∙ ap (λ n. lost ++ (v.session, n) ∷ []) h.number
    ∙ sym (ap (λ b. lost ++ cond b ((v.session, v.number) ∷ []) []) loses)

pub no_loss : (lost : List (ℕ × ℕ)) (v w : View) → is_loss v.state w.state ≡ false → lost ≡ lost ++ loss v w
no_loss lost v w stays = sym (append-nil lost) ∙ sym (ap (λ b. lost ++ cond b ((v.session, v.number) ∷ []) []) stays)
