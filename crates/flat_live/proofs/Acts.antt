-- The last change at each key, acted on.
use Rattle.std.proofs.Common.{◌≡◌, Bool, true, false, cond, List, [], ◌∷◌, Option, Some, None, is_some, refl, sym, ◌∙◌, ap}
use Rattle.std.specs.Prelude.{◌||◌, OnOk, Result, Ok, Err}
use Rattle.std.specs.Map.{lookup}
use Rattle.std.specs.Option.{option_map}
use Rattle.row_batch.specs.declared.change.RowChange.{RowChange}
use Rattle.plan_types.specs.declared.plan.Plan.{Plan}
use Rattle.view_types.specs.Keys.{same_key}
use Rattle.view_types.specs.declared.key.ViewKey.{ViewKey}
use Rattle.view_types.specs.declared.key.ViewKey.TheVariants.{Row}
use Rattle.view_types.proofs.KeyOrder.{same_key_is_equal, same_key-symm}
use Rattle.delta_core.specs.KeySets.{is_among}
use Rattle.delta_core.specs.Rows.{at_key}
use Rattle.delta_core.specs.declared.touched.Touch.{Touch}
use Rattle.view_spec.proofs.LocalLaws.{same_found-itself}
use Rattle.live_list.specs.Live.{live_key}
use Rattle.flat_live.specs.FlatRows.{FlatRow, NotesSplits}
use Rattle.flat_live.specs.Rows.{Heads, IsSettled, as_placed, changed_keys, live_of, settled, told}

pub told-itself : (heads : Heads) (o : Option FlatRow) → told heads heads o o ≡ None
told-itself heads o = ap (λ b. cond b None (Some (record { was_shown = is_some o }))) (same_found-itself (option_map (as_placed heads) o))

or_false : (a b : Bool) → (a || b) ≡ false → (a ≡ false) × (b ≡ false)
or_false true b h = absurd (let wrong : true ≡ false = h in cc)
or_false false b h = (refl, h)

pub settled-other : (plan : Plan) (first : List FlatRow) (cs : List RowChange) (k : ViewKey) → is_among (changed_keys cs) k ≡ false → settled plan first cs k ≡ at_key live_key k first
settled-other plan first [] k none = refl
settled-other plan first (c ∷ cs) k none =
    let parts = or_false (same_key k (Row c.key)) (is_among (changed_keys cs) k) none in
    ap (λ b. cond b (settled plan first cs k) (cond (same_key (Row c.key) k) (live_of plan c) (settled plan first cs k))) parts.1
    ∙ ap (λ b. cond b (live_of plan c) (settled plan first cs k)) (same_key-symm (Row c.key) k ∙ parts.0)
    ∙ settled-other plan first cs k parts.1

pub settled-skip : (plan : Plan) (first : List FlatRow) (c : RowChange) (cs : List RowChange) (k : ViewKey) → is_among (changed_keys cs) (Row c.key) ≡ true
    → settled plan first cs k ≡ settled plan first (c ∷ cs) k
settled-skip plan first c cs k there = by (same_key (Row c.key) k) refl (is_among (changed_keys cs) k) refl
  where
    by : (b : Bool) → same_key (Row c.key) k ≡ b → (d : Bool) → is_among (changed_keys cs) k ≡ d → settled plan first cs k ≡ cond d (settled plan first cs k) (cond b (live_of plan c) (settled plan first cs k))
    by b is true among = refl
    by false is false among = refl
    by true is false among =
        let wrong : true ≡ false = sym there ∙ ap (is_among (changed_keys cs)) (same_key_is_equal (Row c.key) k is) ∙ among in absurd (cc)

pub settled-act : (plan : Plan) (first : List FlatRow) (c : RowChange) (cs : List RowChange) (k : ViewKey) → is_among (changed_keys cs) (Row c.key) ≡ false
    → cond (same_key (Row c.key) k) (live_of plan c) (settled plan first cs k) ≡ settled plan first (c ∷ cs) k
settled-act plan first c cs k none = by (same_key (Row c.key) k) refl (is_among (changed_keys cs) k) refl
  where
    by : (b : Bool) → same_key (Row c.key) k ≡ b → (d : Bool) → is_among (changed_keys cs) k ≡ d
        → cond b (live_of plan c) (settled plan first cs k) ≡ cond d (settled plan first cs k) (cond b (live_of plan c) (settled plan first cs k))
    by b is false among = refl
    by false is true among = refl
    by true is true among =
        let wrong : true ≡ false = sym among ∙ ap (is_among (changed_keys cs)) (sym (same_key_is_equal (Row c.key) k is)) ∙ none in absurd (cc)

-- ---- none, one more

pub settled_none : (plan : Plan) (heads : Heads) (first : List FlatRow) (moved : Bool) → IsSettled plan heads first [] [] first [] moved
settled_none plan heads first moved = record {
  seen = λ k. refl;
  rows = λ k. refl;
  touched = λ k. sym (told-itself heads (at_key live_key k first));
  splits = λ still path. refl;
}

pub skipped : (plan : Plan) (heads : Heads) (first : List FlatRow) (c : RowChange) (cs : List RowChange) (seen : List (ViewKey × Bool)) (rows : List FlatRow) (noted : List (ViewKey × Touch)) (moved : Bool)
    → IsSettled plan heads first cs seen rows noted moved → is_some (lookup (same_key (Row c.key)) seen) ≡ true → IsSettled plan heads first (c ∷ cs) seen rows noted moved
skipped plan heads first c cs seen rows noted moved h found =
    let there : is_among (changed_keys cs) (Row c.key) ≡ true = sym (h.seen (Row c.key)) ∙ found in
    record {
      seen = λ k. h.seen k ∙ by k there (same_key k (Row c.key)) refl;
      rows = λ k. h.rows k ∙ settled-skip plan first c cs k there;
      touched = λ k. h.touched k ∙ ap (told heads heads (at_key live_key k first)) (settled-skip plan first c cs k there);
      splits = h.splits;
    }
  where
    by : (k : ViewKey) → is_among (changed_keys cs) (Row c.key) ≡ true → (b : Bool) → same_key k (Row c.key) ≡ b → is_among (changed_keys cs) k ≡ (b || is_among (changed_keys cs) k)
    by k there true is = ap (is_among (changed_keys cs)) (same_key_is_equal k (Row c.key) is) ∙ there
    by k there false is = refl

pub unknown : (plan : Plan) (heads : Heads) (first : List FlatRow) (c : RowChange) (cs : List RowChange) (seen : List (ViewKey × Bool)) (rows : List FlatRow) (noted : List (ViewKey × Touch)) (moved : Bool)
    → IsSettled plan heads first cs seen rows noted moved → is_some (lookup (same_key (Row c.key)) seen) ≡ false → lookup (same_key (Row c.key)) noted ≡ None
unknown plan heads first c cs seen rows noted moved h found =
    let none : is_among (changed_keys cs) (Row c.key) ≡ false = sym (h.seen (Row c.key)) ∙ found in
    h.touched (Row c.key) ∙ ap (told heads heads (at_key live_key (Row c.key) first)) (settled-other plan first cs (Row c.key) none) ∙ told-itself heads (at_key live_key (Row c.key) first)

pub acted : (plan : Plan) (heads : Heads) (first : List FlatRow) (c : RowChange) (cs : List RowChange) (seen more : List (ViewKey × Bool)) (rows now : List FlatRow) (noted noted_now : List (ViewKey × Touch)) (moved moved_now : Bool)
    → IsSettled plan heads first cs seen rows noted moved → is_some (lookup (same_key (Row c.key)) seen) ≡ false
    → ((k : ViewKey) → lookup (same_key k) more ≡ cond (same_key (Row c.key) k) (Some true) (lookup (same_key k) seen))
    → ((k : ViewKey) → at_key live_key k now ≡ cond (same_key (Row c.key) k) (live_of plan c) (at_key live_key k rows))
    → ((k : ViewKey) → lookup (same_key k) noted_now ≡ cond (same_key (Row c.key) k) (told heads heads (at_key live_key k rows) (live_of plan c)) (lookup (same_key k) noted))
    → NotesSplits moved moved_now rows now
    → IsSettled plan heads first (c ∷ cs) more now noted_now moved_now
acted plan heads first c cs seen more rows now noted noted_now moved moved_now h found put each touch notes =
    let none : is_among (changed_keys cs) (Row c.key) ≡ false = sym (h.seen (Row c.key)) ∙ found in
    record {
      seen = λ k. ap is_some (put k) ∙ met k (same_key (Row c.key) k) refl;
      rows = λ k. each k ∙ ap (cond (same_key (Row c.key) k) (live_of plan c)) (h.rows k) ∙ settled-act plan first c cs k none;
      touched = λ k. touch k ∙ by k none (same_key (Row c.key) k) refl ∙ ap (told heads heads (at_key live_key k first)) (settled-act plan first c cs k none);
      splits = λ still path. h.splits (notes.before still) path ∙ notes.same still path;
    }
  where
    met : (k : ViewKey) (b : Bool) → same_key (Row c.key) k ≡ b → is_some (cond b (Some true) (lookup (same_key k) seen)) ≡ (same_key k (Row c.key) || is_among (changed_keys cs) k)
    met k true is = sym (ap (λ d. d || is_among (changed_keys cs) k) (same_key-symm k (Row c.key) ∙ is))
    met k false is = h.seen k ∙ sym (ap (λ d. d || is_among (changed_keys cs) k) (same_key-symm k (Row c.key) ∙ is))

    by : (k : ViewKey) → is_among (changed_keys cs) (Row c.key) ≡ false → (b : Bool) → same_key (Row c.key) k ≡ b
        → cond b (told heads heads (at_key live_key k rows) (live_of plan c)) (lookup (same_key k) noted) ≡ told heads heads (at_key live_key k first) (cond b (live_of plan c) (settled plan first cs k))
    by k none true is =
        ap (λ o. told heads heads o (live_of plan c))
        (h.rows k ∙ settled-other plan first cs k (ap (is_among (changed_keys cs)) (sym (same_key_is_equal (Row c.key) k is)) ∙ none))
    by k none false is = h.touched k

pub acted_ok : {A E : Type 0} (r : Result A E) (plan : Plan) (heads : Heads) (first : List FlatRow) (c : RowChange) (cs : List RowChange) (seen more : List (ViewKey × Bool)) (rows now : List FlatRow) (noted noted_now : List (ViewKey × Touch)) (moved moved_now : Bool)
    → IsSettled plan heads first cs seen rows noted moved → is_some (lookup (same_key (Row c.key)) seen) ≡ false
    → ((k : ViewKey) → lookup (same_key k) more ≡ cond (same_key (Row c.key) k) (Some true) (lookup (same_key k) seen))
    → ((k : ViewKey) → OnOk r (at_key live_key k now ≡ cond (same_key (Row c.key) k) (live_of plan c) (at_key live_key k rows)))
    → ((k : ViewKey) → OnOk r (lookup (same_key k) noted_now ≡ cond (same_key (Row c.key) k) (told heads heads (at_key live_key k rows) (live_of plan c)) (lookup (same_key k) noted)))
    → OnOk r (NotesSplits moved moved_now rows now)
    → OnOk r (IsSettled plan heads first (c ∷ cs) more now noted_now moved_now)
acted_ok (Ok x) plan heads first c cs seen more rows now noted noted_now moved moved_now h found put each touch notes =
    acted plan heads first c cs seen more rows now noted noted_now moved moved_now h found put each touch notes
acted_ok (Err e) plan heads first c cs seen more rows now noted noted_now moved moved_now h found put each touch notes = tt
