-- A walk with no told path and no row from before meets all groups that a view shows.
use Rattle.std.proofs.Common.{◌≡◌, ◌<◌, Bool, true, false, ◌&&◌, List, [], ◌∷◌, ◌++◌, fold, length, refl, sym, ◌∙◌, ap, subst, arith, length-append}
use Rattle.std.specs.Prelude.{nat_lt}
use Rattle.std.specs.List.{list_any}
use Rattle.std.proofs.lemmas.Bool.{true≢false}
use Rattle.std.proofs.lemmas.Bool.{ltb-false}
use Rattle.cell_core.specs.declared.cell.Cell.{Cell}
use Rattle.cell_core.specs.declared.schema.Column.{Column}
use Rattle.place_order.specs.declared.rank.Rank.{Rank}
use Rattle.row_batch.specs.declared.batch.Pair.{Pair}
use Rattle.plan_types.specs.declared.plan.Plan.{Plan}
use Rattle.view_spec.specs.Entries.{is_there}
use Rattle.view_spec.specs.Openings.{Opening, is_open, is_visible}
use Rattle.view_spec.specs.Paths.{same_path}
use Rattle.view_spec.specs.declared.placed.PlacedRow.{PlacedRow}
use Rattle.live_list.specs.declared.list.LiveRow.{LiveRow}
use Rattle.group_walk.specs.Walks.{AreMet, is_shown_path, place_in}
use Rattle.group_walk.proofs.PathLists.{by_above, not_deeper, there_before, visible_next}
use Rattle.group_show.specs.Entries.{put_entry}
use Rattle.group_show.proofs.ShownEntries.{AreEntries}

shown_next : (v t m o u : Bool) → (u ≡ true → t ≡ true) → (u ≡ true → m ≡ true) → ((v && t) && ((m && o) && (u && true))) ≡ ((v && o) && u)
shown_next v true true o true h k = both v o
  where
    both : (v o : Bool) → ((v && true) && (o && true)) ≡ ((v && o) && true)
    both true true = refl
    both true false = refl
    both false o = refl
shown_next v false m o true h k = absurd (true≢false (sym (h refl)))
shown_next v true false o true h k = absurd (true≢false (sym (k refl)))
shown_next v t m o false h k = none v t m o
  where
    none : (v t m o : Bool) → ((v && t) && ((m && o) && false)) ≡ ((v && o) && false)
    none true true true true = refl
    none true true true false = refl
    none true true false true = refl
    none true true false false = refl
    none true false m true = refl
    none true false m false = refl
    none false t m o = refl

-- above a group that is there no path has full length
not_last : (plan : Plan) (rows : List Pair) (q : List Cell) (c : Cell) → is_there plan rows (q ++ c ∷ []) ≡ true → nat_lt (length q) (length plan.group_by) ≡ true
not_last plan rows q c there = by (nat_lt (length q) (length plan.group_by)) refl
  where
    by : (b : Bool) → nat_lt (length q) (length plan.group_by) ≡ b → b ≡ true
    by true is = refl
    by false is =
        let long : length plan.group_by < length (q ++ c ∷ []) = let past = ltb-false (length q) (length plan.group_by) is in let one_more = length-append q (c ∷ []) in omega arith in
        absurd (true≢false (sym there ∙ not_deeper plan rows (q ++ c ∷ []) long))

each_shown : (columns : List Column) (plan : Plan) (opening : Opening) (rows : List Pair) (shown : List PlacedRow) → (h : AreMet columns plan opening rows [] (place_in {V = Unit {0}} []) shown)
    → (q : List Cell) → list_any (same_path q) h.paths ≡ is_shown_path plan opening rows q
each_shown columns plan opening rows shown h =
    by_above (λ q. list_any (same_path q) h.paths ≡ is_shown_path plan opening rows q) h.total
    (λ q c met.
    h.below q c ∙ ap (λ b. b && ((nat_lt (length q) (length plan.group_by) && is_open opening q) && (is_there plan rows (q ++ c ∷ []) && true))) met
    ∙ shown_next (is_visible opening q) (is_there plan rows q) (nat_lt (length q) (length plan.group_by)) (is_open opening q) (is_there plan rows (q ++ c ∷ [])) (there_before plan rows q c) (not_last plan rows q c)
    ∙ ap (λ b. b && is_there plan rows (q ++ c ∷ [])) (sym (visible_next opening q c)))

pub met_entries : (columns : List Column) (plan : Plan) (opening : Opening) (rows : List Pair) (told : List (List Cell)) (was : List (List Rank × LiveRow (Unit {0}))) (shown : List PlacedRow) → told ≡ [] → was ≡ []
    → AreMet columns plan opening rows told (place_in was) shown → AreEntries columns plan opening rows (fold put_entry [] shown)
met_entries columns plan opening rows told was shown untold none met =
    let h = subst (λ rs. AreMet columns plan opening rows [] (place_in rs) shown) none (subst (λ ps. AreMet columns plan opening rows ps (place_in was) shown) untold met) in
    record {
      paths = h.paths;
      entries_are = ap (fold put_entry []) h.shown_are;
      each = each_shown columns plan opening rows shown h;
      distinct = h.distinct;
    }
