-- A group below one whose sort ranks changed has another place, and is touched.
use Rattle.std.proofs.Common.{◌≡◌, ℕ, ◌+◌, true, List, [], ◌∷◌, ◌++◌, map, length, All, refl, sym, ◌∙◌, ap, append_assoc, length-append}
use Rattle.std.proofs.lemmas.List.Elements.{All-nil, All-cons, All-map, All-weaker}
use Rattle.cell_core.specs.Cells.{value_of}
use Rattle.cell_core.specs.declared.cell.Cell.{Cell}
use Rattle.cell_core.specs.declared.schema.Column.{Column}
use Rattle.place_order.specs.PlaceLaws.{both, is_equal, place_order-exact}
use Rattle.place_order.specs.declared.rank.Rank.{Rank}
use Rattle.place_order.specs.declared.rank.Rank.TheVariants.{Asc}
use Rattle.plan_types.specs.declared.plan.Plan.{Plan}
use Rattle.row_batch.specs.declared.batch.Pair.{Pair}
use Rattle.view_spec.specs.Members.{members}
use Rattle.view_spec.specs.Openings.{Opening}
use Rattle.view_spec.specs.Paths.{prefixes}
use Rattle.view_spec.specs.Places.{group_ranks, levels, place_of_group, rows_value}
use Rattle.view_spec.specs.Touching.{same_placed}
use Rattle.view_spec.specs.Views.{placed_group}
use Rattle.view_spec.proofs.PlaceLaws.{asc_value, length_sort_ranks, never, same_parts, value_of-exact}

-- one place has one list of ranks at each level
pub levels-ranks : (f g : List Cell → List Rank) (n : ℕ) → ((q : List Cell) → length (f q) ≡ n) → ((q : List Cell) → length (g q) ≡ n) → (done path : List Cell)
    → levels f done path ≡ levels g done path → All (λ r. f (done ++ r) ≡ g (done ++ r)) (prefixes path)
levels-ranks f g n first last done [] h = All-nil (λ r. f (done ++ r) ≡ g (done ++ r))
levels-ranks f g n first last done (c ∷ cs) h =
    let P : List Cell → Type 0 = λ r. f (done ++ r) ≡ g (done ++ r) in
    let before = f (done ++ c ∷ []) in
    let after = g (done ++ c ∷ []) in
    let long : length before ≡ length after = first (done ++ c ∷ []) ∙ sym (last (done ++ c ∷ [])) in
    let block : length (before ++ Asc (value_of c) ∷ []) ≡ length (after ++ Asc (value_of c) ∷ []) =
    length-append before (Asc (value_of c) ∷ []) ∙ ap (λ k. k + 1) long ∙ sym (length-append after (Asc (value_of c) ∷ [])) in
    let parts = same_parts (before ++ Asc (value_of c) ∷ []) (after ++ Asc (value_of c) ∷ []) (levels f (done ++ c ∷ []) cs) (levels g (done ++ c ∷ []) cs) block h in
    let here = same_parts before after (Asc (value_of c) ∷ []) (Asc (value_of c) ∷ []) long parts.0 in
    let later = levels-ranks f g n first last (done ++ c ∷ []) cs parts.1 in
    All-cons P (c ∷ []) (map (λ p. c ∷ p) (prefixes cs)) here.0
    (All-map P (λ p. c ∷ p) (prefixes cs)
    (All-weaker (λ r. f ((done ++ c ∷ []) ++ r) ≡ g ((done ++ c ∷ []) ++ r)) (λ r. P (c ∷ r))
    (λ r same. sym (ap f (append_assoc done (c ∷ []) r)) ∙ same ∙ ap g (append_assoc done (c ∷ []) r)) (prefixes cs) later))

-- a group that is not touched keeps the ranks on the way to it
pub untouched-ranks : (columns : List Column) (plan : Plan) (opening : Opening) (rows more : List Pair) (q : List Cell)
    → same_placed (placed_group columns plan opening rows q) (placed_group columns plan opening more q) ≡ true
    → All (λ r. group_ranks columns plan rows r ≡ group_ranks columns plan more r) (prefixes q)
untouched-ranks columns plan opening rows more q same =
    levels-ranks (group_ranks columns plan rows) (group_ranks columns plan more) (length plan.sorts)
    (λ r. length_sort_ranks plan (rows_value columns plan (members plan rows r))) (λ r. length_sort_ranks plan (rows_value columns plan (members plan more r))) [] q
    (place_order-exact (place_of_group columns plan rows q) (place_of_group columns plan more q) (is_equal _ (both _ _ same).0))

-- paths at one place are one, also where each is placed by ranks of its own
pub levels-path : (f g : List Cell → List Rank) (n : ℕ) → ((q : List Cell) → length (f q) ≡ n) → ((q : List Cell) → length (g q) ≡ n) → (done end p q : List Cell)
    → levels f done p ≡ levels g end q → p ≡ q
levels-path f g n first last done end [] [] h = refl
levels-path f g n first last done end [] (d ∷ ds) h = absurd (never (g (end ++ d ∷ [])) (levels g (end ++ d ∷ []) ds) (Asc (value_of d)) h)
levels-path f g n first last done end (c ∷ cs) [] h = absurd (never (f (done ++ c ∷ [])) (levels f (done ++ c ∷ []) cs) (Asc (value_of c)) (sym h))
levels-path f g n first last done end (c ∷ cs) (d ∷ ds) h =
    let before = f (done ++ c ∷ []) in
    let after = g (end ++ d ∷ []) in
    let long : length before ≡ length after = first (done ++ c ∷ []) ∙ sym (last (end ++ d ∷ [])) in
    let block : length (before ++ Asc (value_of c) ∷ []) ≡ length (after ++ Asc (value_of d) ∷ []) =
    length-append before (Asc (value_of c) ∷ []) ∙ ap (λ k. k + 1) long ∙ sym (length-append after (Asc (value_of d) ∷ [])) in
    let parts = same_parts (before ++ Asc (value_of c) ∷ []) (after ++ Asc (value_of d) ∷ []) (levels f (done ++ c ∷ []) cs) (levels g (end ++ d ∷ []) ds) block h in
    let here = same_parts before after (Asc (value_of c) ∷ []) (Asc (value_of d) ∷ []) long parts.0 in
    let one : c ≡ d = value_of-exact c d (asc_value (value_of c) (value_of d) here.1) in
    let more : cs ≡ ds = levels-path f g n first last (done ++ c ∷ []) (end ++ d ∷ []) cs ds parts.1 in
    cc
