-- The JSON value of a plan.
use Rattle.std.specs.Prelude.{ℕ, List, [], ◌∷◌, codes, map, Option, Some, None, option_map}
use Rattle.cell_core.specs.RawData.{RawData, raw_words, raw_list, raw_map, RawMembers, no_raw_members, raw_member}
use Rattle.cell_core.specs.RawViews.{items_of, members_of}
use Rattle.plan_json.specs.Plans.{RawFilterData, RawPlanData}
use Rattle.plan_json.specs.declared.named.NamedText.{NamedText}
use Rattle.plan_json.specs.declared.plan.RawSort.{RawSort}

abbrev pub raw_items : List RawData → RawData
raw_items ds = raw_list (items_of ds)

abbrev pub raw_of_names : List (List ℕ) → RawData
raw_of_names names = raw_items (map raw_words names)

abbrev pub raw_of_texts : List NamedText → RawData
raw_of_texts texts = raw_map (members_of (map (λ n. (n.name, raw_words n.text)) texts))

abbrev pub if_some : {X : Type 0} → Option X → List X
if_some None = []
if_some (Some x) = x ∷ []

abbrev pub raw_of_filter : RawFilterData → RawData
raw_of_filter f = raw_items (raw_words f.name ∷ raw_words f.operator ∷ if_some f.value)

abbrev pub raw_of_sort : RawSort → RawData
raw_of_sort s = raw_items (raw_words s.name ∷ raw_words s.direction ∷ [])

-- a member where it is given, before the others
abbrev pub given_member : List ℕ → Option RawData → RawMembers → RawMembers
given_member name None ms = ms
given_member name (Some d) ms = raw_member name d ms

-- the members ascend by name; empty lists are written too, and `columns` and `filter_op` where they are given
abbrev pub raw_of_plan : RawPlanData → RawData
raw_of_plan p =
    raw_map (raw_member (codes "aggregates") (raw_of_texts p.aggregates)
    (given_member (codes "columns") (option_map raw_of_names p.columns)
    (raw_member (codes "expressions") (raw_of_texts p.expressions)
    (raw_member (codes "filter") (raw_items (map raw_of_filter p.filters))
    (given_member (codes "filter_op") (option_map raw_words p.filter_op)
    (raw_member (codes "group_by") (raw_of_names p.group_by)
    (raw_member (codes "sort") (raw_items (map raw_of_sort p.sorts))
    (raw_member (codes "split_by") (raw_of_names p.split_by) no_raw_members))))))))
