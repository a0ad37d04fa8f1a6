-- The plan that a JSON value is.
use Rattle.std.specs.Prelude.{◌≡◌, ℕ, List, [], ◌∷◌, codes, Bool, true, ◌&&◌, Option, Some, None, option_map, option_and_then, if◌then◌else◌}
use Rattle.std.specs.List.{list_any}
use Rattle.std.specs.Str.{bytes_eq}
use Rattle.cell_core.specs.RawData.{RawData, raw_words, raw_list, raw_map, RawItems, no_raw_items, raw_item, RawMembers, no_raw_members, raw_member, get_raw}
use Rattle.plan_json.specs.Names.{named}
use Rattle.plan_json.specs.Plans.{RawFilterData, RawPlanData}
use Rattle.plan_json.specs.declared.named.NamedText.{NamedText}
use Rattle.plan_json.specs.declared.plan.RawSort.{RawSort}
use Rattle.plan_json.specs.declared.refused.PlanFormRefused.{PlanFormRefused}
use Rattle.plan_json.specs.declared.refused.PlanFormRefused.TheVariants as refused

-- ---- forms

abbrev pub text_of : RawData → Option (List ℕ)
text_of (raw_words s) = Some s
text_of other = None

-- an item in front of those behind it
abbrev pub in_front : {X : Type 0} → Option X → Option (List X) → Option (List X)
in_front first rest = option_and_then (λ x. option_map (λ xs. x ∷ xs) rest) first

-- each item of its form
abbrev pub each : {X : Type 0} → (RawData → Option X) → RawItems → Option (List X)
each form no_raw_items = Some []
each form (raw_item d ds) = in_front (form d) (each form ds)

-- a list of such items
abbrev pub list_of : {X : Type 0} → (RawData → Option X) → RawData → Option (List X)
list_of form (raw_list ds) = each form ds
list_of form other = None

-- a list of names
abbrev pub names_of : RawData → Option (List (List ℕ))
names_of d = list_of text_of d

-- an object from names to texts; a value's members ascend by name
abbrev pub texts_in : RawMembers → Option (List NamedText)
texts_in no_raw_members = Some []
texts_in (raw_member name d ms) = in_front (option_map (named name) (text_of d)) (texts_in ms)

abbrev pub texts_of : RawData → Option (List NamedText)
texts_of (raw_map ms) = texts_in ms
texts_of other = None

-- `[name, operator]` or `[name, operator, value]`, whatever the value is
abbrev pub filter_from : RawData → RawData → Option RawData → Option RawFilterData
filter_from a b value =
    option_and_then (λ name. option_map (λ operator. record { name = name; operator = operator; value = value }) (text_of b)) (text_of a)

abbrev pub filter_in : RawItems → Option RawFilterData
filter_in no_raw_items = None
filter_in (raw_item a no_raw_items) = None
filter_in (raw_item a (raw_item b no_raw_items)) = filter_from a b None
filter_in (raw_item a (raw_item b (raw_item v no_raw_items))) = filter_from a b (Some v)
filter_in (raw_item a (raw_item b (raw_item v (raw_item w ds)))) = None

abbrev pub filter_of : RawData → Option RawFilterData
filter_of (raw_list ds) = filter_in ds
filter_of other = None

-- `[name, direction]`
abbrev pub sort_from : RawData → RawData → Option RawSort
sort_from a b = option_and_then (λ name. option_map (λ direction. record { name = name; direction = direction }) (text_of b)) (text_of a)

abbrev pub sort_in : RawItems → Option RawSort
sort_in no_raw_items = None
sort_in (raw_item a no_raw_items) = None
sort_in (raw_item a (raw_item b no_raw_items)) = sort_from a b
sort_in (raw_item a (raw_item b (raw_item c ds))) = None

abbrev pub sort_of : RawData → Option RawSort
sort_of (raw_list ds) = sort_in ds
sort_of other = None

-- ---- members

-- a list or an object is empty where it is left out; null is a value and leaves nothing out
abbrev pub or_empty : {X : Type 0} → (RawData → Option (List X)) → Option RawData → Option (List X)
or_empty form None = Some []
or_empty form (Some d) = form d

-- what may be left out
abbrev pub if_given : {X : Type 0} → (RawData → Option X) → Option RawData → Option (Option X)
if_given form None = Some None
if_given form (Some d) = option_map Some (form d)

abbrev pub member_names : List (List ℕ)
member_names =
    codes "aggregates" ∷ codes "columns" ∷ codes "expressions" ∷ codes "filter" ∷ codes "filter_op" ∷ codes "group_by" ∷ codes "sort" ∷ codes "split_by" ∷ []

abbrev pub is_member : List ℕ → Bool
is_member name = list_any (bytes_eq name) member_names

abbrev pub are_members : RawMembers → Bool
are_members no_raw_members = true
are_members (raw_member name d ms) = is_member name && are_members ms

-- the members of a plan, each of its form
abbrev pub plan_in : RawMembers → Option RawPlanData
plan_in ms =
    option_and_then (λ columns. option_and_then (λ group_by. option_and_then (λ split_by.
    option_and_then (λ aggregates. option_and_then (λ expressions. option_and_then (λ filters.
    option_and_then (λ filter_op. option_map (λ sorts. record {
      columns = columns;
      group_by = group_by;
      split_by = split_by;
      aggregates = aggregates;
      expressions = expressions;
      filters = filters;
      filter_op = filter_op;
      sorts = sorts;
    })
    (or_empty (list_of sort_of) (get_raw (codes "sort") ms)))
    (if_given text_of (get_raw (codes "filter_op") ms)))
    (or_empty (list_of filter_of) (get_raw (codes "filter") ms)))
    (or_empty texts_of (get_raw (codes "expressions") ms)))
    (or_empty texts_of (get_raw (codes "aggregates") ms)))
    (or_empty names_of (get_raw (codes "split_by") ms)))
    (or_empty names_of (get_raw (codes "group_by") ms)))
    (if_given names_of (get_raw (codes "columns") ms))

-- an object with no other members
abbrev pub plan_of : RawData → Option RawPlanData
plan_of (raw_map ms) = if are_members ms then plan_in ms else None
plan_of other = None

-- a refusal is for the form, but for want of memory, which may come in any case
abbrev pub RefusesForm : Option RawPlanData → PlanFormRefused → Type 0
RefusesForm plan refused.Form = plan ≡ None
RefusesForm plan refused.Memory = Unit {0}
