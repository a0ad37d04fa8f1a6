use Rattle.std.proofs.Common.{codes, map, ap, ◌∙◌}
use Rattle.plan_json.specs.Plans.{filter_view}
use Rattle.plan_json.specs.Writing.{raw_items, raw_of_filter, raw_of_names, raw_of_sort}
use Rattle.cell_core.specs.RawData.{raw_map}
use Rattle.plan_json.specs.Members.{members_data, with_entry, with_given}
use Rattle.plan_json.proofs.Members.{raw_view-map}
use Rattle.plan_json.proofs.Written.{all-put, by_views}
use Rattle.plan_json.proofs.write.write_plan.Goals as goal

pub returns : goal.returns
returns c =
    let first = c.in_ok-put.ensures ∙ ap (λ es. with_entry es (codes "aggregates") c.in_ok-aggregates.aggregates) c.new-members.ensures.empty in
    let second = c.in_ok-put_given.ensures ∙ ap (λ es. with_given es (codes "columns") c.in_ok-columns.columns) first in
    let third = c.in_ok-put-2.ensures ∙ ap (λ es. with_entry es (codes "expressions") c.in_ok-expressions.expressions) second in
    let fourth = c.in_ok-put-3.ensures ∙ ap (λ es. with_entry es (codes "filter") c.in_ok-filter.filter) third in
    let fifth = c.in_ok-put_given-2.ensures ∙ ap (λ es. with_given es (codes "filter_op") c.in_ok-filter_op.filter_op) fourth in
    let sixth = c.in_ok-put-4.ensures ∙ ap (λ es. with_entry es (codes "group_by") c.in_ok-group_by.group_by) fifth in
    let seventh = c.in_ok-put-5.ensures ∙ ap (λ es. with_entry es (codes "sort") c.in_ok-sort.sort) sixth in
    let eighth = c.in_ok-put-6.ensures ∙ ap (λ es. with_entry es (codes "split_by") c.in_ok-split_by.split_by) seventh in
    raw_view-map c.from_entries.result
    ∙ ap raw_map (c.from_entries.ensures ∙ ap members_data eighth
    ∙ all-put c.in_ok-aggregates.aggregates c.in_ok-columns.columns c.in_ok-expressions.expressions c.in_ok-filter.filter c.in_ok-filter_op.filter_op
    c.in_ok-group_by.group_by c.in_ok-sort.sort c.in_ok-split_by.split_by
    ∙ by_views _ _ _ _ _ _ _ _ _ _ _ _ _ _ _ _ c.in_ok-aggregates.ensures c.in_ok-columns.ensures c.in_ok-expressions.ensures
    (c.in_ok-filter.ensures ∙ ap (λ fs. raw_items (map raw_of_filter (map filter_view fs))) c.as_slice.ensures)
    c.in_ok-filter_op.ensures
    (c.in_ok-group_by.ensures ∙ ap raw_of_names c.as_slice-2.ensures)
    (c.in_ok-sort.ensures ∙ ap (λ ss. raw_items (map raw_of_sort ss)) c.as_slice-3.ensures)
    (c.in_ok-split_by.ensures ∙ ap raw_of_names c.as_slice-4.ensures))
