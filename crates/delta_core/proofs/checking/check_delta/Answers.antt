use Rattle.std.proofs.Common.{◌∙◌, ap, sym, Some, option_map}
use Rattle.std.specs.Option.{option_copied}
use Rattle.delta_core.specs.declared.folding.FoldRefused.TheVariants.{Absent, Past}
use Rattle.delta_core.proofs.FoldChecks.{absent_first, marks_same, past_last, puts_past, removed_missing}
use Rattle.delta_core.proofs.checking.check_delta.Goals as goal

pub returns-in-Some-clause-why : goal.returns-in-Some-clause-why
returns-in-Some-clause-why c =
    let held = c.args.held.now in
    let d = c.args.delta.now in
    let marks = marks_same held d (sym c.is_same.ensures ∙ c.if-not-is_same.false) in
    let missing =
    removed_missing held d c.args.dropped.now.keys c.in_ok-found.found.keys c.as_slice.result.now c.as_slice-rows.result.now (option_copied c.first_missing.result) c.requires
    c.as_slice-rows.ensures.rows c.in_ok-found.ensures c.as_slice.ensures.keys c.first_missing.ensures in
    absent_first held d (Absent c.in_ok-copy.field-0) marks
    (missing ∙ ap (λ o. option_map Absent (option_copied o)) c.in-Some.is ∙ ap (λ k. Some (Absent k)) (sym c.in_ok-copy.ensures))

pub returns-in-Some-first_past-clause-why : goal.returns-in-Some-first_past-clause-why
returns-in-Some-first_past-clause-why c =
    let held = c.args.held.now in
    let d = c.args.delta.now in
    let marks = marks_same held d (sym c.is_same.ensures ∙ c.if-not-is_same.false) in
    let missing =
    removed_missing held d c.args.dropped.now.keys c.in_ok-found.found.keys c.as_slice.result.now c.as_slice-rows.result.now (option_copied c.first_missing.result) c.requires
    c.as_slice-rows.ensures.rows c.in_ok-found.ensures c.as_slice.ensures.keys c.first_missing.ensures in
    let past =
    puts_past held d c.args.dropped.now.keys c.as_slice-rows.result.now c.count_others-kept.result c.as_slice-2.result.now c.first_past.result c.requires
    c.as_slice-rows.ensures.rows c.count_others-kept.ensures.count c.as_slice-2.ensures.puts c.first_past.ensures in
    past_last held d (Some (Past c.in-Some-first_past.position)) marks (missing ∙ ap (λ o. option_map Absent (option_copied o)) c.in_default.is)
    (past ∙ ap (option_map Past) c.in-Some-first_past.is)

pub returns-clause-ok : goal.returns-clause-ok
returns-clause-ok c =
    let held = c.args.held.now in
    let d = c.args.delta.now in
    let marks = marks_same held d (sym c.is_same.ensures ∙ c.if-not-is_same.false) in
    let missing =
    removed_missing held d c.args.dropped.now.keys c.in_ok-found.found.keys c.as_slice.result.now c.as_slice-rows.result.now (option_copied c.first_missing.result) c.requires
    c.as_slice-rows.ensures.rows c.in_ok-found.ensures c.as_slice.ensures.keys c.first_missing.ensures in
    let past =
    puts_past held d c.args.dropped.now.keys c.as_slice-rows.result.now c.count_others-kept.result c.as_slice-2.result.now c.first_past.result c.requires
    c.as_slice-rows.ensures.rows c.count_others-kept.ensures.count c.as_slice-2.ensures.puts c.first_past.ensures in
    past_last held d (option_map Past c.first_past.result) marks (missing ∙ ap (λ o. option_map Absent (option_copied o)) c.in_default.is) past
    ∙ ap (option_map Past) c.in-None.is
