use Rattle.std.proofs.Common.{◌++◌, ◌∷◌, [], ap, ◌∙◌, add-one}
use Rattle.csv.specs.Records.{fields_of, field_at}
use Rattle.csv_rows.proofs.RecordLemmas.{take-field, take-fields}
use Rattle.csv_rows.proofs.records.fields.Goals as goal

pub loop-field-preserved : goal.loop-field-preserved
loop-field-preserved c =
    let inv = c.loop-field.invariant in
    let steps = c.in-Some.ensures.steps in
    let at = c.loop-field.field-iterator.at in
    let here = take-field (fields_of c.args.row.now) at c.in-Some.field.now (steps.1 ∙ ap (λ r. field_at (fields_of r) at) inv.0) in (
      ap (λ r. r.now) steps.0 ∙ inv.0,
      c.in_ok-push.ensures.ok ∙ ap (λ x. c.loop-field.texts ++ x ∷ []) c.in_ok-from_str.ensures ∙ ap (λ x. x ++ c.in-Some.field.now ∷ []) inv.1
          ∙ rw (steps.2, add-one) here,
    )

pub returns : goal.returns
returns c =
    let inv = c.loop-field.invariant in
    inv.1 ∙ take-fields (fields_of c.args.row.now) c.loop-field.field-iterator.at (c.in-None.ensures.steps.1 ∙ ap (λ r. field_at (fields_of r) c.loop-field.field-iterator.at) inv.0)
