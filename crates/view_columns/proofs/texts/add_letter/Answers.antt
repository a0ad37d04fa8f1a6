use Rattle.std.proofs.Common.{◌≡◌, ◌++◌, ap, sym, ◌∙◌, List, ℕ, string_bytes, encode_utf8}
use Rattle.std.specs.List.{flat_map}
use Rattle.view_spec.specs.Cells.{escaped_byte}
use Rattle.view_columns.proofs.Escapes.{letter_escaped, letter_plain}
use Rattle.view_columns.proofs.texts.add_letter.Goals as goal
use Rattle.view_columns.proofs.texts.add_letter.Goals.{then-needs_escape+in_ok-push, else-needs_escape}

pub returns : goal.returns
returns c =
    let old : List ℕ = string_bytes c.args.text.now in
    let letter = c.args.letter in
    let escaped : string_bytes c.if-needs_escape.text ++ encode_utf8 letter ≡ old ++ flat_map escaped_byte (encode_utf8 letter) =
    elim c.if-needs_escape.branch [
      | then-needs_escape+in_ok-push w ↦
          ap (λ text. string_bytes text ++ encode_utf8 letter) w.text-is ∙ ap (λ bs. bs ++ encode_utf8 letter) w.in_ok-push.ensures.bytes
          ∙ letter_escaped letter old (sym c.needs_escape.ensures ∙ w.if-needs_escape.true)
      | else-needs_escape w ↦
          ap (λ text. string_bytes text ++ encode_utf8 letter) w.text-is ∙ letter_plain letter old (sym c.needs_escape.ensures ∙ w.if-needs_escape.false)
    ] in
    c.in_ok-push-2.ensures.bytes ∙ escaped
