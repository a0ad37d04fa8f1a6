use Rattle.std.proofs.Common.{◌++◌, ap, sym, ◌∙◌, string_bytes, encode_utf8_all}
use Rattle.std.specs.List.{flat_map}
use Rattle.std.proofs.lemmas.Iterator.{YieldsList-from_chars}
use Rattle.std.proofs.lemmas.Iterator.Consumers.{YieldsList-end}
use Rattle.std.proofs.lemmas.List.{map-id}
use Rattle.std.proofs.lemmas.Str.{encodes-chars}
use Rattle.view_spec.specs.Cells.{escaped_byte}
use Rattle.view_columns.proofs.Escapes.{one_more_letter}
use Rattle.view_columns.proofs.texts.add_escaped.Goals as goal

pub loop-letter-preserved : goal.loop-letter-preserved
loop-letter-preserved c =
    one_more_letter (string_bytes c.args.text.now) c.loop-letter.yielded c.in-Some.letter (string_bytes c.loop-letter.text) (string_bytes c.add_letter.new.text)
    c.loop-letter.invariant c.in_ok-add_letter.ensures

pub returns : goal.returns
returns c =
    let all = YieldsList-end (YieldsList-from_chars c.args.words.now c.utf8.words cc) c.loop-letter.yielded _ c.loop-letter.yielded_by _ _ c.in-None.is c.next.ensures.steps in
    c.loop-letter.invariant
    ∙ ap (λ letters. string_bytes c.args.text.now ++ flat_map escaped_byte (encode_utf8_all letters)) (sym (map-id c.loop-letter.yielded) ∙ all.0)
    ∙ ap (λ bs. string_bytes c.args.text.now ++ flat_map escaped_byte bs) (encodes-chars c.args.words.now c.utf8.words)
