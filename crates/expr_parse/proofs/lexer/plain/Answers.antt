use Rattle.std.proofs.Common.{◌≡◌, false, subst, sym, ap, ◌∙◌}
use Rattle.std.specs.Str.{IsUtf8}
use Rattle.expr_parse.specs.Tokens.{plain}
use Rattle.expr_parse.proofs.Utf8.{plain_utf8}
use Rattle.expr_parse.proofs.lexer.plain.Goals as goal

pub unwrap-requires : goal.unwrap-requires
unwrap-requires c =
    let e : c.in_ok-bytes.bytes.items ≡ plain false c.args.text.now = c.in_ok-bytes.ensures ∙ ap (plain false) c.as_bytes.ensures.value in
    c.from_utf8.ensures.succeeds (subst IsUtf8 (sym e) (plain_utf8 c.args.text.now c.utf8.text))
