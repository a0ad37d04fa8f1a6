use Rattle.std.proofs.Common.{ap, ◌∙◌}
use Rattle.serde_json.specs.Written.{has_float, compact_text}
use Rattle.frame_json.proofs.Floats.{has_float-reply_data}
use Rattle.frame_json.proofs.write.write_reply.Goals as goal

pub returns : goal.returns
returns c =
    let built = c.in_ok-value.ensures in
    c.from_string.ensures ∙ c.in_ok-to_string.ensures.text (ap has_float built ∙ has_float-reply_data c.args.reply.now) ∙ ap compact_text built
