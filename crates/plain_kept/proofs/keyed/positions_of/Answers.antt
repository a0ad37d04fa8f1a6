use Rattle.std.proofs.Common.{◌<◌, ◌∙◌, ap, arith, length}
use Rattle.view_spec.specs.Touching.{key_of}
use Rattle.plain_kept.proofs.KeyedLaws.{row_put}
use Rattle.plain_kept.proofs.keyed.positions_of.Goals as goal

pub loop-position-preserved : goal.loop-position-preserved
loop-position-preserved c =
    let within : c.loop-position.position < length c.args.rows.now = omega arith in
    row_put c.args.rows.now c.loop-position.position c.index-rows-position.result c.in_ok-copy.field-0 c.loop-position.positions c.insert.new.self within c.requires
    c.loop-position.invariant (c.in_ok-copy.ensures ∙ ap key_of c.index-rows-position.is) c.in_ok-insert.ensures.ok
