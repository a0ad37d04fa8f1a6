use Rattle.std.proofs.Common.{◌∙◌, ap}
use Rattle.key_map.specs.Keyed.{index_of}
use Rattle.view_spec.specs.Touching.{key_of}
use Rattle.plain_kept.proofs.keyed.KeyedRows.position.Goals as goal

pub returns : goal.returns
returns c = c.copied.ensures ∙ c.get.ensures ∙ c.self.invariant c.args.key.now ∙ ap (index_of key_of c.args.key.now) c.self.view_is
