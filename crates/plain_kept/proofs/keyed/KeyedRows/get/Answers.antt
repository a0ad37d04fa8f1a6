use Rattle.std.proofs.Common.{◌∙◌, ap}
use Rattle.std.specs.Option.{option_copied}
use Rattle.delta_core.specs.Rows.{at_key}
use Rattle.view_spec.specs.Touching.{key_of}
use Rattle.plain_kept.proofs.KeyedLaws.{no_row_found, row_found}
use Rattle.plain_kept.proofs.keyed.KeyedRows.get.Goals as goal

pub returns : goal.returns
returns c =
    c.get-2.ensures ∙ row_found c.self.inside.positions c.self.inside.rows c.args.key.now c.in_ok-position.position.now c.self.invariant c.in_ok-position.ensures
    ∙ ap (at_key key_of c.args.key.now) c.self.view_is

pub returns-in_err-position : goal.returns-in_err-position
returns-in_err-position c =
    ap option_copied c.from_residual.ensures
    ∙ no_row_found c.self.inside.positions c.self.inside.rows c.args.key.now c.self.invariant c.in_err-position.ensures ∙ ap (at_key key_of c.args.key.now) c.self.view_is
