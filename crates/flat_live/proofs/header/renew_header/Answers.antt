use Rattle.std.proofs.Common.{ap, sym, ◌∙◌}
use Rattle.std.specs.Prelude.{not}
use Rattle.view_types.proofs.SameRows.{same_header_itself}
use Rattle.flat_live.proofs.header.renew_header.Goals as goal

pub returns-then-not-moved-clause-moved : goal.returns-then-not-moved-clause-moved
returns-then-not-moved-clause-moved c = c.if-not-moved.true ∙ sym (ap not (same_header_itself c.args.header.now))
