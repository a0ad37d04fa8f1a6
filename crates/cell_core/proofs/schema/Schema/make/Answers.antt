use Rattle.std.proofs.Common.{rules}
use Rattle.cell_core.proofs.SchemaLemmas.{made}
use Rattle.cell_core.proofs.schema.Schema.make.Goals as goal

pub invariant_of-result : goal.invariant_of-result
invariant_of-result c =
    rw c.in_ok-columns.ensures (made c.args.columns c.args.index c.args.limit c.in-Ok.keeping (search rules))
