use Rattle.std.proofs.Common.{◌<◌, ◌≤◌, length, sym, ◌∙◌, arith, rules}
use Rattle.cell_core.specs.Schemas.{keeping_of}
use Rattle.cell_core.proofs.SchemaLemmas.{refused_column, no_refused_column}
use Rattle.cell_core.proofs.schema.decided.Goals as goal

pub returns-in-Some : goal.returns-in-Some
returns-in-Some c =
    let some : 0 < length c.args.words.now = search rules in
    let few : length c.args.words.now ≤ 32 = omega arith in
    sym (refused_column c.args.words.now c.args.index c.args.limit (keeping_of c.args.words.now c.args.index c.args.limit) c.in-Some.refused some few (sym c.in-Some.ensures))

pub returns-in-None : goal.returns-in-None
returns-in-None c =
    let some : 0 < length c.args.words.now = search rules in
    let few : length c.args.words.now ≤ 32 = omega arith in
    c.kept_under.ensures ∙ sym (no_refused_column c.args.words.now c.args.index c.args.limit (keeping_of c.args.words.now c.args.index c.args.limit) some few (sym c.in-None.ensures))
