use Rattle.std.proofs.Common.{◌∙◌, rules}
use borrow.Author.Tests.{tests}
use Rattle.std.proofs.lemmas.Iterator.{YieldsList-from_slice}
use Rattle.std.proofs.lemmas.Iterator.Search.{any_from_yields_List}
use Rattle.view_types.specs.Keys.{same_key}
use Rattle.view_types.specs.declared.shown.ShownRow.{ShownRow}
use Rattle.delta_core.proofs.ShownKeys.{any_has}
use Rattle.delta_core.proofs.tests.holds.Goals as goal

pub returns : goal.returns
returns c =
    any_from_yields_List (λ (r : ShownRow). same_key r.key c.args.key.now) _ _ c.any.result c.any.ensures.ran
    (YieldsList-from_slice c.args.rows.now cc) (λ x b q k. search (rules, tests))
    ∙ any_has c.args.key.now c.args.rows.now
