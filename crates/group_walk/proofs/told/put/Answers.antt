use Rattle.std.proofs.Common.{◌∙◌, ◌||◌, sym, ap}
use Rattle.std.specs.List.{list_any}
use Rattle.std.specs.Option.{option_copied}
use Rattle.cell_core.specs.Cells.{same_cell}
use Rattle.group_walk.specs.Told.{leads_to}
use Rattle.group_walk.proofs.ToldSteps.{value_put}
use Rattle.group_walk.proofs.told.put.Goals as goal

pub returns-in_ok-insert : goal.returns-in_ok-insert
returns-in_ok-insert c k =
    value_put c.args.values.now.keys c.insert.new.self.keys c.in_ok-copy.field-0 c.in-Some.cell.now c.in_ok-copy.ensures c.in_ok-insert.ensures.keys k
    ∙ ap (λ o. list_any (same_cell k) c.args.values.now.keys || leads_to (option_copied o) k) (sym c.in-Some.is)
