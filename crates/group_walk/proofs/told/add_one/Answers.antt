use Rattle.std.proofs.Common.{Some, ◌||◌, ap, ◌∙◌}
use Rattle.std.specs.List.{list_any}
use Rattle.std.specs.Option.{option_copied}
use Rattle.std.proofs.lemmas.Result.{on_ok_weaker}
use Rattle.cell_core.specs.Cells.{same_cell}
use Rattle.pivot_tree.proofs.Families.{found_path, is_some, path_inserted, path_turned}
use Rattle.group_walk.specs.Told.{leads_to, values_at}
use Rattle.group_walk.proofs.ToldSteps.{there_with, values_with}
use Rattle.group_walk.proofs.told.add_one.Goals as goal

pub returns-in-Some-clause-each : goal.returns-in-Some-clause-each
returns-in-Some-clause-each c =
    let old = c.args.beginnings.now in
    let b = c.args.beginning.now in
    let g = c.put.new.values in
    let made = c.get_mut.follows.lender g in
    let written = c.get_mut.follows.holds g in
    let turned = path_turned b old made (Some g) (written.3 (is_some _ _ c.in-Some.ensures.value)) in
    on_ok_weaker c.put.result (λ put. there_with b old.entries made.entries g turned.0 turned.1) c.put.ensures

pub returns-in-Some-clause-next : goal.returns-in-Some-clause-next
returns-in-Some-clause-next c =
    let old = c.args.beginnings.now in
    let b = c.args.beginning.now in
    let next = option_copied c.args.next in
    let g = c.put.new.values in
    let made = c.get_mut.follows.lender g in
    let written = c.get_mut.follows.holds g in
    let turned = path_turned b old made (Some g) (written.3 (is_some _ _ c.in-Some.ensures.value)) in
    on_ok_weaker c.put.result
    (λ put. values_with b old.entries made.entries g next turned.0 turned.1
    (λ k. put k ∙ ap (λ o. list_any (same_cell k) (values_at o) || leads_to next k) (c.in-Some.ensures.value ∙ found_path b old.entries)))
    c.put.ensures

pub returns-clause-each : goal.returns-clause-each
returns-clause-each c =
    let old = c.args.beginnings.now in
    let b = c.args.beginning.now in
    let g = c.put-2.new.values in
    let turned = path_inserted b c.in_ok-copy.field-0 old _ c.insert.new.self (Some g) c.in_ok-copy.ensures c.get_mut.follows.holds-at-none c.in_ok-insert.ensures.updates in
    there_with b old.entries c.insert.new.self.entries g turned.0 turned.1

pub returns-clause-next : goal.returns-clause-next
returns-clause-next c =
    let old = c.args.beginnings.now in
    let b = c.args.beginning.now in
    let next = option_copied c.args.next in
    let g = c.put-2.new.values in
    let turned = path_inserted b c.in_ok-copy.field-0 old _ c.insert.new.self (Some g) c.in_ok-copy.ensures c.get_mut.follows.holds-at-none c.in_ok-insert.ensures.updates in
    values_with b old.entries c.insert.new.self.entries g next turned.0 turned.1
    (λ k. c.in_ok-put.ensures k ∙ ap (λ ks. list_any (same_cell k) ks || leads_to next k) c.new-values.ensures.empty
    ∙ ap (λ o. list_any (same_cell k) (values_at o) || leads_to next k) (c.in_default.ensures.value ∙ found_path b old.entries))
