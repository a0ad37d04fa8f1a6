use Rattle.std.proofs.Common.{◌≡◌, ◌++◌, Some, None, ap, sym, subst, ◌∙◌}
use Rattle.std.proofs.lemmas.List.{append-nil}
use Rattle.row_batch.specs.Changes.{row_at}
use Rattle.table_core.specs.Lookups.{pairs_of}
use Rattle.pivot_tree.specs.Trees.{IsTreeOf}
use Rattle.live_tree.specs.Rows.{path_of}
use Rattle.live_tree.proofs.KeptChanges.{told_path}
use Rattle.live_tree.proofs.MapRows.{row_at-pairs_of, taken_is, taken_row}
use Rattle.live_tree.proofs.settling.take_off.Goals as goal

pub take_row-requires : goal.take_row-requires
take_row-requires g c =
    let old = c.args.rows.now.entries in
    (c.requires.0, c.args.plan.now, pairs_of old, c.requires.1, taken_row old c.args.key.now c.in-Some.row c.requires.1.ascending c.in-Some.ensures.value)

pub returns-in_err-take_row-in-Some-clause-steps : goal.returns-in_err-take_row-in-Some-clause-steps
returns-in_err-take_row-in-Some-clause-steps g c = c.take_row.ensures.at_most c.requires.0 c.args.plan.now (pairs_of c.args.rows.now.entries) c.requires.1

pub returns-in_err-group_path-in-Some-clause-steps : goal.returns-in_err-group_path-in-Some-clause-steps
returns-in_err-group_path-in-Some-clause-steps g c = c.take_row.ensures.at_most c.requires.0 c.args.plan.now (pairs_of c.args.rows.now.entries) c.requires.1

pub returns-in_err-push-in-Some-clause-steps : goal.returns-in_err-push-in-Some-clause-steps
returns-in_err-push-in-Some-clause-steps g c = c.take_row.ensures.at_most c.requires.0 c.args.plan.now (pairs_of c.args.rows.now.entries) c.requires.1

pub returns-in_ok-push-in-Some-clause-tree : goal.returns-in_ok-push-in-Some-clause-tree
returns-in_ok-push-in-Some-clause-tree g c columns is =
    let old = c.args.rows.now.entries in
    let key = c.args.key.now in
    subst (IsTreeOf columns c.args.plan.now c.take_row.new.self) (sym (taken_is old c.remove.new.self.entries key is.ascending c.remove.ensures.entries))
    (c.in_ok-take_row-in-Some.ensures.stands columns c.args.plan.now (pairs_of old) is (taken_row old key c.in-Some.row is.ascending c.in-Some.ensures.value))

pub returns-in_ok-push-in-Some-clause-rows : goal.returns-in_ok-push-in-Some-clause-rows
returns-in_ok-push-in-Some-clause-rows g c = taken_is c.args.rows.now.entries c.remove.new.self.entries c.args.key.now c.requires.1.ascending c.remove.ensures.entries

pub returns-in_ok-push-in-Some-clause-paths : goal.returns-in_ok-push-in-Some-clause-paths
returns-in_ok-push-in-Some-clause-paths g c =
    let old = c.args.rows.now.entries in
    let key = c.args.key.now in
    let plan = c.args.plan.now in
    let told = c.args.paths.now.items in
    let there : row_at (pairs_of old) key ≡ Some c.in-Some.row = row_at-pairs_of old key ∙ sym c.in-Some.ensures.value in
    told_path plan key c.in-Some.row _ _ told _ _ c.as_slice.ensures c.in_ok-group_path-in-Some.ensures c.in_ok-push-in-Some.ensures.items there

pub returns-in_ok-push-in-Some-clause-steps : goal.returns-in_ok-push-in-Some-clause-steps
returns-in_ok-push-in-Some-clause-steps g c = c.take_row.ensures.at_most c.requires.0 c.args.plan.now (pairs_of c.args.rows.now.entries) c.requires.1

pub returns-in-None-clause-rows : goal.returns-in-None-clause-rows
returns-in-None-clause-rows g c = taken_is c.args.rows.now.entries c.remove.new.self.entries c.args.key.now c.requires.1.ascending c.remove.ensures.entries

pub returns-in-None-clause-paths : goal.returns-in-None-clause-paths
returns-in-None-clause-paths g c =
    let old = c.args.rows.now.entries in
    let key = c.args.key.now in
    let told = c.args.paths.now.items in
    let none : row_at (pairs_of old) key ≡ None = row_at-pairs_of old key ∙ sym c.in-None.ensures.value in
    sym (ap (λ o. told ++ path_of c.args.plan.now key o) none ∙ append-nil told)
