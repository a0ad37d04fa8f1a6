use Rattle.std.proofs.Common.{subst, sym}
use Rattle.table_core.specs.Lookups.{pairs_of}
use Rattle.pivot_tree.specs.Trees.{IsTreeOf}
use Rattle.live_tree.proofs.MapRows.{put_is}
use Rattle.live_tree.proofs.rows.put.Goals as goal

pub returns-in_err-add_row-clause-steps : goal.returns-in_err-add_row-clause-steps
returns-in_err-add_row-clause-steps g c columns plan is = c.add_row.ensures.at_most columns plan (pairs_of c.args.rows.now.entries) is

pub returns-in_err-insert-clause-steps : goal.returns-in_err-insert-clause-steps
returns-in_err-insert-clause-steps g c columns plan is = c.add_row.ensures.at_most columns plan (pairs_of c.args.rows.now.entries) is

pub returns-clause-rows : goal.returns-clause-rows
returns-clause-rows g c = put_is c.args.rows.now.entries c.insert.new.self.entries c.args.key c.args.row c.requires.3.absent c.in_ok-insert.ensures.entries

pub returns-clause-tree : goal.returns-clause-tree
returns-clause-tree g c columns plan is can =
    subst (IsTreeOf columns plan c.add_row.new.self)
    (sym (put_is c.args.rows.now.entries c.insert.new.self.entries c.args.key c.args.row can.absent c.in_ok-insert.ensures.entries))
    (c.in_ok-add_row.ensures.stands columns plan (pairs_of c.args.rows.now.entries) is can)

pub returns-clause-steps : goal.returns-clause-steps
returns-clause-steps g c columns plan is = c.add_row.ensures.at_most columns plan (pairs_of c.args.rows.now.entries) is
