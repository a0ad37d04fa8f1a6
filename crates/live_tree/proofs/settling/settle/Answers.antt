use Rattle.table_core.specs.Lookups.{pairs_of}
use Rattle.live_tree.proofs.MapRows.{taken_apart}
use Rattle.live_tree.proofs.settling.settle.Goals as goal

pub put_in-requires-clause-tree : goal.put_in-requires-clause-tree
put_in-requires-clause-tree g c = c.in_ok-take_off.ensures.tree c.args.columns.now c.requires.tree

pub put_in-requires-clause-absent : goal.put_in-requires-clause-absent
put_in-requires-clause-absent g c =
    taken_apart (pairs_of c.args.rows.now.entries) (pairs_of c.take_off.new.rows.entries) c.args.change.now.key c.in_ok-take_off.ensures.rows

pub returns-in-None-clause-tree : goal.returns-in-None-clause-tree
returns-in-None-clause-tree g c = c.in_ok-take_off.ensures.tree c.args.columns.now c.requires.tree
