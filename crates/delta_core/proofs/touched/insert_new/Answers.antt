use Rattle.std.proofs.Common.{sym, ◌∙◌}
use Rattle.delta_core.proofs.DirtyMaps.{touched_new, touched_known}
use Rattle.delta_core.proofs.touched.insert_new.Goals as goal

pub returns-in_ok-insert-clause-ok : goal.returns-in_ok-insert-clause-ok
returns-in_ok-insert-clause-ok c =
    touched_new c.args.key c.args.touch c.args.keys.now.entries c.insert.new.self.entries (sym c.contains_key.ensures ∙ c.if-not-contains_key.true) c.in_ok-insert.ensures.entries

pub returns-else-not-contains_key-clause-ok : goal.returns-else-not-contains_key-clause-ok
returns-else-not-contains_key-clause-ok c =
    touched_known c.args.key c.args.touch c.args.keys.now.entries c.len-ascending.ensures.ordered (sym c.contains_key.ensures ∙ c.if-not-contains_key.false)
