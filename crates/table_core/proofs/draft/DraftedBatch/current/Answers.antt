use Rattle.std.proofs.Common.{sym, ◌∙◌}
use Rattle.table_core.proofs.Drafting.{current_some, current_none}
use Rattle.table_core.proofs.draft.DraftedBatch.current.Goals as goal

pub returns-in-Some : goal.returns-in-Some
returns-in-Some c =
    c.as_ref.ensures.value
    ∙ sym (current_some c.args.rows.now.entries c.args.self.now c.args.key.now c.in-Some.row.now c.requires.draft (sym c.in-Some.ensures))

pub returns-in-None : goal.returns-in-None
returns-in-None c =
    c.find-in-None.ensures ∙ sym (current_none c.args.rows.now.entries c.args.self.now c.args.key.now c.requires.draft (sym c.in-None.ensures))
