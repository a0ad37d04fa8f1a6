use Rattle.std.proofs.Common.{◌++◌, map, sym, ap, ◌∙◌}
use Rattle.std.proofs.lemmas.List.{append-nil}
use Rattle.update_hooks.proofs.DueEnds.{due_first, others_stay, none_due, none_gone}
use Rattle.update_hooks.proofs.hooks.Hooks.end_view.Goals as goal

pub jobs-preserved : goal.jobs-preserved
jobs-preserved g c = record {
  due = rw (c.push_reserved.ensures.items, c.call-version.ensures) (due_first c.args.end _ _ _ _ _ c.jobs.self.ended.items c.in-Some.ensures.taken ∙ c.jobs.invariant.due);
  others = others_stay _ _ _ _ _ c.in-Some.ensures.taken ∙ c.jobs.invariant.others;
  hooks = c.jobs.invariant.hooks;
}

pub returns-clause-jobs : goal.returns-clause-jobs
returns-clause-jobs g c =
    c.in_default.ensures.taken.1 ∙ sym (none_gone _ _ c.jobs.self.jobs.items c.in_default.ensures.taken.0) ∙ c.jobs.invariant.others

pub returns-clause-ended : goal.returns-clause-ended
returns-clause-ended g c =
    sym (append-nil c.jobs.self.ended.items)
    ∙ ap (λ t. c.jobs.self.ended.items ++ map (λ _. c.args.end) t) (sym (none_due _ _ c.jobs.self.jobs.items c.in_default.ensures.taken.0))
    ∙ c.jobs.invariant.due
