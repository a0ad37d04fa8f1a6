use Rattle.std.proofs.Common.{◌≡◌, ◌++◌, map, filter, not, vec_len}
use Rattle.update_hooks.specs.Booked.{is_of}
use Rattle.update_hooks.proofs.hooks.Hooks.end_view.Given as goal

-- the answers kept and those due are all that were due, and no other view's job is gone
abbrev pub invariant-jobs : goal.invariant-jobs
invariant-jobs g l = record {
  due : l.self.ended.items ++ map (λ _. l.end) (filter (is_of l.end.session l.end.view) l.self.jobs.items)
      ≡ l.initial.self.ended.items ++ map (λ _. l.end) (filter (is_of l.end.session l.end.view) l.initial.self.jobs.items);
  others : filter (λ booked. not (is_of l.end.session l.end.view booked)) l.self.jobs.items
      ≡ filter (λ booked. not (is_of l.end.session l.end.view booked)) l.initial.self.jobs.items;
  hooks : l.self.hooks.items ≡ l.initial.self.hooks.items;
}

abbrev pub decreases-jobs : goal.decreases-jobs
decreases-jobs g l = vec_len l.self.jobs
