use Rattle.std.proofs.Common.{rules, ◌≡◌, ◌++◌, ◌∷◌, take, drop, ◌+◌, arith, sym, ap, ◌∙◌}
use Rattle.std.proofs.lemmas.Grind.{common_steps}
use Rattle.update_hooks.proofs.Lists.{same_read, booked_is, split_here}
use Rattle.update_hooks.proofs.booked.take_first.Goals as goal

pub returns-then-index-view-clause-taken : goal.returns-then-index-view-clause-taken
returns-then-index-view-clause-taken g c =
    let items = c.jobs.jobs.items in
    let b = c.remove-job.result in
    let s : b.session ≡ c.args.session = ap (λ t. t.session) (same_read items c.jobs.at b c.index.result.now (search rules) c.remove-job.ensures.value c.index.ensures) ∙ c.if-index-session.true in
    let v : b.view ≡ c.args.view = ap (λ t. t.view) (same_read items c.jobs.at b c.index-then-index-session.result.now (search rules) c.remove-job.ensures.value c.index-then-index-session.ensures) ∙ c.if-index-view.true in
    record {
      before = take c.jobs.at items;
      after = drop (c.jobs.at + 1) items;
      split = sym c.jobs.invariant.1 ∙ split_here items c.jobs.at b (search rules)
          ∙ ap (λ t. take c.jobs.at items ++ t ∷ drop (c.jobs.at + 1) items) (sym c.remove-job.ensures.value ∙ booked_is b c.args.session c.args.view s v);
      rest = search rules;
      none = c.jobs.invariant.0;
    }

pub returns-clause-taken : goal.returns-clause-taken
returns-clause-taken g c = (grind (arith, common_steps), c.jobs.invariant.1)
