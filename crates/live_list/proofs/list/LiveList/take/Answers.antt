use Rattle.std.proofs.Common.{◌≡◌, None, ap, cond, ◌∙◌}
use Rattle.delta_core.specs.Rows.{at_key}
use Rattle.view_types.specs.Keys.{same_key}
use Rattle.live_list.specs.Live.{live_key}
use Rattle.live_list.proofs.Indexed.{not_out, taken_out}
use Rattle.live_list.proofs.list.LiveList.take.Goals as goal

pub invariant_of-self : goal.invariant_of-self
invariant_of-self g c = (not_out c.self.inside.rows c.self.inside.places c.remove.new.self c.args.key.now c.self.invariant c.in_err-place.ensures.taken c.remove.ensures.rest).indexed

pub invariant_of-self-2 : goal.invariant_of-self-2
invariant_of-self-2 g c =
    (taken_out c.self.inside.rows c.take_out.new.self c.self.inside.places c.remove.new.self c.args.key.now c.in_ok-place.place _ c.take_out.result c.self.invariant c.len-count.ensures.ascending c.in_ok-place.ensures.taken
    c.take_out.ensures.there c.take_out.ensures.taken c.take_out.ensures.at c.take_out.ensures.rest c.remove.ensures.rest).indexed

pub returns-in_err-place-clause-told : goal.returns-in_err-place-clause-told
returns-in_err-place-clause-told g c = λ k.
    (not_out c.self.inside.rows c.self.inside.places c.remove.new.self c.args.key.now c.self.invariant c.in_err-place.ensures.taken c.remove.ensures.rest).told k
    ∙ ap (λ xs. cond (same_key c.args.key.now k) None (at_key live_key k xs)) c.self.view_is

pub returns-clause-taken : goal.returns-clause-taken
returns-clause-taken g c =
    (taken_out c.self.inside.rows c.take_out.new.self c.self.inside.places c.remove.new.self c.args.key.now c.in_ok-place.place _ c.take_out.result c.self.invariant c.len-count.ensures.ascending c.in_ok-place.ensures.taken
    c.take_out.ensures.there c.take_out.ensures.taken c.take_out.ensures.at c.take_out.ensures.rest c.remove.ensures.rest).found
    ∙ ap (at_key live_key c.args.key.now) c.self.view_is

pub returns-clause-told : goal.returns-clause-told
returns-clause-told g c = λ k.
    (taken_out c.self.inside.rows c.take_out.new.self c.self.inside.places c.remove.new.self c.args.key.now c.in_ok-place.place _ c.take_out.result c.self.invariant c.len-count.ensures.ascending c.in_ok-place.ensures.taken
    c.take_out.ensures.there c.take_out.ensures.taken c.take_out.ensures.at c.take_out.ensures.rest c.remove.ensures.rest).told k
    ∙ ap (λ xs. cond (same_key c.args.key.now k) None (at_key live_key k xs)) c.self.view_is
