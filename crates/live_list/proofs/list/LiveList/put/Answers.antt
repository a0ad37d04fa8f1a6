use Rattle.std.proofs.Common.{◌≡◌, List, None, Some, ap, cond, refl, sym, subst, ◌∙◌}
use Rattle.delta_core.specs.Rows.{at_key}
use Rattle.view_types.specs.Keys.{same_key}
use Rattle.live_list.specs.Live.{IsIndexed, live_key}
use Rattle.live_list.proofs.Indexed.{Entry, forgot_as, indexed_put, indexed_restored, put_as}
use Rattle.live_list.proofs.Told.{at_key-insert}
use Rattle.live_list.proofs.list.LiveList.put.Goals as goal

pub invariant_of-self-in-Ok : goal.invariant_of-self-in-Ok
invariant_of-self-in-Ok g c =
    subst (λ (xs : List (Entry g.row.V.Denot)). IsIndexed xs c.insert.new.self) (sym c.in-Ok.ensures.ok)
    (indexed_put c.self.inside.rows c.self.inside.places c.insert.new.self _ (c.args.place, record { key = c.args.key; value = c.args.value }) c.self.invariant
    (ap (at_key live_key c.args.key) c.self.view_is ∙ c.requires.new_key)
    (put_as c.args.key _ c.args.place _ c.self.inside.places c.insert.new.self c.in_ok-key_copy.ensures c.in_ok-place_copy.ensures c.in_ok-insert.ensures.ok))

pub returns-in-Ok-clause-told : goal.returns-in-Ok-clause-told
returns-in-Ok-clause-told g c = λ k.
    ap (at_key live_key k) c.in-Ok.ensures.ok
    ∙ at_key-insert live_key c.self.inside.rows _ (c.args.place, record { key = c.args.key; value = c.args.value }) k (ap (at_key live_key c.args.key) c.self.view_is ∙ c.requires.new_key)
    ∙ ap (λ xs. cond (same_key c.args.key k) (Some (c.args.place, record { key = c.args.key; value = c.args.value })) (at_key live_key k xs)) c.self.view_is

pub invariant_of-self-in-Err : goal.invariant_of-self-in-Err
invariant_of-self-in-Err g c =
    subst (λ (xs : List (Entry g.row.V.Denot)). IsIndexed xs c.remove.new.self) (sym c.in-Err.ensures.err)
    (indexed_restored c.self.inside.rows c.self.inside.places c.insert.new.self c.remove.new.self c.args.key c.args.place c.self.invariant
    (ap (at_key live_key c.args.key) c.self.view_is ∙ c.requires.new_key)
    (put_as c.args.key _ c.args.place _ c.self.inside.places c.insert.new.self c.in_ok-key_copy.ensures c.in_ok-place_copy.ensures c.in_ok-insert.ensures.ok)
    (forgot_as c.args.key _ c.insert.new.self c.remove.new.self (ap (λ (e : Entry g.row.V.Denot). live_key e) c.in-Err.ensures.handed_back) c.remove.ensures.rest))
