use Rattle.std.proofs.Common.{sym, ap, ◌∙◌, map, ◌∷◌, []}
use Rattle.std.proofs.lemmas.List.{map-append}
use Rattle.std.specs.BTreeMap.{insert_entry}
use Rattle.view_types.specs.contracts.key.ViewKeyOrd.TheImpl.{ghosts}
use Rattle.delta_core.specs.DirtySets.{with_touched, without}
use Rattle.delta_core.proofs.DirtyMaps.{touched_new, touched_known}
use Rattle.delta_core.proofs.TakenOut.{not_there, noted_out, put_out}
use Rattle.delta_core.proofs.touched.add_one.Goals as goal

pub returns-then-contains_key-clause-ok : goal.returns-then-contains_key-clause-ok
returns-then-contains_key-clause-ok c =
    touched_known c.args.key.now c.args.touch c.args.keys.now.entries c.len-ascending.ensures.ordered (sym c.contains_key.ensures ∙ c.if-contains_key.true)

pub returns-in_err-copy-clause-added : goal.returns-in_err-copy-clause-added
returns-in_err-copy-clause-added c =
    let es = c.args.keys.now.entries in
    let noted = c.args.added.now.items in
    let none = not_there c.args.key.now es (sym c.contains_key.ensures ∙ c.if-contains_key.false) in
    ap (λ ks. without ks es) (ap (map (λ k. k.now)) c.in_ok-push.ensures.items ∙ map-append (λ k. k.now) noted (c.args.key ∷ []))
    ∙ noted_out (map (λ k. k.now) noted) c.args.key.now es none

pub returns-in_err-insert-clause-added : goal.returns-in_err-insert-clause-added
returns-in_err-insert-clause-added c =
    let es = c.args.keys.now.entries in
    let noted = c.args.added.now.items in
    let none = not_there c.args.key.now es (sym c.contains_key.ensures ∙ c.if-contains_key.false) in
    ap (without (map (λ k. k.now) c.push.new.self.items)) c.in_err-insert.ensures.err
    ∙ ap (λ ks. without ks es) (ap (map (λ k. k.now)) c.in_ok-push.ensures.items ∙ map-append (λ k. k.now) noted (c.args.key ∷ []))
    ∙ noted_out (map (λ k. k.now) noted) c.args.key.now es none

pub returns-clause-ok : goal.returns-clause-ok
returns-clause-ok c =
    let es = c.args.keys.now.entries in
    touched_new c.args.key.now c.args.touch es c.insert.new.self.entries (sym c.contains_key.ensures ∙ c.if-contains_key.false)
    (c.in_ok-insert.ensures.entries ∙ ap (λ k. insert_entry ghosts.cmp es k c.args.touch) c.in_ok-copy.ensures)

pub returns-clause-added : goal.returns-clause-added
returns-clause-added c =
    let es = c.args.keys.now.entries in
    let noted = c.args.added.now.items in
    let absent = sym c.contains_key.ensures ∙ c.if-contains_key.false in
    let put =
    touched_new c.args.key.now c.args.touch es c.insert.new.self.entries absent
    (c.in_ok-insert.ensures.entries ∙ ap (λ k. insert_entry ghosts.cmp es k c.args.touch) c.in_ok-copy.ensures) in
    ap (without (map (λ k. k.now) c.push.new.self.items)) put
    ∙ ap (λ ks. without ks (with_touched es (c.args.key.now, c.args.touch))) (ap (map (λ k. k.now)) c.in_ok-push.ensures.items ∙ map-append (λ k. k.now) noted (c.args.key ∷ []))
    ∙ put_out (map (λ k. k.now) noted) c.args.key.now c.args.touch es (not_there c.args.key.now es absent)
