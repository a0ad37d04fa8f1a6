use Rattle.std.proofs.Common.{◌<◌, ◌≤◌, length, get_or, ap, ◌∙◌, subst}
use Rattle.std.proofs.lemmas.Result.{on_ok_weaker}
use Rattle.group_walk.proofs.ToldSteps.{adding_end, adding_more, adding_next_end}
use Rattle.group_walk.proofs.told.add.Goals as goal

pub loop-value-preserved : goal.loop-value-preserved
loop-value-preserved c =
    let path = c.args.path.now in
    let i = c.loop-value.value-index in
    let value = c.value-item.result in
    let items = c.as_slice-value-items.ensures in
    adding_more c.args.beginnings.now.entries c.loop-value.beginnings.entries c.add_one.new.beginnings.entries path i c.loop-value.beginning c.push.new.self value c.in_ok-copy.field-0
    (subst (λ xs. i < length xs) items c.loop-value-test.true) (c.value-item.is ∙ ap (λ xs. get_or xs i value) items) c.in_ok-copy.ensures c.in_ok-push.ensures.ok
    c.loop-value.invariant c.in_ok-add_one.ensures.each c.in_ok-add_one.ensures.next

pub returns-clause-each : goal.returns-clause-each
returns-clause-each c =
    let i = c.loop-value.value-index in
    on_ok_weaker c.add_one-2.result
    (adding_end c.args.beginnings.now.entries c.loop-value.beginnings.entries c.add_one-2.new.beginnings.entries c.args.path.now i c.loop-value.beginning
    (subst (λ xs. length xs ≤ i) c.as_slice-value-items.ensures c.loop-value-test.false) c.loop-value.invariant)
    c.add_one-2.ensures.each

pub returns-clause-next : goal.returns-clause-next
returns-clause-next c =
    let i = c.loop-value.value-index in
    on_ok_weaker c.add_one-2.result
    (adding_next_end c.args.beginnings.now.entries c.loop-value.beginnings.entries c.add_one-2.new.beginnings.entries c.args.path.now i c.loop-value.beginning
    (subst (λ xs. length xs ≤ i) c.as_slice-value-items.ensures c.loop-value-test.false) c.loop-value.invariant)
    c.add_one-2.ensures.next
