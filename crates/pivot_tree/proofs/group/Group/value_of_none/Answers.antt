use Rattle.std.proofs.Common.{◌≡◌, Some, None, ap, sym, ◌∙◌, get_or, take}
use Rattle.std.proofs.lemmas.Bool.{ne_eqb}
use Rattle.std.proofs.lemmas.List.{take_all}
use Rattle.pivot_tree.specs.Columns.{aggregate_in}
use Rattle.pivot_tree.specs.Groups.{names_of}
use Rattle.pivot_tree.specs.declared.column.ColumnAggregate.{ColumnAggregate}
use Rattle.pivot_tree.proofs.GroupSteps.{none_found, none_more}
use Rattle.pivot_tree.proofs.group.Group.value_of_none.Goals as goal

pub loop-held-preserved : goal.loop-held-preserved
loop-held-preserved c =
    let items = c.deref-held-items.result.now in
    let h = c.held-item.result in
    none_more c.args.column items c.loop-held.held-index h c.loop-held-test.true c.loop-held.invariant
    (ne_eqb c.args.column (get_or items c.loop-held.held-index h).column (λ e. c.if-held-column.false (ap (λ (j : ColumnAggregate). j.column) c.held-item.is ∙ sym e)))

pub returns-then-held-column : goal.returns-then-held-column
returns-then-held-column c used rows name group has =
    let items = c.deref-held-items.result.now in
    let is = c.deref-held-items.ensures.value in
    none_found c.args.column used rows name items c.loop-held.held-index c.held-item.result c.name.result c.of_none.result c.loop-held-test.true c.loop-held.invariant c.held-item.is c.if-held-column.true
    (ap names_of is ∙ group.names) has c.name.ensures c.of_none.ensures

pub returns : goal.returns
returns c used rows name group has =
    let items = c.deref-held-items.result.now in
    let all : take c.loop-held.held-index items ≡ items = take_all c.loop-held.held-index items c.loop-held-test.false in
    let none : aggregate_in used c.args.column ≡ None =
    ap (λ us. aggregate_in us c.args.column) (sym (ap names_of (all ∙ c.deref-held-items.ensures.value) ∙ group.names)) ∙ c.loop-held.invariant in
    absurd (let wrong : Some name ≡ None = sym has ∙ none in cc)
