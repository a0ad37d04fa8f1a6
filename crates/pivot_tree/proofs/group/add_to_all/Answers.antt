use Rattle.std.proofs.Common.{◌≡◌, List, All, ap, sym, ◌∙◌, subst, get_or, length, take, drop, ◌++◌, arith}
use Rattle.std.specs.List.{AllZip}
use Rattle.row_batch.specs.Batches.{pair_of}
use Rattle.pivot_tree.specs.Groups.{Holds, names_of, with_row}
use Rattle.pivot_tree.specs.declared.column.ColumnAggregate.{ColumnAggregate}
use Rattle.pivot_tree.proofs.GroupSteps.{AddStep, add_may, each-added, names-added, whole}
use Rattle.pivot_tree.proofs.Stepped.{IsStepped-end, IsStepped-more}
use Rattle.pivot_tree.proofs.group.add_to_all.Goals as goal

pub add-requires : goal.add-requires
add-requires c =
    let is = c.deref_mut-held-items.ensures.value in
    let long = c.loop-held.invariant.long in
    let lens = ap length is in
    add_may (pair_of c.args.key.now c.args.row.now) c.args.all.now.items c.loop-held.held-items c.loop-held.held-index c.held-item.result (omega arith)
    (c.loop-held.invariant.same c.loop-held.held-index c.held-item.result (omega arith) ∙ ap (λ (hs : List ColumnAggregate). get_or hs c.loop-held.held-index c.held-item.result) is) c.requires

pub loop-held-preserved : goal.loop-held-preserved
loop-held-preserved c =
    IsStepped-more (AddStep (pair_of c.args.key.now c.args.row.now)) _ c.loop-held.held-items c.loop-held.held-index (get_or c.loop-held.held-items c.loop-held.held-index c.held-item.result) c.add.new.self
    c.loop-held.invariant (omega arith) (ap (λ (h : ColumnAggregate). get_or c.loop-held.held-items c.loop-held.held-index h) c.held-item.is)
    (record { used = c.add.ensures.used; holds = c.in_ok-add.ensures.ok })

pub returns-clause-each : goal.returns-clause-each
returns-clause-each c rows all can =
    let is = c.deref_mut-held-items.ensures.value in
    let p = pair_of c.args.key.now c.args.row.now in
    let lens = ap length is in
    let long = c.loop-held.invariant.long in
    let z = IsStepped-end (AddStep p) _ c.loop-held.held-items c.loop-held.held-index c.loop-held.invariant (omega arith) in
    let there : AllZip (AddStep p) c.args.all.now.items c.loop-held.held-items = subst (λ (hs : List ColumnAggregate). AllZip (AddStep p) hs c.loop-held.held-items) is z in
    let all_of : take c.args.all.now.len (c.loop-held.held-items ++ drop (length c.loop-held.held-items) c.args.all.now.items) ≡ c.loop-held.held-items =
    whole c.args.all.now.len c.loop-held.held-items c.args.all.now.items (omega arith) (omega arith) in
    subst (λ (hs : List ColumnAggregate). All (Holds (with_row rows p)) hs) (sym all_of) (each-added p rows c.args.all.now.items c.loop-held.held-items there all can)

pub returns-clause-names : goal.returns-clause-names
returns-clause-names c =
    let is = c.deref_mut-held-items.ensures.value in
    let p = pair_of c.args.key.now c.args.row.now in
    let lens = ap length is in
    let long = c.loop-held.invariant.long in
    let z = IsStepped-end (AddStep p) _ c.loop-held.held-items c.loop-held.held-index c.loop-held.invariant (omega arith) in
    let there : AllZip (AddStep p) c.args.all.now.items c.loop-held.held-items = subst (λ (hs : List ColumnAggregate). AllZip (AddStep p) hs c.loop-held.held-items) is z in
    let all_of : take c.args.all.now.len (c.loop-held.held-items ++ drop (length c.loop-held.held-items) c.args.all.now.items) ≡ c.loop-held.held-items =
    whole c.args.all.now.len c.loop-held.held-items c.args.all.now.items (omega arith) (omega arith) in
    ap names_of all_of ∙ names-added p c.args.all.now.items c.loop-held.held-items there
