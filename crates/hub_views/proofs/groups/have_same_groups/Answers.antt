use Rattle.std.proofs.Common.{refl, sym, ◌∙◌}
use Rattle.hub_views.proofs.GroupNames.{all_same, name_differs, one_more_name, other_count}
use Rattle.hub_views.proofs.groups.have_same_groups.Goals as goal

pub returns-then-was-now : goal.returns-then-was-now
returns-then-was-now c =
    other_count c.args.schema.now.columns c.args.before.now c.args.after.now c.as_slice-was.result.now c.as_slice-now.result.now c.as_slice-was.ensures c.as_slice-now.ensures c.if-was-now.true

pub loop-i-init : goal.loop-i-init
loop-i-init c = refl

pub returns-then-ne : goal.returns-then-ne
returns-then-ne c =
    name_differs c.args.schema.now.columns c.args.before.now c.args.after.now c.as_slice-was.result.now c.as_slice-now.result.now c.column_name.result.now c.column_name-in-loop-i.result.now c.loop-i.i
    c.as_slice-was.ensures c.as_slice-now.ensures c.loop-i-test.true c.if-was-now.false c.column_name.ensures c.column_name-in-loop-i.ensures (sym c.ne.ensures ∙ c.if-ne.true) c.loop-i.invariant

pub loop-i-preserved : goal.loop-i-preserved
loop-i-preserved c =
    one_more_name c.args.schema.now.columns c.args.before.now c.args.after.now c.as_slice-was.result.now c.as_slice-now.result.now c.column_name.result.now c.column_name-in-loop-i.result.now c.loop-i.i
    c.loop-i-test.true c.if-was-now.false c.column_name.ensures c.column_name-in-loop-i.ensures (sym c.ne.ensures ∙ c.if-ne.false) c.loop-i.invariant

pub returns : goal.returns
returns c =
    all_same c.args.schema.now.columns c.args.before.now c.args.after.now c.as_slice-was.result.now c.as_slice-now.result.now c.loop-i.i
    c.as_slice-was.ensures c.as_slice-now.ensures c.loop-i-test.false c.if-was-now.false c.loop-i.invariant
