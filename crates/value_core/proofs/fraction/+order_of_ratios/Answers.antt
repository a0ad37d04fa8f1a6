use Rattle.std.proofs.Common.{◌∙◌, sym, inl, inr}
use Rattle.value_core.proofs.Euclid.{ratio_apart, ratio_rests, rest_zero, reciprocals}
use Rattle.value_core.proofs.fraction.+order_of_ratios.Goals as goal
use Rattle.value_core.proofs.fraction.+order_of_ratios.Goals.{then-left-eq0-via-then-left-eq0, then-left-eq0-via-else-left-eq0+then-right-eq0}

pub returns-then-is_ne : goal.returns-then-is_ne
returns-then-is_ne t c =
    ratio_apart c.args.a c.args.b c.args.c c.args.d c.requires.first c.requires.second c.cmp-wholes.result c.cmp-wholes.ensures (sym c.is_ne.ensures ∙ c.if-is_ne.true)

pub returns-then-left-eq0 : goal.returns-then-left-eq0
returns-then-left-eq0 t c =
    c.cmp.ensures ∙ rest_zero _ _ c.args.b c.args.d c.requires.first c.requires.second
    (elim c.then-left-eq0.branch [ then-left-eq0-via-then-left-eq0 w ↦ inl w.if-left-eq0.true | then-left-eq0-via-else-left-eq0+then-right-eq0 w ↦ inr w.if-right-eq0.true ])
    ∙ ratio_rests c.args.a c.args.b c.args.c c.args.d c.cmp-wholes.result c.cmp-wholes.ensures (sym c.is_ne.ensures ∙ c.if-is_ne.false)

pub returns : goal.returns
returns t c =
    c.order_of_ratios.ensures ∙ reciprocals _ _ c.args.b c.args.d
    ∙ ratio_rests c.args.a c.args.b c.args.c c.args.d c.cmp-wholes.result c.cmp-wholes.ensures (sym c.is_ne.ensures ∙ c.if-is_ne.false)
