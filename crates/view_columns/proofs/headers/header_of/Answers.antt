use Rattle.std.proofs.Common.{◌≤◌, length, ap, ◌∙◌, arith}
use Rattle.std.specs.List.{flat_map}
use Rattle.std.proofs.lemmas.List.{take_all}
use Rattle.view_columns.specs.declared.headers.SplitColumns.{SplitColumns}
use Rattle.view_columns.proofs.WholeHeaders.{whole_header}
use Rattle.view_columns.proofs.headers.header_of.Goals as goal

pub returns : goal.returns
returns c = λ columns plan paths same.
    let far : length c.args.splits.now ≤ c.loop-one.one-index = omega arith in
    c.from_vec.ensures ∙ c.loop-one.invariant ∙ ap (flat_map (λ (s : SplitColumns). s.columns)) (take_all c.loop-one.one-index c.args.splits.now far) ∙ whole_header columns plan paths c.args.splits.now same
