use Rattle.std.proofs.Common.{◌≡◌, IfOk, List, subst}
use Rattle.view_types.specs.declared.shown.HeaderColumn.{HeaderColumn}
use Rattle.view_spec.specs.declared.placed.PlacedRow.{PlacedRow}
use Rattle.plain_kept.specs.declared.keyed.KeyedView.{KeyedView}
use Rattle.plain_kept.proofs.keyed.show_keyed.Goals as goal

pub returns-in_ok-shown-clause-header : goal.returns-in_ok-shown-clause-header
returns-in_ok-shown-clause-header g c =
    subst (λ (header : List HeaderColumn). IfOk c.keyed.result (λ (v : KeyedView). v.header ≡ header)) (c.in_ok-shown.ensures.header c.args.opening.now) c.keyed.ensures.header

pub returns-in_ok-shown-clause-rows : goal.returns-in_ok-shown-clause-rows
returns-in_ok-shown-clause-rows g c =
    subst (λ (rows : List PlacedRow). IfOk c.keyed.result (λ (v : KeyedView). v.rows ≡ rows)) (c.in_ok-shown.ensures.rows c.args.opening.now) c.keyed.ensures.rows
