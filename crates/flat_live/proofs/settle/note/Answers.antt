use Rattle.std.proofs.Common.{Some, None, cond, is_some, ap, sym, ◌∙◌}
use Rattle.std.specs.Map.{lookup}
use Rattle.std.specs.Option.{option_copied}
use Rattle.view_types.specs.Keys.{same_key}
use Rattle.flat_live.proofs.Options.{copied_some, lookup-with_touched, none_there, ok_map}
use Rattle.flat_live.proofs.settle.note.Goals as goal

pub returns-then-branch : goal.returns-then-branch
returns-then-branch c = λ k.
    none_there (λ q. lookup (same_key q) c.args.touched.now) c.args.key k c.requires
    ∙ ap (λ b. cond (same_key c.args.key k) (cond b None (Some (record { was_shown = is_some (option_copied c.args.was) }))) (lookup (same_key k) c.args.touched.now)) (sym c.if-branch.true ∙ c.in_ok-stays.ensures)

pub returns : goal.returns
returns c = λ k.
    ok_map c.add.result
    (λ h. ap (lookup (same_key k)) h
    ∙ lookup-with_touched c.args.touched.now c.args.key (record { was_shown = c.is_some.result }) k c.requires
    ∙ ap (λ b. cond (same_key c.args.key k) (Some (record { was_shown = b })) (lookup (same_key k) c.args.touched.now)) (c.is_some.ensures ∙ sym (copied_some c.args.was))
    ∙ ap (λ b. cond (same_key c.args.key k) (cond b None (Some (record { was_shown = is_some (option_copied c.args.was) }))) (lookup (same_key k) c.args.touched.now)) (sym c.if-branch.false ∙ c.in_ok-stays.ensures))
    c.add.ensures.ok
