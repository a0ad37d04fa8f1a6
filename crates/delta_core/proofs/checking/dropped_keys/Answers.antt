use Rattle.std.proofs.Common.{◌∙◌, ap, []}
use Rattle.delta_core.specs.Folding.{keys_put}
use Rattle.delta_core.specs.KeySets.{with_keys}
use Rattle.delta_core.proofs.FoldChecks.{dropped_are}
use Rattle.delta_core.proofs.checking.dropped_keys.Goals as goal

pub returns : goal.returns
returns c =
    let d = c.args.delta.now in
    let removed = c.in_ok-add_keys.ensures ∙ ap (λ ks. with_keys ks c.as_slice.result.now) c.new-keys.ensures.empty ∙ ap (with_keys []) c.as_slice.ensures.keys in
    dropped_are c.add_keys_put.new.keys.keys d
    (c.in_ok-add_keys_put.ensures
    ∙ ap (λ ks. with_keys ks (keys_put c.as_slice-2.result.now)) removed
    ∙ ap (λ puts. with_keys (with_keys [] d.removed) (keys_put puts)) c.as_slice-2.ensures.puts)
