use Rattle.std.proofs.Common.{◌∙◌, ap}
use Rattle.std.specs.BTreeSet.{insert_key}
use Rattle.view_types.specs.contracts.key.ViewKeyOrd.TheImpl.{ghosts}
use Rattle.delta_core.proofs.FoldChecks.{inserted}
use Rattle.delta_core.proofs.checking.add_key.Goals as goal

pub returns : goal.returns
returns c =
    let ks = c.args.keys.now.keys in
    c.in_ok-insert.ensures.keys ∙ ap (insert_key ghosts.cmp ks) c.in_ok-copy.ensures ∙ inserted ks c.args.key.now
