use Rattle.std.proofs.Common.{rules}
use Rattle.update_hooks.proofs.Lists.{mapped_step}
use Rattle.update_hooks.proofs.hooks.tell_all.Goals as goal

pub hooks-preserved : goal.hooks-preserved
hooks-preserved g c = rw (c.tell.ensures, c.hooks.invariant) (mapped_step _ c.deref_mut-told-items.result.now c.hooks.told-index c.told-item.result (search rules))
