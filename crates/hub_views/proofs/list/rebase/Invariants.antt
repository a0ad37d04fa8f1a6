use Rattle.std.proofs.Common.{◌≡◌, ◌++◌, map, take, drop}
use Rattle.hub_views.specs.Live.{rebased_at}
use Rattle.hub_views.proofs.list.rebase.Given as goal

abbrev pub invariant-loop-view : goal.invariant-loop-view
invariant-loop-view l =
    l.view-items ≡ map (rebased_at l.session l.number l.mark) (take l.view-index l.initial.view-items) ++ drop l.view-index l.initial.view-items
