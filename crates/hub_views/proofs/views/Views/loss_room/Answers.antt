use Rattle.std.proofs.Common.{arith}
use Rattle.hub_views.specs.Refreshing.{HasRoom}
use Rattle.hub_views.proofs.views.Views.loss_room.Goals as goal

pub returns : goal.returns
unfolding HasRoom
returns c = (c.in_ok-names.ensures.items, omega (arith, c.in_ok-names.ensures.exact))
