use Rattle.std.proofs.Common.{◌+◌}
use Rattle.value_core.proofs.fraction.+order_of_ratios.Given as goal

abbrev pub decreases-order_of_ratios : goal.decreases-order_of_ratios
decreases-order_of_ratios l = l.b + l.d
