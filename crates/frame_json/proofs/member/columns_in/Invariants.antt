use Rattle.std.proofs.Common.{◌≡◌, drop}
use Rattle.serde_json.specs.View.{items_view}
use Rattle.frame_json.specs.Requests.{columns_of}
use Rattle.plan_json.proofs.Fronts.{with_front}
use Rattle.frame_json.proofs.member.columns_in.Given as goal

abbrev pub invariant-loop-value : goal.invariant-loop-value
invariant-loop-value l = with_front l.found.items (columns_of (items_view (drop l.value-index l.values))) ≡ columns_of (items_view l.values)
