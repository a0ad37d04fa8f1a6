use Rattle.std.proofs.Common.{◌≡◌, take, map}
use Rattle.cell_core.specs.RawData.{raw_words}
use Rattle.cell_core.specs.RawViews.{raw_view}
use Rattle.plan_json.proofs.write.raw_names.Given as goal

abbrev pub invariant-loop-name : goal.invariant-loop-name
invariant-loop-name l = map raw_view l.items ≡ map raw_words (take l.name-index l.names)
