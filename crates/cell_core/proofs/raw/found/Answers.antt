use Rattle.std.proofs.Common.{ap, ◌∙◌, option_map}
use Rattle.cell_core.specs.RawViews.{raw_view}
use Rattle.cell_core.proofs.Members.{view_of_ref, lookup-view}
use Rattle.cell_core.proofs.raw.found.Goals as goal

pub returns : goal.returns
returns c = view_of_ref c.get.result ∙ ap (option_map raw_view) c.get.ensures.value ∙ lookup-view c.args.name.now c.args.entries.now.entries
