use Rattle.std.proofs.Common.{rules, ◌==◌, not}
use Rattle.std.proofs.lemmas.Fn.{filter_same}
use Rattle.hub_views.specs.declared.view.View.{View}
use Rattle.hub_views.proofs.list.drop_views.Goals as goal

pub returns : goal.returns
returns c = filter_same _ (λ (v : View). not (v.session == c.args.session)) _ (λ x b f' k. search rules) _ _ c.retain.ensures.filtered
