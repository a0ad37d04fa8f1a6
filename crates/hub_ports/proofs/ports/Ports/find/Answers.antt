use Rattle.std.proofs.Common.{sym, ap, ◌∙◌}
use Rattle.hub_ports.proofs.Finding.{found_in, missing_in}
use Rattle.hub_ports.proofs.ports.Ports.find.Goals as goal

pub returns-clause-found : goal.returns-clause-found
returns-clause-found c =
    let same = c.as_slice.ensures.value ∙ ap (λ p. p.live) c.self.view_is in
    found_in c.args.number _ _ c.place_of.result c.place_of.ensures same

pub returns-clause-missing : goal.returns-clause-missing
returns-clause-missing c = λ none.
    let same = c.as_slice.ensures.value ∙ ap (λ p. p.live) c.self.view_is in
    missing_in c.args.number _ _ c.place_of.result c.place_of.ensures same none
