use Rattle.std.proofs.Common.{refl}
use Rattle.std.proofs.lemmas.List.{get_or-replicate}
use Rattle.frame_types.specs.Limits.{sessions}
use Rattle.hub_core.specs.Standing.{StandsFor, limit_of}
use Rattle.hub_core.proofs.hub.Hub.make.Goals as goal

pub returns-clause-stands : goal.returns-clause-stands
unfolding StandsFor
returns-clause-stands c = record {
  small = c.requires.small;
  legal = tt;
  entries = refl;
  size = refl;
  counts = λ session lt. get_or-replicate sessions session 0 0 lt;
  machine = c.new.ensures;
}

pub returns-clause-limit : goal.returns-clause-limit
unfolding limit_of
returns-clause-limit c = refl
