use Rattle.hub_core.proofs.local.LocalCallerCaller.call.Given as goal

abbrev pub ghosts-counted_step : goal.ghosts-counted_step
ghosts-counted_step a = record { name = a.blank.name; parts = a.blank.parts }
