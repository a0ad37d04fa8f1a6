-- The hub of a caller.
use Rattle.hub_core.specs.declared.hub.Hub.{Hub}
use Rattle.hub_core.specs.declared.local.LocalCaller.{LocalCaller}

abbrev pub hub_of : LocalCaller → Hub
hub_of c = c.hub
