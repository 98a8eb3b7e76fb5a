-- Where a name is found, as the definitions have it.
use Rattle.cq_reading.specs.Scopes as scopes
use Rattle.cq_bind_rules.specs.declared.columns.Place as declared
use Rattle.cq_bind_rules.specs.declared.columns.Place.TheVariants as found

abbrev pub place : declared.Place → scopes.Place
place found.Nowhere = scopes.Nowhere
place (found.Once i) = scopes.Once i
place found.Repeated = scopes.Repeated
