-- A world of CTEs alone.
use Rattle.std.specs.Prelude.{List, []}
use Rattle.cq_reading.specs.declared.bound.Common.{Common}
use Rattle.cq_reading.specs.Scopes.{World}

abbrev pub world_of : List Common → World
world_of commons = record { tables = []; commons = commons }
