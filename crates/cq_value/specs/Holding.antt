-- The values that a row holds.
use Rattle.std.specs.Prelude.{List}
use Rattle.std.specs.Arc.{arc_value}
use Rattle.cq_value.specs.declared.value.Value.{Value}
use Rattle.cq_value.specs.declared.row.Held.{Held}
use Rattle.cq_value.specs.declared.row.Held.TheVariants.{Alone, Shared}

-- alone or shared
abbrev pub values_in : Held → List Value
values_in (Alone values) = values
values_in (Shared values) = arc_value values
