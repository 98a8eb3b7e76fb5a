-- Values that one name stands for.
use Rattle.std.specs.Prelude.{Bool, true, List, [], ◌∷◌}
use Rattle.std.specs.List.{list_all}
use Rattle.cq_reading.specs.declared.bound.Bound.{Bound}
use Rattle.cq_reading.specs.Selects.{same_as}

abbrev pub all_one : List Bound → Bool
all_one [] = true
all_one (b ∷ more) = list_all (same_as b) more
