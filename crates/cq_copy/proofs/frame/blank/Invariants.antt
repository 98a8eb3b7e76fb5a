use Rattle.std.proofs.Common.{◌≡◌, ◌++◌, drop, map}
use Rattle.cq_value.specs.declared.value.Value.TheVariants.{Null}
use Rattle.cq_value.specs.declared.schema.Column.{Column}
use Rattle.cq_copy.proofs.frame.blank.Given as goal

abbrev pub invariant-loop : goal.invariant-loop
invariant-loop l = l.values ++ map (λ (c : Column). Null) (drop l.index l.items) ≡ map (λ (c : Column). Null) l.items
