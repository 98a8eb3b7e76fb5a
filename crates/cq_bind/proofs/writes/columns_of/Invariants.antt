use Rattle.std.proofs.Common.{◌≡◌, map, take}
use Rattle.cq_tree.specs.declared.write.Set.{Set}
use Rattle.cq_bind.proofs.writes.columns_of.Given as goal

abbrev pub invariant-loop-set : goal.invariant-loop-set
invariant-loop-set l = l.all ≡ map (λ (b : Set). b.column) (take l.set-index l.sets)
