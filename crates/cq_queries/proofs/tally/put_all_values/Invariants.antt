use Rattle.std.proofs.Common.{◌≡◌, ◌++◌, map, take}
use Rattle.cq_queries.specs.Tallies.{Tally}
use Rattle.cq_queries.proofs.tally.put_all_values.Given as goal

abbrev pub invariant-loop-t : goal.invariant-loop-t
invariant-loop-t l = l.row ≡ l.initial.row ++ map (λ (t : Tally). t.1) (take l.t-index l.list)
