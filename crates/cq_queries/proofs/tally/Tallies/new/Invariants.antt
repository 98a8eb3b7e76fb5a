use Rattle.std.proofs.Common.{◌≡◌, [], take, map}
use Rattle.cq_meaning.specs.Values.{Results}
use Rattle.cq_queries.specs.Tallies.{tally_over}
use Rattle.cq_queries.proofs.tally.Tallies.new.Given as goal

abbrev pub invariant-loop-a : goal.invariant-loop-a
invariant-loop-a l = (results : Results) → l.list ≡ map (tally_over results []) (take l.a-index l.aggs)
