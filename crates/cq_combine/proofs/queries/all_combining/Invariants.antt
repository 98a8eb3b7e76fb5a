use Rattle.std.proofs.Common.{◌≡◌, ◌+◌, take}
use Rattle.cq_task_laws.specs.Merging.{all_combining}
use Rattle.cq_combine.proofs.queries.all_combining.Given as goal

abbrev pub invariant-loop-agg : goal.invariant-loop-agg
invariant-loop-agg l = (l.all ≡ all_combining l.at (take l.agg-index l.aggs)) × (l.next ≡ l.at + l.agg-index)
