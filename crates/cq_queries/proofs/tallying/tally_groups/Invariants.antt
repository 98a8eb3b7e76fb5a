use Rattle.std.proofs.Common.{◌≡◌, take, map}
use Rattle.cq_meaning.specs.Expressions.{items_of}
use Rattle.cq_meaning.specs.Groups.{groups_by}
use Rattle.cq_queries.specs.Cells.{rows_in}
use Rattle.cq_queries.specs.Tallied.{tallied}
use Rattle.cq_queries.proofs.tallying.tally_groups.Given as goal

abbrev pub invariant-loop-at : goal.invariant-loop-at
invariant-loop-at l = l.groups ≡ map (tallied l.results l.aggs) (groups_by (items_of l.es l.results) (take l.at (rows_in l.rows)))
