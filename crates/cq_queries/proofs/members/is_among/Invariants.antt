use Rattle.std.proofs.Common.{◌≡◌, drop}
use Rattle.cq_meaning.specs.Logic.{among, or_of}
use Rattle.cq_queries.specs.Operands.{owned}
use Rattle.cq_queries.proofs.members.is_among.Given as goal

abbrev pub invariant-loop-row : goal.invariant-loop-row
invariant-loop-row l = or_of l.found (among (owned l.v) (drop l.row-index l.row-items)) ≡ among (owned l.v) l.row-items
