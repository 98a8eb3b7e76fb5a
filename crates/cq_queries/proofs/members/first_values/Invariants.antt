use Rattle.std.proofs.Common.{take}
use Rattle.cq_queries.specs.Members.{first_column, AreMembers}
use Rattle.cq_queries.proofs.members.first_values.Given as goal

abbrev pub invariant-loop-row : goal.invariant-loop-row
invariant-loop-row l = AreMembers (first_column (take l.row-index l.row-items)) l.values
