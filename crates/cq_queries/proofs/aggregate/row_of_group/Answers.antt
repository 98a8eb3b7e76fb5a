use Rattle.std.proofs.Common.{rules}
use Rattle.cq_queries.proofs.TalliedLaws.{row_values}
use Rattle.cq_queries.proofs.aggregate.row_of_group.Goals as goal

pub returns : goal.returns
returns c = search (rules, row_values)
