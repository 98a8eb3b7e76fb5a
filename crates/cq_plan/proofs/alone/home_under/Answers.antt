use Rattle.std.proofs.Common.{sym}
use Rattle.cq_plan.proofs.AloneLaws.{home_is}
use Rattle.cq_plan.proofs.alone.home_under.Goals as goal

pub returns-in-Some : goal.returns-in-Some
returns-in-Some c =
    home_is c.args.catalog.now c.args.table c.in-Distributed.column c.in-Distributed.colocation c.in-Distributed.first_shard c.args.filter.now c.in-Some.value.now c.group_of.result
    (sym c.in-Distributed.ensures.place) c.in-Some.ensures c.group_of.ensures.group c.group_of.ensures.within
