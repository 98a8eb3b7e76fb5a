use Rattle.std.proofs.Common.{◌≡◌, ◌∙◌, ◌+◌, ap, rules}
use Rattle.cq_catalog.specs.Placement.{colocation_at, place_at, shard_in, group_of_shard}
use Rattle.cq_catalog.proofs.IdLaws.{leads_back}
use Rattle.cq_catalog.proofs.catalog.Catalog.shard_of.Goals as goal

pub returns-in-Distributed-clause-back : goal.returns-in-Distributed-clause-back
returns-in-Distributed-clause-back c = λ distributed.
    let id : c.in-Distributed.first_shard + c.from.result ≡ shard_in (colocation_at c.args.self.now c.args.table) (place_at c.args.self.now c.args.table) c.args.group = search rules in
    ap (group_of_shard c.args.self.now) id ∙ leads_back c.args.self.now c.args.table c.args.group c.place.ensures.whole distributed c.requires
