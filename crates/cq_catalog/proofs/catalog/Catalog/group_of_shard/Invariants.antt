use Rattle.std.proofs.Common.{◌≡◌, map, drop}
use Rattle.cq_catalog.specs.Placement.{group_in, group_of_shard}
use Rattle.cq_catalog.specs.Refusals.{first_of}
use Rattle.cq_catalog.specs.declared.info.TableInfo.{TableInfo}
use Rattle.cq_catalog.proofs.catalog.Catalog.group_of_shard.Given as goal

abbrev pub invariant-loop-number : goal.invariant-loop-number
invariant-loop-number l = group_of_shard l.self l.shard ≡ first_of (map (λ (t : TableInfo). group_in l.self.colocations l.shard t.place) (drop l.number l.self.tables))
