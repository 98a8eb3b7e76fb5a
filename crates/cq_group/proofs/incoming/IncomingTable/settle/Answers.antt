use Rattle.std.proofs.Common.{refl}
use Rattle.cq_group.proofs.IncomingLaws.{settled_stores}
use Rattle.cq_group.proofs.incoming.IncomingTable.settle.Goals as goal

pub returns-clause-ok : goal.returns-clause-ok
returns-clause-ok g c = record {
  table = refl;
  shard = refl;
  pending = c.new.ensures;
  stores = settled_stores g.S.Store.state c.args.self.now.pending c.args.self.now.stores.items c.stage_stores.new.stores.items c.commit_stores.new.stores.items c.in_ok-stage_stores.ensures.ok c.commit_stores.ensures;
}
