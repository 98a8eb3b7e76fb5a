use Rattle.cq_block_accounts.proofs.Clusters.{block_leaves_cluster, cluster_may_be_shared, workers_are_free}
use Rattle.cq_block_accounts.proofs.Leaving.{closed_may_retire}
use Rattle.cq_block_accounts.proofs.sharing_laws.Goals as goal

pub returns : goal.returns
returns g c = record {
  share = cluster_may_be_shared g.S.Store.state g.row.C.Denot g.L.Legality.terms;
  free = workers_are_free g.S.Store.state;
  cluster = block_leaves_cluster g.S.Store.state g.row.C.Denot g.L.Legality.terms;
  retires = closed_may_retire;
}
