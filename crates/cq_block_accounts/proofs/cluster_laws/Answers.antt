use Rattle.cq_block_accounts.proofs.Faults.{block_is_accounted}
use Rattle.cq_block_accounts.proofs.Retiring.{retired_on, sessions_retire, block_retires}
use Rattle.cq_block_accounts.proofs.cluster_laws.Goals as goal

pub returns : goal.returns
returns g c = record {
  block = block_is_accounted g.S.Store.state;
  retired = retired_on {X = g.row.S.Denot};
  sessions = sessions_retire {X = g.row.S.Denot};
  environment = block_retires {X = g.row.S.Denot};
}
