use Rattle.cq_block_accounts.proofs.Telling.{block_tells, block_names_below}
use Rattle.cq_block_accounts.proofs.Numbers.{sessions_are_new}
use Rattle.cq_block_accounts.proofs.telling_laws.Goals as goal

pub returns : goal.returns
returns g c = record {
  tells = block_tells g.S.Store.state g.L.Legality.terms;
  below = block_names_below g.S.Store.state g.L.Legality.terms;
  new = sessions_are_new {X = g.row.S.Denot};
}
