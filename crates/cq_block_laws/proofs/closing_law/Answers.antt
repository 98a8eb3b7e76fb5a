use Rattle.cq_block_laws.proofs.Closed.{block_closes}
use Rattle.cq_block_laws.proofs.Settled.{block_settles}
use Rattle.cq_block_laws.proofs.Retiring.{block_retires_all}
use Rattle.cq_block_laws.proofs.closing_law.Goals as goal

pub returns : goal.returns
returns g c = record {
  closes = block_closes g.S.Store.state g.L.Legality.terms;
  settles = block_settles g.S.Store.state g.L.Legality.terms;
  retires = block_retires_all g.S.Store.state g.L.Legality.terms;
}
