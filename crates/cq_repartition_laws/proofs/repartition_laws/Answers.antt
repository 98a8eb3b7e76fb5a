use Rattle.cq_repartition_laws.proofs.Serving.{repartition_serves}
use Rattle.cq_repartition_laws.proofs.repartition_laws.Goals as goal

pub returns : goal.returns
returns c = repartition_serves
