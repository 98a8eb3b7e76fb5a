use Rattle.std.proofs.lemmas.Result.{IfOk-weaker}
use Rattle.cq_engine.proofs.ChangeLaws.{removal_is}
use Rattle.cq_engine.proofs.write.removal_among.Goals as goal

pub returns : goal.returns
returns c = IfOk-weaker c.removal.result _ _ (λ made is. removal_is c.args.table c.args.filter.now c.args.pairs.now c.args.next c.args.shape.now made is) c.removal.ensures
