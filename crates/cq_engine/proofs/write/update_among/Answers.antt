use Rattle.std.proofs.lemmas.Result.{IfOk-weaker}
use Rattle.cq_engine.proofs.ChangeLaws.{update_is}
use Rattle.cq_engine.proofs.write.update_among.Goals as goal

pub returns : goal.returns
returns c = IfOk-weaker c.update.result _ _ (λ made is. update_is c.args.table c.args.filter.now c.args.sets.now c.args.pairs.now c.args.next c.args.shape.now made is) c.update.ensures
