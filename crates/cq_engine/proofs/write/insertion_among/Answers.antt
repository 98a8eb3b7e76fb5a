use Rattle.std.proofs.lemmas.Result.{IfOk-weaker}
use Rattle.cq_engine.proofs.ChangeLaws.{insertion_is}
use Rattle.cq_engine.proofs.write.insertion_among.Goals as goal

pub returns : goal.returns
returns c = IfOk-weaker c.insertion_if.result _ _ (λ made is. insertion_is c.args.rows.now c.args.repeats c.args.next made c.requires is) c.insertion_if.ensures
