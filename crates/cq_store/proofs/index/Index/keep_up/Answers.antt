use Rattle.std.proofs.Common.{◌≤◌, arith}
use Rattle.cq_store.proofs.IndexLaws.{all_below}
use Rattle.cq_store.proofs.index.Index.keep_up.Goals as goal

pub returns-then-next-self-clause-all : goal.returns-then-next-self-clause-all
returns-then-next-self-clause-all c =
    let bounded : c.args.rows.now.next ≤ c.args.self.now.upto = omega (arith, c.if-next-self.true, c.next.ensures) in
    all_below c.args.rows.now.pairs c.args.rows.now.next c.args.self.now.upto c.ids_ascend.ensures bounded
