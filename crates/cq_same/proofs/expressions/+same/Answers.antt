use Rattle.std.proofs.Common.{◌≢◌, length, arith, sym}
use Rattle.std.proofs.lemmas.Bool.Decides.{nat_tests}
use Rattle.cq_tree.specs.Equal.{equal_exprs, equal_arms}
use Rattle.cq_same.proofs.EqualLaws.{each_false}
use Rattle.cq_same.proofs.expressions.+same.Goals as goal

pub same_arms-returns-then-a-b : goal.same_arms-returns-then-a-b
same_arms-returns-then-a-b t c =
    let h : length c.args.a.now ≢ length c.args.b.now = grind (arith, nat_tests) in
    sym (each_false equal_arms c.args.a.now c.args.b.now h)

pub same_exprs-returns-then-a-b : goal.same_exprs-returns-then-a-b
same_exprs-returns-then-a-b t c =
    let h : length c.args.a.now ≢ length c.args.b.now = grind (arith, nat_tests) in
    sym (each_false equal_exprs c.args.a.now c.args.b.now h)
