use Rattle.cq_demands.proofs.WantedLaws.{both_put}
use Rattle.cq_demands.proofs.wanted.+demands.Goals as goal

pub returns-in_ok-put_demands-in-And : goal.returns-in_ok-put_demands-in-And
returns-in_ok-put_demands-in-And t c =
    both_put c.put_demands-in-And.result c.args.wanted.now c.put_demands.new.wanted c.put_demands-in-And.new.wanted c.args.condition.now c.in-And.a c.in-And.b c.in-And.is
    (rw c.get.ensures at c.in_ok-put_demands-in-And.ensures) (rw c.get-in-And.ensures at c.put_demands-in-And.ensures)
