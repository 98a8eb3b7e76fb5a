use Rattle.cq_script.proofs.DrawLaws.{no_customer, one_customer}
use Rattle.cq_script.proofs.generator.push_customers.Goals as goal

pub loop-id-init : goal.loop-id-init
loop-id-init c = no_customer c.args.draws.now.x c.args.out.now.items

pub loop-id-preserved : goal.loop-id-preserved
loop-id-preserved c =
    one_customer c.args.out.now.items c.loop-id.out.items c.push_customer.new.out.items c.args.draws.now.x c.loop-id.draws.x c.draw-region.new.self.x c.loop-id.id c.draw-region.result
    c.loop-id.invariant c.draw-region.ensures.state c.draw-region.ensures.value c.in_ok-push_customer.ensures
