use Rattle.std.proofs.Common.{◌+◌, ap}
use Rattle.cq_script.proofs.DrawLaws.{no_order, one_order}
use Rattle.cq_script.proofs.generator.push_orders.Goals as goal

pub loop-id-init : goal.loop-id-init
loop-id-init c = no_order c.args.customers c.args.draws.now.x c.args.out.now.items

pub loop-id-preserved : goal.loop-id-preserved
loop-id-preserved c =
    one_order c.args.out.now.items c.loop-id.out.items c.push_order.new.out.items c.args.customers c.args.draws.now.x c.loop-id.draws.x c.draw-customer.new.self.x c.draw-amount.new.self.x c.loop-id.id _ c.draw-amount.result
    c.loop-id.invariant c.draw-customer.ensures.state c.draw-amount.ensures.state (ap (λ v. 1 + v) c.draw-customer.ensures.value) c.draw-amount.ensures.value c.in_ok-push_order.ensures
