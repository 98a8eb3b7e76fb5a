use Rattle.std.proofs.Common.{codes}
use Rattle.cq_script.specs.Generating.{order_copy, orders}
use Rattle.cq_script.proofs.TextLaws.{three}
use Rattle.cq_script.proofs.generator.push_order_copy.Goals as goal

pub returns : goal.returns
unfolding order_copy
returns c =
    three c.args.out.now.items (codes "COPY orders FROM STDIN;\n") (orders c.args.customers c.args.draws.now.x c.args.count).lines (codes "\\.\n") c.push_words.new.out.items c.push_orders.new.out.items c.push_words-2.new.out.items
    c.push_words-2.result c.in_ok-push_words.ensures c.in_ok-push_orders.ensures c.push_words-2.ensures
