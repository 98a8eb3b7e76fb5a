use Rattle.std.proofs.Common.{codes}
use Rattle.cq_script.specs.Generating.{customer_copy, customers}
use Rattle.cq_script.proofs.TextLaws.{three}
use Rattle.cq_script.proofs.generator.push_customer_copy.Goals as goal

pub returns-clause-text : goal.returns-clause-text
unfolding customer_copy
returns-clause-text c =
    three c.args.out.now.items (codes "COPY customers FROM STDIN;\n") (customers c.args.draws.now.x c.args.count).lines (codes "\\.\n") c.push_words.new.out.items c.push_customers.new.out.items c.push_words-2.new.out.items
    c.push_words-2.result c.in_ok-push_words.ensures c.in_ok-push_customers.ensures.lines c.push_words-2.ensures
