use Rattle.cq_grammar.specs.declared.kind.Kind.TheVariants as k
use Rattle.std.proofs.Common.{rules, arith, ◌≡◌, [], ◌∷◌}
use Rattle.cq_grammar.specs.Descent as descent
use Rattle.cq_grammar.specs.Read as read
use Rattle.cq_parse_steps.proofs.Turns.{first_and_more}
use Rattle.cq_parse_steps.proofs.lists.list.Goals as goal

pub returns : goal.returns
returns g c = λ p follows.
    let item = read.comma_item (descent.the k.Comma) p in
    let one : c.put.new.self ≡ c.in_ok-first.first ∷ [] = search (rules, c.in_ok-put.ensures.ok, c.in_ok-front.ensures) in
    first_and_more (p 0) (read.many (read.sees (k.Comma ∷ [])) item 1) c.args.parser.now c.item.new.arg2 c.in_ok-first.first c.put.new.self c.more.result c.more.new.parser
    (follows _ _ 0 _ (omega arith) c.in_ok-first.ensures) one (c.more.ensures item (λ old new i r lt post. post p follows))
