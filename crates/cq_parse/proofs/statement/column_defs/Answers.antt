use Rattle.std.proofs.Common.{rules, ◌≡◌, [], ◌∷◌}
use Rattle.cq_grammar.specs.Read as read
use Rattle.cq_grammar.specs.Reading.{column_def}
use Rattle.cq_parse.specs.Limit.{behind_comma, column_item}
use Rattle.cq_parse_steps.proofs.Turns.{first_and_more}
use Rattle.cq_parse.proofs.statement.column_defs.Goals as goal

pub returns : goal.returns
returns c =
    let one : c.put.new.self ≡ c.in_ok-first.first ∷ [] = search (rules, c.in_ok-put.ensures.ok, c.new-front.ensures) in
    first_and_more column_def (read.many behind_comma column_item 1) c.args.parser.now c.column_def.new.parser c.in_ok-first.first c.put.new.self c.more_columns.result c.more_columns.new.parser
    c.in_ok-first.ensures one c.more_columns.ensures
