use Rattle.std.proofs.Common.{arith, ◌<◌, ◌-◌}
use Rattle.cq_grammar.specs.Grammar.{select}
use Rattle.cq_parse_steps.proofs.Depth.{deeper}
use Rattle.cq_parse_calls.proofs.grammar.Grammar.inside_select.Goals as goal

pub returns : goal.returns
returns g c =
    let left = c.args.self.now.left in
    let less : left - 1 < left = omega arith in
    deeper left 1 select c.args.parser.now c.select.result c.select.new.arg2 (omega arith) (omega arith)
    (c.requires.select_reads _ _ (left - 1) c.select.result less c.select.ensures)
