use Rattle.std.proofs.Common.{arith, ◌≡◌, ◌<◌, ◌⊎◌, inl, inr, ◌-◌, subst}
use Rattle.cq_grammar.specs.Grammar.{expr}
use Rattle.cq_parse_steps.specs.Reads.{UsedUp}
use Rattle.cq_parse_steps.proofs.Depth.{deeper, no_deeper}
use Rattle.cq_parse_calls.proofs.grammar.Grammar.lower.Goals as goal
use Rattle.cq_parse_calls.proofs.grammar.Grammar.lower.Goals.{then-more-eq0-via-then-more-eq0, then-more-eq0-via-else-more-eq0+then-more-self}

pub returns-then-more-eq0 : goal.returns-then-more-eq0
returns-then-more-eq0 g c = λ known.
    let used = subst (λ firsts. UsedUp firsts c.used_up.result c.args.parser.now) c.firsts.ensures c.used_up.ensures in
    let none : (c.args.more ≡ 0) ⊎ (c.args.self.now.left < c.args.more) = elim c.then-more-eq0.branch [
      | then-more-eq0-via-then-more-eq0 w ↦ inl (omega arith)
      | then-more-eq0-via-else-more-eq0+then-more-self w ↦ inr (omega arith)
    ] in
    no_deeper c.args.self.now.left c.args.more (expr c.args.rule) c.args.parser.now c.used_up.result none used

pub returns : goal.returns
returns g c =
    let left = c.args.self.now.left in
    let less : left - c.args.more < left = omega arith in
    deeper left c.args.more (expr c.args.rule) c.args.parser.now c.expr.result c.expr.new.arg2 (omega arith) (omega arith)
    (c.requires.expr_reads _ _ (left - c.args.more) c.args.rule c.expr.result less c.expr.ensures)
