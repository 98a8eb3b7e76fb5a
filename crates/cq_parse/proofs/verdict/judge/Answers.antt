use Rattle.std.proofs.Common.{rules, ◌≡◌, ◌-◌, length, take, subst, ◌∙◌, List, Err}
use Rattle.cq_token.specs.declared.token.Token.{Token}
use Rattle.cq_grammar.specs.declared.error.Refusal.TheVariants.{Memory}
use Rattle.cq_grammar.specs.Conditions.{misplaced}
use Rattle.cq_grammar.specs.Reading.{written}
use Rattle.cq_grammar.specs.Verdicts.{verdict, place, by_grammar}
use Rattle.cq_parse.specs.declared.error.ParseError.TheVariants as errors
use Rattle.cq_parse.specs.Outcomes.{ReadsAll}
use Rattle.cq_parse.proofs.Left.{refusal, whole_given}
use Rattle.cq_parse.proofs.verdict.judge.Goals as goal

pub returns : goal.returns
unfolding verdict
returns c =
    let ts = c.args.tokens.now in
    let left = c.whole-read.new.parser in
    let end = length c.args.text.now in
    let result = c.unless_misplaced.result in
    let looked : c.misplaced.result ≡ misplaced (take (length ts - length left) ts) = search rules in
    let reads : ReadsAll (written ts) c.whole-read.result left = subst (λ (w : List Token). ReadsAll (written w) c.whole-read.result left) (c.new-parser.ensures ∙ c.as_slice-tokens.ensures) c.whole-read.ensures in
    let here : c.place-place.result ≡ place left end = search rules in
    let gives = c.unless_misplaced.ensures.gives (by_grammar (written ts) end) (c.by_grammar.ensures.gives (written ts) left end reads here) in
    let memory : c.whole-read.result ≡ refusal Memory → result ≡ Err errors.Memory = λ e. c.unless_misplaced.ensures.memory (c.by_grammar.ensures.memory e) in
    whole_given (written ts) c.whole-read.result left ts end c.misplaced.result result reads looked gives memory
