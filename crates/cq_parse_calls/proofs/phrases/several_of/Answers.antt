use Rattle.std.proofs.Common.{rules}
use Rattle.cq_parse_calls.proofs.phrases.several_of.Goals as goal

pub returns : goal.returns
returns g c = c.several.ensures (g.P.Phrase.reader c.args.phrase.now) (λ old new i r lt post. search rules)
