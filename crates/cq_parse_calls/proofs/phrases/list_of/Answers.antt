use Rattle.std.proofs.Common.{rules}
use Rattle.cq_parse_calls.proofs.phrases.list_of.Goals as goal

pub returns : goal.returns
returns g c = c.list.ensures (g.P.Phrase.reader c.args.phrase.now) (λ old new i r lt post. search rules)
