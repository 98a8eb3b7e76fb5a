use Rattle.std.proofs.Common.{◌≡◌, ◌≤◌, ◌-◌, drop, length}
use Rattle.cq_token.specs.Tokens.{tokens, tokens_from}
use Rattle.cq_token.proofs.Steps.{put_all}
use Rattle.cq_token.proofs.lexer.tokens.Given as goal

abbrev pub invariant-text : goal.invariant-text
invariant-text l = (tokens l.text ≡ put_all l.found (tokens_from 0 l.at (drop l.at l.text))) × (l.at ≤ length l.text)

abbrev pub decreases-text : goal.decreases-text
decreases-text l = length l.text - l.at
