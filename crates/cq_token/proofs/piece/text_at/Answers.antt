use Rattle.std.proofs.Common.{◌∙◌, ap, arith}
use Rattle.cq_token.specs.Tokens.{text_of, behind}
use Rattle.cq_token.proofs.Quotes.{unclosed}
use Rattle.cq_token.proofs.piece.text_at.Goals as goal

pub returns-clause-value : goal.returns-clause-value
returns-clause-value c h =
    ap (text_of c.args.at) (c.text.invariant.0 ∙ ap (behind c.text.content.items c.text.len) (unclosed c.text.len c.args.bytes.now (omega arith)))
