use Rattle.std.proofs.Common.{sym, arith}
use Rattle.cq_token.proofs.Runs.{too_large, past_greatest, no_larger}
use Rattle.cq_token.proofs.piece.value_of.Goals as goal

pub returns-then-value-digit : goal.returns-then-value-digit
returns-then-value-digit c =
    sym (too_large c.loop-byte.value c.loop-byte.byte-index c.args.digits.now c.loop-byte.invariant.0 (omega arith)
    (let h = past_greatest c.loop-byte.value c.from-digit.result c.if-value-digit.true (omega arith) in omega (arith, h)))

pub returns : goal.returns
returns c = sym (no_larger c.loop-byte.value c.loop-byte.byte-index c.args.digits.now c.loop-byte.invariant.0 (omega arith) c.loop-byte.invariant.1)
