use Rattle.std.proofs.Common.{◌∙◌, ◌+◌, ap, arith, sym, drop}
use Rattle.cq_token.specs.Tokens.{quoted, behind}
use Rattle.cq_token.proofs.Quotes.{past_plain, past_quotes, at_quote, at_last_quote, no_plain, one_taken}
use Rattle.cq_token.proofs.piece.run_at.Goals as goal
use Rattle.cq_token.proofs.piece.run_at.Goals.{else-at-bytes-via-then-at-bytes+else-bytes-at-eq39, else-at-bytes-via-else-at-bytes}

pub returns-then-plain-gt0-clause-value : goal.returns-then-plain-gt0-clause-value
returns-then-plain-gt0-clause-value c = past_plain c.args.at c.plain_len-plain.result c.args.bytes.now c.plain_len-plain.ensures.value

pub returns-then-bytes-at-eq39-clause-value : goal.returns-then-bytes-at-eq39-clause-value
returns-then-bytes-at-eq39-clause-value c =
    let at = c.args.at in
    let bytes = c.args.bytes.now in
    let e = no_plain at c.plain_len-plain.result bytes c.requires c.plain_len-plain.ensures.value (omega arith) in
    past_quotes at bytes (omega arith) e (omega arith) ∙ ap (λ l. behind l 2 (quoted (drop (at + 2) bytes))) (sym (one_taken at bytes c.requires))

pub returns-else-at-bytes-clause-value : goal.returns-else-at-bytes-clause-value
returns-else-at-bytes-clause-value c =
    let at = c.args.at in
    let bytes = c.args.bytes.now in
    let e = no_plain at c.plain_len-plain.result bytes c.requires c.plain_len-plain.ensures.value (omega arith) in
    elim c.else-at-bytes.branch [
      | else-at-bytes-via-then-at-bytes+else-bytes-at-eq39 w ↦ at_quote at bytes (omega arith) e w.if-bytes-at-eq39.false
      | else-at-bytes-via-else-at-bytes w ↦ at_last_quote at bytes c.requires (omega arith) e
    ]
