use Rattle.std.proofs.Common.{◌<◌, ◌==◌, length, arith}
use Rattle.std.specs.List.{position_or_len}
use Rattle.std.proofs.lemmas.List.{take_rest}
use Rattle.cq_copy.proofs.TextLaws.{split_ends, one_part, simple_front, simple_back}
use Rattle.cq_copy.proofs.texts.first_field.Goals as goal

pub returns-then-len-line-clause-fields : goal.returns-then-len-line-clause-fields
returns-then-len-line-clause-fields c =
    let e = c.field_len-len.ensures.value in
    one_part (λ b. b == c.args.separator) c.args.line.now (omega (arith, e))

pub returns-clause-fields : goal.returns-clause-fields
returns-clause-fields c =
    let e = c.field_len-len.ensures.value in
    let lt : position_or_len (λ b. b == c.args.separator) c.args.line.now < length c.args.line.now = omega (arith, e, c.field_len-len.ensures.within) in
    rw (take_rest, e) (split_ends (λ b. b == c.args.separator) c.args.line.now lt)

pub returns-clause-simple : goal.returns-clause-simple
returns-clause-simple c = λ e. simple_front _ c.args.line.now e

pub returns-clause-simple_more : goal.returns-clause-simple_more
returns-clause-simple_more c = λ e. rw take_rest (simple_back _ c.args.line.now e)
