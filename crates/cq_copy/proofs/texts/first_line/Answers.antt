use Rattle.std.proofs.Common.{◌<◌, ◌≤◌, length, arith}
use Rattle.std.proofs.lemmas.List.{take_rest}
use Rattle.std.specs.List.{position_or_len}
use Rattle.cq_copy.specs.Texts.{is_newline}
use Rattle.cq_copy.proofs.TextLaws.{line_ends, last_line}
use Rattle.cq_copy.proofs.texts.first_line.Goals as goal

pub returns-then-len-bytes-clause-line : goal.returns-then-len-bytes-clause-line
returns-then-len-bytes-clause-line c =
    let e = c.line_len-len.ensures.value in
    let le : length c.args.bytes.now ≤ position_or_len is_newline c.args.bytes.now = omega (arith, e) in
    last_line c.args.bytes.now c.requires le

pub returns-clause-line : goal.returns-clause-line
returns-clause-line c =
    let e = c.line_len-len.ensures.value in
    let lt : position_or_len is_newline c.args.bytes.now < length c.args.bytes.now = omega (arith, e, c.line_len-len.ensures.within) in
    rw (take_rest, e) (line_ends c.args.bytes.now lt)
