use Rattle.std.proofs.Common.{◌<◌, ◌≤◌, length, ap, arith}
use Rattle.std.proofs.lemmas.List.{take_rest}
use Rattle.std.specs.List.{position_or_len}
use Rattle.cq_copy.specs.Lines.{ends, records_in}
use Rattle.cq_copy.proofs.TextLaws.{split_ends}
use Rattle.cq_copy.proofs.LineLaws.{last_record}
use Rattle.cq_copy.proofs.csv_lines.first_line.Goals as goal

pub returns-then-len-bytes-clause-line : goal.returns-then-len-bytes-clause-line
returns-then-len-bytes-clause-line c =
    let e = c.line_len-len.ensures.value in
    let le : length c.args.bytes.now ≤ position_or_len ends c.args.bytes.now = omega (arith, e) in
    last_record c.args.bytes.now le

pub returns-clause-line : goal.returns-clause-line
returns-clause-line c =
    let e = c.line_len-len.ensures.value in
    let lt : position_or_len ends c.args.bytes.now < length c.args.bytes.now = omega (arith, e, c.line_len-len.ensures.within) in
    rw (take_rest, e) (ap records_in (split_ends ends c.args.bytes.now lt))
