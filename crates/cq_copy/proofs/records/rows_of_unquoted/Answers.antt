use Rattle.std.proofs.Common.{sym}
use Rattle.cq_copy.proofs.LineLaws.{unquoted_records, under_is}
use Rattle.cq_copy.proofs.RecordLaws.{not_under}
use Rattle.cq_copy.proofs.records.rows_of_unquoted.Goals as goal

pub returns-then-header : goal.returns-then-header
returns-then-header c =
    let whole = rw c.unmarked-data.ensures at c.behind_first.ensures in
    rw (c.if-header.true, under_is, unquoted_records c.args.bytes.now c.requires.unquoted, sym whole) c.rows_of_lines.ensures

pub returns : goal.returns
returns c =
    rw (c.if-header.false, not_under, unquoted_records c.args.bytes.now c.requires.unquoted, sym c.unmarked-data.ensures) c.rows_of_lines-2.ensures
