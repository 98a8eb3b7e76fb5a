use Rattle.std.proofs.Common.{sym, ◌∙◌}
use Rattle.cq_copy.proofs.LineLaws.{record_made}
use Rattle.cq_copy.proofs.csv_lines.row_of_line.Goals as goal

pub returns-in-Some : goal.returns-in-Some
returns-in-Some c =
    let made = rw (c.in-Some.is, c.requires.format) at c.in_ok-row.ensures in
    record_made c.args.frame.now.table.now c.args.frame.now.listed.now c.args.row c.args.line.now c.in-Some.row (sym c.is_simple.ensures ∙ c.if-is_simple.true) (made c.args.row)
