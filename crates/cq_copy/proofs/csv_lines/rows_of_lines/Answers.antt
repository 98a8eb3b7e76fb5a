use Rattle.std.proofs.Common.{◌<◌, ◌+◌, length, arith, ap, ◌∙◌}
use Rattle.std.proofs.lemmas.Result.{err_from_is_err_and}
use Rattle.cq_copy.specs.Rows.{rows_from}
use Rattle.cq_copy.specs.Records.{row_of_record}
use Rattle.cq_copy.specs.Texts.{fields_by}
use Rattle.cq_copy.specs.Lines.{lines, records_in}
use Rattle.cq_copy.proofs.RowLaws.{ahead, row_read, row_refused, rows_done}
use Rattle.cq_copy.proofs.LineLaws.{empty_line, record_line, no_line}
use Rattle.cq_copy.proofs.csv_lines.rows_of_lines.Goals as goal

pub returns-in_err-row : goal.returns-in_err-row
returns-in_err-row c =
    let some : 0 < length c.first_line.result.0.now = grind (arith, c.is_empty-in-lines.ensures, c.if-not-is_empty.true) in
    let row_of = row_of_record c.args.frame.now.table.now c.args.frame.now.listed.now in
    let p = err_from_is_err_and c.from_residual.result c.from_residual.ensures.1 in
    let next = ap (λ rs. ahead c.lines.rows (rows_from row_of (c.lines.number + 1) rs)) (c.first_line.ensures.line ∙ record_line (lines c.first_line.result.1.now) c.first_line.result.0.now some) in
    rw (p.1, p.2) (λ ne. c.lines.invariant.0 ∙ next ∙ row_refused row_of (c.lines.number + 1) (fields_by 44 c.first_line.result.0.now) (records_in (lines c.first_line.result.1.now)) c.lines.rows c.in_err-row.field-0.0 (c.in_err-row.ensures ne))

pub lines-preserved-in_ok-put : goal.lines-preserved-in_ok-put
lines-preserved-in_ok-put c =
    let some : 0 < length c.first_line.result.0.now = grind (arith, c.is_empty-in-lines.ensures, c.if-not-is_empty.true) in
    let row_of = row_of_record c.args.frame.now.table.now c.args.frame.now.listed.now in
    let next = ap (λ rs. ahead c.lines.rows (rows_from row_of (c.lines.number + 1) rs)) (c.first_line.ensures.line ∙ record_line (lines c.first_line.result.1.now) c.first_line.result.0.now some) in (
      rw c.in_ok-put.ensures.ok (c.lines.invariant.0 ∙ next ∙ row_read row_of (c.lines.number + 1) (fields_by 44 c.first_line.result.0.now) (records_in (lines c.first_line.result.1.now)) c.lines.rows c.in_ok-row.row c.in_ok-row.ensures),
      omega (arith, c.first_line.ensures.shorter),
    )

pub lines-preserved : goal.lines-preserved
lines-preserved c =
    let none : length c.first_line.result.0.now < 1 = grind (arith, c.is_empty-in-lines.ensures, c.if-not-is_empty.false) in
    let row_of = row_of_record c.args.frame.now.table.now c.args.frame.now.listed.now in (
      c.lines.invariant.0 ∙ ap (λ rs. ahead c.lines.rows (rows_from row_of (c.lines.number + 1) rs)) (c.first_line.ensures.line ∙ empty_line (lines c.first_line.result.1.now) c.first_line.result.0.now none),
      omega (arith, c.first_line.ensures.shorter),
    )

pub returns : goal.returns
returns c =
    let none : length c.lines.left.now < 1 = grind (arith, c.lines-test.ensures) in
    let row_of = row_of_record c.args.frame.now.table.now c.args.frame.now.listed.now in
    c.lines.invariant.0 ∙ ap (λ rs. ahead c.lines.rows (rows_from row_of (c.lines.number + 1) rs)) (no_line c.lines.left.now none) ∙ rows_done row_of (c.lines.number + 1) c.lines.rows
