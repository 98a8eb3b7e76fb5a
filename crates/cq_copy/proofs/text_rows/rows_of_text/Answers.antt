use Rattle.std.proofs.Common.{◌≡◌, ◌+◌, length, arith, ap, sym, ◌∙◌, Ok}
use Rattle.std.proofs.lemmas.Bool.{eqb-true}
use Rattle.std.proofs.lemmas.Result.{err_from_is_err_and}
use Rattle.cq_copy.specs.Rows.{row_of_line, rows_from}
use Rattle.cq_copy.specs.Texts.{lines}
use Rattle.cq_copy.proofs.RowLaws.{ahead, row_read, row_refused, rows_done}
use Rattle.cq_copy.proofs.TextLaws.{no_lines}
use Rattle.cq_copy.proofs.text_rows.rows_of_text.Goals as goal

pub returns-in_err-row : goal.returns-in_err-row
returns-in_err-row c =
    let p = err_from_is_err_and c.from_residual.result c.from_residual.ensures.1 in
    let next = ap (λ ls. ahead c.lines.rows (rows_from (row_of_line c.args.table.now c.args.columns.now) (c.lines.number + 1) ls)) c.first_line.ensures.line in
    rw (p.1, p.2) (λ ne. c.lines.invariant.0 ∙ next ∙ row_refused (row_of_line c.args.table.now c.args.columns.now) (c.lines.number + 1) c.first_line.result.0.now (lines c.first_line.result.1.now) c.lines.rows c.in_err-row.field-0.0
    (let h = c.in_err-row.ensures ne in rw (c.new-frame.ensures.table, c.new-frame.ensures.listed) at h))

pub lines-preserved : goal.lines-preserved
lines-preserved c =
    let next = ap (λ ls. ahead c.lines.rows (rows_from (row_of_line c.args.table.now c.args.columns.now) (c.lines.number + 1) ls)) c.first_line.ensures.line in
    let h : row_of_line c.args.table.now c.args.columns.now (c.lines.number + 1) c.first_line.result.0.now ≡ Ok c.in_ok-row.row = rw (c.new-frame.ensures.table, c.new-frame.ensures.listed) at c.in_ok-row.ensures in (
      rw c.in_ok-put.ensures.ok (c.lines.invariant.0 ∙ next ∙ row_read (row_of_line c.args.table.now c.args.columns.now) (c.lines.number + 1) c.first_line.result.0.now (lines c.first_line.result.1.now) c.lines.rows c.in_ok-row.row h),
      omega (arith, c.first_line.ensures.shorter),
    )

pub returns : goal.returns
returns c =
    let zero : length c.lines.left.now ≡ 0 = eqb-true (length c.lines.left.now) 0 (sym c.lines-test.ensures) in
    let none = no_lines c.lines.left.now (omega arith) in
    c.lines.invariant.0 ∙ ap (λ ls. ahead c.lines.rows (rows_from (row_of_line c.args.table.now c.args.columns.now) (c.lines.number + 1) ls)) none ∙ rows_done (row_of_line c.args.table.now c.args.columns.now) (c.lines.number + 1) c.lines.rows
