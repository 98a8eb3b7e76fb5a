use Rattle.std.proofs.Common.{arith}
use Rattle.std.proofs.lemmas.Result.{err_from_is_err_and}
use Rattle.csv.specs.Records.{fields_of}
use Rattle.cq_copy.proofs.RecordLaws.{left_more, left_refused, left_none, left_done}
use Rattle.cq_copy.proofs.records.rows_left.Goals as goal

pub returns-then-not-branch : goal.returns-then-not-branch
returns-then-not-branch c = λ s left reads.
    left_none c.args.frame.now.table.now c.args.frame.now.listed.now c.args.most _ c.loop-at.reader c.loop-at.rows c.loop-at.at c.read_next.new.reader c.in_ok-read_next.field-0 (fields_of c.read_next.new.raw)
    (c.loop-at.invariant s left reads) c.in_ok-read_next.ensures c.if-not-branch.true

pub returns-in_err-row : goal.returns-in_err-row
returns-in_err-row c = λ s left reads.
    let p = err_from_is_err_and c.from_residual-in_err-row.result c.from_residual-in_err-row.ensures.1 in
    rw (p.1, p.2) (λ ne. left_refused c.args.frame.now.table.now c.args.frame.now.listed.now c.args.most _ c.loop-at.reader c.loop-at.rows c.loop-at.at c.read_next.new.reader c.in_ok-read_next.field-0 (fields_of c.read_next.new.raw) c.in_err-row.field-0.0
    (c.loop-at.invariant s left reads) c.loop-at-test.true c.in_ok-read_next.ensures c.if-not-branch.false (c.in_err-row.ensures ne))

pub loop-at-preserved : goal.loop-at-preserved
loop-at-preserved c = λ s left reads.
    rw c.in_ok-put.ensures.ok (left_more c.args.frame.now.table.now c.args.frame.now.listed.now c.args.most _ c.loop-at.reader c.loop-at.rows c.loop-at.at c.read_next.new.reader c.in_ok-read_next.field-0 (fields_of c.read_next.new.raw) c.in_ok-row.row
    (c.loop-at.invariant s left reads) c.loop-at-test.true c.in_ok-read_next.ensures c.if-not-branch.false c.in_ok-row.ensures)

pub returns : goal.returns
returns c = λ s left reads.
    left_done c.args.frame.now.table.now c.args.frame.now.listed.now c.args.most _ c.loop-at.reader c.loop-at.rows c.loop-at.at (c.loop-at.invariant s left reads) (omega arith)
