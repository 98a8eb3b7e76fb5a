use Rattle.std.proofs.lemmas.Result.{err_from_is_err_and}
use Rattle.cq_columnar.specs.Reading.{columns_onto}
use Rattle.cq_columnar.proofs.DraftLaws.{column_more, column_fails, columns_done}
use Rattle.cq_columnar.proofs.columns.push_columns.Goals as goal

pub returns-in_err-rest : goal.returns-in_err-rest
returns-in_err-rest c =
    let p = err_from_is_err_and c.from_residual.result c.from_residual.ensures.1 in
    rw (p.1, p.2) (column_fails c.in_err-rest.field-0.0 c.loop.counter c.loop.drafts.items c.args.columns c.loop.rest.now (columns_onto c.args.drafts.items c.args.columns c.args.bytes.now) c.loop-test.true c.in_err-rest.ensures c.loop.invariant)

pub loop-preserved : goal.loop-preserved
loop-preserved c =
    column_more c.loop.counter c.loop.drafts.items c.push_column.new.drafts.items c.args.columns c.loop.rest.now c.in_ok-rest.rest.now (columns_onto c.args.drafts.items c.args.columns c.args.bytes.now) c.loop-test.true c.in_ok-rest.ensures c.loop.invariant

pub returns : goal.returns
returns c = columns_done c.loop.counter c.loop.drafts.items c.args.columns c.loop.rest.now (columns_onto c.args.drafts.items c.args.columns c.args.bytes.now) c.loop-test.false c.loop.invariant
