use Rattle.std.proofs.Common.{◌<◌, length, arith}
use Rattle.cq_bind_statements.proofs.RowLaws.{put_first}
use Rattle.cq_bind_statements.proofs.rows.with_first.Goals as goal

pub returns-in-len1-up : goal.returns-in-len1-up
returns-in-len1-up c =
    let l : 0 < length c.args.columns.now = omega arith in
    put_first c.args.row _ c.args.columns.now c.args.v l c.with_value.ensures
