use Rattle.std.proofs.Common.{◌<◌, length, arith}
use Rattle.std.proofs.lemmas.Bool.Decides.{nat_tests}
use Rattle.cq_bind_statements.proofs.ColumnLaws.{listed}
use Rattle.cq_bind_statements.proofs.columns.columns_of.Goals as goal

pub returns-else-is_empty : goal.returns-else-is_empty
returns-else-is_empty c =
    let l : 0 < length c.args.names.now = grind (arith, nat_tests) in
    listed c.args.columns.now c.args.names.now c.columns_from.result l c.columns_from.ensures
