use Rattle.std.proofs.Common.{refl}
use Rattle.cq_bind.proofs.Following.{read, read_ok, refused}
use Rattle.cq_bind.proofs.rows.insertion.Goals as goal

pub returns-in_err-number : goal.returns-in_err-number
returns-in_err-number c = refused _ _ _ c.args.found.now _ _ (c.in_err-number.ensures c.args.found.now) c.from_residual.ensures.1

pub returns-in_err-columns : goal.returns-in_err-columns
returns-in_err-columns c =
    read _ _ _ _ _ _ (c.in_ok-number.ensures c.args.found.now)
    (refused _ _ _ c.args.found.now _ _ (c.in_err-columns.ensures c.args.found.now) c.from_residual-in_err-columns.ensures.1)

pub returns-in_err-rows : goal.returns-in_err-rows
returns-in_err-rows c =
    read _ _ _ _ _ _ (c.in_ok-number.ensures c.args.found.now)
    (read _ _ _ _ _ _ (c.in_ok-columns.ensures c.args.found.now)
    (refused _ _ _ c.all_rows.new.found _ _ c.in_err-rows.ensures c.from_residual-in_err-rows.ensures.1))

pub returns : goal.returns
returns c =
    read_ok _ _ _ _ _ (c.in_ok-number.ensures c.args.found.now)
    (read_ok _ _ _ _ _ (c.in_ok-columns.ensures c.args.found.now)
    (read_ok _ _ _ _ _ c.in_ok-rows.ensures refl))
