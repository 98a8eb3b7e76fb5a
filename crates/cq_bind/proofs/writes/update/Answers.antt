use Rattle.std.proofs.Common.{refl}
use Rattle.cq_bind.proofs.Following.{read, read_ok, refused}
use Rattle.cq_bind.proofs.writes.update.Goals as goal

pub returns-in_err-number : goal.returns-in_err-number
returns-in_err-number c = refused _ _ _ c.args.found.now _ _ (c.in_err-number.ensures c.args.found.now) c.from_residual.ensures.1

pub returns-in_err-op : goal.returns-in_err-op
returns-in_err-op c = read _ _ _ _ _ _ (c.in_ok-number.ensures c.args.found.now) (refused _ _ _ c.update_of.new.found _ _ c.in_err-op.ensures c.from_residual-in_err-op.ensures.1)

pub returns : goal.returns
returns c = read_ok _ _ _ _ _ (c.in_ok-number.ensures c.args.found.now) (read_ok _ _ _ _ _ c.in_ok-op.ensures refl)
