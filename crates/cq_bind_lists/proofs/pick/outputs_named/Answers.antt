use Rattle.std.proofs.Common.{rules}
use Rattle.cq_bind_lists.proofs.Picks.{binds_titled}
use Rattle.cq_bind_lists.proofs.pick.outputs_named.Goals as goal

pub returns : goal.returns
returns g c = binds_titled c.args.scope.now c.args.name.now _ _ _ _ _ _ (search rules) c.gather_all.ensures
