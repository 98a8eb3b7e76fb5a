use Rattle.std.proofs.Common.{refl}
use Rattle.cq_reach.proofs.Stopping.{next_after}
use Rattle.cq_reach.proofs.staging.stage_next.Goals as goal

pub returns-in-Ok : goal.returns-in-Ok
returns-in-Ok g c =
    next_after g.S.Store.state c.args.part c.in-Ok.reply _ c.args.ready.now c.put_replied.new.ready c.args.groups.now.items c.stage_part.new.groups.items c.put_replied.new.groups.items c.put_replied.result refl c.in-Ok.ensures c.put_replied.ensures
