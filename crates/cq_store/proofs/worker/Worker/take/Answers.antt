use Rattle.std.proofs.Common.{◌≤◌, length, map, arith}
use Rattle.cq_store.specs.Workers.{spares}
use Rattle.cq_store.proofs.TakingLaws.{room_risen}
use Rattle.cq_store.proofs.worker.Worker.take.Goals as goal

pub returns-clause-room : goal.returns-clause-room
returns-clause-room g c =
    let stores = c.args.self.now.stores in
    let counted = rw c.deref.ensures.value at c.count_spares-free.ensures in
    let enough : c.args.n ≤ length (spares (map g.S.Store.state stores.items)) = omega arith in
    let stays = c.move_spares.ensures.others in
    room_risen g.S.Store.state c.args.n stores c.move_spares.new.stores enough stays c.move_spares.ensures.room
