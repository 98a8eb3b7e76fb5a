use Rattle.cq_store.proofs.IndexLaws.{holds_put, holds_dropped}
use Rattle.cq_store.proofs.index.Index.stays.Goals as goal

pub returns-in-Put : goal.returns-in-Put
returns-in-Put c e t h = rw c.in-Put.is (holds_put c.args.self.now t c.in-Put.id c.in-Put.row h (c.names.ensures e))

pub returns-in-Drop : goal.returns-in-Drop
returns-in-Drop c e t h = rw c.in-Drop.is (holds_dropped c.args.self.now t c.in-Drop.field-0 h)
