use Rattle.std.proofs.Common.{◌≡◌, map, take}
use Rattle.cq_demands.specs.JoinDemands.{narrow}
use Rattle.cq_group.specs.Calls.{Rests, Lifted, IsSameBut, captured}
use Rattle.cq_group.proofs.group.GroupState.read_tables.Given as goal

abbrev pub invariant-loop-table : goal.invariant-loop-table
invariant-loop-table g l =
    (l.seen ≡ narrow l.wants (map (captured l.fn.self) (take l.table-index l.table-items)))
    × (l.self.journal ≡ l.fn.self.journal)
    × IsSameBut (Lifted g.S.Store.state Rests) l.fn.self l.self
