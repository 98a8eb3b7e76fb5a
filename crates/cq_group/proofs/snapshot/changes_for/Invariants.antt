use Rattle.std.specs.Vec.Iter.{into_iter_items}
use Rattle.cq_group.proofs.SnapshotLaws.{HasMade}
use Rattle.cq_group.proofs.snapshot.changes_for.Given as goal

abbrev pub invariant-loop-pair : goal.invariant-loop-pair
invariant-loop-pair l = HasMade l.changes l.made (into_iter_items l.pair-iterator) l.fn.pairs l.next
