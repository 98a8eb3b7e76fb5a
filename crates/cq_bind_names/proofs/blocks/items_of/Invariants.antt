use Rattle.std.proofs.Common.{◌≡◌, take, map}
use Rattle.cq_reading.specs.Selects.{item_of}
use Rattle.cq_bind_names.proofs.blocks.items_of.Given as goal

abbrev pub invariant-loop-s : goal.invariant-loop-s
invariant-loop-s l = l.all ≡ map (item_of) (take l.s-index l.outputs)
