use Rattle.std.proofs.Common.{◌≡◌, take, fold}
use Rattle.cq_keys.specs.Keys.{row_writes}
use Rattle.cq_keys.proofs.key.feed_all.Given as goal

abbrev pub invariant-loop-v : goal.invariant-loop-v
invariant-loop-v g l = l.state ≡ fold g.H.Hasher.write l.initial.state (row_writes (take l.v-index l.values))
