use Rattle.std.proofs.Common.{◌≤◌, ◌-◌, length, take}
use Rattle.cq_script.specs.Streams.{Wrote}
use Rattle.cq_script.proofs.sink.emit.Given as goal

abbrev pub invariant-loop-at : goal.invariant-loop-at
invariant-loop-at g l = record {
  wrote : Wrote (g.K.Sink.shown l.fn.sink) (g.K.Sink.shown l.sink) (take l.at l.bytes);
  within : l.at ≤ length l.bytes;
}

abbrev pub decreases-loop-at : goal.decreases-loop-at
decreases-loop-at g l = length l.bytes - l.at
