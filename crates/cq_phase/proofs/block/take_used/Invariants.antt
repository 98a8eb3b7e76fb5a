use Rattle.std.proofs.Common.{◌≡◌, ◌≤◌, take, drop}
use Rattle.std.specs.Prelude.{vec_len, vec_capacity}
use Rattle.cq_phase.proofs.block.take_used.Given as goal

abbrev pub invariant-loop : goal.invariant-loop
invariant-loop g l = record {
  used : l.used.items ≡ take l.counter l.fn.workers.items;
  others : l.workers.items ≡ drop l.counter l.fn.workers.items;
  count : vec_len l.used ≡ l.counter;
  space : l.nodes ≤ vec_capacity l.used;
  room : vec_capacity l.workers ≡ vec_capacity l.fn.workers;
}
