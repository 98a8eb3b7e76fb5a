use Rattle.std.proofs.Common.{◌≡◌, ◌≤◌, ◌+◌, ◌++◌, map, length, vec_len, vec_capacity}
use Rattle.std.specs.List.{flat_map}
use Rattle.std.specs.Vec.Iter.{into_iter_items, into_iter_len}
use Rattle.cq_block.proofs.seating.unseat.Given as goal

abbrev pub invariant-loop-session : goal.invariant-loop-session
invariant-loop-session g l = record {
  left : into_iter_len l.session-iterator ≡ length (into_iter_items l.session-iterator);
  groups : map (λ r. r.items) l.groups.items ++ map (λ s. s.hands.passes.items) (into_iter_items l.session-iterator) ≡ map (λ s. s.hands.passes.items) (into_iter_items l.initial.session-iterator);
  workers : map (λ r. r.items) l.workers.items ++ map (λ s. s.hands.benches.items) (into_iter_items l.session-iterator) ≡ map (λ s. s.hands.benches.items) (into_iter_items l.initial.session-iterator);
  log : l.log.items ++ flat_map (λ s. s.log.items) (into_iter_items l.session-iterator) ≡ l.initial.log.items ++ flat_map (λ s. s.log.items) (into_iter_items l.initial.session-iterator);
  retired : l.retired.items ++ flat_map (λ s. s.hands.retired.items) (into_iter_items l.session-iterator) ≡ l.initial.retired.items ++ flat_map (λ s. s.hands.retired.items) (into_iter_items l.initial.session-iterator);
  room : vec_len l.groups + length (into_iter_items l.session-iterator) ≤ vec_capacity l.groups;
  as_wide : vec_len l.workers + length (into_iter_items l.session-iterator) ≤ vec_capacity l.workers;
  space : vec_len l.log + length (flat_map (λ s. s.log.items) (into_iter_items l.session-iterator)) ≤ vec_capacity l.log;
  spare : vec_len l.retired + length (flat_map (λ s. s.hands.retired.items) (into_iter_items l.session-iterator)) ≤ vec_capacity l.retired;
}
