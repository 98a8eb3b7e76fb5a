use Rattle.std.proofs.Common.{◌≡◌, map, take, vec_len, vec_capacity}
use Rattle.cq_block.proofs.seating.numbers_of.Given as goal

abbrev pub invariant-loop-one : goal.invariant-loop-one
invariant-loop-one l = record {
  numbers : l.numbers.items ≡ map (λ one. one.session) (take l.one-index l.sessions.items);
  count : vec_len l.numbers ≡ l.one-index;
  room : vec_capacity l.numbers ≡ vec_capacity l.initial.numbers;
}
