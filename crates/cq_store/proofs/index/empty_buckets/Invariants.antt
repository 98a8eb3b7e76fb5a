use Rattle.std.proofs.Common.{◌≡◌, length, []}
use Rattle.std.specs.List.{All}
use Rattle.cq_store.proofs.index.empty_buckets.Given as goal

abbrev pub invariant-loop : goal.invariant-loop
invariant-loop l = record {
  count : length l.buckets ≡ l.counter;
  empty : All (λ ids. ids ≡ []) l.buckets;
}
