use Rattle.std.proofs.Common.{ltb, zero-le, ltb-true, ltb-false, rules}
use Rattle.std.proofs.lemmas.List.Sorted.{IsPartitionedBy-ltb, IsPartitionPoint-from_clause}
use Rattle.cq_value.proofs.TableLaws.{rising_or_same}
use Rattle.cq_value.specs.Tables.{Pair}
use Rattle.cq_pages.proofs.pages.spot.Goals as goal

pub returns : goal.returns
returns c =
    let ps = c.args.pairs.now in
    let ends = IsPartitionPoint-from_clause (λ (p : Pair). ltb p.0 c.args.id) ps c.partition_point.result c.partition_point.ensures.partitioned
    (IsPartitionedBy-ltb (λ (p : Pair). p.0) ps c.args.id (rising_or_same ps c.requires.next c.requires.up)) (λ a r f k. search rules) in
    record {
      within = c.partition_point.ensures.bound;
      below = λ k d lt. ltb-true _ _ (ends.0 k d zero-le lt);
      above = λ k d le l. ltb-false _ _ (ends.1 k d le l);
    }
