use Rattle.std.proofs.Common.{List, zero-le, rules, leb, arith}
use Rattle.std.proofs.lemmas.Bool.{leb-true, leb-false}
use Rattle.std.proofs.lemmas.List.Sorted.{IsPartitionedBy-leb, IsPartitionPoint-from_clause}
use Rattle.cq_value.specs.Tables.{Pair}
use Rattle.cq_pages.proofs.PageLaws.{first, firsts_rise, stands}
use Rattle.cq_pages.proofs.pages.page_place.Goals as goal

pub returns-clause-stands : goal.returns-clause-stands
returns-clause-stands c =
    let pages = c.args.pages.now in
    let laid = c.requires in
    let ends = IsPartitionPoint-from_clause (λ (page : List Pair). leb (first page) c.args.id) pages c.partition_point.result c.partition_point.ensures.partitioned
    (IsPartitionedBy-leb (λ (page : List Pair). first page) pages c.args.id (firsts_rise pages laid.ids.next laid.ids.up laid.full)) (λ a r f k. search rules) in
    let one = c.saturating_sub.ensures in
    let most = c.partition_point.ensures.bound in
    stands pages c.saturating_sub.result laid.ids.next c.args.id laid.ids.up laid.full
    (λ z. omega (arith, one, most, z))
    (λ j d z le. leb-true _ _ (ends.0 j d zero-le (omega (arith, one, z, le))))
    (λ j d lt l. leb-false _ _ (ends.1 j d (omega (arith, one, lt)) l))
