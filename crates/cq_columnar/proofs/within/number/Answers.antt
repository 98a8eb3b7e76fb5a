use Rattle.std.proofs.Common.{arith, zero-le}
use Rattle.cq_columnar.proofs.AddingLaws.{can_add, any_least, after_within}
use Rattle.cq_columnar.proofs.within.number.Goals as goal

pub add_all-requires : goal.add_all-requires
add_all-requires c = let fits = c.ranges.next.fits in rw c.new-table.ensures (can_add 0 c.args.rows c.args.next (any_least c.args.rows) c.requires (omega (arith, fits)))

pub raise-requires : goal.raise-requires
raise-requires c = rw (c.in_ok-add_all.ensures.next, c.new-table.ensures) (after_within 0 c.args.rows c.args.next zero-le c.requires)
