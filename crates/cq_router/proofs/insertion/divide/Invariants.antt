use Rattle.std.proofs.Common.{◌≡◌, take}
use Rattle.cq_router.specs.Piles.{home, piles}
use Rattle.cq_router.proofs.insertion.divide.Given as goal

abbrev pub invariant-loop-row : goal.invariant-loop-row
invariant-loop-row l = l.all.items ≡ piles (home l.catalog l.table l.column) l.catalog.groups (take l.row-index l.rows)
