use Rattle.std.proofs.Common.{◌≡◌, Some, slice_get, subst, rules}
use Rattle.cq_catalog.specs.Whole.{IsWhole}
use Rattle.cq_catalog.proofs.catalog.Catalog.place.Goals as goal

pub returns-in-Some-clause-placed : goal.returns-in-Some-clause-placed
returns-in-Some-clause-placed c =
    let at : slice_get c.args.self.now.tables c.args.table ≡ Some c.in-Some.info.now = search rules in
    ((subst IsWhole c.self.view_is c.self.invariant).tables c.args.table c.in-Some.info.now at).placed
