use Rattle.std.proofs.Common.{◌≡◌, Some, slice_get, subst, rules}
use Rattle.cq_catalog.specs.Whole.{IsWhole}
use Rattle.cq_catalog.proofs.catalog.Catalog.info.Goals as goal

pub returns-clause-table : goal.returns-clause-table
returns-clause-table c =
    let at : slice_get c.args.self.now.tables c.args.table ≡ Some c.unwrap.result.now = search rules in
    (subst IsWhole c.self.view_is c.self.invariant).tables c.args.table c.unwrap.result.now at
