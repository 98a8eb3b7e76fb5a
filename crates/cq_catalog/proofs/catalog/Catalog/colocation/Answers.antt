use Rattle.std.proofs.Common.{◌≡◌, Some, slice_get, subst, rules}
use Rattle.cq_catalog.specs.Whole.{IsWhole}
use Rattle.cq_catalog.proofs.GroupLaws.{cut_part}
use Rattle.cq_catalog.proofs.RangeLaws.{parts}
use Rattle.cq_catalog.proofs.catalog.Catalog.colocation.Goals as goal

pub returns-clause-cut : goal.returns-clause-cut
returns-clause-cut c =
    let at : slice_get c.args.self.now.colocations c.args.number ≡ Some c.unwrap.result.now = search rules in
    (subst IsWhole c.self.view_is c.self.invariant).cut c.args.number c.unwrap.result.now at

pub returns-clause-part : goal.returns-clause-part
returns-clause-part c = cut_part _ _ (returns-clause-cut c)

pub returns-clause-tokens : goal.returns-clause-tokens
returns-clause-tokens c = parts _ (returns-clause-part c)

pub returns-clause-groups : goal.returns-clause-groups
returns-clause-groups c = (subst IsWhole c.self.view_is c.self.invariant).few_groups
