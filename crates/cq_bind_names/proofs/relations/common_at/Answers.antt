use Rattle.std.proofs.Common.{◌≡◌, Some, None, Option, refl, sym}
use Rattle.cq_reading.specs.declared.bound.Common.{Common}
use Rattle.std.specs.List.{slice_get}
use Rattle.cq_bind_names.proofs.relations.common_at.Goals as goal

pub returns-in-Some : goal.returns-in-Some
returns-in-Some c =
    let e : slice_get c.args.commons.now c.args.place ≡ Some c.in-Some.common.now = sym c.in-Some.ensures in
    rw e c.common_relation.ensures

pub returns-in-None : goal.returns-in-None
returns-in-None c =
    let e : slice_get c.args.commons.now c.args.place ≡ None = sym c.in-None.ensures in
    rw e (λ found n. refl)
