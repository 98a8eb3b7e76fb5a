use Rattle.std.proofs.Common.{◌∷◌, [], ◌++◌, ◌∙◌, ap, sym, subst}
use Rattle.cq_catalog.specs.Contents.{Contents}
use Rattle.cq_catalog.specs.Whole.{contents, CanOpen}
use Rattle.cq_catalog.specs.declared.decision.Target.TheVariants.{Opens}
use Rattle.cq_catalog.proofs.WholeLaws.{whole_opened}
use Rattle.cq_catalog.proofs.catalog.Catalog.open.Goals as goal

pub invariant_of-self-2 : goal.invariant_of-self-2
invariant_of-self-2 c =
    let e = c.in_ok-put.ensures.ok ∙ ap (λ es. c.self.inside.colocations ++ (record { kind = c.args.kind; count = c.args.count; first_group = c.self.inside.groups; joinable = c.args.joinable; ends = es }) ∷ []) c.in_ok-ends.ensures in
    rw e (whole_opened (contents c.self.inside.tables c.self.inside.colocations c.self.inside.groups c.self.inside.next_shard) c.args.kind c.args.count c.args.joinable c.self.invariant
    (subst (λ (v : Contents). CanOpen v (Opens c.args.count c.args.joinable)) (sym c.self.view_is) c.requires))
