use Rattle.std.proofs.Common.{◌≡◌, ◌∙◌, ◌∷◌, ℕ, suc, ◌+◌, Option, Some, map, drop, ap, sym, arith}
use Rattle.cq_catalog.specs.Placement.{group_in}
use Rattle.cq_catalog.specs.Refusals.{first_of}
use Rattle.cq_catalog.specs.declared.info.TableInfo.{TableInfo}
use Rattle.cq_catalog.proofs.GroupLaws.{scanned}
use Rattle.cq_catalog.proofs.catalog.Catalog.group_of_shard.Goals as goal

pub returns-in-Some : goal.returns-in-Some
returns-in-Some c =
    let f = λ (t : TableInfo). group_in c.args.self.now.colocations c.args.shard t.place in
    let here : f c.info.result.now ≡ Some c.in-Some.group = sym c.group_at.ensures ∙ c.in-Some.is in
    sym (c.loop-number.invariant ∙ scanned f c.args.self.now.tables c.loop-number.number c.info.result.now c.info.ensures.value
    ∙ ap (λ (o : Option ℕ). first_of (o ∷ map f (drop (suc c.loop-number.number) c.args.self.now.tables))) here)

pub loop-number-preserved : goal.loop-number-preserved
loop-number-preserved c =
    let f = λ (t : TableInfo). group_in c.args.self.now.colocations c.args.shard t.place in
    let next : suc c.loop-number.number ≡ c.loop-number.number + 1 = omega arith in
    c.loop-number.invariant ∙ scanned f c.args.self.now.tables c.loop-number.number c.info.result.now c.info.ensures.value
    ∙ ap (λ (o : Option ℕ). first_of (o ∷ map f (drop (suc c.loop-number.number) c.args.self.now.tables))) (sym c.group_at.ensures ∙ c.in_default.is)
    ∙ ap (λ n. first_of (map f (drop n c.args.self.now.tables))) next
