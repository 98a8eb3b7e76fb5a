use Rattle.std.proofs.Common.{◌≡◌, inl, inr, List, map, IfOk, ◌∙◌, subst}
use Rattle.cq_planning.specs.Parts.{parts}
use Rattle.cq_router.specs.declared.insertion.Part.{Part}
use Rattle.cq_router.specs.Piles.{as_part}
use Rattle.cq_router.proofs.PartLaws.{parts_of_update, parts_of_delete}
use Rattle.cq_router.proofs.writes.parts.Goals as goal

pub returns-in_ok-groups-in-Update : goal.returns-in_ok-groups-in-Update
returns-in_ok-groups-in-Update c =
    let all : map (λ g. as_part (g, c.args.op.now)) c.as_slice.result.now ≡ map as_part (parts c.args.catalog.now c.args.op.now) = elim c.in-Update.is [
      | inl u ↦ parts_of_update c.args.catalog.now c.args.op.now c.in-Update.table c.in-Update.filter u.0 c.as_slice.result.now u.1 (c.as_slice.ensures ∙ c.in_ok-groups-in-Update.ensures)
      | inr d ↦ parts_of_delete c.args.catalog.now c.args.op.now c.in-Update.table c.in-Update.filter c.as_slice.result.now d (c.as_slice.ensures ∙ c.in_ok-groups-in-Update.ensures)
    ] in
    subst (λ (ps : List Part). IfOk c.everywhere.result (λ v. v ≡ ps)) all c.everywhere.ensures
