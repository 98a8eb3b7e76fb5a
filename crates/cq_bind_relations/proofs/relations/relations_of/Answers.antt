use Rattle.std.proofs.Common.{arith, subst, sym}
use Rattle.std.proofs.lemmas.List.Elements.{All-drop, All-get_or, All-same, All-take}
use Rattle.cq_bind_calls.specs.Parts.{FromParts}
use Rattle.cq_bind_relations.proofs.relations.relations_of.Goals as goal

pub froms-requires-clause-first : goal.froms-requires-clause-first
froms-requires-clause-first g c =
    let P = FromParts (g.N.Nested.may_read c.args.nested.now) (g.N.Nested.may_select c.args.nested.now) in
    subst P (sym c.first-item.is) (All-get_or P c.as_slice.result.now 0 _ (omega (arith, c.in-len1-up.len_at_least)) (All-same P _ _ c.as_slice.ensures c.requires))

pub froms-requires-clause-more : goal.froms-requires-clause-more
froms-requires-clause-more g c =
    let P = FromParts (g.N.Nested.may_read c.args.nested.now) (g.N.Nested.may_select c.args.nested.now) in
    All-take P _ _ (All-drop P 1 _ (All-same P _ _ c.as_slice.ensures c.requires))
