use Rattle.cq_bind_relations.proofs.joins.JoinedStep.step.Goals as goal

pub inner-requires-clause-relation : goal.inner-requires-clause-relation
inner-requires-clause-relation g c = (c.requires.inner _ _ _ _ c.in-Inner.is).0

pub left-requires-clause-relation : goal.left-requires-clause-relation
left-requires-clause-relation g c = (c.requires.left _ _ _ _ c.in-Left.is).0
