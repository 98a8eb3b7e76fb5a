use Rattle.std.proofs.Common.{refl}
use Rattle.cq_block.proofs.session.answer_draft.Goals as goal

pub returns-clause-serves : goal.returns-clause-serves
returns-clause-serves g c = c.respond_in-bound.ensures.serves _ (record { by = refl; given = refl; bound = refl; answer = refl })

pub returns-clause-answers : goal.returns-clause-answers
returns-clause-answers g c = record { session = refl; statement = refl; phase = refl; given = refl; bound = c.respond_in-bound.ensures.bound; reads = c.respond_in-bound.ensures.reads }
