use Rattle.std.proofs.Common.{◌∙◌, List, sym, ap, subst}
use Rattle.cq_block_move.specs.Hands.{IsOpenedOver}
use Rattle.cq_block.proofs.session.move_shard.Goals as goal

pub answer_move-answer-requires-clause-hands : goal.answer_move-answer-requires-clause-hands
answer_move-answer-requires-clause-hands g c κs within = rw (c.requires.cells.0, c.requires.cells.1, c.deref.ensures.value, c.replace.ensures.value) c.requires.hands

pub answer_move-answer-requires-clause-sessions : goal.answer_move-answer-requires-clause-sessions
answer_move-answer-requires-clause-sessions g c κs within = c.requires.cells.1 ∙ sym (ap (λ v. v.items) c.of.ensures)

pub answer_move-answer-requires-clause-unsent : goal.answer_move-answer-requires-clause-unsent
answer_move-answer-requires-clause-unsent g c κs within = rw c.replace.ensures.value c.requires.unsent

pub returns-clause-serves : goal.returns-clause-serves
returns-clause-serves g c o a over move =
    rw (sym (ap (λ v. v.items) c.replace.ensures.value)) (c.answer_move-answer.ensures.serves o a (subst (λ (v : List _). IsOpenedOver c.args.site.now.scene.now.catalog.now v o) (sym c.requires.cells.1) over) move)

pub returns-clause-hands : goal.returns-clause-hands
returns-clause-hands g c = rw (sym c.requires.cells.0, sym c.requires.cells.1, sym c.deref.ensures.value) c.answer_move-answer.ensures.hands

pub returns-clause-unsent : goal.returns-clause-unsent
returns-clause-unsent g c other own far none = c.answer_move-answer.ensures.unsent other own far (rw c.replace.ensures.value none)
