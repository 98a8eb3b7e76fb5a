use Rattle.std.proofs.Common.{◌≡◌, ◌∙◌, ◌⊎◌, List, [], Ok, inl, refl, sym, ap, subst, length}
use Rattle.cq_script.specs.Directives.{IsPhaseAt}
use Rattle.cq_script.specs.declared.reader.Placed.{Placed}
use Rattle.cq_top.proofs.Answering.{may_fail_same, nothing_next, stops_at}
use Rattle.cq_top.proofs.Passing.{err_so, ok_so}
use Rattle.cq_top.proofs.Phasing.{few_read, few_taken, few_by, reads_next, reads_nothing, phase_next, none_of_none, some_of_some}
use Rattle.cq_top.proofs.Showing.{shows_nothing, shows_whole_part}
use Rattle.cq_top.proofs.serve.take_piece.Goals as goal

pub returns-then-len-eq0-clause-reads : goal.returns-then-len-eq0-clause-reads
returns-then-len-eq0-clause-reads g c = reads_nothing c.args.reader.now c.take.new.self c.args.piece c.args.serving.now.answers c.in-Ok.phase c.requires.reads c.in-Ok.ensures.tells c.take.ensures.reading (none_of_none c.len.result c.in-Ok.phase c.len.ensures c.if-len-eq0.true)

pub returns-then-len-eq0-clause-few : goal.returns-then-len-eq0-clause-few
returns-then-len-eq0-clause-few g c = few_read c.args.reader.now c.args.serving.now.answers c.requires.reads

pub returns-then-len-eq0-clause-next : goal.returns-then-len-eq0-clause-next
returns-then-len-eq0-clause-next g c = (c.in-Ok.phase, c.in-Ok.ensures.tells, nothing_next c.args.serving.now.settled c.args.serving.now.answers c.in-Ok.phase (none_of_none c.len.result c.in-Ok.phase c.len.ensures c.if-len-eq0.true))

pub returns-then-len-eq0-clause-shows : goal.returns-then-len-eq0-clause-shows
returns-then-len-eq0-clause-shows g c = shows_nothing c.args.serving.now.settled (g.K.Sink.shown c.args.sink.now) c.args.serving.now.answers

pub answer_phase-requires-clause-next : goal.answer_phase-requires-clause-next
answer_phase-requires-clause-next g c = λ κs lives. (phase_next c.args.reader.now c.args.serving.now.answers c.as_slice.result.now c.requires.reads (some_of_some c.len.result c.as_slice.result.now (c.len.ensures ∙ ap length (sym c.as_slice.ensures)) c.if-len-eq0.false) (subst (λ (v : List Placed). (v ≡ []) ⊎ IsPhaseAt c.args.reader.now.read v) (sym c.as_slice.ensures) c.in-Ok.ensures.phase))

pub answer_phase-requires-clause-some : goal.answer_phase-requires-clause-some
answer_phase-requires-clause-some g c = λ κs lives. (some_of_some c.len.result c.as_slice.result.now (c.len.ensures ∙ ap length (sym c.as_slice.ensures)) c.if-len-eq0.false)

pub answer_phase-requires-clause-few : goal.answer_phase-requires-clause-few
answer_phase-requires-clause-few g c = λ κs lives. (few_taken c.args.reader.now c.take.new.self c.args.piece c.args.serving.now.answers c.as_slice.result.now c.requires.reads (c.in-Ok.ensures.tells ∙ ap (λ v. Ok (v, c.take.new.self)) (sym c.as_slice.ensures)) c.take.ensures.reading)

pub returns-else-len-eq0-clause-reads : goal.returns-else-len-eq0-clause-reads
returns-else-len-eq0-clause-reads g c = ok_so _ _ c.answer_phase.result (λ next. reads_next c.args.serving.now.settled c.args.reader.now c.take.new.self c.args.piece c.args.serving.now.answers c.answer_phase.new.serving.answers c.as_slice.result.now c.requires.reads (c.in-Ok.ensures.tells ∙ ap (λ v. Ok (v, c.take.new.self)) (sym c.as_slice.ensures)) c.take.ensures.reading (phase_next c.args.reader.now c.args.serving.now.answers c.as_slice.result.now c.requires.reads (some_of_some c.len.result c.as_slice.result.now (c.len.ensures ∙ ap length (sym c.as_slice.ensures)) c.if-len-eq0.false) (subst (λ (v : List Placed). (v ≡ []) ⊎ IsPhaseAt c.args.reader.now.read v) (sym c.as_slice.ensures) c.in-Ok.ensures.phase)) next) c.answer_phase.ensures.next

pub returns-else-len-eq0-clause-few : goal.returns-else-len-eq0-clause-few
returns-else-len-eq0-clause-few g c = few_by c.args.serving.now.settled c.args.serving.now.answers c.answer_phase.new.serving.answers c.as_slice.result.now c.answer_phase.result (phase_next c.args.reader.now c.args.serving.now.answers c.as_slice.result.now c.requires.reads (some_of_some c.len.result c.as_slice.result.now (c.len.ensures ∙ ap length (sym c.as_slice.ensures)) c.if-len-eq0.false) (subst (λ (v : List Placed). (v ≡ []) ⊎ IsPhaseAt c.args.reader.now.read v) (sym c.as_slice.ensures) c.in-Ok.ensures.phase)) (few_taken c.args.reader.now c.take.new.self c.args.piece c.args.serving.now.answers c.as_slice.result.now c.requires.reads (c.in-Ok.ensures.tells ∙ ap (λ v. Ok (v, c.take.new.self)) (sym c.as_slice.ensures)) c.take.ensures.reading) c.answer_phase.ensures.next c.answer_phase.ensures.stops

pub returns-else-len-eq0-clause-next : goal.returns-else-len-eq0-clause-next
returns-else-len-eq0-clause-next g c = ok_so _ _ c.answer_phase.result (λ next. (c.as_slice.result.now, (c.in-Ok.ensures.tells ∙ ap (λ v. Ok (v, c.take.new.self)) (sym c.as_slice.ensures)), next)) c.answer_phase.ensures.next

pub returns-else-len-eq0-clause-stops : goal.returns-else-len-eq0-clause-stops
returns-else-len-eq0-clause-stops g c = err_so _ _ c.answer_phase.result (λ stop ends. stops_at c.args.serving.now.settled stop c.args.reader.now c.take.new.self c.args.piece c.args.serving.now.answers c.answer_phase.new.serving.answers c.as_slice.result.now (c.in-Ok.ensures.tells ∙ ap (λ v. Ok (v, c.take.new.self)) (sym c.as_slice.ensures)) ends) c.answer_phase.ensures.stops

pub returns-in-Err-Halt-clause-few : goal.returns-in-Err-Halt-clause-few
returns-in-Err-Halt-clause-few g c = few_read c.args.reader.now c.args.serving.now.answers c.requires.reads

pub returns-in-Err-Halt-clause-stops : goal.returns-in-Err-Halt-clause-stops
returns-in-Err-Halt-clause-stops g c = let facts = rw c.in-Err-Halt.field-0-is at c.in-Err-Halt.ensures.tells in rw c.in-Err-Halt.field-0-is (refl {a = c.args.serving.now.answers}, facts.0)

pub returns-in-Err-Halt-clause-part : goal.returns-in-Err-Halt-clause-part
returns-in-Err-Halt-clause-part g c = shows_nothing c.args.serving.now.settled (g.K.Sink.shown c.args.sink.now) c.args.serving.now.answers

pub returns-in-Err-Memory-clause-few : goal.returns-in-Err-Memory-clause-few
returns-in-Err-Memory-clause-few g c = few_read c.args.reader.now c.args.serving.now.answers c.requires.reads

pub returns-in-Err-Memory-clause-stops : goal.returns-in-Err-Memory-clause-stops
returns-in-Err-Memory-clause-stops g c = inl refl

pub returns-in-Err-Memory-clause-halts : goal.returns-in-Err-Memory-clause-halts
returns-in-Err-Memory-clause-halts g c = may_fail_same c.args.serving.now.settled c.args.serving.now.answers c.args.serving.now.answers c.requires.calm refl

pub returns-in-Err-Memory-clause-part : goal.returns-in-Err-Memory-clause-part
returns-in-Err-Memory-clause-part g c = shows_whole_part c.args.serving.now.settled (g.K.Sink.shown c.args.sink.now) (g.K.Sink.shown c.args.sink.now) c.args.serving.now.answers c.args.serving.now.answers refl refl
