use Rattle.std.proofs.Common.{◌≡◌, ◌∙◌, ℕ, List, refl, sym, ap, subst, arith, Some}
use Rattle.std.specs.Prelude.{None}
use Rattle.cq_answer.specs.declared.answered.Answered.{Answered}
use Rattle.cq_history.specs.Refusals.{rules}
use Rattle.cq_shared.specs.Quiet.{GoOn, Blames}
use Rattle.cq_shared.specs.Seen.{Pass}
use Rattle.cq_desk.specs.Desks.{outlook_by}
use Rattle.cq_desk.proofs.Going.{chain_goes_on, fails_blames}
use Rattle.cq_block_laws.specs.Sessions.{PassesGoOn, ServesOne}
use Rattle.cq_session.specs.Responses.{ReadsAs}
use Rattle.cq_session.specs.Shared.{IsAnsweredOver}
use Rattle.cq_block.specs.declared.legality.Ground.{Ground}
use Rattle.cq_block.specs.Ground.{terms_of}
use Rattle.cq_block.specs.Running.{IsPlain, at_desk, move_in}
use Rattle.cq_block.proofs.DraftLaws.{can_answer}
use Rattle.cq_block.proofs.Moves.{bound_move, opened_over, reads_move}
use Rattle.cq_block.proofs.Serving.{can_serve, can_plain, moved_seated, opening, opens, serves_by, still_seated}
use Rattle.cq_block.proofs.session.respond_in.Goals.{in-Some, in-None}
use Rattle.cq_block.proofs.session.respond_in.Goals as goal

pub move_shard-response-requires-clause-cells : goal.move_shard-response-requires-clause-cells
move_shard-response-requires-clause-cells g c κs within = (c.deref.ensures.value, ap (λ v. v.items) c.of.ensures)

pub move_shard-response-requires-clause-hands : goal.move_shard-response-requires-clause-hands
move_shard-response-requires-clause-hands g c κs within = rw c.replace.ensures.value c.requires.seated.hands

pub respond_over-response-requires-clause-can : goal.respond_over-response-requires-clause-can
respond_over-response-requires-clause-can g c = can_answer c.args.site.now.scene.now.catalog.now c.args.read c.requires.can (sym c.move_of.ensures ∙ c.in-None.is)

pub respond_over-response-requires-clause-ready : goal.respond_over-response-requires-clause-ready
respond_over-response-requires-clause-ready g c = rw (c.of.ensures, c.replace.ensures.value, c.deref.ensures.value) c.requires.seated.hands.passes

pub respond_over-response-requires-clause-serve : goal.respond_over-response-requires-clause-serve
respond_over-response-requires-clause-serve g c = rw (c.of.ensures, c.replace.ensures.value) (can_serve g.S.Store.state _ _ _ _ _ _ _ c.requires.seated _ refl)

pub returns-clause-bound : goal.returns-clause-bound
returns-clause-bound g c = elim c.match-move_of.branch [
  | in-Some w ↦ rw w.response-is (w.move_shard-response.ensures.bound ∙ sym (bound_move c.args.read w.in-Some.order (sym c.move_of.ensures ∙ w.in-Some.is)))
  | in-None w ↦ rw w.response-is w.respond_over-response.ensures.bound
]

pub returns-clause-reads : goal.returns-clause-reads
returns-clause-reads g c = elim c.match-move_of.branch [
  | in-Some w ↦
      rw w.response-is (λ text bytes is.
      let none : move_in c.args.read ≡ Some w.in-Some.order = sym c.move_of.ensures ∙ w.in-Some.is in
      let bound = w.move_shard-response.ensures.bound ∙ sym (bound_move c.args.read w.in-Some.order none) in
      subst (λ b. ReadsAs c.args.who.session b w.move_shard-response.result.answer text bytes c.args.site.now.scene.now.catalog.now.tables) (sym bound)
      (reads_move c.args.who.session text bytes c.args.site.now.scene.now.catalog.now.tables c.args.read w.in-Some.order w.move_shard-response.result.answer none w.move_shard-response.ensures.untagged is))
  | in-None w ↦ rw w.response-is w.respond_over-response.ensures.reads
]

pub returns-clause-serves : goal.returns-clause-serves
returns-clause-serves g c = elim c.match-move_of.branch [
  | in-Some w ↦
      rw (w.response-is, w.desk-is, w.hands-is) (λ a is o for.
      let m = w.move_shard-response in
      subst (λ (v : List (Pass g.row.S.Denot (Ground g.row.S.Denot))). ServesOne g.S.Store.state (terms_of g.S.Store.state) rules c.args.site.now.scene.now.nodes o a (record { passes = v; benches = c.args.hands.now.benches.items; retired = c.args.hands.now.retired.items }) (at_desk m.new.desk.passes.items m.new.hands))
      (ap (λ v. v.items) c.replace.ensures.value)
      (m.ensures.serves o a (opened_over c.args.site.now.scene.now.catalog.now c.args.site.now.scene.now.settings c.args.site.now.numbers.now.items o for) (record { by = is.by; bound = is.bound ∙ m.ensures.bound; answer = is.answer })))
  | in-None w ↦
      rw (w.response-is, w.desk-is, w.hands-is) (λ a is.
      let state = g.S.Store.state in
      let site = c.args.site.now in
      let catalog = site.scene.now.catalog.now in
      let r = w.respond_over-response in
      let new = r.new.groups.passes in
      let none : move_in c.args.read ≡ None = sym c.move_of.ensures ∙ w.in-None.is in
      let answered = subst (λ (v : List ℕ × List (Pass g.row.S.Denot (Ground g.row.S.Denot))). IsAnsweredOver catalog site.scene.now.nodes site.scene.now.settings c.args.who (outlook_by state (terms_of state) v.0 v.1 c.args.who) (outlook_by state (terms_of state) site.numbers.now.items new.items c.args.who) r.result.bound r.result.answer)
      (λ i. ((c.of.ensures i).items, (c.replace.ensures.value i).items)) r.ensures.answered in
      let on = subst (λ (v : List (Pass g.row.S.Denot (Ground g.row.S.Denot))). GoOn {X = g.row.S.Denot} {C = Ground g.row.S.Denot} v new.items) (ap (λ v. v.items) c.replace.ensures.value) (chain_goes_on (λ d. d.passes.items) _ _ r.ensures.kept.steps) in
      serves_by state catalog site.scene.now.nodes site.scene.now.settings site.numbers.now.items a c.args.hands.now (record { passes = new; benches = c.args.hands.now.benches; retired = c.args.hands.now.retired }) c.args.who r.result is answered
      (subst IsPlain (sym r.ensures.bound) (can_plain catalog c.args.read (can_answer catalog c.args.read c.requires.can none))) r.ensures.retires on
      (λ f e. subst (λ (v : List (Pass g.row.S.Denot (Ground g.row.S.Denot))). Blames {X = g.row.S.Denot} {C = Ground g.row.S.Denot} c.args.who f v new.items) (ap (λ v. v.items) c.replace.ensures.value) (fails_blames (λ d. d.passes.items) _ f _ _ (r.ensures.kept.blamed f e))) refl refl)
]

pub returns-clause-seated : goal.returns-clause-seated
returns-clause-seated g c = elim c.match-move_of.branch [
  | in-Some w ↦
      rw (w.desk-is, w.hands-is) (
      let m = w.move_shard-response in
      let site = c.args.site.now in
      let a : Answered = record { session = c.args.who.session; statement = c.args.who.statement; phase = 0; settings = site.scene.now.settings; bound = m.result.bound; answer = m.result.answer } in
      let o = opening g.S.Store.state site.scene.now.catalog.now site.scene.now.nodes _ _ site.numbers.now.items c.args.who.session c.args.hands.now c.requires.seated site.scene.now.settings in
      let s = m.ensures.serves o a (opens g.S.Store.state site.scene.now.catalog.now site.scene.now.nodes _ _ site.numbers.now.items c.args.who.session c.args.hands.now c.requires.seated site.scene.now.settings) (record { by = refl; bound = m.ensures.bound; answer = refl }) in
      moved_seated g.S.Store.state site.scene.now.catalog.now site.scene.now.nodes _ _ site.numbers.now.items c.args.who.session c.args.hands.now c.requires.seated (record { passes = m.new.desk.passes; benches = m.new.hands.benches; retired = m.new.hands.retired }) m.ensures.hands
      (subst (λ (v : List (Pass g.row.S.Denot (Ground g.row.S.Denot))). PassesGoOn v m.new.desk.passes.items) (ap (λ v. v.items) c.replace.ensures.value) s.goes_on) s.benches)
  | in-None w ↦
      rw (w.desk-is, w.hands-is) (
      let r = w.respond_over-response in
      let on = subst (λ (v : List (Pass g.row.S.Denot (Ground g.row.S.Denot))). GoOn {X = g.row.S.Denot} {C = Ground g.row.S.Denot} v r.new.groups.passes.items) (ap (λ v. v.items) c.replace.ensures.value) (chain_goes_on (λ d. d.passes.items) _ _ r.ensures.kept.steps) in
      still_seated g.S.Store.state _ _ _ _ _ _ _ c.requires.seated (record { passes = r.new.groups.passes; benches = c.args.hands.now.benches; retired = c.args.hands.now.retired }) on refl _ _ r.ensures.kept.still)
]

pub returns-clause-room : goal.returns-clause-room
returns-clause-room g c = elim c.match-move_of.branch [
  | in-Some w ↦ rw w.hands-is w.move_shard-response.ensures.room
  | in-None w ↦ rw w.hands-is (refl, omega arith)
]

pub returns-clause-unsent : goal.returns-clause-unsent
returns-clause-unsent g c = elim c.match-move_of.branch [
  | in-Some w ↦ rw w.hands-is w.move_shard-response.ensures.unsent
  | in-None w ↦ rw w.hands-is (λ other own far none. none)
]
