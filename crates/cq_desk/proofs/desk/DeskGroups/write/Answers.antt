use Rattle.std.proofs.Common.{◌∙◌, length, sym, ap, subst}
use Rattle.cq_shared.specs.Writes.{AreOpen, IsAnswered}
use Rattle.cq_desk.proofs.Written.{all_open, few_open, ready_back, goes_back, lost_back, written_back}
use Rattle.cq_desk.proofs.desk.DeskGroups.write.Goals as goal

pub write_groups-requires-clause-few : goal.write_groups-requires-clause-few
write_groups-requires-clause-few g c =
    let d = c.args.self.now in
    few_open g.S.Store.state g.L.Legality.terms _ d.sessions.value.items c.args.who d.passes.items c.requires.ready c.args.parts c.requires.ascending c.requires.takes c.requires.few

pub write_groups-requires-clause-open : goal.write_groups-requires-clause-open
write_groups-requires-clause-open g c =
    let d = c.args.self.now in
    subst (λ passes. AreOpen g.S.Store.state g.L.Legality.terms c.args.who.session passes c.args.parts) (sym c.deref_mut.ensures.value)
    (all_open g.S.Store.state g.L.Legality.terms _ d.sessions.value.items c.args.who d.passes.items c.requires.ready c.args.parts c.requires.takes)

pub returns-clause-ready : goal.returns-clause-ready
returns-clause-ready g c =
    let d = c.args.self.now in
    let w = subst (λ passes. IsAnswered g.S.Store.state g.L.Legality.terms c.args.who passes c.write_groups.new.passes c.args.parts c.write_groups.result) c.deref_mut.ensures.value c.write_groups.ensures in
    ready_back g.S.Store.state g.L.Legality.terms _ d.sessions.value.items c.args.who d.passes.items c.requires.ready c.write_groups.new.passes d.passes.len (ap (λ passes. length passes) (sym c.deref_mut.ensures.value) ∙ c.deref_mut.ensures.len) c.args.parts c.write_groups.result w

pub returns-clause-written : goal.returns-clause-written
returns-clause-written g c =
    let d = c.args.self.now in
    let w = subst (λ passes. IsAnswered g.S.Store.state g.L.Legality.terms c.args.who passes c.write_groups.new.passes c.args.parts c.write_groups.result) c.deref_mut.ensures.value c.write_groups.ensures in
    written_back g.S.Store.state g.L.Legality.terms _ d.sessions.value.items c.args.who d.passes.items c.requires.ready c.write_groups.new.passes d.passes.len (ap (λ passes. length passes) (sym c.deref_mut.ensures.value) ∙ c.deref_mut.ensures.len) c.args.parts c.write_groups.result w c.requires.ascending

pub returns-clause-failed : goal.returns-clause-failed
returns-clause-failed g c =
    let d = c.args.self.now in
    let w = subst (λ passes. IsAnswered g.S.Store.state g.L.Legality.terms c.args.who passes c.write_groups.new.passes c.args.parts c.write_groups.result) c.deref_mut.ensures.value c.write_groups.ensures in
    lost_back g.S.Store.state g.L.Legality.terms _ d.sessions.value.items c.args.who d.passes.items c.requires.ready c.write_groups.new.passes d.passes.len (ap (λ passes. length passes) (sym c.deref_mut.ensures.value) ∙ c.deref_mut.ensures.len) c.args.parts c.write_groups.result w

pub returns-clause-goes_on : goal.returns-clause-goes_on
returns-clause-goes_on g c =
    let d = c.args.self.now in
    let w = subst (λ passes. IsAnswered g.S.Store.state g.L.Legality.terms c.args.who passes c.write_groups.new.passes c.args.parts c.write_groups.result) c.deref_mut.ensures.value c.write_groups.ensures in
    goes_back g.S.Store.state g.L.Legality.terms _ d.sessions.value.items c.args.who d.passes.items c.requires.ready c.write_groups.new.passes d.passes.len (ap (λ passes. length passes) (sym c.deref_mut.ensures.value) ∙ c.deref_mut.ensures.len) c.args.parts c.write_groups.result w
