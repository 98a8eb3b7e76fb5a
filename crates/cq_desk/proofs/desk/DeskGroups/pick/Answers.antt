use Rattle.cq_shared.specs.Reads.{read_notes}
use Rattle.cq_reach.specs.Seen.{seen_of}
use Rattle.cq_reach.specs.Reads.{read_kinds, TellsRows}
use Rattle.cq_desk.proofs.Meeting.{at_cell, turned, taken, read_entries, read_quiet, meets, tells, noted, goes_on, again}
use Rattle.cq_desk.proofs.desk.DeskGroups.pick.Goals as goal

pub pick_group-requires-clause-at : goal.pick_group-requires-clause-at
pick_group-requires-clause-at g c =
    let passes = c.args.self.now.passes.items in
    let p = c.index_mut.result.now in
    let there = taken passes c.args.group p c.requires.within c.index_mut.ensures.value in
    at_cell _ c.args.self.now.cells.now passes c.args.group c.index-self-place.result p c.requires.ready.at there c.index-self-place.is

pub pick_group-requires-clause-rests : goal.pick_group-requires-clause-rests
pick_group-requires-clause-rests g c =
    let passes = c.args.self.now.passes.items in
    let p = c.index_mut.result.now in
    let there = taken passes c.args.group p c.requires.within c.index_mut.ensures.value in
    (c.requires.ready.own c.args.group p there).rests

pub pick_group-requires-clause-own : goal.pick_group-requires-clause-own
pick_group-requires-clause-own g c =
    let passes = c.args.self.now.passes.items in
    let p = c.index_mut.result.now in
    let there = taken passes c.args.group p c.requires.within c.index_mut.ensures.value in
    (c.requires.ready.own c.args.group p there).numbered

pub pick_group-requires-clause-there : goal.pick_group-requires-clause-there
pick_group-requires-clause-there g c =
    let passes = c.args.self.now.passes.items in
    let p = c.index_mut.result.now in
    let there = taken passes c.args.group p c.requires.within c.index_mut.ensures.value in
    λ x f. c.requires.there (seen_of x.group) (meets g.S.Store.state g.L.Legality.terms _ c.args.self.now.sessions.value.items passes c.args.who c.args.group p c.requires.ready there x f)

pub returns-clause-ready : goal.returns-clause-ready
returns-clause-ready g c =
    let passes = c.args.self.now.passes.items in
    let p = c.index_mut.result.now in
    let there = taken passes c.args.group p c.requires.within c.index_mut.ensures.value in
    again g.S.Store.state g.L.Legality.terms _ c.args.self.now.sessions.value.items passes c.args.who c.args.group p c.requires.ready there (turned p c.pick_group.new.pass) c.pick_group.ensures.looks.same c.pick_group.ensures.rests c.pick_group.ensures.looks.stood

pub returns-clause-tells : goal.returns-clause-tells
returns-clause-tells g c =
    let passes = c.args.self.now.passes.items in
    let p = c.index_mut.result.now in
    let there = taken passes c.args.group p c.requires.within c.index_mut.ensures.value in
    tells g.S.Store.state g.L.Legality.terms _ c.args.self.now.sessions.value.items passes c.args.who c.args.group p c.requires.ready there (turned p c.pick_group.new.pass) (read_notes c.args.who c.pick_group.result) (read_kinds c.pick_group.result) (TellsRows c.args.table c.args.wanted.now c.args.near c.pick_group.result) (read_entries c.args.who c.pick_group.result) c.pick_group.ensures.looks

pub returns-clause-failed : goal.returns-clause-failed
returns-clause-failed g c =
    let passes = c.args.self.now.passes.items in
    let p = c.index_mut.result.now in
    let there = taken passes c.args.group p c.requires.within c.index_mut.ensures.value in
    noted g.S.Store.state g.L.Legality.terms _ c.args.self.now.sessions.value.items passes c.args.who c.args.group p c.requires.ready there (turned p c.pick_group.new.pass) c.pick_group.result (TellsRows c.args.table c.args.wanted.now c.args.near c.pick_group.result) c.pick_group.ensures.looks

pub returns-clause-goes_on : goal.returns-clause-goes_on
returns-clause-goes_on g c =
    let passes = c.args.self.now.passes.items in
    let p = c.index_mut.result.now in
    let there = taken passes c.args.group p c.requires.within c.index_mut.ensures.value in
    goes_on g.S.Store.state g.L.Legality.terms _ c.args.self.now.sessions.value.items passes c.args.who c.args.group p c.requires.ready there (turned p c.pick_group.new.pass)
    (record { same = c.pick_group.ensures.looks.same; notes = read_notes c.args.who c.pick_group.result; mine = c.pick_group.ensures.looks.mine; quiet = read_quiet c.args.who c.pick_group.result })
