use Rattle.cq_shared.specs.Reads.{read_notes}
use Rattle.cq_reach.specs.Seen.{seen_of}
use Rattle.cq_reach.specs.Reads.{read_kinds, TellsTables}
use Rattle.cq_desk.proofs.Meeting.{at_cell, turned, taken, read_entries, read_quiet, meets, tells, noted, goes_on, again}
use Rattle.cq_desk.proofs.desk.DeskGroups.read.Goals as goal

pub read_group-requires-clause-at : goal.read_group-requires-clause-at
read_group-requires-clause-at g c =
    let passes = c.args.self.now.passes.items in
    let p = c.index_mut.result.now in
    let there = taken passes c.args.group p c.requires.within c.index_mut.ensures.value in
    at_cell _ c.args.self.now.cells.now passes c.args.group c.index-self-place.result p c.requires.ready.at there c.index-self-place.is

pub read_group-requires-clause-rests : goal.read_group-requires-clause-rests
read_group-requires-clause-rests g c =
    let passes = c.args.self.now.passes.items in
    let p = c.index_mut.result.now in
    let there = taken passes c.args.group p c.requires.within c.index_mut.ensures.value in
    (c.requires.ready.own c.args.group p there).rests

pub read_group-requires-clause-own : goal.read_group-requires-clause-own
read_group-requires-clause-own g c =
    let passes = c.args.self.now.passes.items in
    let p = c.index_mut.result.now in
    let there = taken passes c.args.group p c.requires.within c.index_mut.ensures.value in
    (c.requires.ready.own c.args.group p there).numbered

pub read_group-requires-clause-there : goal.read_group-requires-clause-there
read_group-requires-clause-there g c =
    let passes = c.args.self.now.passes.items in
    let p = c.index_mut.result.now in
    let there = taken passes c.args.group p c.requires.within c.index_mut.ensures.value in
    λ x f. c.requires.there (seen_of x.group) (meets g.S.Store.state g.L.Legality.terms _ c.args.self.now.sessions.value.items passes c.args.who c.args.group p c.requires.ready there x f)

pub returns-clause-ready : goal.returns-clause-ready
returns-clause-ready g c =
    let passes = c.args.self.now.passes.items in
    let p = c.index_mut.result.now in
    let there = taken passes c.args.group p c.requires.within c.index_mut.ensures.value in
    again g.S.Store.state g.L.Legality.terms _ c.args.self.now.sessions.value.items passes c.args.who c.args.group p c.requires.ready there (turned p c.read_group.new.pass) c.read_group.ensures.looks.same c.read_group.ensures.rests c.read_group.ensures.looks.stood

pub returns-clause-tells : goal.returns-clause-tells
returns-clause-tells g c =
    let passes = c.args.self.now.passes.items in
    let p = c.index_mut.result.now in
    let there = taken passes c.args.group p c.requires.within c.index_mut.ensures.value in
    tells g.S.Store.state g.L.Legality.terms _ c.args.self.now.sessions.value.items passes c.args.who c.args.group p c.requires.ready there (turned p c.read_group.new.pass) (read_notes c.args.who c.read_group.result) (read_kinds c.read_group.result) (TellsTables c.args.tables.now c.args.wants.now c.args.near c.read_group.result) (read_entries c.args.who c.read_group.result) c.read_group.ensures.looks

pub returns-clause-failed : goal.returns-clause-failed
returns-clause-failed g c =
    let passes = c.args.self.now.passes.items in
    let p = c.index_mut.result.now in
    let there = taken passes c.args.group p c.requires.within c.index_mut.ensures.value in
    noted g.S.Store.state g.L.Legality.terms _ c.args.self.now.sessions.value.items passes c.args.who c.args.group p c.requires.ready there (turned p c.read_group.new.pass) c.read_group.result (TellsTables c.args.tables.now c.args.wants.now c.args.near c.read_group.result) c.read_group.ensures.looks

pub returns-clause-goes_on : goal.returns-clause-goes_on
returns-clause-goes_on g c =
    let passes = c.args.self.now.passes.items in
    let p = c.index_mut.result.now in
    let there = taken passes c.args.group p c.requires.within c.index_mut.ensures.value in
    goes_on g.S.Store.state g.L.Legality.terms _ c.args.self.now.sessions.value.items passes c.args.who c.args.group p c.requires.ready there (turned p c.read_group.new.pass)
    (record { same = c.read_group.ensures.looks.same; notes = read_notes c.args.who c.read_group.result; mine = c.read_group.ensures.looks.mine; quiet = read_quiet c.args.who c.read_group.result })
