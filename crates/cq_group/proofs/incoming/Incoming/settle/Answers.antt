use Rattle.std.proofs.Common.{rules}
use Rattle.std.specs.List.{AllByRecursion}
use Rattle.cq_group.specs.declared.incoming.IncomingTable.{IncomingTable}
use Rattle.cq_group.specs.Calls.{Takes}
use Rattle.cq_group.specs.Incoming.{IsSettledTable}
use Rattle.cq_group.proofs.Through.{through_more}
use Rattle.cq_group.proofs.IncomingLaws.{half_settled, settled_incoming, all_settled, through_next, blames_arriving, through_end}
use Rattle.cq_group.proofs.incoming.Incoming.settle.Goals as goal

pub settle-requires : goal.settle-requires
settle-requires g c =
    let state = g.S.Store.state in
    through_next (IsSettledTable state) (λ (t : IncomingTable _). AllByRecursion (λ x. Takes t.pending (state x)) t.stores.items) c.loop-place.place c.args.self.now.tables.items c.loop-place.self.tables.items c.index_mut.result.now
    c.loop-place.invariant.through (search rules) (search rules) c.requires

pub returns-in_err-settle-clause-err : goal.returns-in_err-settle-clause-err
returns-in_err-settle-clause-err g c =
    let half = half_settled g.S.Store.state c.loop-place.place c.args.self.now.tables.items c.loop-place.self.tables.items c.index_mut.result.now c.settle.new.self
    c.loop-place.invariant.through (search rules) (search rules) c.in_err-settle.ensures.err in
    search rules

pub returns-in_err-settle-clause-blame : goal.returns-in_err-settle-clause-blame
returns-in_err-settle-clause-blame g c =
    let blamed = blames_arriving g.S.Store.state c.in_err-settle.field-0.0 c.loop-place.place c.args.self.now.tables.items c.loop-place.self.tables.items c.index_mut.result.now c.settle.new.self
    c.loop-place.invariant.through (search rules) (search rules) c.in_err-settle.ensures.err c.in_err-settle.ensures.blame in
    search rules

pub loop-place-preserved : goal.loop-place-preserved
loop-place-preserved g c = record {
  through = through_more (IsSettledTable g.S.Store.state) c.loop-place.place _ c.loop-place.self.tables.items c.index_mut.result.now c.settle.new.self
      c.loop-place.invariant.through (search rules) (search rules) c.in_ok-settle.ensures.ok;
  due = c.loop-place.invariant.due;
  room = c.loop-place.invariant.room;
}

pub returns-clause-ok : goal.returns-clause-ok
returns-clause-ok g c = through_end (IsSettledTable g.S.Store.state) c.loop-place.place _ c.loop-place.self.tables.items c.loop-place.invariant.through (search rules)

pub returns-clause-settled : goal.returns-clause-settled
returns-clause-settled g c =
    all_settled g.S.Store.state c.args.self.now.tables.items c.loop-place.self.tables.items
    (through_end (IsSettledTable g.S.Store.state) c.loop-place.place _ c.loop-place.self.tables.items c.loop-place.invariant.through (search rules))

pub returns-clause-incoming : goal.returns-clause-incoming
returns-clause-incoming g c = λ node entries os.
    settled_incoming g.S.Store.state node entries os c.args.self.now _
    (through_end (IsSettledTable g.S.Store.state) c.loop-place.place _ c.loop-place.self.tables.items c.loop-place.invariant.through (search rules)) c.loop-place.invariant.room
