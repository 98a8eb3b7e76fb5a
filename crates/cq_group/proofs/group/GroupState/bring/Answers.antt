use Rattle.std.proofs.Common.{IfErr, subst}
use Rattle.cq_journal.specs.Stations.{station_of}
use Rattle.cq_group.specs.Groups.{outlines, entries_of, journal_of}
use Rattle.cq_group.specs.Calls.{GoesOn, Lifted, Blames}
use Rattle.cq_group.specs.Incoming.{arriving}
use Rattle.std.specs.List.{AllZip}
use Rattle.cq_group.proofs.CutoverLaws.{fetched_incoming, stores_fetched}
use Rattle.cq_group.proofs.IncomingLaws.{can_settle, same_arriving, settled_either, arriving_goes_on}
use Rattle.cq_group.proofs.group.GroupState.bring.Goals as goal

pub returns-in_default-clause-stores : goal.returns-in_default-clause-stores
returns-in_default-clause-stores g c = same_arriving g.S.Store.state c.args.incoming.now c.fetch_log.new.incoming c.in_default.ensures.err

pub settle-requires : goal.settle-requires
settle-requires g c =
    let state = g.S.Store.state in
    let group = c.args.self.now in
    let node = (station_of (journal_of group)).target in
    can_settle state node (entries_of group) (outlines group) c.fetch_log.new.incoming
    (fetched_incoming state group node c.args.incoming.now c.fetch_log.new.incoming c.requires.kept c.requires.in_flight c.requires.incoming c.requires.settled c.in-Ok.ensures.ok c.fetch_log.ensures.room)

pub returns-clause-incoming : goal.returns-clause-incoming
returns-clause-incoming g c =
    let state = g.S.Store.state in
    let group = c.args.self.now in
    let node = (station_of (journal_of group)).target in
    c.settle.ensures.incoming node (entries_of group) (outlines group)
    (fetched_incoming state group node c.args.incoming.now c.fetch_log.new.incoming c.requires.kept c.requires.in_flight c.requires.incoming c.requires.settled c.in-Ok.ensures.ok c.fetch_log.ensures.room)

pub returns-clause-stores : goal.returns-clause-stores
returns-clause-stores g c =
    let state = g.S.Store.state in
    let old = c.args.incoming.now in
    let mid = c.fetch_log.new.incoming in
    let new = c.settle.new.self in
    subst (λ xs. AllZip (Lifted state GoesOn) xs (arriving new)) (stores_fetched state _ old mid c.in-Ok.ensures.ok)
    (arriving_goes_on state mid.tables.items new.tables.items (settled_either state c.settle.result mid.tables.items new.tables.items c.settle.ensures.ok c.settle.ensures.err))

pub returns-clause-blame : goal.returns-clause-blame
returns-clause-blame g c =
    let state = g.S.Store.state in
    let old = c.args.incoming.now in
    let mid = c.fetch_log.new.incoming in
    let new = c.settle.new.self in
    subst (λ xs. IfErr c.settle.result (λ e. Blames state e xs (arriving new))) (stores_fetched state _ old mid c.in-Ok.ensures.ok) c.settle.ensures.blame
