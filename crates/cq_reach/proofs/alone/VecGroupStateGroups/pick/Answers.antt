use Rattle.std.proofs.Common.{◌∙◌, rules}
use Rattle.std.proofs.Math.ListN.{set}
use Rattle.cq_reach.proofs.Growth.{rest_again}
use Rattle.cq_reach.proofs.Visiting.{within_alone, at_alone, meets_alone, tells_read, tables_told, rows_told, read_go_on, failed_alone}
use Rattle.cq_reach.proofs.alone.VecGroupStateGroups.pick.Goals as goal

pub index_mut-requires : goal.index_mut-requires
index_mut-requires g c = let low = within_alone c.args.self.now.items c.args.group c.requires.within in search rules

pub pick-requires-clause-kept : goal.pick-requires-clause-kept
pick-requires-clause-kept g c =
    let x = c.index_mut.result.now in
    let at = at_alone c.args.self.now.items c.args.group x c.requires.within c.index_mut.ensures.value in
    (c.requires.ready c.args.group x at).kept

pub pick-requires-clause-quiet : goal.pick-requires-clause-quiet
pick-requires-clause-quiet g c =
    let x = c.index_mut.result.now in
    let at = at_alone c.args.self.now.items c.args.group x c.requires.within c.index_mut.ensures.value in
    (c.requires.ready c.args.group x at).quiet

pub pick-requires-clause-there : goal.pick-requires-clause-there
pick-requires-clause-there g c =
    let x = c.index_mut.result.now in
    let at = at_alone c.args.self.now.items c.args.group x c.requires.within c.index_mut.ensures.value in
    (c.requires.there _ (meets_alone c.args.self.now.items c.args.group x at)).there.0

pub pick-requires-clause-near : goal.pick-requires-clause-near
pick-requires-clause-near g c =
    let x = c.index_mut.result.now in
    let at = at_alone c.args.self.now.items c.args.group x c.requires.within c.index_mut.ensures.value in
    λ e. (c.requires.there _ (meets_alone c.args.self.now.items c.args.group x at)).on ((c.requires.ready c.args.group x at).placed ∙ e)

pub returns-clause-ready : goal.returns-clause-ready
returns-clause-ready g c =
    let state = g.S.Store.state in
    let old = c.args.self.now.items in
    let x = c.index_mut.result.now in
    let y = c.pick.new.self in
    let w = c.pick.ensures in
    let at = at_alone c.args.self.now.items c.args.group x c.requires.within c.index_mut.ensures.value in
    rest_again state old (set old c.args.group y) (read_go_on state old c.args.group x y at (c.requires.ready c.args.group x at) c.args.who c.args.near w.goes_on w.kept w.quiet c.pick.result w.entry w.err c.requires.ready)

pub returns-clause-tells : goal.returns-clause-tells
returns-clause-tells g c =
    let state = g.S.Store.state in
    let old = c.args.self.now.items in
    let x = c.index_mut.result.now in
    let y = c.pick.new.self in
    let w = c.pick.ensures in
    let at = at_alone c.args.self.now.items c.args.group x c.requires.within c.index_mut.ensures.value in
    tells_read state old c.args.group x y at (c.requires.ready c.args.group x at) c.args.who c.args.near w.goes_on w.kept w.quiet c.pick.result w.entry w.err _ (rows_told state old c.args.group x y at (c.requires.ready c.args.group x at) c.args.who c.args.near w.goes_on w.kept w.quiet c.args.table c.args.wanted.now c.pick.result w.rows w.blame w.near)

pub returns-clause-goes_on : goal.returns-clause-goes_on
returns-clause-goes_on g c =
    let state = g.S.Store.state in
    let old = c.args.self.now.items in
    let x = c.index_mut.result.now in
    let y = c.pick.new.self in
    let w = c.pick.ensures in
    let at = at_alone c.args.self.now.items c.args.group x c.requires.within c.index_mut.ensures.value in
    read_go_on state old c.args.group x y at (c.requires.ready c.args.group x at) c.args.who c.args.near w.goes_on w.kept w.quiet c.pick.result w.entry w.err c.requires.ready

pub returns-clause-failed : goal.returns-clause-failed
returns-clause-failed g c =
    let state = g.S.Store.state in
    let old = c.args.self.now.items in
    let x = c.index_mut.result.now in
    let y = c.pick.new.self in
    let w = c.pick.ensures in
    let at = at_alone c.args.self.now.items c.args.group x c.requires.within c.index_mut.ensures.value in
    failed_alone state old c.args.group x y at (c.requires.ready c.args.group x at) c.args.who c.args.near w.goes_on w.kept w.quiet c.pick.result w.blame
