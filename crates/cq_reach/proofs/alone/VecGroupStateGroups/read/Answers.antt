use Rattle.std.proofs.Common.{◌∙◌, rules, Ok, Err}
use Rattle.std.proofs.Math.ListN.{set}
use Rattle.cq_meaning.specs.Values.{Tables}
use Rattle.cq_reach.proofs.Growth.{rest_again}
use Rattle.cq_reach.proofs.Visiting.{within_alone, at_alone, meets_alone, tells_read, tables_told, rows_told, read_go_on, failed_alone}
use Rattle.cq_reach.proofs.alone.VecGroupStateGroups.read.Goals as goal

pub index_mut-requires : goal.index_mut-requires
index_mut-requires g c = let low = within_alone c.args.self.now.items c.args.group c.requires.within in search rules

pub read_wanted-requires-clause-kept : goal.read_wanted-requires-clause-kept
read_wanted-requires-clause-kept g c =
    let x = c.index_mut.result.now in
    let at = at_alone c.args.self.now.items c.args.group x c.requires.within c.index_mut.ensures.value in
    (c.requires.ready c.args.group x at).kept

pub read_wanted-requires-clause-quiet : goal.read_wanted-requires-clause-quiet
read_wanted-requires-clause-quiet g c =
    let x = c.index_mut.result.now in
    let at = at_alone c.args.self.now.items c.args.group x c.requires.within c.index_mut.ensures.value in
    (c.requires.ready c.args.group x at).quiet

pub read_wanted-requires-clause-there : goal.read_wanted-requires-clause-there
read_wanted-requires-clause-there g c =
    let x = c.index_mut.result.now in
    let at = at_alone c.args.self.now.items c.args.group x c.requires.within c.index_mut.ensures.value in
    (c.requires.there _ (meets_alone c.args.self.now.items c.args.group x at)).there

pub read_wanted-requires-clause-near : goal.read_wanted-requires-clause-near
read_wanted-requires-clause-near g c =
    let x = c.index_mut.result.now in
    let at = at_alone c.args.self.now.items c.args.group x c.requires.within c.index_mut.ensures.value in
    λ e. (c.requires.there _ (meets_alone c.args.self.now.items c.args.group x at)).on ((c.requires.ready c.args.group x at).placed ∙ e)

pub returns-in-Ok-clause-ready : goal.returns-in-Ok-clause-ready
returns-in-Ok-clause-ready g c =
    let state = g.S.Store.state in
    let old = c.args.self.now.items in
    let x = c.index_mut.result.now in
    let y = c.read_wanted.new.self in
    let w = c.read_wanted.ensures in
    let at = at_alone c.args.self.now.items c.args.group x c.requires.within c.index_mut.ensures.value in
    rest_again state old (set old c.args.group y) (read_go_on state old c.args.group x y at (c.requires.ready c.args.group x at) c.args.who c.args.near w.goes_on w.kept w.quiet (Ok c.in-Ok.capture.tables) c.in-Ok.ensures.entry tt c.requires.ready)

pub returns-in-Ok-clause-tells : goal.returns-in-Ok-clause-tells
returns-in-Ok-clause-tells g c =
    let state = g.S.Store.state in
    let old = c.args.self.now.items in
    let x = c.index_mut.result.now in
    let y = c.read_wanted.new.self in
    let w = c.read_wanted.ensures in
    let at = at_alone c.args.self.now.items c.args.group x c.requires.within c.index_mut.ensures.value in
    tells_read state old c.args.group x y at (c.requires.ready c.args.group x at) c.args.who c.args.near w.goes_on w.kept w.quiet (Ok c.in-Ok.capture.tables) c.in-Ok.ensures.entry tt _ c.in-Ok.ensures.tables

pub returns-in-Ok-clause-goes_on : goal.returns-in-Ok-clause-goes_on
returns-in-Ok-clause-goes_on g c =
    let state = g.S.Store.state in
    let old = c.args.self.now.items in
    let x = c.index_mut.result.now in
    let y = c.read_wanted.new.self in
    let w = c.read_wanted.ensures in
    let at = at_alone c.args.self.now.items c.args.group x c.requires.within c.index_mut.ensures.value in
    read_go_on state old c.args.group x y at (c.requires.ready c.args.group x at) c.args.who c.args.near w.goes_on w.kept w.quiet (Ok c.in-Ok.capture.tables) c.in-Ok.ensures.entry tt c.requires.ready

pub returns-in-Err-clause-ready : goal.returns-in-Err-clause-ready
returns-in-Err-clause-ready g c =
    let state = g.S.Store.state in
    let old = c.args.self.now.items in
    let x = c.index_mut.result.now in
    let y = c.read_wanted.new.self in
    let w = c.read_wanted.ensures in
    let at = at_alone c.args.self.now.items c.args.group x c.requires.within c.index_mut.ensures.value in
    rest_again state old (set old c.args.group y) (read_go_on state old c.args.group x y at (c.requires.ready c.args.group x at) c.args.who c.args.near w.goes_on w.kept w.quiet {V = Tables} (Err c.in-Err.error) tt c.in-Err.ensures.err c.requires.ready)

pub returns-in-Err-clause-tells : goal.returns-in-Err-clause-tells
returns-in-Err-clause-tells g c =
    let state = g.S.Store.state in
    let old = c.args.self.now.items in
    let x = c.index_mut.result.now in
    let y = c.read_wanted.new.self in
    let w = c.read_wanted.ensures in
    let at = at_alone c.args.self.now.items c.args.group x c.requires.within c.index_mut.ensures.value in
    tells_read state old c.args.group x y at (c.requires.ready c.args.group x at) c.args.who c.args.near w.goes_on w.kept w.quiet {V = Tables} (Err c.in-Err.error) tt c.in-Err.ensures.err _ (tables_told state old c.args.group x y at (c.requires.ready c.args.group x at) c.args.who c.args.near w.goes_on w.kept w.quiet c.args.tables.now c.args.wants.now (Err c.in-Err.error) tt c.in-Err.ensures.blame c.in-Err.ensures.near)

pub returns-in-Err-clause-goes_on : goal.returns-in-Err-clause-goes_on
returns-in-Err-clause-goes_on g c =
    let state = g.S.Store.state in
    let old = c.args.self.now.items in
    let x = c.index_mut.result.now in
    let y = c.read_wanted.new.self in
    let w = c.read_wanted.ensures in
    let at = at_alone c.args.self.now.items c.args.group x c.requires.within c.index_mut.ensures.value in
    read_go_on state old c.args.group x y at (c.requires.ready c.args.group x at) c.args.who c.args.near w.goes_on w.kept w.quiet {V = Tables} (Err c.in-Err.error) tt c.in-Err.ensures.err c.requires.ready

pub returns-in-Err-clause-failed : goal.returns-in-Err-clause-failed
returns-in-Err-clause-failed g c =
    let state = g.S.Store.state in
    let old = c.args.self.now.items in
    let x = c.index_mut.result.now in
    let y = c.read_wanted.new.self in
    let w = c.read_wanted.ensures in
    let at = at_alone c.args.self.now.items c.args.group x c.requires.within c.index_mut.ensures.value in
    failed_alone state old c.args.group x y at (c.requires.ready c.args.group x at) c.args.who c.args.near w.goes_on w.kept w.quiet {V = Tables} (Err c.in-Err.error) c.in-Err.ensures.blame
