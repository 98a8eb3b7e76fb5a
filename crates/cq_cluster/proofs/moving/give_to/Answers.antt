use Rattle.std.proofs.Common.{◌-◌}
use Rattle.std.proofs.lemmas.Option.{slice_get_within}
use Rattle.cq_store.specs.declared.worker.Worker.{Worker}
use Rattle.cq_cluster.specs.Steady.{AreSteady}
use Rattle.cq_cluster.proofs.SteadyLaws.{all_read, all_set}
use Rattle.cq_cluster.proofs.moving.give_to.Goals as goal

pub returns-clause-steady : goal.returns-clause-steady
returns-clause-steady g c node all given =
    let state = g.S.Store.state in
    let workers = c.args.workers.now.items in
    let place = c.args.node - 1 in
    let can = c.requires.room in
    let within = slice_get_within workers place can.0 can.1.there in
    let Q : Worker g.row.S.Denot → Type 0 = λ v. AreSteady state node v.stores.items in
    all_set Q workers place c.release_all.new.worker all (c.release_all.ensures.steady node (all_read Q workers place c.index_mut.result.now all within c.index_mut.ensures.value) given)
