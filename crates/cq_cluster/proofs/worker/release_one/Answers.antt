use Rattle.std.proofs.Common.{ap}
use Rattle.cq_store.specs.Stores.{StoreState}
use Rattle.cq_cluster.proofs.SteadyLaws.{as_steady, joined_one}
use Rattle.cq_cluster.proofs.worker.release_one.Goals as goal

pub returns-clause-steady : goal.returns-clause-steady
returns-clause-steady g c node all given =
    let state = g.S.Store.state in
    let is = c.release.ensures.state in
    joined_one state node c.args.worker.now.stores.items c.give.new.self.stores.items c.release.new.self c.give.ensures.stores all
    (as_steady node (state c.args.store) (state c.release.new.self) (ap (λ (s : StoreState). s.node) is) (ap (λ (s : StoreState). s.steady) is) given.0)
