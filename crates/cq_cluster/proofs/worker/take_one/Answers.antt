use Rattle.std.proofs.Common.{List, [], ◌∷◌, subst}
use Rattle.cq_cluster.specs.Steady.{AreSteady}
use Rattle.cq_cluster.proofs.SteadyLaws.{steady_behind}
use Rattle.cq_cluster.proofs.worker.take_one.Goals as goal

pub returns-clause-steady : goal.returns-clause-steady
returns-clause-steady g c node all =
    let state = g.S.Store.state in
    let both = c.in_ok-stores.ensures.steady node all in
    (steady_behind state node c.pop.new.self.items (c.in-Some.store ∷ []) (subst (λ (xs : List g.row.S.Denot). AreSteady state node xs) c.in-Some.ensures.items both.0), both.1)
