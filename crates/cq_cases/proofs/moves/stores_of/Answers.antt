use Rattle.std.proofs.Common.{All, [], ◌∷◌, ◌++◌}
use Rattle.std.proofs.lemmas.List.Elements.{All-push}
use Rattle.cq_store.specs.Faults.{held}
use Rattle.cq_cluster.specs.Cluster.{IsWaiting}
use Rattle.cq_cases.proofs.moves.stores_of.Goals as goal

pub loop-place-preserved : goal.loop-place-preserved
loop-place-preserved c =
    let all : All (λ s. IsWaiting c.args.node (held s)) (c.loop-place.stores.items ++ c.in_ok-store_of.field-0 ∷ []) =
    All-push (λ s. IsWaiting c.args.node (held s)) c.loop-place.stores.items c.in_ok-store_of.field-0 c.loop-place.invariant c.in_ok-store_of.ensures in
    rw c.in_ok-push.ensures.items all
