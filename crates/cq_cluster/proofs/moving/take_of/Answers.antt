use Rattle.std.proofs.Common.{◌-◌}
use Rattle.std.proofs.Math.ListN.{set}
use Rattle.std.proofs.lemmas.Option.{slice_get_within}
use Rattle.cq_value.proofs.Lists.{if_ok}
use Rattle.cq_store.specs.declared.worker.Worker.{Worker}
use Rattle.cq_cluster.specs.Steady.{ArePartedSteady, AreSteady, AreTakenSteady}
use Rattle.cq_cluster.proofs.SteadyLaws.{all_read, all_set}
use Rattle.cq_cluster.proofs.moving.take_of.Goals as goal

pub returns-clause-steady : goal.returns-clause-steady
returns-clause-steady g c =
    let state = g.S.Store.state in
    let workers = c.args.workers.now.items in
    let place = c.args.node - 1 in
    let w = c.index_mut.result.now in
    let can = c.requires in
    let within = slice_get_within workers place can.0 can.1.there in
    if_ok c.take_spare.result (λ t. ArePartedSteady state w.stores.items t.items c.take_spare.new.worker.stores.items) (λ t. AreTakenSteady state workers t.items (set workers place c.take_spare.new.worker))
    (λ t parts node all.
    let Q : Worker g.row.S.Denot → Type 0 = λ v. AreSteady state node v.stores.items in
    let both = parts node (all_read Q workers place w all within c.index_mut.ensures.value) in
    (both.0, all_set Q workers place c.take_spare.new.worker all both.1))
    c.take_spare.ensures.steady
