use Rattle.std.proofs.Common.{sym, subst, length}
use Rattle.cq_answer.specs.declared.fault.Fault.{Fault}
use Rattle.cq_cluster.specs.Moving.{CanRetire}
use Rattle.cq_block_move.proofs.Giving.{owes_fewer, none_retired}
use Rattle.cq_block_move.proofs.mover.give_up.Goals as goal

pub give-requires-clause-owed : goal.give-requires-clause-owed
give-requires-clause-owed g c = owes_fewer c.args.to (length c.args.failed.stores.items) (length c.retire_by.new.stores.items) c.args.benches.now.passes.items c.retire_by.ensures.fewer c.requires.owed

pub give-requires-clause-steady : goal.give-requires-clause-steady
give-requires-clause-steady g c k is = c.retire_by.ensures.left k (c.requires.steady k is)

pub returns-clause-gives : goal.returns-clause-gives
returns-clause-gives g c =
    let lost = c.retire_by.ensures.lost in
    record { given = length c.retire_by.new.stores.items; lost = lost.0; all = lost.1; sends = c.give.ensures.sends; loses = lost.2 }

pub returns-clause-spared : goal.returns-clause-spared
returns-clause-spared g c k is at =
    let state = g.S.Store.state in
    let can = subst (λ (f : Fault). CanRetire state c.args.to c.args.failed.stores.items f) (sym c.fault_of-fault.ensures) c.requires.retire in
    none_retired state c.args.to c.fault_of-fault.result c.args.failed.stores.items can c.requires.on k (c.requires.steady k is) at
