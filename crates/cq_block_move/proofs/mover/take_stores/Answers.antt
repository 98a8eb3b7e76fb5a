use Rattle.std.proofs.Common.{◌-◌, [], ◌∷◌, ◌++◌, subst, Err, Global}
use Rattle.cq_shared.specs.declared.errand.Errand.TheVariants as errand
use Rattle.cq_move_laws.specs.Notes.{at_node}
use Rattle.cq_block_move.proofs.Taking.{Takes, may_give_back, gave_back, only_took, steady_before, there_still, took_few, took_stores}
use Rattle.cq_block_move.proofs.mover.take_stores.Goals as goal

pub give-requires-clause-there : goal.give-requires-clause-there
give-requires-clause-there g c =
    let r = c.requires in
    let who = c.args.order.who in
    let to = c.args.order.to in
    let old = c.args.benches.now.passes.items in
    let mid = c.take.new.self.passes.items in
    let new = c.make_room.new.benches.passes.items in
    let makes = c.in-Err.ensures.makes in
    let sends = only_took g.S.Store.state g.L.Legality.terms _ _ who to c.args.count old mid r.ready r.there c.in-Ok.stores c.in-Ok.ensures.sends c.args.nodes c.args.order.from c.in-Err.field-0 new makes in
    there_still (λ at. at_node to (errand.Took who c.args.count ∷ []) at ++ at_node makes.room [] at) old new sends to r.there

pub give-requires-clause-owed : goal.give-requires-clause-owed
give-requires-clause-owed g c =
    let r = c.requires in
    may_give_back g.S.Store.state g.L.Legality.terms _ _ c.args.order.who c.args.order.to c.args.count c.args.benches.now.passes.items c.take.new.self.passes.items r.ready r.there c.in-Ok.stores c.in-Ok.ensures.sends c.args.nodes c.args.order.from c.in-Err.field-0 c.make_room.new.benches.passes.items c.in-Err.ensures.makes

pub give-requires-clause-steady : goal.give-requires-clause-steady
give-requires-clause-steady g c k is =
    let r = c.requires in
    let who = c.args.order.who in
    let to = c.args.order.to in
    let old = c.args.benches.now.passes.items in
    let mid = c.take.new.self.passes.items in
    let new = c.make_room.new.benches.passes.items in
    let makes = c.in-Err.ensures.makes in
    let sends = only_took g.S.Store.state g.L.Legality.terms _ _ who to c.args.count old mid r.ready r.there c.in-Ok.stores c.in-Ok.ensures.sends c.args.nodes c.args.order.from c.in-Err.field-0 new makes in
    c.in-Ok.ensures.steady k (steady_before (λ at. at_node to (errand.Took who c.args.count ∷ []) at ++ at_node makes.room [] at) old new sends g.L.Legality.terms to k is)

pub returns-in-Ok-make_room-clause-taken : goal.returns-in-Ok-make_room-clause-taken
returns-in-Ok-make_room-clause-taken g c =
    let r = c.requires in
    took_stores g.S.Store.state g.L.Legality.terms _ _ c.args.order.who c.args.order.to c.args.count c.args.benches.now.passes.items c.take.new.self.passes.items r.ready r.there c.in-Ok.stores c.in-Ok.ensures.sends c.args.nodes c.args.order.from c.in-Ok-make_room.field-0 c.make_room.new.benches.passes.items
    (λ q e. (c.take.ensures.ready.own (c.args.order.to - 1) q e).kept) c.in-Ok-make_room.ensures.makes c.in-Ok.ensures.steady

pub returns-in-Err-clause-none : goal.returns-in-Err-clause-none
returns-in-Err-clause-none g c =
    let r = c.requires in
    gave_back g.S.Store.state g.L.Legality.terms _ _ c.args.order.who c.args.order.to c.args.count c.args.benches.now.passes.items c.take.new.self.passes.items r.ready r.there c.in-Ok.stores c.in-Ok.ensures.sends c.args.nodes c.args.order.from c.in-Err.field-0 c.make_room.new.benches.passes.items c.in-Err.ensures.makes
    c.give.new.self.passes.items c.give.ensures.sends

pub returns-in-Err-NoRoom-clause-none : goal.returns-in-Err-NoRoom-clause-none
returns-in-Err-NoRoom-clause-none g c =
    let r = c.requires in
    took_few g.S.Store.state g.L.Legality.terms _ _ c.args.order.who c.args.order.to c.args.count c.args.benches.now.passes.items c.take.new.self.passes.items r.ready r.there Global c.in-Err-NoRoom.free c.in-Err-NoRoom.needed (λ q e. (c.take.ensures.ready.own (c.args.order.to - 1) q e).kept)
    (subst (λ e. Takes {Z = Global} g.S.Store.state c.args.order.who c.args.order.to c.args.count c.args.benches.now.passes.items c.take.new.self.passes.items (Err e)) c.in-Err-NoRoom.field-0-is c.in-Err-NoRoom.ensures.sends)
