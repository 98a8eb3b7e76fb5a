use Rattle.std.proofs.Common.{◌≡◌, ◌∙◌, ◌<◌, [], ◌∷◌, ◌++◌, length, get_or, option_to_list, vec_capacity, refl, sym, ap, subst, rules, arith}
use Rattle.cq_store.specs.Stores.{IsSpare}
use Rattle.cq_group.specs.declared.incoming.IncomingTable.{IncomingTable}
use Rattle.cq_group.specs.Incoming.{IsFilled}
use Rattle.cq_group.proofs.StartLaws.{filling_none, next_table, next_is, next_within, filling_more, next_holds, next_store}
use Rattle.cq_group.proofs.start.fill.Goals as goal

pub loop-store-init : goal.loop-store-init
loop-store-init g c = record { filling = filling_none g.S.Store.state c.args.stores.items c.args.tables.now.items c.requires.one; room = omega (arith, c.args.stores.ok.0, c.args.stores.ok.1) }

pub index_mut-table-requires : goal.index_mut-table-requires
index_mut-table-requires g c =
    let state = g.S.Store.state in
    let e = c.pop.ensures.items ∙ ap (λ o. c.pop.new.self.items ++ option_to_list o) c.in-Some.is in
    let h = next_table state c.args.stores.items c.args.tables.now.items c.loop-store.stores.items c.pop.new.self.items c.in-Some.store c.loop-store.tables.items c.loop-store.invariant.filling e in
    let low = next_within state c.args.stores.items c.args.tables.now.items c.pop.new.self.items c.in-Some.store c.loop-store.tables.items h in
    omega (arith, low, c.len.ensures, c.pop.new.self.ok.0)

pub adopt-requires-clause-spare : goal.adopt-requires-clause-spare
adopt-requires-clause-spare g c =
    let state = g.S.Store.state in
    let e = c.pop.ensures.items ∙ ap (λ o. c.pop.new.self.items ++ option_to_list o) c.in-Some.is in
    let h = next_table state c.args.stores.items c.args.tables.now.items c.loop-store.stores.items c.pop.new.self.items c.in-Some.store c.loop-store.tables.items c.loop-store.invariant.filling e in
    next_store state (λ x. IsSpare (state x)) c.args.stores.items c.args.tables.now.items c.pop.new.self.items c.in-Some.store c.loop-store.tables.items h c.requires.stores

pub loop-store-preserved : goal.loop-store-preserved
loop-store-preserved g c =
    let state = g.S.Store.state in
    let e = c.pop.ensures.items ∙ ap (λ o. c.pop.new.self.items ++ option_to_list o) c.in-Some.is in
    let h = next_table state c.args.stores.items c.args.tables.now.items c.loop-store.stores.items c.pop.new.self.items c.in-Some.store c.loop-store.tables.items c.loop-store.invariant.filling e in
    let t : IncomingTable _ = c.index_mut-table.result.now in
    let is : t ≡ get_or c.loop-store.tables.items c.len.result t = search rules in
    let n : c.len.result ≡ length c.pop.new.self.items = omega (arith, c.len.ensures, c.pop.new.self.ok.0) in
    let same : t ≡ h.table = is ∙ next_is state c.args.stores.items c.args.tables.now.items c.pop.new.self.items c.in-Some.store c.loop-store.tables.items c.len.result t h n in
    let empty : t.stores.items ≡ [] = subst (λ (u : IncomingTable _). u.stores.items ≡ []) (sym same)
    (next_holds state (λ u. (u.stores.items ≡ []) × (0 < vec_capacity u.stores) × (0 < u.shard)) c.args.stores.items c.args.tables.now.items c.pop.new.self.items c.in-Some.store c.loop-store.tables.items h c.requires.tables).0 in
    record {
      filling = filling_more state c.args.stores.items c.args.tables.now.items c.pop.new.self.items c.in-Some.store c.loop-store.tables.items c.len.result _ h n
          (subst (λ u. IsFilled state c.in-Some.store u (record t { stores = c.push_reserved.new.self })) same (record {
            store = c.adopt.new.self;
            table = refl;
            shard = refl;
            pending = refl;
            stores = c.push_reserved.ensures.items ∙ ap (λ xs. xs ++ c.adopt.new.self ∷ []) empty;
            adopted = c.adopt.ensures;
          }));
      room = omega (arith, c.loop-store.invariant.room, c.pop.ensures.capacity);
    }
