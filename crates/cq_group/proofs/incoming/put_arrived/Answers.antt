use Rattle.std.proofs.Common.{◌≡◌, ◌∙◌, ◌+◌, ◌≤◌, List, length, take, sym, ap, subst, length-append, arith}
use Rattle.std.specs.List.{flat_map}
use Rattle.std.proofs.lemmas.List.Folds.{length-flat_map-take}
use Rattle.std.proofs.lemmas.Iterator.Adapters.{YieldsList-from_vec}
use Rattle.std.proofs.lemmas.Iterator.Consumers.{YieldsList-turn, YieldsList-so_far}
use Rattle.cq_group.specs.declared.incoming.IncomingTable.{IncomingTable}
use Rattle.cq_group.proofs.Zips.{map_same}
use Rattle.cq_group.proofs.incoming.put_arrived.Goals as goal

pub put_stores-requires : goal.put_stores-requires
put_stores-requires g c =
    let f : IncomingTable _ → List _ = λ t. t.stores.items in
    let gives = c.into_iter-table-iterator.ensures.into_iter_gives in
    let all = c.args.tables.items in
    let some = c.loop-table.yielded in
    let table = c.in-Some.table in
    let e = YieldsList-from_vec {s = c.into_iter-table-iterator.result} all gives.0 (gives.1 ∙ c.args.tables.ok.0) in
    let t = YieldsList-turn e some c.loop-table.table-iterator c.loop-table.yielded_by c.next.result c.next.new.self table c.in-Some.is c.next.ensures.steps in
    let p = map_same some ∙ YieldsList-so_far e some c.loop-table.table-iterator c.loop-table.yielded_by in
    let low : length (flat_map f some) + length (f table) ≤ length (flat_map f all) =
    subst (λ ts. length (flat_map f ts) + length (f table) ≤ length (flat_map f all)) (sym p)
    (subst (λ u. length (flat_map f (take (length some) all)) + length (f u) ≤ length (flat_map f all)) (sym t.1) (length-flat_map-take f all (length some) table t.0)) in
    let long : length c.loop-table.room.items ≡ length c.args.room.now.items + length (flat_map f some) =
    ap length c.loop-table.invariant.0 ∙ length-append c.args.room.now.items (flat_map f some) in
    omega (arith, low, long, c.loop-table.invariant.1, c.loop-table.room.ok.0, c.args.room.now.ok.0, c.requires)
