use Rattle.std.proofs.Common.{◌∙◌, ◌++◌, ◌∷◌, [], ◌+◌, ◌≤◌, ap, length, vec_capacity, rules, refl, arith}
use Rattle.cq_group.specs.declared.group.GroupState.{GroupState}
use Rattle.cq_group.specs.declared.group.GroupTable.{GroupTable}
use Rattle.cq_group.specs.Groups.{stores_of}
use Rattle.cq_group.proofs.AddLaws.{added, quiet_added, first_shard_at}
use Rattle.cq_group.proofs.group.GroupState.add_table.Goals as goal

pub returns-clause-kept : goal.returns-clause-kept
returns-clause-kept g c =
    let state = g.S.Store.state in
    let group = c.args.self.now in
    let v : GroupTable _ = record { table = c.args.table; shape = c.in-Ok.shape; shard = c.shard-shard.result; next = 0; stores = c.args.stores } in
    let shard = c.shard-shard.ensures ∙ first_shard_at state c.args.stores.items c.index.result.now c.requires.fresh.adopted c.index.ensures in
    let journal = ap (λ (x : GroupState _). x.journal) c.make_room.ensures.rest in
    let moving = ap (λ (x : GroupState _). x.moving) c.make_room.ensures.rest in
    let tables = c.push_reserved.ensures.items ∙ ap (λ ts. ts ++ v ∷ []) c.make_room.ensures.tables in
    let grown : vec_capacity group.room + c.len.result ≤ vec_capacity c.make_room.new.self.room = search rules in
    let room : length (stores_of group) + length c.args.stores.items ≤ vec_capacity c.make_room.new.self.room = omega (arith, grown, c.requires.kept.room, c.len.ensures, c.args.stores.ok.0) in
    added state group _ v c.requires.kept c.requires.new c.requires.fresh shard refl (ap (λ (x : GroupState _). x.node) c.make_room.ensures.rest) (ap (λ (x : GroupState _). x.nodes) c.make_room.ensures.rest)
    journal moving tables room c.make_room.ensures.unused

pub returns-clause-quiet : goal.returns-clause-quiet
returns-clause-quiet g c =
    let v : GroupTable _ = record { table = c.args.table; shape = c.in-Ok.shape; shard = c.shard-shard.result; next = 0; stores = c.args.stores } in
    quiet_added g.S.Store.state c.args.self.now c.push_reserved.new.self.items v c.requires.fresh (c.push_reserved.ensures.items ∙ ap (λ ts. ts ++ v ∷ []) c.make_room.ensures.tables)
