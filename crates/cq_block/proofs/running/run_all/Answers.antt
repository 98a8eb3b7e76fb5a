use denote.Exit.{no}
use denote.Param.{param}
use denote.Param.Send.{IsSend, IsSync, arg_send, arg_sync, param_send, param_sync, recorded_sync, sendable, shr_sync, struct_sync}
use denote.Param.SendFields.{declared_sync}
use denote.RattleType.{RattleType}
use denote.Ref.{NamedLft}
use Rattle.std.proofs.Common.{map, sym, subst}
use Rattle.std.proofs.Crossing.{crosses, send as heap_send, sync as heap_sync}
use Rattle.std.specs.contracts.alloc.Global as Heap
use Rattle.std.specs.contracts.impls.GlobalAllocator.TheImpl.{ghosts}
use Rattle.std.specs.contracts.option.Option as Option
use Rattle.std.proofs.option.Option.TheSendSync as option
use Rattle.atomic_table.specs.contracts.owned.Table as Table
use Rattle.atomic_table.specs.declared.shared.TableRule.{Ghosts}
use Rattle.atomic_table.proofs.owned.Table.TheSendSync as table
use Rattle.cq_store.specs.declared.store.Store as Store
use Rattle.cq_shared.specs.declared.content.Legality as Legality
use Rattle.cq_shared.specs.contracts.block.Shared as Shared
use Rattle.cq_shared.specs.contracts.content.Shard as Shard
use Rattle.cq_shared.specs.contracts.worker.Stock as Stock
use Rattle.cq_block.specs.contracts.legality.Ground as Ground
use Rattle.cq_block.specs.contracts.legality.OfGround as OfGround
use Rattle.cq_block.specs.contracts.legality.OfGroundLegalityGround.TheImpl as ofground
use Rattle.cq_session.specs.contracts.shared.Scene as Scene
use Rattle.cq_session.proofs.shared.Scene.TheSendSync as scene
use Rattle.cq_block.specs.contracts.session.Session as Session
use Rattle.cq_block.specs.contracts.session.Site as Site
use Rattle.cq_block.specs.Running.{IsWaiting}
use Rattle.cq_block.proofs.Crosses.{session_send, shard_send, stock_send}
use Rattle.cq_block.proofs.running.run_all.Given as given
use Rattle.cq_block.proofs.running.run_all.Goals as goal

-- a cell may be shared by threads
cell_sync : (T V K Q : RattleType) (rule : Ghosts Q.Denot (Option.the_row T).Denot V.Denot K.Denot) → IsSend T → IsSync (Table.the_row (Option.the_row T) V K Q Heap.the_row rule ghosts)
cell_sync T V K Q rule t = table.the_sync (Option.the_row T) V K Q Heap.the_row rule ghosts (option.the_send _ t) heap_send heap_sync (search (sendable, crosses) depth 20)

scene_sync : (κ : NamedLft) → IsSync (Scene.the_row κ)
scene_sync κ = search (sendable, crosses, scene.the_sync) depth 20

shard_cell_sync : (S V K Q : RattleType) (rule : Ghosts Q.Denot (Option.the_row (Shard.the_row S (Ground.the_row S))).Denot V.Denot K.Denot) → IsSend S → IsSync (Table.the_row (Option.the_row (Shard.the_row S (Ground.the_row S))) V K Q Heap.the_row rule ghosts)
shard_cell_sync S V K Q rule s = cell_sync (Shard.the_row S (Ground.the_row S)) V K Q rule (shard_send S (Ground.the_row S) s)

stock_cell_sync : (S V K Q : RattleType) (rule : Ghosts Q.Denot (Option.the_row (Stock.the_row S (Ground.the_row S))).Denot V.Denot K.Denot) → IsSend S → IsSync (Table.the_row (Option.the_row (Stock.the_row S (Ground.the_row S))) V K Q Heap.the_row rule ghosts)
stock_cell_sync S V K Q rule s = cell_sync (Stock.the_row S (Ground.the_row S)) V K Q rule (stock_send S (Ground.the_row S) s)

-- and so may the cells of a block
shared_sync : (S L : RattleType) (store : Store.Ghosts S.Denot) (legality : Legality.Ghosts L.Denot (Ground.the_row S).Denot) → IsSend S → IsSync (Shared.the_row S (Ground.the_row S) L store legality)
shared_sync S L store legality s = declared_sync (Shared.the_type S (Ground.the_row S) L store legality) (search (sendable, crosses, shard_cell_sync, s) depth 20, (search (sendable, crosses, stock_cell_sync, s) depth 20, tt))

-- a session may go to a thread
crossing : (g : given.Over) (c : goal.After-for_each_mut-arg-2-1 g) (κ : NamedLft) → IsSend (Session.the_row κ (param 0 g.row.S))
crossing g c κ = session_send κ (param 0 g.row.S) c.type_bounds.send-S

-- and what all sessions have at hand may be shared
site_sync : (g : given.Over) (c : goal.After-for_each_mut-arg-2-1 g) (κ : NamedLft) (C : RattleType) → IsSync C → IsSync (Site.the_row κ C (param 1 g.row.G) (param 2 g.row.R))
site_sync g c κ C s =
    declared_sync (Site.the_type κ C (param 1 g.row.G) (param 2 g.row.R)) (
      search (sendable, c.type_bounds.sync-R),
      (
        search (sendable, heap_sync),
        (
          search (sendable, c.type_bounds.sync-G),
          (search (sendable, scene_sync), (search (sendable, s), (search (sendable, crosses) depth 12, tt))),
        ),
      ),
    )

pub for_each_mut-requires-send-T : goal.for_each_mut-requires-send-T
for_each_mut-requires-send-T g c κs within = search (sendable, crossing g c) depth 20

-- and so may the closure, which holds a reference to it
pub for_each_mut-requires-sync-F : goal.for_each_mut-requires-sync-F
for_each_mut-requires-sync-F g c κs within =
    let S = param 0 g.row.S in
    let legality = ofground.ghosts S g.S.Store ofground.no_dict ofground.no_dict in
    let cells = Shared.the_row S (Ground.the_row S) OfGround.the_row g.S.Store legality in
    let site : (κ : NamedLft) → IsSync (Site.the_row κ cells (param 1 g.row.G) (param 2 g.row.R)) = λ κ. site_sync g c κ cells (shared_sync S OfGround.the_row g.S.Store legality c.type_bounds.send-S) in
    search (param_sync, arg_sync, struct_sync, recorded_sync, shr_sync, site) depth 30

pub for_each_mut-requires-clause-accepts : goal.for_each_mut-requires-clause-accepts
for_each_mut-requires-clause-accepts g c κs within i p lt e =
    let site = c.args.site.now in
    let send = param_send 0 _ (arg_send _ no _ c.type_bounds.send-S) in
    let sync = param_sync 1 _ (arg_sync _ no _ c.type_bounds.sync-G) in
    let threads = param_sync 2 _ (arg_sync _ no _ c.type_bounds.sync-R) in (
      subst (IsWaiting g.S.Store.state site.scene.now.catalog.now site.scene.now.nodes (map (λ z. z.shared.table_id) site.shared.now.groups.items) (map (λ z. z.shared.table_id) site.shared.now.workers.items) site.numbers.now.items) (sym e) (c.requires i p.now lt),
      (send, sync, threads),
    )
