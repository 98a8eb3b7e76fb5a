use Rattle.std.proofs.Common.{sym, ap, ◌∙◌, map}
use Rattle.cq_block_laws.specs.Sessions.{Hands}
use Rattle.cq_block_move.specs.Moves.{taking}
use Rattle.cq_block_move.proofs.Fitting.{away_from, fitted, hands_after, hands_as, none_sends, none_taken, reached, ready_as, some_node}
use Rattle.cq_block_move.proofs.Reaching.{is_there}
use Rattle.cq_block_move.proofs.Taking.{steady_before}
use Rattle.cq_block_move.proofs.mover.move_shard.Goals as goal

-- ---- the node isn't one of the run's

pub returns-in-Err-clause-moves : goal.returns-in-Err-clause-moves
returns-in-Err-clause-moves g c =
    let sessions = c.args.desk.now.sessions.value.items in
    let h : Hands _ _ = record { passes = c.args.desk.now.passes.items; benches = c.args.benches.now.passes.items; retired = c.args.retired.now.items } in
    away_from g.S.Store.state g.L.Legality.terms c.args.catalog.now c.args.nodes sessions c.args.who c.args.shard c.in-Some.group c.args.from c.args.to (sym c.group_of_shard.ensures ∙ c.in-Some.is) h c.in-Err.fault c.in-Err.ensures.err

-- ---- stores are taken

pub take_stores-requires-clause-there : goal.take_stores-requires-clause-there
take_stores-requires-clause-there g c =
    let node = c.in_default-check_node.ensures in
    is_there g.S.Store.state g.L.Legality.terms c.args.catalog.now c.args.nodes _ _ c.args.desk.now.sessions.value.items c.args.who.session _ c.requires.hands c.args.to (some_node c.args.to node.some) node.few

pub take_stores-requires-clause-from : goal.take_stores-requires-clause-from
take_stores-requires-clause-from g c low high =
    is_there g.S.Store.state g.L.Legality.terms c.args.catalog.now c.args.nodes _ _ c.args.desk.now.sessions.value.items c.args.who.session _ c.requires.hands c.args.from (some_node c.args.from low) high

-- ---- none were taken

pub returns-in-Err-take_stores-clause-moves : goal.returns-in-Err-take_stores-clause-moves
returns-in-Err-take_stores-clause-moves g c =
    let sessions = c.args.desk.now.sessions.value.items in
    let node = c.in_default-check_node.ensures in
    let h : Hands _ _ = record { passes = c.args.desk.now.passes.items; benches = c.args.benches.now.passes.items; retired = c.args.retired.now.items } in
    none_taken g.S.Store.state g.L.Legality.terms c.args.catalog.now c.args.nodes sessions c.args.who c.args.shard c.in-Some.group c.args.from c.args.to (sym c.group_of_shard.ensures ∙ c.in-Some.is) h node.some node.few c.count_tables.result c.count_tables.ensures c.take_stores.new.benches.passes.items c.in-Err-take_stores.fault c.in-Err-take_stores.ensures.none

pub returns-in-Err-take_stores-clause-hands : goal.returns-in-Err-take_stores-clause-hands
returns-in-Err-take_stores-clause-hands g c =
    let old = c.args.benches.now.passes.items in
    let mid = c.take_stores.new.benches.passes.items in
    let sessions = c.args.desk.now.sessions.value.items in
    let block = c.take_stores.ensures.block in
    let ready = ready_as (sym (c.requires.sessions ∙ ap (λ s. s.value.items) (sym block.1))) c.take_stores.ensures.ready in
    let sends = none_sends c.args.who c.count_tables.result c.args.to c.in-Err-take_stores.fault old mid c.in-Err-take_stores.ensures.none in
    hands_as (ap (λ cells. map (λ c. c.shared.table_id) cells.now) block.0)
    (hands_after g.S.Store.state g.L.Legality.terms c.args.catalog.now c.args.nodes _ sessions c.args.desk.now.passes.items c.args.retired.now.items old mid _ _ c.args.who.session sends.0 c.requires.hands ready sends.1)

-- ---- the group is moved, or stays

pub move_group-requires-clause-fitted : goal.move_group-requires-clause-fitted
move_group-requires-clause-fitted g c κs within =
    let node = c.in_default-check_node.ensures in
    let old = c.args.benches.now.passes.items in
    let mid = c.take_stores.new.benches.passes.items in
    let sessions = c.args.desk.now.sessions.value.items in
    let block = c.take_stores.ensures.block in
    let ready = ready_as (sym (c.requires.sessions ∙ ap (λ s. s.value.items) (sym block.1))) c.take_stores.ensures.ready in (
      c.args.catalog.now,
      c.args.nodes,
      fitted g.S.Store.state g.L.Legality.terms c.args.catalog.now c.args.nodes _ sessions c.args.desk.now.passes.items c.args.retired.now.items old mid _ _ c.args.who c.args.shard c.in-Some.group c.args.from c.args.to c.count_tables.result c.in-Ok.stores.items
          c.requires.hands ready (sym c.group_of_shard.ensures ∙ c.in-Some.is) node.some node.few c.count_tables.ensures c.in-Ok.ensures.taken,
    )

pub move_group-requires-clause-steady : goal.move_group-requires-clause-steady
move_group-requires-clause-steady g c κs within k is =
    let takes = c.in-Ok.ensures.taken in
    takes.steady k (steady_before (taking c.args.who c.count_tables.result c.args.to takes.room) c.args.benches.now.passes.items c.take_stores.new.benches.passes.items takes.sends g.L.Legality.terms c.args.to k is)

pub returns-in-Ok-clause-moves : goal.returns-in-Ok-clause-moves
returns-in-Ok-clause-moves g c =
    let sessions = c.args.desk.now.sessions.value.items in
    let node = c.in_default-check_node.ensures in
    let h : Hands _ _ = record { passes = c.args.desk.now.passes.items; benches = c.args.benches.now.passes.items; retired = c.args.retired.now.items } in
    let new : Hands _ _ = record { passes = c.move_group.new.desk.passes.items; benches = c.move_group.new.benches.passes.items; retired = c.move_group.new.retired.items } in
    reached g.S.Store.state g.L.Legality.terms c.args.catalog.now c.args.nodes sessions c.args.who c.args.shard c.in-Some.group c.args.from c.args.to (sym c.group_of_shard.ensures ∙ c.in-Some.is) h node.some node.few c.count_tables.result c.count_tables.ensures c.take_stores.new.benches.passes.items c.in-Ok.stores.items c.move_group.result new
    c.in-Ok.ensures.taken c.move_group.ensures.keeps c.move_group.ensures.comes

pub returns-in-Ok-clause-hands : goal.returns-in-Ok-clause-hands
returns-in-Ok-clause-hands g c =
    let node = c.in_default-check_node.ensures in
    let old = c.args.benches.now.passes.items in
    let mid = c.take_stores.new.benches.passes.items in
    let sessions = c.args.desk.now.sessions.value.items in
    let block = c.take_stores.ensures.block in
    let ready = ready_as (sym (c.requires.sessions ∙ ap (λ s. s.value.items) (sym block.1))) c.take_stores.ensures.ready in
    let fits = fitted g.S.Store.state g.L.Legality.terms c.args.catalog.now c.args.nodes _ sessions c.args.desk.now.passes.items c.args.retired.now.items old mid _ _ c.args.who c.args.shard c.in-Some.group c.args.from c.args.to c.count_tables.result c.in-Ok.stores.items
    c.requires.hands ready (sym c.group_of_shard.ensures ∙ c.in-Some.is) node.some node.few c.count_tables.ensures c.in-Ok.ensures.taken in
    hands_as (ap (λ cells. map (λ c. c.shared.table_id) cells.now) block.0) (c.move_group.ensures.hands c.args.catalog.now c.args.nodes fits.hands)
