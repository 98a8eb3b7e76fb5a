use Rattle.std.proofs.Common.{◌∙◌, ◌<◌, length, ap, arith}
use Rattle.std.proofs.Math.ListN.{set, length-set}
use Rattle.cq_group.specs.declared.group.GroupTable.{GroupTable}
use Rattle.cq_group.specs.declared.incoming.IncomingTable.{IncomingTable}
use Rattle.cq_group.proofs.CutoverLaws.{with_more, without_more}
use Rattle.cq_group.proofs.moves.exchange.Goals as goal

pub index_mut-requires : goal.index_mut-requires
index_mut-requires g c = omega (arith, c.loop-place-test.true, c.loop-place.invariant.long, c.loop-place.tables.ok.0, c.len-place-end.ensures, c.args.tables.now.ok.0)

pub index_mut-requires-in-loop-place : goal.index_mut-requires-in-loop-place
index_mut-requires-in-loop-place g c = omega (arith, c.loop-place-test.true, c.loop-place.invariant.other, c.loop-place.arrived.ok.0, c.len-place-end.ensures, c.args.tables.now.ok.0, c.requires)

pub loop-place-preserved : goal.loop-place-preserved
loop-place-preserved g c =
    let ts = c.args.tables.now.items in
    let us = c.args.arrived.now.items in
    let n = c.loop-place.place in
    let t : GroupTable _ = c.index_mut.result.now in
    let u : IncomingTable _ = c.index_mut-in-loop-place.result.now in
    let low : n < length ts = omega (arith, c.loop-place-test.true, c.len-place-end.ensures, c.args.tables.now.ok.0) in
    record {
      tables = ap (λ v. set c.loop-place.tables.items n (record t { stores = v })) c.swap.ensures.x_after
          ∙ with_more ts c.loop-place.tables.items us c.loop-place.arrived.items n t u c.requires low c.loop-place.invariant.tables c.loop-place.invariant.arrived c.index_mut.ensures.value c.index_mut-in-loop-place.ensures.value;
      arrived = ap (λ v. set c.loop-place.arrived.items n (record u { stores = v })) c.swap.ensures.y_after
          ∙ without_more ts c.loop-place.tables.items us c.loop-place.arrived.items n t u c.requires low c.loop-place.invariant.tables c.loop-place.invariant.arrived c.index_mut.ensures.value c.index_mut-in-loop-place.ensures.value;
      long = length-set c.loop-place.tables.items n _ ∙ c.loop-place.invariant.long;
      other = length-set c.loop-place.arrived.items n _ ∙ c.loop-place.invariant.other;
    }
