use Rattle.std.proofs.Common.{arith}
use Rattle.cq_columnar.proofs.CountLaws.{none_behind, one_behind, all_behind}
use Rattle.cq_columnar.proofs.counting.rows_to.Goals as goal

pub loop-place-init : goal.loop-place-init
loop-place-init c = record { most = omega arith; gives = none_behind c.new-changes.result c.args.count c.new-changes.ensures }

pub loop-place-preserved : goal.loop-place-preserved
loop-place-preserved c = record {
  most = omega (arith, c.loop-place-test.true);
  gives = one_behind c.loop-place.changes c.put.new.self c.loop-place.place c.from-id.result c.args.count c.in_ok-row.row c.loop-place-test.true c.from-id.ensures c.in_ok-row.ensures c.in_ok-put.ensures.ok c.loop-place.invariant.gives;
}

pub returns : goal.returns
returns c = all_behind c.loop-place.changes c.loop-place.place c.args.count (omega (arith, c.loop-place-test.false)) c.loop-place.invariant.gives
