use Rattle.std.proofs.Common.{ℕ}
use Rattle.cq_columnar.specs.Layouts.{layout_at, laid_after}
use Rattle.cq_columnar.proofs.RelaidLaws.{laid_more, fit_more}
use Rattle.cq_columnar.proofs.chunked.apply_all.Goals as goal

pub loop-change-preserved : goal.loop-change-preserved
loop-change-preserved c =
    let old = layout_at c.loop-change.next c.loop-change.pieces.items in
    let new = layout_at c.in_ok-next.next c.apply.new.pieces.items in
    let changes = c.args.changes.now in
    let i : ℕ = c.loop-change.change-index in
    let change = c.change-item.result in
    record {
      laid = c.in_ok-next.ensures.laid;
      fit = fit_more old new changes i change change c.loop-change-test.true c.change-item.is c.in_ok-next.ensures.layout c.loop-change.invariant.fit;
      gives = laid_more old new changes i change change (laid_after (layout_at c.args.next c.args.pieces.items) changes) c.loop-change-test.true c.change-item.is c.in_ok-next.ensures.layout c.loop-change.invariant.gives;
    }
