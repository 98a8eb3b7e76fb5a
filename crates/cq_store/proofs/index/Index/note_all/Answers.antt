use Rattle.std.proofs.Common.{◌≡◌, ◌∙◌, ap, length, take, subst, arith}
use Rattle.std.proofs.Math.Seq.{take-length}
use Rattle.cq_store.specs.Indexes.{Notes}
use Rattle.cq_store.proofs.IndexLaws.{notes_more}
use Rattle.cq_store.proofs.index.Index.note_all.Goals as goal

pub loop-change-preserved : goal.loop-change-preserved
loop-change-preserved c =
    notes_more c.args.self.now c.loop-change.self c.note.new.self c.args.changes.now c.loop-change.change-index c.change-item.result c.loop-change.invariant
    (rw c.as_slice-change-items.ensures at c.loop-change-test.true) (rw c.as_slice-change-items.ensures at c.change-item.is) c.note.ensures

pub returns : goal.returns
returns c =
    let seen = ap length c.as_slice-change-items.ensures in
    let end : c.loop-change.change-index ≡ length c.args.changes.now = omega (arith, seen, c.loop-change.auto.change-index-end, c.loop-change-test.false) in
    let whole : take c.loop-change.change-index c.args.changes.now ≡ c.args.changes.now = ap (λ k. take k c.args.changes.now) end ∙ take-length c.args.changes.now in
    subst (λ cs. Notes c.args.self.now c.loop-change.self cs) whole c.loop-change.invariant
