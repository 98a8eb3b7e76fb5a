use Rattle.std.proofs.Common.{◌≡◌, ◌<◌, ◌∙◌, length, take, ap, subst, arith}
use Rattle.std.proofs.Math.Seq.{take-length}
use Rattle.std.proofs.lemmas.List.{length-set}
use Rattle.cq_store.specs.Indexes.{AllBelow, with_id}
use Rattle.cq_store.proofs.IndexLaws.{page_named, page_goes_on, page_passed}
use Rattle.cq_store.proofs.index.Index.add_page.Goals.{then-id-self+in_ok-add, else-id-self}
use Rattle.cq_store.proofs.index.Index.add_page.Goals as goal

pub returns-in_err-add-clause-holds : goal.returns-in_err-add-clause-holds
returns-in_err-add-clause-holds c = rw c.in_err-add.ensures.err c.loop-id.invariant.holds

pub loop-id-preserved : goal.loop-id-preserved
loop-id-preserved c =
    let at = c.loop-id in
    let old = c.args.self.now in
    let page = c.args.page.now in
    let i = at.id-index in
    let p = c.loop-id-item.result in
    let l = c.loop-id-test.true in
    let read = c.loop-id-item.is in
    let some : 0 < length at.self.buckets = omega (arith, at.invariant.some, c.requires.some) in
    elim c.if-id-self.branch [
      | then-id-self+in_ok-add w ↦ (let new : c.if-id-self.self ≡ with_id at.self p.0 p.1 = w.self-is ∙ w.in_ok-add.ensures.ok in
          rw new (record {
            holds = page_named old at.self page i p l read some w.if-id-self.true at.invariant.holds at.invariant.below;
            columns = at.invariant.columns;
            some = length-set at.self.buckets _ _ ∙ at.invariant.some;
            below = page_goes_on old at.self page i p l read w.if-id-self.true at.invariant.below;
          }))
      | else-id-self w ↦ rw w.self-is (record {
        holds = at.invariant.holds;
        columns = at.invariant.columns;
        some = at.invariant.some;
        below = page_passed old at.self page i p l read at.invariant.below (omega (arith, w.if-id-self.false));
      })
    ]

pub returns-clause-all : goal.returns-clause-all
returns-clause-all c =
    let page = c.args.page.now in
    let end : c.loop-id.id-index ≡ length page = omega (arith, c.loop-id.auto.id-index-end, c.loop-id-test.false) in
    let whole : take c.loop-id.id-index page ≡ page = ap (λ k. take k page) end ∙ take-length page in
    subst (λ qs. AllBelow c.args.self.now c.loop-id.self page qs) whole c.loop-id.invariant.below
