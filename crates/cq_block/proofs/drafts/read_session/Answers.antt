use Rattle.std.proofs.Common.{◌≢◌, ◌≤◌, ◌∙◌, take, sym, ap, subst, refl, arith}
use Rattle.std.specs.Prelude.{vec_len, vec_capacity}
use Rattle.std.specs.List.{AllZip}
use Rattle.cq_session.specs.Responses.{IsReadAs}
use Rattle.cq_block.specs.declared.drafts.SessionDrafts.{SessionDrafts}
use Rattle.cq_block.specs.Drafts.{of_session, IsDraftOf}
use Rattle.cq_block.proofs.DraftLaws.{taken_same, left_of, left_same, drafts_more, may_stand}
use Rattle.cq_block.proofs.drafts.read_session.Goals as goal
use Rattle.cq_block.proofs.drafts.read_session.Goals.{then-placed-one, else-placed-one}

pub loop-placed-preserved : goal.loop-placed-preserved
loop-placed-preserved c =
    let i = c.loop-placed.placed-index in
    let ps = c.args.block.now in
    let cat = c.args.catalog.now in
    let s = c.args.one.now.session in
    let p = c.placed-item.result in
    let lt = c.loop-placed-test.true in
    let at = c.placed-item.is in
    let before = c.loop-placed.invariant in
    let room = before.room in
    elim c.if-placed-one.branch [
      | then-placed-one w ↦
          let is = w.if-placed-one.true ∙ before.same in
          let left = left_of s i ps p lt at is in
          let len = ap (λ (v : SessionDrafts). vec_len v.drafts) w.one-is ∙ w.push_reserved.ensures.len in
          let capacity = ap (λ (v : SessionDrafts). vec_capacity v.drafts) w.one-is ∙ w.push_reserved.ensures.capacity in
          let read = w.read-read.result in
          record {
            same = ap (λ (v : SessionDrafts). v.session) w.one-is ∙ before.same;
            drafts = drafts_more cat s i ps p c.loop-placed.one.drafts.items c.if-placed-one.one.drafts.items _ lt at is before.drafts (ap (λ (v : SessionDrafts). v.drafts.items) w.one-is ∙ w.push_reserved.ensures.items) (record {
              placed = refl;
              reads = subst (λ copied. IsReadAs p.session p.item.text copied cat.tables read) w.as_slice-copied.ensures
                  (subst (λ text. IsReadAs p.session text w.as_slice-copied.result.now cat.tables read) w.as_slice-text.ensures w.read-read.ensures.reads);
              stands = may_stand cat read (w.read-read.ensures.allowed (subst (λ n. 1 ≤ n) (sym is) c.requires.room.inside)) (w.read-read.ensures.computable c.requires.whole c.requires.columns) w.read-read.ensures.fault;
            });
            room = omega (arith, room, left, len, capacity);
          }
      | else-placed-one w ↦
          let isnt : p.session ≢ s = λ is. w.if-placed-one.false (is ∙ sym before.same) in
          let left = left_same s i ps p lt at isnt in
          let len = ap (λ (v : SessionDrafts). vec_len v.drafts) w.one-is in
          let capacity = ap (λ (v : SessionDrafts). vec_capacity v.drafts) w.one-is in
          record {
            same = ap (λ (v : SessionDrafts). v.session) w.one-is ∙ before.same;
            drafts = subst (λ v. AllZip (IsDraftOf cat) v c.if-placed-one.one.drafts.items) (sym (taken_same s i ps p lt at isnt))
                (subst (λ (v : SessionDrafts). AllZip (IsDraftOf cat) (of_session s (take i ps)) v.drafts.items) (sym w.one-is) before.drafts);
            room = omega (arith, room, left, len, capacity);
          }
    ]
