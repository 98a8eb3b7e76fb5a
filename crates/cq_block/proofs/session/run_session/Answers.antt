use Rattle.std.proofs.Common.{rules as rulebook, ◌≡◌, ◌∙◌, ◌++◌, ◌∷◌, [], List, map, length, refl, sym, ap, subst, arith, append_assoc}
use Rattle.std.proofs.lemmas.List.{nil_from_length}
use Rattle.std.specs.List.{AllByRecursion}
use Rattle.std.specs.Vec.Iter.{into_iter_items}
use Rattle.cq_answer.specs.declared.answered.Answered.{Answered}
use Rattle.cq_history.specs.Refusals.{rules}
use Rattle.cq_cell.proofs.Zips.{rest_none, zip_more}
use Rattle.cq_block_laws.specs.Sessions.{AreServedBy}
use Rattle.cq_block_laws.proofs.Histories.{served_snoc}
use Rattle.cq_block.specs.declared.drafts.Draft.{Draft}
use Rattle.cq_block.specs.Ground.{terms_of}
use Rattle.cq_block.specs.Running.{AreApart, NoneSent, IsDraftIn, IsAnswerTo, AreAnswersTo, IsSeated, hands_of}
use Rattle.cq_block.proofs.Moves.{none_after}
use Rattle.cq_block.proofs.session.run_session.Goals as goal

pub loop-draft-init : goal.loop-draft-init
loop-draft-init g c =
    let s = c.args.session.now in
    let e : into_iter_items c.into_iter-draft-iterator.result ≡ s.drafts.items = c.into_iter-draft-iterator.ensures.into_iter_gives.0 ∙ ap (λ v. v.items) c.replace-draft-items.ensures.value in
    let long = ap (λ (xs : List _). length xs) e in
    let none = ap (λ (xs : List _). length xs) c.requires.none in
    let nothing = ap (λ (xs : List _). length xs) c.requires.nothing in
    let wide = c.requires.room in
    let space = c.requires.space in
    record {
      left = search rulebook;
      number = refl;
      drafts = subst (AllByRecursion (IsDraftIn c.args.site.now.scene.now.catalog.now s.number)) (sym e) c.requires.drafts;
      apart = subst AreApart (sym e) c.requires.apart;
      unsent = subst (λ (ds : List Draft). NoneSent ds s.hands) (sym e) c.requires.unsent;
      served = λ o for. subst (λ (v : List Answered). AreServedBy g.S.Store.state (terms_of g.S.Store.state) rules c.args.site.now.scene.now.nodes o (hands_of s.hands) v (hands_of s.hands)) (sym c.requires.none) refl;
      answered = ([], refl, subst (λ (v : List Answered). AreAnswersTo c.args.site.now.scene.now.catalog.now c.args.site.now.scene.now.settings [] v) (sym c.requires.none) tt);
      seated = c.requires.seated;
      room = omega (arith, long, none, wide, s.log.ok.0, s.drafts.ok.0);
      few = omega (arith, nothing);
      space = omega (arith, long, nothing, space, s.hands.retired.ok.0, s.drafts.ok.0);
    }

pub answer_draft-answered-requires-clause-can : goal.answer_draft-answered-requires-clause-can
answer_draft-answered-requires-clause-can g c κs within =
    let of = subst (AllByRecursion (IsDraftIn c.args.site.now.scene.now.catalog.now c.loop-draft.session.number)) c.in-Some.ensures.steps.0 c.loop-draft.invariant.drafts in
    record { own = refl; stands = of.0.stands }

pub answer_draft-answered-requires-clause-seated : goal.answer_draft-answered-requires-clause-seated
answer_draft-answered-requires-clause-seated g c κs within =
    let of = subst (AllByRecursion (IsDraftIn c.args.site.now.scene.now.catalog.now c.loop-draft.session.number)) c.in-Some.ensures.steps.0 c.loop-draft.invariant.drafts in
    subst (λ n. IsSeated g.S.Store.state c.args.site.now.scene.now.catalog.now c.args.site.now.scene.now.nodes (map (λ z. z.shared.table_id) c.args.site.now.shared.now.groups.items) (map (λ z. z.shared.table_id) c.args.site.now.shared.now.workers.items) c.args.site.now.numbers.now.items n c.loop-draft.session.hands)
    (sym of.0.own) c.loop-draft.invariant.seated

pub answer_draft-answered-requires-clause-room : goal.answer_draft-answered-requires-clause-room
answer_draft-answered-requires-clause-room g c =
    let wide = c.loop-draft.invariant.space in
    let short = ap (λ (xs : List _). length xs) c.in-Some.ensures.steps.0 in
    omega (arith, wide, short)

pub answer_draft-answered-requires-clause-unsent : goal.answer_draft-answered-requires-clause-unsent
answer_draft-answered-requires-clause-unsent g c κs within = (subst (λ (ds : List Draft). NoneSent ds c.loop-draft.session.hands) c.in-Some.ensures.steps.0 c.loop-draft.invariant.unsent).0

pub loop-draft-preserved : goal.loop-draft-preserved
loop-draft-preserved g c =
    let at = c.loop-draft in
    let inv = at.invariant in
    let draft = c.in-Some.draft in
    let later = into_iter_items c.next.new.self in
    let vs : into_iter_items at.draft-iterator ≡ draft ∷ later = c.in-Some.ensures.steps.0 in
    let short = ap (λ (xs : List _). length xs) vs in
    let p = c.push_reserved.ensures in
    let a = c.answer_draft-answered in
    let front = inv.answered.0 in
    let catalog = c.args.site.now.scene.now.catalog.now in
    let of = subst (AllByRecursion (IsDraftIn catalog at.session.number)) vs inv.drafts in
    let far = subst AreApart vs inv.apart in
    let none = subst (λ (ds : List Draft). NoneSent ds at.session.hands) vs inv.unsent in
    record {
      left = let l = inv.left in let gone = c.in-Some.ensures.steps.1 in omega (arith, l, gone, short);
      number = inv.number;
      drafts = of.1;
      apart = far.1;
      unsent = none_after catalog at.session.number draft later at.session.hands a.new.hands of.0.own of.1 far.0 a.ensures.unsent none.1;
      served = λ o for.
          subst (λ (v : List Answered). AreServedBy g.S.Store.state (terms_of g.S.Store.state) rules c.args.site.now.scene.now.nodes o (hands_of c.args.session.now.hands) v (hands_of a.new.hands)) (sym p.items)
          (served_snoc g.S.Store.state (terms_of g.S.Store.state) rules c.args.site.now.scene.now.nodes o (hands_of c.args.session.now.hands) at.session.log.items (hands_of at.session.hands) a.result (hands_of a.new.hands) (inv.served o for) (a.ensures.serves o for));
      answered = (
        front ++ draft ∷ [],
        inv.answered.1 ∙ (ap (λ v. front ++ v) vs ∙ sym (append_assoc front (draft ∷ []) later)),
        subst (λ (v : List Answered). AreAnswersTo catalog c.args.site.now.scene.now.settings (front ++ draft ∷ []) v) (sym p.items)
            (zip_more (IsAnswerTo catalog c.args.site.now.scene.now.settings) front at.session.log.items draft a.result inv.answered.2 a.ensures.answers),
      );
      seated = subst (λ n. IsSeated g.S.Store.state catalog c.args.site.now.scene.now.nodes (map (λ z. z.shared.table_id) c.args.site.now.shared.now.groups.items) (map (λ z. z.shared.table_id) c.args.site.now.shared.now.workers.items) c.args.site.now.numbers.now.items n a.new.hands) of.0.own a.ensures.seated;
      room = let r = inv.room in let more = p.len in let wide = p.capacity in omega (arith, r, more, wide, short);
      few = let f = inv.few in let more = a.ensures.room.1 in omega (arith, f, more, short);
      space = let s = inv.space in let wide = a.ensures.room.0 in let more = a.ensures.room.1 in omega (arith, s, wide, more, short, at.session.hands.retired.ok.0, a.new.hands.retired.ok.0);
    }

pub returns : goal.returns
returns g c =
    let s = c.args.session.now in
    let at = c.loop-draft in
    let inv = at.invariant in
    let e : into_iter_items c.into_iter-draft-iterator.result ≡ s.drafts.items = c.into_iter-draft-iterator.ensures.into_iter_gives.0 ∙ ap (λ v. v.items) c.replace-draft-items.ensures.value in
    let none : into_iter_items at.draft-iterator ≡ [] = nil_from_length _ (sym inv.left ∙ c.in-None.ensures.steps.0) in
    let all = rest_none s.drafts.items inv.answered.0 (into_iter_items at.draft-iterator) (sym e ∙ inv.answered.1) none in
    record {
      number = inv.number;
      served = inv.served;
      answered = subst (λ (v : List Draft). AreAnswersTo c.args.site.now.scene.now.catalog.now c.args.site.now.scene.now.settings v at.session.log.items) (sym all) inv.answered.2;
      seated = inv.seated;
      few = let few = inv.few in let long = ap (λ (xs : List _). length xs) e in omega (arith, few, long);
    }
