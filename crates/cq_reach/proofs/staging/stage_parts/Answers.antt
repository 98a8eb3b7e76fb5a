use Rattle.std.proofs.Common.{◌≡◌, ◌++◌, ◌∷◌, List, length, sym, ◌∙◌, subst, ap, arith}
use Rattle.std.specs.List.{AllByRecursion}
use Rattle.std.specs.Vec.Iter.{into_iter_items}
use Rattle.cq_router.specs.declared.insertion.Part.{Part}
use Rattle.cq_group.specs.Groups.{IsKept}
use Rattle.cq_reach.specs.declared.staging.ReadyPart.{ReadyPart}
use Rattle.cq_reach.specs.Writes.{InGroup, AscendFrom}
use Rattle.cq_reach.specs.Staging.{Takes, AreApart, StopsAt, place_of}
use Rattle.cq_reach.proofs.Stopping.{parts_of, ascend_apart, ascend_each, can_stage, staged_more, staged_keep, all_stop, rest_now}
use Rattle.cq_reach.proofs.staging.stage_parts.Goals as goal

pub stage_next-requires : goal.stage_next-requires
stage_next-requires g c =
    let state = g.S.Store.state in
    let at = c.loop-part in
    let p = c.in-Some.part in
    let steps : into_iter_items at.part-iterator ≡ p ∷ into_iter_items c.next.new.self = c.in-Some.ensures.steps.0 in
    let gives : into_iter_items c.into_iter-part-iterator.result ≡ c.args.parts = c.into_iter-part-iterator.ensures.into_iter_gives.0 ∙ c.into_vec-part-items.ensures in
    let rest : List Part = into_iter_items c.next.new.self in
    let all : c.args.parts ≡ parts_of at.ready ++ p ∷ rest = rest_now c.args.parts (parts_of at.ready) p (into_iter_items at.part-iterator) rest (sym gives ∙ at.invariant.all) steps in
    let up : AscendFrom 0 (parts_of at.ready ++ p ∷ rest) = subst (λ (v : List Part). AscendFrom 0 v) all c.requires.ascending in
    can_stage state c.args.groups.now.items at.groups.items at.ready p rest c.requires.resting (subst (λ (v : List Part). AllByRecursion (Takes c.args.groups.now.items) v) all c.requires.takes) up at.invariant.staged

pub discard_parts-requires-clause-kept : goal.discard_parts-requires-clause-kept
discard_parts-requires-clause-kept g c =
    let state = g.S.Store.state in
    let at = c.loop-part in
    let p = c.in-Some.part in
    let steps : into_iter_items at.part-iterator ≡ p ∷ into_iter_items c.next.new.self = c.in-Some.ensures.steps.0 in
    let gives : into_iter_items c.into_iter-part-iterator.result ≡ c.args.parts = c.into_iter-part-iterator.ensures.into_iter_gives.0 ∙ c.into_vec-part-items.ensures in
    let rest : List Part = into_iter_items c.next.new.self in
    let all : c.args.parts ≡ parts_of at.ready ++ p ∷ rest = rest_now c.args.parts (parts_of at.ready) p (into_iter_items at.part-iterator) rest (sym gives ∙ at.invariant.all) steps in
    let up : AscendFrom 0 (parts_of at.ready ++ p ∷ rest) = subst (λ (v : List Part). AscendFrom 0 v) all c.requires.ascending in
    let next = c.in-Err.ensures in
    subst (λ (v : List ReadyPart). AllByRecursion (λ (s : ReadyPart). InGroup c.stage_next.new.groups.items s.part (IsKept state)) v) (sym next.0)
    (staged_keep state c.args.groups.now.items at.groups.items c.stage_next.new.groups.items p.group (StopsAt state p c.in-Err.stop) at.ready (ascend_apart 0 at.ready p rest up) at.invariant.staged.each next.1)

pub discard_parts-requires-clause-apart : goal.discard_parts-requires-clause-apart
discard_parts-requires-clause-apart g c =
    let state = g.S.Store.state in
    let at = c.loop-part in
    let p = c.in-Some.part in
    let steps : into_iter_items at.part-iterator ≡ p ∷ into_iter_items c.next.new.self = c.in-Some.ensures.steps.0 in
    let gives : into_iter_items c.into_iter-part-iterator.result ≡ c.args.parts = c.into_iter-part-iterator.ensures.into_iter_gives.0 ∙ c.into_vec-part-items.ensures in
    let rest : List Part = into_iter_items c.next.new.self in
    let all : c.args.parts ≡ parts_of at.ready ++ p ∷ rest = rest_now c.args.parts (parts_of at.ready) p (into_iter_items at.part-iterator) rest (sym gives ∙ at.invariant.all) steps in
    let up : AscendFrom 0 (parts_of at.ready ++ p ∷ rest) = subst (λ (v : List Part). AscendFrom 0 v) all c.requires.ascending in
    subst (λ (v : List ReadyPart). AreApart place_of v) (sym c.in-Err.ensures.0) (ascend_each 0 at.ready (p ∷ rest) up)

pub returns-in-Err : goal.returns-in-Err
returns-in-Err g c =
    let state = g.S.Store.state in
    let at = c.loop-part in
    let p = c.in-Some.part in
    let steps : into_iter_items at.part-iterator ≡ p ∷ into_iter_items c.next.new.self = c.in-Some.ensures.steps.0 in
    let gives : into_iter_items c.into_iter-part-iterator.result ≡ c.args.parts = c.into_iter-part-iterator.ensures.into_iter_gives.0 ∙ c.into_vec-part-items.ensures in
    let rest : List Part = into_iter_items c.next.new.self in
    let all : c.args.parts ≡ parts_of at.ready ++ p ∷ rest = rest_now c.args.parts (parts_of at.ready) p (into_iter_items at.part-iterator) rest (sym gives ∙ at.invariant.all) steps in
    let up : AscendFrom 0 (parts_of at.ready ++ p ∷ rest) = subst (λ (v : List Part). AscendFrom 0 v) all c.requires.ascending in
    all_stop state c.args.parts c.args.groups.now.items at.groups.items c.stage_next.new.groups.items c.discard_parts.new.groups.items at.ready c.stage_next.new.ready p rest c.in-Err.stop c.requires.resting all c.requires.ascending at.invariant.staged
    c.in-Err.ensures c.discard_parts.ensures

pub loop-part-preserved : goal.loop-part-preserved
loop-part-preserved g c =
    let state = g.S.Store.state in
    let at = c.loop-part in
    let p = c.in-Some.part in
    let steps : into_iter_items at.part-iterator ≡ p ∷ into_iter_items c.next.new.self = c.in-Some.ensures.steps.0 in
    let gives : into_iter_items c.into_iter-part-iterator.result ≡ c.args.parts = c.into_iter-part-iterator.ensures.into_iter_gives.0 ∙ c.into_vec-part-items.ensures in
    let rest : List Part = into_iter_items c.next.new.self in
    let all : c.args.parts ≡ parts_of at.ready ++ p ∷ rest = rest_now c.args.parts (parts_of at.ready) p (into_iter_items at.part-iterator) rest (sym gives ∙ at.invariant.all) steps in
    let up : AscendFrom 0 (parts_of at.ready ++ p ∷ rest) = subst (λ (v : List Part). AscendFrom 0 v) all c.requires.ascending in
    let short = ap (λ (v : List Part). length v) steps in
    let more = staged_more state c.args.groups.now.items at.groups.items c.stage_next.new.groups.items at.ready c.stage_next.new.ready p rest up at.invariant.staged c.in_default.ensures in
    record {
      left = let was = at.invariant.left in let gone = c.in-Some.ensures.steps.1 in omega arith;
      all = at.invariant.all ∙ ap (λ (v : List Part). parts_of at.ready ++ v) steps ∙ more.1;
      staged = more.0;
    }
