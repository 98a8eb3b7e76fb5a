use Rattle.std.proofs.Common.{◌≡◌, ◌++◌, ◌∷◌, [], List, length, refl, sym, ◌∙◌, subst, ap, arith}
use Rattle.std.proofs.lemmas.List.{nil_from_length}
use Rattle.std.specs.List.{sum_by}
use Rattle.std.specs.Vec.Iter.{into_iter_items}
use Rattle.cq_group.specs.Groups.{IsKept, IsReady}
use Rattle.cq_reach.specs.declared.staging.ReadyPart.{ReadyPart}
use Rattle.cq_reach.specs.Staging.{Enters, AreEntered, place_of, count_in}
use Rattle.cq_reach.proofs.Turning.{turned_none}
use Rattle.cq_reach.proofs.Stopping.{in_next, turned_next, rest_next, rest_now, rest_none}
use Rattle.cq_reach.proofs.Counting.{sum_split, sum_more}
use Rattle.cq_reach.proofs.writes.commit_parts.Goals as goal

pub loop-part-init : goal.loop-part-init
loop-part-init g c =
    let gives = c.into_iter-part-iterator.ensures.into_iter_gives in
    record {
      left = gives.1 ∙ c.into_vec-part-items.result.ok.0 ∙ sym (ap (λ (v : List ReadyPart). length v) gives.0);
      all = refl;
      entered = turned_none place_of (λ (s : ReadyPart). Enters g.S.Store.state c.args.who s.part.op s.reply) c.args.groups.now.items;
      sum = refl;
    }

pub commit_part-sum-requires : goal.commit_part-sum-requires
commit_part-sum-requires g c =
    let state = g.S.Store.state in
    let at = c.loop-part in
    let s = c.in-Some.part in
    let steps : into_iter_items at.part-iterator ≡ s ∷ into_iter_items c.next.new.self = c.in-Some.ensures.steps.0 in
    let gives : into_iter_items c.into_iter-part-iterator.result ≡ c.args.ready = c.into_iter-part-iterator.ensures.into_iter_gives.0 ∙ c.into_vec-part-items.ensures in
    let all = rest_now c.args.ready at.yielded s (into_iter_items at.part-iterator) (into_iter_items c.next.new.self) (sym gives ∙ at.invariant.all) steps in
    in_next (λ (r : ReadyPart). Enters state c.args.who r.part.op r.reply) c.args.ready at.yielded s (into_iter_items c.next.new.self) c.args.groups.now.items at.groups.items all c.requires.apart at.invariant.entered
    (λ (r : ReadyPart) x. IsKept state x × IsReady state x r.part.op r.reply) c.requires.ready

pub overflow_add-sum : goal.overflow_add-sum
overflow_add-sum g c =
    let at = c.loop-part in
    let s = c.in-Some.part in
    let steps : into_iter_items at.part-iterator ≡ s ∷ into_iter_items c.next.new.self = c.in-Some.ensures.steps.0 in
    let gives : into_iter_items c.into_iter-part-iterator.result ≡ c.args.ready = c.into_iter-part-iterator.ensures.into_iter_gives.0 ∙ c.into_vec-part-items.ensures in
    let all : c.args.ready ≡ at.yielded ++ s ∷ into_iter_items c.next.new.self = rest_now c.args.ready at.yielded s (into_iter_items at.part-iterator) (into_iter_items c.next.new.self) (sym gives ∙ at.invariant.all) steps in
    let whole : sum_by count_in c.args.ready ≡ sum_by count_in (at.yielded ++ s ∷ into_iter_items c.next.new.self) = ap (λ (v : List ReadyPart). sum_by count_in v) all in
    let split = sum_split at.yielded s (into_iter_items c.next.new.self) in
    let count = c.commit_part-sum.ensures.count in
    let so_far = at.invariant.sum in
    let most = c.requires.sum in
    omega (arith, whole, split, count, so_far, most)

pub loop-part-preserved : goal.loop-part-preserved
loop-part-preserved g c =
    let state = g.S.Store.state in
    let at = c.loop-part in
    let s = c.in-Some.part in
    let steps : into_iter_items at.part-iterator ≡ s ∷ into_iter_items c.next.new.self = c.in-Some.ensures.steps.0 in
    let short = ap (λ (v : List ReadyPart). length v) steps in
    let gives : into_iter_items c.into_iter-part-iterator.result ≡ c.args.ready = c.into_iter-part-iterator.ensures.into_iter_gives.0 ∙ c.into_vec-part-items.ensures in
    let all = rest_now c.args.ready at.yielded s (into_iter_items at.part-iterator) (into_iter_items c.next.new.self) (sym gives ∙ at.invariant.all) steps in
    record {
      left = let was = at.invariant.left in let gone = c.in-Some.ensures.steps.1 in omega arith;
      all = rest_next (into_iter_items c.into_iter-part-iterator.result) at.yielded s (into_iter_items at.part-iterator) (into_iter_items c.next.new.self) at.invariant.all steps;
      entered = turned_next (λ (r : ReadyPart). Enters state c.args.who r.part.op r.reply) c.args.ready at.yielded s (into_iter_items c.next.new.self) c.args.groups.now.items at.groups.items all c.requires.apart at.invariant.entered
          c.commit_part-sum.new.groups.items c.commit_part-sum.ensures.turned;
      sum = let more = sum_more at.yielded s in let count = c.commit_part-sum.ensures.count in let so_far = at.invariant.sum in omega (arith, more, count, so_far);
    }

pub returns : goal.returns
returns g c =
    let at = c.loop-part in
    let empty : into_iter_items at.part-iterator ≡ [] = nil_from_length _ (sym at.invariant.left ∙ c.in-None.ensures.steps.0) in
    let gives : into_iter_items c.into_iter-part-iterator.result ≡ c.args.ready = c.into_iter-part-iterator.ensures.into_iter_gives.0 ∙ c.into_vec-part-items.ensures in
    let all : c.args.ready ≡ at.yielded = rest_none c.args.ready at.yielded (into_iter_items at.part-iterator) (sym gives ∙ at.invariant.all) empty in
    record {
      turned = subst (λ (v : List ReadyPart). AreEntered g.S.Store.state c.args.who v c.args.groups.now.items at.groups.items) (sym all) at.invariant.entered;
      count = at.invariant.sum ∙ sym (ap (λ (v : List ReadyPart). sum_by count_in v) all);
    }
