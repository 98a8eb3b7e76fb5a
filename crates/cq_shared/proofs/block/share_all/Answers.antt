use Rattle.std.proofs.Common.{rules, ◌≡◌, ◌∙◌, ◌++◌, ◌∷◌, [], List, length, refl, sym, ap, subst, arith, append_assoc}
use Rattle.std.specs.List.{AllZip}
use Rattle.std.proofs.lemmas.List.{nil_from_length}
use Rattle.std.specs.Vec.Iter.{into_iter_items}
use Rattle.cq_cell.proofs.Zips.{zip_more, rest_none}
use Rattle.cq_shared.specs.Blocks.{IsShared}
use Rattle.cq_shared.proofs.block.share_all.Goals as goal

pub loop-group-init : goal.loop-group-init
loop-group-init g c =
    let e = c.requires.room in
    let v : into_iter_items c.into_iter-group-iterator.result ≡ c.args.groups.items = c.into_iter-group-iterator.ensures.into_iter_gives.0 in
    let long = ap (λ (xs : List _). length xs) v in
    let none = ap (λ (xs : List _). length xs) e.0 in
    let low = e.1 in record {
      left = search rules;
      shared = ([], refl, rw e.0 tt);
      room = omega (arith, long, none, low, c.args.room.ok.0, c.args.groups.ok.0);
    }

pub loop-group-preserved : goal.loop-group-preserved
loop-group-preserved g c =
    let at = c.loop-group in
    let inv = at.invariant in
    let group = c.in-Some.group in
    let later = into_iter_items c.next.new.self in
    let vs : into_iter_items at.group-iterator ≡ group ∷ later = c.in-Some.ensures.steps.0 in
    let short = ap (λ (xs : List _). length xs) vs in
    let p = c.push_reserved.ensures in
    let front = inv.shared.0 in record {
      left = let a = inv.left in let gone = c.in-Some.ensures.steps.1 in omega (arith, a, gone, short);
      shared = (
        front ++ group ∷ [],
        inv.shared.1 ∙ (ap (λ v. front ++ v) vs ∙ sym (append_assoc front (group ∷ []) later)),
        subst (λ v. AllZip (IsShared c.args.rules.now) (front ++ group ∷ []) v) (sym p.items) (zip_more (IsShared c.args.rules.now) front at.room.items group _ inv.shared.2 (refl, c.of.ensures)),
      );
      room = let a = inv.room in let more = p.len in let wide = p.capacity in omega (arith, a, more, wide, short);
    }

pub returns : goal.returns
returns g c =
    let at = c.loop-group in
    let inv = at.invariant in
    let none : into_iter_items at.group-iterator ≡ [] = nil_from_length _ (sym inv.left ∙ c.in-None.ensures.steps.0) in
    let all = rest_none c.args.groups.items inv.shared.0 (into_iter_items at.group-iterator) (sym c.into_iter-group-iterator.ensures.into_iter_gives.0 ∙ inv.shared.1) none in
    subst (λ gs. AllZip (IsShared c.args.rules.now) gs at.room.items) (sym all) inv.shared.2
