use Rattle.std.proofs.Common.{rules, ◌≡◌, ◌∙◌, ◌++◌, ◌∷◌, [], List, length, refl, sym, ap, subst, arith, append_assoc}
use Rattle.std.specs.List.{AllZip}
use Rattle.std.proofs.lemmas.List.{nil_from_length}
use Rattle.std.specs.Vec.Iter.{into_iter_items}
use Rattle.cq_cell.proofs.Zips.{zip_more, rest_none}
use Rattle.cq_shared.specs.Blocks.{IsStock}
use Rattle.cq_shared.proofs.workers.stock_all.Goals as goal

pub loop-worker-init : goal.loop-worker-init
loop-worker-init g c =
    let e = c.requires.room in
    let v : into_iter_items c.into_iter-worker-iterator.result ≡ c.args.workers.items = c.into_iter-worker-iterator.ensures.into_iter_gives.0 in
    let long = ap (λ (xs : List _). length xs) v in
    let none = ap (λ (xs : List _). length xs) e.0 in
    let low = e.1 in record {
      left = search rules;
      shared = ([], refl, rw e.0 tt);
      room = omega (arith, long, none, low, c.args.room.ok.0, c.args.workers.ok.0);
    }

pub loop-worker-preserved : goal.loop-worker-preserved
loop-worker-preserved g c =
    let at = c.loop-worker in
    let inv = at.invariant in
    let worker = c.in-Some.worker in
    let later = into_iter_items c.next.new.self in
    let vs : into_iter_items at.worker-iterator ≡ worker ∷ later = c.in-Some.ensures.steps.0 in
    let short = ap (λ (xs : List _). length xs) vs in
    let p = c.push_reserved.ensures in
    let front = inv.shared.0 in record {
      left = let a = inv.left in let gone = c.in-Some.ensures.steps.1 in omega (arith, a, gone, short);
      shared = (
        front ++ worker ∷ [],
        inv.shared.1 ∙ (ap (λ v. front ++ v) vs ∙ sym (append_assoc front (worker ∷ []) later)),
        subst (λ v. AllZip (IsStock c.args.rules.now) (front ++ worker ∷ []) v) (sym p.items) (zip_more (IsStock c.args.rules.now) front at.room.items worker _ inv.shared.2 (refl, c.of.ensures)),
      );
      room = let a = inv.room in let more = p.len in let wide = p.capacity in omega (arith, a, more, wide, short);
    }

pub returns : goal.returns
returns g c =
    let at = c.loop-worker in
    let inv = at.invariant in
    let none : into_iter_items at.worker-iterator ≡ [] = nil_from_length _ (sym inv.left ∙ c.in-None.ensures.steps.0) in
    let all = rest_none c.args.workers.items inv.shared.0 (into_iter_items at.worker-iterator) (sym c.into_iter-worker-iterator.ensures.into_iter_gives.0 ∙ inv.shared.1) none in
    subst (λ gs. AllZip (IsStock c.args.rules.now) gs at.room.items) (sym all) inv.shared.2
