use Rattle.std.proofs.Common.{rules, ◌≡◌, ◌∙◌, ◌++◌, ◌∷◌, [], List, length, refl, sym, ap, arith, append_assoc}
use Rattle.std.proofs.lemmas.List.{nil_from_length, append-nil}
use Rattle.std.specs.Vec.Iter.{into_iter_items}
use Rattle.cq_block.proofs.seating.push_all.Goals as goal

pub loop-item-init : goal.loop-item-init
loop-item-init g c =
    let v : into_iter_items c.into_iter-item-iterator.result ≡ c.args.more.items = c.into_iter-item-iterator.ensures.into_iter_gives.0 in
    let long = ap (λ (xs : List _). length xs) v in
    let low = c.requires.room in record {
      left = search rules;
      items = refl;
      room = omega (arith, long, low);
      capacity = refl;
    }

pub loop-item-preserved : goal.loop-item-preserved
loop-item-preserved g c =
    let at = c.loop-item in
    let inv = at.invariant in
    let a = c.in-Some.item in
    let later = into_iter_items c.next.new.self in
    let vs : into_iter_items at.item-iterator ≡ a ∷ later = c.in-Some.ensures.steps.0 in
    let short = ap (λ (xs : List _). length xs) vs in
    let p = c.push_reserved.ensures in record {
      left = let l = inv.left in let gone = c.in-Some.ensures.steps.1 in omega (arith, l, gone, short);
      items = ap (λ v. v ++ later) p.items ∙ (append_assoc at.list.items (a ∷ []) later ∙ (ap (λ v. at.list.items ++ v) (sym vs) ∙ inv.items));
      room = let r = inv.room in let more = p.len in let wide = p.capacity in omega (arith, r, more, wide, short);
      capacity = p.capacity ∙ inv.capacity;
    }

pub returns-clause-items : goal.returns-clause-items
returns-clause-items g c =
    let at = c.loop-item in
    let inv = at.invariant in
    let none : into_iter_items at.item-iterator ≡ [] = nil_from_length _ (sym inv.left ∙ c.in-None.ensures.steps.0) in
    sym (append-nil at.list.items) ∙ (ap (λ v. at.list.items ++ v) (sym none) ∙ (inv.items ∙ ap (λ v. c.args.list.now.items ++ v) c.into_iter-item-iterator.ensures.into_iter_gives.0))
