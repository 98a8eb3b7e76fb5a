use Rattle.std.proofs.Common.{◌≡◌, ◌+◌, ◌∙◌, ◌++◌, ◌∷◌, [], List, map, length, take, get_or, sym, ap, arith}
use Rattle.std.proofs.lemmas.List.{take_more, map-append}
use Rattle.cq_block.proofs.seating.numbers_of.Goals as goal

pub loop-one-preserved : goal.loop-one-preserved
loop-one-preserved c =
    let at = c.loop-one in
    let inv = at.invariant in
    let xs = c.args.sessions.now.items in
    let k = at.one-index in
    let x = c.one-item.result in
    let same = c.as_slice-one-items.ensures.value in
    let long = ap (λ (ys : List _). length ys) same in
    let low = c.loop-one-test.true in
    let more : take (k + 1) xs ≡ take k xs ++ x ∷ [] = take_more xs k x (omega (arith, low, long)) ∙ ap (λ r. take k xs ++ r ∷ []) (sym (c.one-item.is ∙ ap (λ (ys : List _). get_or ys k x) same)) in
    let p = c.push_reserved.ensures in record {
      numbers = p.items ∙ (ap (λ n. at.numbers.items ++ n ∷ []) c.from.ensures ∙ (ap (λ v. v ++ x.session ∷ []) inv.numbers ∙ sym (ap (λ v. map (λ one. one.session) v) more ∙ map-append (λ one. one.session) (take k xs) (x ∷ []))));
      count = let was = inv.count in let grown = p.len in omega (arith, was, grown);
      room = p.capacity ∙ inv.room;
    }
