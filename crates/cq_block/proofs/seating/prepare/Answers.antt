use Rattle.std.proofs.Common.{◌≡◌, ◌∙◌, ◌++◌, ◌∷◌, [], List, length, refl, sym, ap, subst, arith, append_assoc}
use Rattle.std.specs.List.{AllZip}
use Rattle.std.specs.Vec.Iter.{into_iter_items}
use Rattle.cq_cell.proofs.Zips.{zip_more}
use Rattle.cq_block.specs.Seating.{IsPrepared}
use Rattle.cq_block.proofs.seating.prepare.Goals as goal

pub loop-one-preserved : goal.loop-one-preserved
loop-one-preserved g c =
    let at = c.loop-one in
    let inv = at.invariant in
    let one = c.in-Some.one in
    let later = into_iter_items c.next.new.self in
    let vs : into_iter_items at.one-iterator ≡ one ∷ later = c.in-Some.ensures.steps.0 in
    let short = ap (λ (xs : List _). length xs) vs in
    let p = c.push_reserved.ensures in
    let front = inv.prepared.0 in record {
      left = let a = inv.left in let gone = c.in-Some.ensures.steps.1 in omega (arith, a, gone, short);
      prepared = (
        front ++ one ∷ [],
        inv.prepared.1 ∙ (ap (λ v. front ++ v) vs ∙ sym (append_assoc front (one ∷ []) later)),
        subst (λ v. AllZip IsPrepared (front ++ one ∷ []) v) (sym p.items) (zip_more IsPrepared front at.prepared.items one _ inv.prepared.2 (record {
          number = refl;
          drafts = refl;
          none = c.in_ok-log.ensures.items;
          room = (let wide = c.in_ok-log.ensures.capacity in let long = c.len-in-loop-one.ensures in omega (arith, wide, long));
          nothing = c.in_ok-retired.ensures.items;
          space = (let wide = c.in_ok-retired.ensures.capacity in let long = c.len-in-loop-one-2.ensures in omega (arith, wide, long));
        })),
      );
      room = let a = inv.room in let more = p.len in let wide = p.capacity in omega (arith, a, more, wide, short);
    }
