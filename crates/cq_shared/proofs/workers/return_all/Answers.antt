use Rattle.std.proofs.Common.{rules, ◌≡◌, ◌∙◌, ◌++◌, ◌∷◌, [], List, map, length, refl, sym, ap, arith, append_assoc}
use Rattle.std.proofs.lemmas.List.{nil_from_length, map-append}
use Rattle.std.specs.Vec.Iter.{into_iter_items}
use Rattle.cq_cell.proofs.Zips.{rest_none}
use Rattle.cq_shared.specs.Blocks.{worker_in}
use Rattle.cq_shared.proofs.workers.return_all.Goals as goal

pub loop-stock-init : goal.loop-stock-init
loop-stock-init g c =
    let e = c.requires.room in
    let v : into_iter_items c.into_iter-stock-iterator.result ≡ c.args.stocks.items = c.into_iter-stock-iterator.ensures.into_iter_gives.0 in
    let long = ap (λ (xs : List _). length xs) v in
    let none = ap (λ (xs : List _). length xs) e.0 in
    let low = e.1 in record {
      left = search rules;
      parted = ([], refl, e.0);
      room = omega (arith, long, none, low, c.args.room.ok.0, c.args.stocks.ok.0);
    }

pub loop-stock-preserved : goal.loop-stock-preserved
loop-stock-preserved g c =
    let at = c.loop-stock in
    let inv = at.invariant in
    let stock = c.in-Some.stock in
    let later = into_iter_items c.next.new.self in
    let vs : into_iter_items at.stock-iterator ≡ stock ∷ later = c.in-Some.ensures.steps.0 in
    let short = ap (λ (xs : List _). length xs) vs in
    let p = c.push_reserved.ensures in
    let front = inv.parted.0 in record {
      left = let a = inv.left in let gone = c.in-Some.ensures.steps.1 in omega (arith, a, gone, short);
      parted = (
        front ++ stock ∷ [],
        inv.parted.1 ∙ (ap (λ v. front ++ v) vs ∙ sym (append_assoc front (stock ∷ []) later)),
        p.items ∙ (ap (λ v. v ++ stock.worker ∷ []) inv.parted.2 ∙ sym (map-append worker_in front (stock ∷ []))),
      );
      room = let a = inv.room in let more = p.len in let wide = p.capacity in omega (arith, a, more, wide, short);
    }

pub returns : goal.returns
returns g c =
    let at = c.loop-stock in
    let inv = at.invariant in
    let none : into_iter_items at.stock-iterator ≡ [] = nil_from_length _ (sym inv.left ∙ c.in-None.ensures.steps.0) in
    let all = rest_none c.args.stocks.items inv.parted.0 (into_iter_items at.stock-iterator) (sym c.into_iter-stock-iterator.ensures.into_iter_gives.0 ∙ inv.parted.1) none in
    inv.parted.2 ∙ ap (map worker_in) (sym all)
