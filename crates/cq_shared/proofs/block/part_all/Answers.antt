use Rattle.std.proofs.Common.{rules, ◌≡◌, ◌∙◌, ◌++◌, ◌∷◌, [], List, map, length, refl, sym, ap, arith, append_assoc}
use Rattle.std.proofs.lemmas.List.{nil_from_length, map-append}
use Rattle.std.specs.Vec.Iter.{into_iter_items}
use Rattle.cq_cell.proofs.Zips.{rest_none}
use Rattle.cq_shared.specs.Blocks.{group_in}
use Rattle.cq_shared.proofs.block.part_all.Goals as goal

pub loop-shard-init : goal.loop-shard-init
loop-shard-init g c =
    let e = c.requires.room in
    let v : into_iter_items c.into_iter-shard-iterator.result ≡ c.args.shards.items = c.into_iter-shard-iterator.ensures.into_iter_gives.0 in
    let long = ap (λ (xs : List _). length xs) v in
    let none = ap (λ (xs : List _). length xs) e.0 in
    let low = e.1 in record {
      left = search rules;
      parted = ([], refl, e.0);
      room = omega (arith, long, none, low, c.args.room.ok.0, c.args.shards.ok.0);
    }

pub loop-shard-preserved : goal.loop-shard-preserved
loop-shard-preserved g c =
    let at = c.loop-shard in
    let inv = at.invariant in
    let shard = c.in-Some.shard in
    let later = into_iter_items c.next.new.self in
    let vs : into_iter_items at.shard-iterator ≡ shard ∷ later = c.in-Some.ensures.steps.0 in
    let short = ap (λ (xs : List _). length xs) vs in
    let p = c.push_reserved.ensures in
    let front = inv.parted.0 in record {
      left = let a = inv.left in let gone = c.in-Some.ensures.steps.1 in omega (arith, a, gone, short);
      parted = (
        front ++ shard ∷ [],
        inv.parted.1 ∙ (ap (λ v. front ++ v) vs ∙ sym (append_assoc front (shard ∷ []) later)),
        p.items ∙ (ap (λ v. v ++ shard.group ∷ []) inv.parted.2 ∙ sym (map-append group_in front (shard ∷ []))),
      );
      room = let a = inv.room in let more = p.len in let wide = p.capacity in omega (arith, a, more, wide, short);
    }

pub returns : goal.returns
returns g c =
    let at = c.loop-shard in
    let inv = at.invariant in
    let none : into_iter_items at.shard-iterator ≡ [] = nil_from_length _ (sym inv.left ∙ c.in-None.ensures.steps.0) in
    let all = rest_none c.args.shards.items inv.parted.0 (into_iter_items at.shard-iterator) (sym c.into_iter-shard-iterator.ensures.into_iter_gives.0 ∙ inv.parted.1) none in
    inv.parted.2 ∙ ap (map group_in) (sym all)
