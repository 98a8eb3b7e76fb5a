use Rattle.std.proofs.Common.{◌≡◌, ◌+◌, ◌∙◌, ◌++◌, ◌∷◌, [], ℕ, List, length, take, get_or, sym, ap, arith}
use Rattle.std.proofs.lemmas.List.{take_more}
use Rattle.cq_cell.proofs.Zips.{zip_step}
use Rattle.cq_cell.proofs.block.room_for_passes.Goals as goal

pub loop-number-preserved : goal.loop-number-preserved
loop-number-preserved g c =
    let at = c.loop-number in
    let numbers = c.args.numbers.now.items in
    let k = at._number-index in
    let long = ap (λ (ns : List ℕ). length ns) c.as_slice-number-items.ensures.value in
    let low = c.loop-number-test.true in
    let p = c.push_reserved.ensures in record {
      rows = zip_step _ (take k numbers) (take (k + 1) numbers) at.rows.items c.push_reserved.new.self.items (get_or numbers k 0) c.in_ok-row.row at.invariant.rows (c.in_ok-row.ensures.items, c.in_ok-row.ensures.capacity) (take_more numbers k 0 (omega (arith, long, low))) p.items;
      count = let was = at.invariant.count in let more = p.len in omega (arith, was, more);
      room = p.capacity ∙ at.invariant.room;
    }
