use Rattle.std.proofs.Common.{rules, ◌≡◌, ◌∙◌, ◌+◌, ◌∷◌, ◌++◌, [], ℕ, List, map, length, take, drop, get_or, refl, sym, ap, subst, arith, length-drop}
use Rattle.std.specs.List.{AllZip}
use Rattle.std.proofs.lemmas.List.{take_all, take_more, drop_all}
use Rattle.std.specs.Vec.Iter.{into_iter_items}
use Rattle.cq_cell.specs.Many.{IsOpened, AllFirst}
use Rattle.cq_cell.proofs.Zips.{zip_first, zip_next, zip_long, rest_first}
use Rattle.cq_cell.proofs.Roots.{may_give, have_given}
use Rattle.cq_cell.proofs.splitting.split_rows.Goals as goal

pub loop-number-init : goal.loop-number-init
loop-number-init g c =
    let e = c.requires.done in record {
      rows = search rules;
      opened = c.requires.roots;
      left = rw c.into_iter-rows.ensures.rest c.requires.rows;
      first = rw e.0 tt;
      count = let none = ap (λ (xs : List _). length xs) e.0 in omega (arith, none, c.args.done.ok.0);
      room = refl;
    }

pub unreachable-requires : goal.unreachable-requires
unreachable-requires g c =
    let at = c.loop-number in
    let same = c.as_slice-number-items.ensures.value in
    let long = ap (λ (ns : List ℕ). length ns) same in
    let low = c.loop-number-test.true in
    let none = c.in_default.ensures.cases.0 in
    let held = at.invariant.rows in
    let rows = zip_long _ (drop at.number-index c.args.numbers.now.items) (into_iter_items at.rows) at.invariant.left in
    let left = length-drop at.number-index c.args.numbers.now.items in
    omega (arith, long, low, none, held, rows, left)

pub split_row-requires-clause-roots : goal.split_row-requires-clause-roots
split_row-requires-clause-roots g c =
    let at = c.loop-number in
    let k = at.number-index in
    let numbers = c.args.numbers.now.items in
    let same = c.as_slice-number-items.ensures.value in
    let long = ap (λ (ns : List ℕ). length ns) same in
    let low = c.loop-number-test.true in
    let n : ℕ = get_or c.as_slice-number-items.result.now k 0 in
    let first : drop k numbers ≡ n ∷ drop (k + 1) numbers = rest_first k numbers 0 (omega (arith, long, low)) ∙ ap (λ (ns : List ℕ). get_or ns k 0 ∷ drop (k + 1) numbers) (sym same) in
    may_give numbers n (drop (k + 1) numbers) _ at.roots.items (subst (λ l. AllZip (IsOpened numbers l) (map (λ d. (d.shared.table_id, d.shared.key)) c.args.cells.now.items) at.roots.items) first at.invariant.opened)

pub split_row-requires-clause-room : goal.split_row-requires-clause-room
split_row-requires-clause-room g c =
    let at = c.loop-number in
    let k = at.number-index in
    let numbers = c.args.numbers.now.items in
    let same = c.as_slice-number-items.ensures.value in
    let long = ap (λ (ns : List ℕ). length ns) same in
    let low = c.loop-number-test.true in
    (zip_first _ (drop k numbers) (drop (k + 1) numbers) (into_iter_items at.rows) (into_iter_items c.next.new.self) (get_or numbers k 0) c.in-Some.row (rest_first k numbers 0 (omega (arith, long, low))) c.in-Some.ensures.items at.invariant.left).0

pub loop-number-preserved : goal.loop-number-preserved
loop-number-preserved g c =
    let at = c.loop-number in
    let inv = at.invariant in
    let k = at.number-index in
    let numbers = c.args.numbers.now.items in
    let same = c.as_slice-number-items.ensures.value in
    let long = ap (λ (ns : List ℕ). length ns) same in
    let low = c.loop-number-test.true in
    let n : ℕ = get_or c.as_slice-number-items.result.now k 0 in
    let here : get_or numbers k 0 ≡ n = ap (λ (ns : List ℕ). get_or ns k 0) (sym same) in
    let first : drop k numbers ≡ n ∷ drop (k + 1) numbers = rest_first k numbers 0 (omega (arith, long, low)) ∙ ap (λ (ns : List ℕ). get_or ns k 0 ∷ drop (k + 1) numbers) (sym same) in
    let more : take (k + 1) numbers ≡ take k numbers ++ n ∷ [] = take_more numbers k 0 (omega (arith, long, low)) ∙ ap (λ m. take k numbers ++ m ∷ []) here in
    let opened = subst (λ l. AllZip (IsOpened numbers l) (map (λ d. (d.shared.table_id, d.shared.key)) c.args.cells.now.items) at.roots.items) first inv.opened in
    let given = have_given numbers n (drop (k + 1) numbers) _ at.roots.items c.split_row.new.roots.items c.split_row.result.items opened c.split_row.ensures in
    let steps = c.in-Some.ensures.items in
    let short = ap (λ (xs : List _). length xs) steps in
    let p = c.push_reserved.ensures in record {
      rows = let was = inv.rows in let gone = c.in-Some.ensures.len in omega (arith, was, gone, short);
      opened = given.0;
      left = (zip_first _ (drop k numbers) (drop (k + 1) numbers) (into_iter_items at.rows) (into_iter_items c.next.new.self) n c.in-Some.row first steps inv.left).1;
      first = zip_next _ (λ r. r.items) (take k numbers) (take (k + 1) numbers) at.done.items c.push_reserved.new.self.items n c.split_row.result inv.first given.1 more p.items;
      count = let was = inv.count in let grown = p.len in omega (arith, was, grown);
      room = p.capacity ∙ inv.room;
    }

pub returns-clause-roots : goal.returns-clause-roots
returns-clause-roots g c =
    let at = c.loop-number in
    let numbers = c.args.numbers.now.items in
    let long = ap (λ (ns : List ℕ). length ns) c.as_slice-number-items.ensures.value in
    let high = c.loop-number-test.false in
    subst (λ l. AllZip (IsOpened numbers l) (map (λ d. (d.shared.table_id, d.shared.key)) c.args.cells.now.items) at.roots.items) (drop_all at.number-index numbers (omega (arith, long, high))) at.invariant.opened

pub returns-clause-passes : goal.returns-clause-passes
returns-clause-passes g c =
    let at = c.loop-number in
    let numbers = c.args.numbers.now.items in
    let long = ap (λ (ns : List ℕ). length ns) c.as_slice-number-items.ensures.value in
    let high = c.loop-number-test.false in
    subst (λ l. AllFirst numbers (map (λ d. (d.shared.table_id, d.shared.key)) c.args.cells.now.items) l (map (λ r. r.items) at.done.items)) (take_all at.number-index numbers (omega (arith, long, high))) at.invariant.first
