use Rattle.std.proofs.Common.{rules, ◌≡◌, ◌∙◌, ◌++◌, ◌∷◌, [], List, map, length, refl, sym, ap, subst, arith, append_assoc}
use Rattle.std.proofs.lemmas.List.{length-map, nil_from_length}
use Rattle.std.specs.Vec.Iter.{into_iter_items}
use Rattle.cq_cell.specs.Rows.{IsJoined, IsClosed}
use Rattle.cq_cell.proofs.Zips.{zip_first, zip_long, three_next, three_whole, rest_none}
use Rattle.cq_cell.proofs.closing.close_each.Goals as goal

pub loop-cell-init : goal.loop-cell-init
loop-cell-init g c =
    let e = c.requires.room in
    let v : into_iter_items c.into_iter-cell-iterator.result ≡ c.args.cells.items = c.into_iter-cell-iterator.ensures.into_iter_gives.0 in
    let long = ap (λ (xs : List _). length xs) v in
    let none = ap (λ (xs : List _). length xs) e.0 in
    let low = e.1 in record {
      cells = search rules;
      roots = search rules;
      joined = (c.requires.joined.0, rw (v, c.into_iter-roots.ensures.rest) c.requires.joined.1);
      room = omega (arith, long, none, low, c.args.values.ok.0, c.args.cells.ok.0);
      closed = ([], [], refl, refl, rw e.0 tt);
    }

pub unreachable-requires : goal.unreachable-requires
unreachable-requires g c =
    let at = c.loop-cell in
    let inv = at.invariant in
    let more = ap (λ (xs : List _). length xs) c.in-Some.ensures.steps.0 in
    let none = c.in_default.ensures.cases.0 in
    let held = inv.roots in
    let long = zip_long (IsJoined inv.joined.0 inv.joined.0) _ (into_iter_items at.roots) inv.joined.1 ∙ length-map (into_iter_items at.cell-iterator) _ in
    omega (arith, more, none, held, long)

pub close_one-requires : goal.close_one-requires
close_one-requires g c =
    let at = c.loop-cell in
    let inv = at.invariant in
    let cell = c.in-Some.cell in
    let j = inv.joined in (
      j.0,
      (zip_first (IsJoined j.0 j.0) (map (λ d. (d.shared.table_id, d.shared.key)) (into_iter_items at.cell-iterator)) (map (λ d. (d.shared.table_id, d.shared.key)) (into_iter_items c.next.new.self)) (into_iter_items at.roots)
          (into_iter_items c.next-in-loop-cell.new.self) (cell.shared.table_id, cell.shared.key) c.in-Some-next.root (ap (map (λ d. (d.shared.table_id, d.shared.key))) c.in-Some.ensures.steps.0) c.in-Some-next.ensures.items j.1).0,
    )

pub loop-cell-preserved : goal.loop-cell-preserved
loop-cell-preserved g c =
    let at = c.loop-cell in
    let inv = at.invariant in
    let cell = c.in-Some.cell in
    let root = c.in-Some-next.root in
    let j = inv.joined in
    let later = into_iter_items c.next.new.self in
    let others = into_iter_items c.next-in-loop-cell.new.self in
    let vs : into_iter_items at.cell-iterator ≡ cell ∷ later = c.in-Some.ensures.steps.0 in
    let rs : into_iter_items at.roots ≡ root ∷ others = c.in-Some-next.ensures.items in
    let short = ap (λ (xs : List _). length xs) vs in
    let less = ap (λ (xs : List _). length xs) rs in
    let p = c.push_reserved.ensures in
    let front = inv.closed.0 in
    let front' = inv.closed.1 in record {
      cells = let a = inv.cells in let gone = c.in-Some.ensures.steps.1 in omega (arith, a, gone, short);
      roots = let a = inv.roots in let gone = c.in-Some-next.ensures.len in omega (arith, a, gone, less);
      joined = (
        j.0,
        (zip_first (IsJoined j.0 j.0) (map (λ d. (d.shared.table_id, d.shared.key)) (into_iter_items at.cell-iterator)) (map (λ d. (d.shared.table_id, d.shared.key)) later) (into_iter_items at.roots) others (cell.shared.table_id, cell.shared.key) root
            (ap (map (λ d. (d.shared.table_id, d.shared.key))) vs) rs j.1).1,
      );
      room = let a = inv.room in let more = p.len in let wide = p.capacity in omega (arith, a, more, wide, short);
      closed = (
        front ++ cell ∷ [],
        front' ++ root ∷ [],
        inv.closed.2 ∙ (ap (λ v. front ++ v) vs ∙ sym (append_assoc front (cell ∷ []) later)),
        inv.closed.3 ∙ (ap (λ v. front' ++ v) rs ∙ sym (append_assoc front' (root ∷ []) others)),
        three_next (IsClosed g.C.Content.who g.C.Content.stands) (λ d. (d.shared.table_id, d.shared.key)) front (front ++ cell ∷ []) front' (front' ++ root ∷ []) at.values.items c.push_reserved.new.self.items cell root c.close_one.result inv.closed.4 c.close_one.ensures refl refl p.items,
      );
    }

pub returns : goal.returns
returns g c =
    let at = c.loop-cell in
    let inv = at.invariant in
    let none : into_iter_items at.cell-iterator ≡ [] = nil_from_length _ (sym inv.cells ∙ c.in-None.ensures.steps.0) in
    let short = ap (λ (xs : List _). length xs) none in
    let long = zip_long (IsJoined inv.joined.0 inv.joined.0) _ (into_iter_items at.roots) inv.joined.1 ∙ length-map (into_iter_items at.cell-iterator) _ in
    let none' : into_iter_items at.roots ≡ [] = nil_from_length _ (omega (arith, short, long)) in
    three_whole (IsClosed g.C.Content.who g.C.Content.stands) (λ d. (d.shared.table_id, d.shared.key)) c.args.cells.items inv.closed.0 c.args.roots.items inv.closed.1 at.values.items
    (rest_none c.args.cells.items inv.closed.0 (into_iter_items at.cell-iterator) (sym c.into_iter-cell-iterator.ensures.into_iter_gives.0 ∙ inv.closed.2) none)
    (rest_none c.args.roots.items inv.closed.1 (into_iter_items at.roots) (sym c.into_iter-roots.ensures.rest ∙ inv.closed.3) none') inv.closed.4
