use Rattle.std.proofs.Common.{rules, ◌≡◌, ◌∙◌, ◌+◌, ◌++◌, ◌∷◌, [], List, map, length, take, get_or, refl, sym, ap, subst, arith, append_assoc, length-append}
use Rattle.std.proofs.lemmas.List.{take_all, length-map, length-set, nil_from_length}
use Rattle.std.specs.Vec.Iter.{into_iter_items}
use Rattle.cq_cell.specs.declared.passes.Pass.{Pass}
use Rattle.cq_cell.specs.Lists.{AllThree}
use Rattle.cq_cell.specs.Rows.{MayTake, Takes}
use Rattle.cq_cell.proofs.Zips.{map_at, three_at, three_long, three_step, at_rest, rest_set, get_mid, rest_none}
use Rattle.cq_cell.proofs.closing.join_row.Goals as goal

pub loop-at-init : goal.loop-at-init
loop-at-init g c =
    let t = three_long MayTake _ c.args.roots.now.items c.args.row.items c.requires in record {
      long = t.0 ∙ length-map c.args.cells.now.items _;
      left = search rules;
      rest = refl;
      taken = ([], refl, refl, tt);
    }

pub unreachable-requires : goal.unreachable-requires
unreachable-requires g c =
    let at = c.loop-at in
    let taken = at.invariant.taken in
    let t = three_long MayTake _ c.args.roots.now.items c.args.row.items c.requires in
    let all = t.1 ∙ length-map c.args.cells.now.items _ in
    let start = ap (λ (xs : List _). length xs) (c.into_iter-passes.ensures.rest) in
    let parts = ap (λ (xs : List _). length xs) taken.1 in
    let both = length-append taken.0 (into_iter_items at.passes) in
    let none = c.in_default.ensures.cases.0 in
    let held = at.invariant.left in
    let low = c.loop-at-test.true in
    let many = c.len-at-end.ensures in
    let count = taken.2 in
    omega (arith, all, start, parts, both, none, held, low, many, count, c.args.cells.now.ok.0)

pub join_one-requires : goal.join_one-requires
join_one-requires g c =
    let at = c.loop-at in
    let inv = at.invariant in
    let taken = inv.taken in
    let low = c.loop-at-test.true in
    let many = c.len-at-end.ensures in
    let cells = c.args.cells.now.items in
    let cell = c.index.result.now in
    let root = c.index_mut.result.now in
    let pass = c.in-Some.pass in
    let later = into_iter_items c.next.new.self in
    let t = three_long MayTake _ c.args.roots.now.items c.args.row.items c.requires in
    let start : length c.args.roots.now.items ≡ length cells = t.0 ∙ length-map cells _ in
    let all : c.args.row.items ≡ taken.0 ++ pass ∷ later = sym c.into_iter-passes.ensures.rest ∙ (taken.1 ∙ ap (λ v. taken.0 ++ v) c.in-Some.ensures.items) in
    three_at MayTake (map (λ d. (d.shared.table_id, d.shared.key)) cells) c.args.roots.now.items c.args.row.items at.at (cell.shared.table_id, cell.shared.key) root pass c.requires
    (omega (arith, low, many, c.args.cells.now.ok.0, t.0, start)) (map_at (λ d. (d.shared.table_id, d.shared.key)) cells at.at cell c.index.ensures)
    (c.index_mut.ensures.value ∙ at_rest at.at at.roots.items c.args.roots.now.items root inv.rest) (get_mid taken.0 at.at pass later taken.2 ∙ ap (λ v. get_or v at.at pass) (sym all))

pub loop-at-preserved : goal.loop-at-preserved
loop-at-preserved g c =
    let at = c.loop-at in
    let inv = at.invariant in
    let taken = inv.taken in
    let low = c.loop-at-test.true in
    let many = c.len-at-end.ensures in
    let root = c.index_mut.result.now in
    let now = c.join_one.new.root in
    let pass = c.in-Some.pass in
    let later = into_iter_items c.next.new.self in
    let short = ap (λ (xs : List _). length xs) c.in-Some.ensures.items in
    let t = three_long MayTake _ c.args.roots.now.items c.args.row.items c.requires in
    let start : length c.args.roots.now.items ≡ length c.args.cells.now.items = t.0 ∙ length-map c.args.cells.now.items _ in record {
      long = length-set at.roots.items at.at now ∙ inv.long;
      left = let was = inv.left in let gone = c.in-Some.ensures.len in omega (arith, was, gone, short);
      rest = rest_set at.at at.roots.items c.args.roots.now.items now inv.rest;
      taken = (
        taken.0 ++ pass ∷ [],
        taken.1 ∙ (ap (λ v. taken.0 ++ v) c.in-Some.ensures.items ∙ sym (append_assoc taken.0 (pass ∷ []) later)),
        (let both = length-append taken.0 (pass ∷ []) in let count = taken.2 in omega (arith, both, count)),
        three_step Takes c.args.roots.now.items at.roots.items taken.0 (taken.0 ++ pass ∷ []) at.at root now pass (omega (arith, low, many, c.args.cells.now.ok.0, start)) (omega (arith, low, many, c.args.cells.now.ok.0, inv.long)) taken.3
            (c.index_mut.ensures.value ∙ at_rest at.at at.roots.items c.args.roots.now.items root inv.rest) c.join_one.ensures refl,
      );
    }

pub returns : goal.returns
returns g c =
    let at = c.loop-at in
    let inv = at.invariant in
    let taken = inv.taken in
    let high = c.loop-at-test.false in
    let many = c.len-at-end.ensures in
    let t = three_long MayTake _ c.args.roots.now.items c.args.row.items c.requires in
    let start : length c.args.roots.now.items ≡ length c.args.cells.now.items = t.0 ∙ length-map c.args.cells.now.items _ in
    let all = t.1 ∙ length-map c.args.cells.now.items _ in
    let whole : c.args.row.items ≡ taken.0 ++ into_iter_items at.passes = sym c.into_iter-passes.ensures.rest ∙ taken.1 in
    let parts = ap (λ (xs : List _). length xs) whole in
    let both = length-append taken.0 (into_iter_items at.passes) in
    let count = taken.2 in
    let none : into_iter_items at.passes ≡ [] = nil_from_length _ (omega (arith, all, parts, both, high, many, count, c.args.cells.now.ok.0)) in
    let same : c.args.row.items ≡ taken.0 = rest_none c.args.row.items taken.0 (into_iter_items at.passes) whole none in
    subst (λ (xs : List _). AllThree Takes xs at.roots.items c.args.row.items) (take_all at.at c.args.roots.now.items (omega (arith, high, many, c.args.cells.now.ok.0, start)))
    (subst (λ (xs : List _). AllThree Takes (take at.at c.args.roots.now.items) xs c.args.row.items) (take_all at.at at.roots.items (omega (arith, high, many, c.args.cells.now.ok.0, inv.long)))
    (subst (λ (xs : List _). AllThree Takes (take at.at c.args.roots.now.items) (take at.at at.roots.items) xs) (sym same) taken.3))
