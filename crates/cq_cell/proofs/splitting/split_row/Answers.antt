use Rattle.std.proofs.Common.{rules, ◌≡◌, ◌∙◌, [], List, map, length, take, get_or, refl, sym, ap, subst, arith}
use Rattle.std.proofs.lemmas.List.{take_all, length-map, length-set}
use Rattle.cq_cell.specs.Lists.{AllThree}
use Rattle.cq_cell.specs.Rows.{MayGive, Gives}
use Rattle.cq_cell.proofs.Zips.{map_at, zip_at, zip_long, three_step, at_rest, rest_set}
use Rattle.cq_cell.proofs.splitting.split_row.Goals as goal

pub loop-at-init : goal.loop-at-init
loop-at-init g c =
    let e = c.requires.room in record {
      long = zip_long MayGive _ c.args.roots.now.items c.requires.roots ∙ length-map c.args.cells.now.items _;
      given = rw e.0 tt;
      rest = refl;
      count = let none = ap (λ (xs : List _). length xs) e.0 in omega (arith, none, c.args.row.ok.0);
      room = refl;
    }

pub split_one-requires : goal.split_one-requires
split_one-requires g c =
    let at = c.loop-at in
    let low = c.loop-at-test.true in
    let many = c.len-at-end.ensures in
    let inv = at.invariant in
    let cells = c.args.cells.now.items in
    let cell = c.index.result.now in
    let root = c.index_mut.result.now in
    let roots = zip_long MayGive _ c.args.roots.now.items c.requires.roots in
    let start : length c.args.roots.now.items ≡ length cells = roots ∙ length-map cells _ in
    zip_at MayGive (map (λ d. (d.shared.table_id, d.shared.key)) cells) c.args.roots.now.items at.at (cell.shared.table_id, cell.shared.key) root c.requires.roots (omega (arith, low, many, c.args.cells.now.ok.0, roots, start))
    (map_at (λ d. (d.shared.table_id, d.shared.key)) cells at.at cell c.index.ensures) (c.index_mut.ensures.value ∙ at_rest at.at at.roots.items c.args.roots.now.items root inv.rest)

pub loop-at-preserved : goal.loop-at-preserved
loop-at-preserved g c =
    let at = c.loop-at in
    let inv = at.invariant in
    let low = c.loop-at-test.true in
    let many = c.len-at-end.ensures in
    let root = c.index_mut.result.now in
    let now = c.split_one.new.root in
    let p = c.push_reserved.ensures in
    let start : length c.args.roots.now.items ≡ length c.args.cells.now.items = zip_long MayGive _ c.args.roots.now.items c.requires.roots ∙ length-map c.args.cells.now.items _ in record {
      long = length-set at.roots.items at.at now ∙ inv.long;
      given = three_step (Gives c.args.number) c.args.roots.now.items at.roots.items at.row.items _ at.at root now c.split_one.result (omega (arith, low, many, c.args.cells.now.ok.0, start)) (omega (arith, low, many, c.args.cells.now.ok.0, inv.long)) inv.given
          (c.index_mut.ensures.value ∙ at_rest at.at at.roots.items c.args.roots.now.items root inv.rest) c.split_one.ensures p.items;
      rest = rest_set at.at at.roots.items c.args.roots.now.items now inv.rest;
      count = let was = inv.count in let more = p.len in omega (arith, was, more);
      room = p.capacity ∙ inv.room;
    }

pub returns : goal.returns
returns g c =
    let at = c.loop-at in
    let inv = at.invariant in
    let high = c.loop-at-test.false in
    let many = c.len-at-end.ensures in
    let start : length c.args.roots.now.items ≡ length c.args.cells.now.items = zip_long MayGive _ c.args.roots.now.items c.requires.roots ∙ length-map c.args.cells.now.items _ in
    subst (λ (xs : List _). AllThree (Gives c.args.number) xs at.roots.items at.row.items) (take_all at.at c.args.roots.now.items (omega (arith, high, many, c.args.cells.now.ok.0, start)))
    (subst (λ (xs : List _). AllThree (Gives c.args.number) (take at.at c.args.roots.now.items) xs at.row.items) (take_all at.at at.roots.items (omega (arith, high, many, c.args.cells.now.ok.0, inv.long))) inv.given)
