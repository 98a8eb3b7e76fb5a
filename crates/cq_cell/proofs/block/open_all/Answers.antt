use Rattle.std.proofs.Common.{◌≡◌, ◌≤◌, ◌∙◌, List, length, map, vec_len, vec_capacity, sym, ap, subst, arith}
use Rattle.std.proofs.lemmas.List.{length-map}
use Rattle.cq_cell.specs.Many.{origin_in, IsOpened, HaveRoom}
use Rattle.cq_cell.proofs.Zips.{zip_long}
use Rattle.cq_cell.proofs.block.open_all.Goals as goal

pub split_rows-passes-requires-clause-rows : goal.split_rows-passes-requires-clause-rows
split_rows-passes-requires-clause-rows g c =
    let ns = c.args.numbers.now.items in
    let done = c.fill_all-cells.result in
    let e = c.fill_all-cells.ensures in
    let many : length c.args.values.items ≡ length done.roots.items = sym (ap (λ (xs : List _). length xs) e.values) ∙ (length-map _ origin_in ∙ sym (zip_long (IsOpened ns ns) _ done.roots.items e.each)) in
    let all : length done.roots.items ≡ length done.cells.items = zip_long (IsOpened ns ns) _ done.roots.items e.each ∙ length-map done.cells.items _ in
    let same : vec_len c.args.values ≡ vec_len done.cells = omega (arith, many, all, done.cells.ok.0, c.args.values.ok.0) in
    subst (λ n. HaveRoom ns n c.args.room.rows.items) same c.requires.rows

pub returns-clause-opened : goal.returns-clause-opened
returns-clause-opened g c = record { values = c.fill_all-cells.ensures.values; each = c.split_rows-passes.ensures.roots }

pub returns-clause-room : goal.returns-clause-room
returns-clause-room g c =
    let ns = c.args.numbers.now.items in
    let done = c.fill_all-cells.result in
    let e = c.fill_all-cells.ensures in
    let many : length c.args.values.items ≡ length done.roots.items = sym (ap (λ (xs : List _). length xs) e.values) ∙ (length-map _ origin_in ∙ sym (zip_long (IsOpened ns ns) _ done.roots.items e.each)) in
    let all : length done.roots.items ≡ length done.cells.items = zip_long (IsOpened ns ns) _ done.roots.items e.each ∙ length-map done.cells.items _ in
    let r = c.requires.values in
    let wide = r.1 in
    (r.0, omega (arith, many, all, wide, done.cells.ok.0, c.args.values.ok.0))
