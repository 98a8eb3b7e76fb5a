use Rattle.std.proofs.Common.{◌≡◌, ◌∙◌, length, arith}
use Rattle.std.proofs.lemmas.Result.{IfErr-weaker}
use Rattle.cq_cell.proofs.Zips.{zip_long}
use Rattle.cq_shared.specs.Blocks.{IsStock}
use Rattle.cq_shared.proofs.Stocking.{all_bench, returned}
use Rattle.cq_shared.proofs.block.open_block.Goals as goal

pub open_cells-requires-clause-may : goal.open_cells-requires-clause-may
open_cells-requires-clause-may g c = (c.requires.may.0, all_bench g.S.Store.state g.L.Legality.terms c.args.rules.now c.args.workers.items c.stock_all-stocks.result.items c.stock_all-stocks.ensures c.requires.may.1)

pub open_cells-requires-clause-room : goal.open_cells-requires-clause-room
open_cells-requires-clause-room g c =
    let r = c.in-Ok-with_capacity.ensures in
    let long = zip_long (IsStock c.args.rules.now) c.args.workers.items c.stock_all-stocks.result.items c.stock_all-stocks.ensures in
    let wide = r.capacity in
    let count = c.len-2.ensures in
    (r.items, omega (arith, long, wide, count, c.args.workers.ok.0, c.stock_all-stocks.result.ok.0))

pub returns-clause-err : goal.returns-clause-err
returns-clause-err g c =
    IfErr-weaker c.open_cells.result _ _ (λ e h. (h.0, h.1 ∙ returned c.args.rules.now c.args.workers.items c.stock_all-stocks.result.items c.stock_all-stocks.ensures)) c.open_cells.ensures.err
