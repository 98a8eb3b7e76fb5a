use Rattle.std.proofs.Common.{◌≡◌, ◌∙◌, length, arith}
use Rattle.std.proofs.lemmas.List.{length-map}
use Rattle.cq_cell.proofs.Zips.{three_long}
use Rattle.cq_shared.proofs.workers.close_workers.Goals as goal

pub return_all-requires : goal.return_all-requires
return_all-requires g c =
    let r = c.requires.room in
    let h = c.close_all-closed.ensures in
    let long : length c.close_all-closed.result.items ≡ length c.args.cells.items = (three_long _ _ c.close_all-closed.result.items h.histories h.each).0 ∙ length-map c.args.cells.items _ in
    let wide = r.3 in
    record { room = (r.2, omega (arith, long, wide, c.close_all-closed.result.ok.0, c.args.cells.ok.0)) }

pub returns : goal.returns
returns g c = record { stocks = c.close_all-closed.result.items; are = c.return_all.ensures; closed = c.close_all-closed.ensures }
