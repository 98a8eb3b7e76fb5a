use Rattle.std.proofs.Common.{◌≡◌, ◌∙◌, [], List, length, sym, ap, arith}
use Rattle.std.proofs.lemmas.List.{length-map}
use Rattle.cq_cell.specs.Many.{origin_in, IsOpened}
use Rattle.cq_cell.proofs.Zips.{zip_long}
use Rattle.cq_shared.specs.Blocks.{IsShared}
use Rattle.cq_shared.proofs.Sharing.{all_stand, parted}
use Rattle.cq_shared.proofs.block.open_groups.Goals as goal

pub open_all-block-requires-clause-stands : goal.open_all-block-requires-clause-stands
open_all-block-requires-clause-stands g c = all_stand g.S.Store.state g.L.Legality.terms c.args.rules.now c.args.groups.items c.share_all-shards.result.items c.share_all-shards.ensures c.requires.groups

pub part_all-requires : goal.part_all-requires
part_all-requires g c =
    let r = c.in-Ok-with_capacity.ensures in
    let long = zip_long (IsShared c.args.rules.now) c.args.groups.items c.share_all-shards.result.items c.share_all-shards.ensures in
    let wide = r.capacity in
    let count = c.len-2.ensures in
    record { room = (r.items, omega (arith, long, wide, count, c.args.groups.ok.0, c.share_all-shards.result.ok.0)) }

pub returns-in-Ok-take_room-clause-room : goal.returns-in-Ok-take_room-clause-room
returns-in-Ok-take_room-clause-room g c =
    let o = c.open_all-block.ensures in
    let b = c.open_all-block.result in
    let ns = c.args.numbers.now.items in
    let shards = c.share_all-shards.result.items in
    let r = c.in-Ok-with_capacity.ensures in
    let long = zip_long (IsShared c.args.rules.now) c.args.groups.items shards c.share_all-shards.ensures in
    let wide = r.capacity in
    let count = c.len-2.ensures in
    let many : length shards ≡ length b.roots.items = sym (ap (λ (xs : List _). length xs) o.opened.values) ∙ (length-map _ origin_in ∙ sym (zip_long (IsOpened ns []) _ b.roots.items o.opened.each)) in
    let all : length b.roots.items ≡ length b.cells.items = zip_long (IsOpened ns []) _ b.roots.items o.opened.each ∙ length-map b.cells.items _ in
    (o.room.0, o.room.1, r.items, omega (arith, many, all, long, wide, count, b.cells.ok.0, c.args.groups.ok.0))

pub returns-in-Err-clause-err : goal.returns-in-Err-clause-err
returns-in-Err-clause-err g c = c.part_all.ensures ∙ parted c.args.rules.now c.args.groups.items c.share_all-shards.result.items c.share_all-shards.ensures
