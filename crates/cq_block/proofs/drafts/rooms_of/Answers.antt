use Rattle.std.proofs.Common.{◌≡◌, ◌++◌, ◌∷◌, [], length, ap, ◌∙◌, arith, length-append, rules}
use Rattle.cq_block.proofs.DraftLaws.{rooms_more}
use Rattle.cq_block.proofs.drafts.rooms_of.Goals as goal

pub loop-session-preserved : goal.loop-session-preserved
loop-session-preserved c =
    let before = c.loop-session.invariant in
    let room = c.in_ok-room_of.ensures in
    let items : c.push.new.self.items ≡ c.loop-session.rooms.items ++ c.in_ok-room_of.field-0 ∷ [] = search (rules, c.push.ensures.items, c.if-is_err.false, c.is_err.ensures) in
    let long = ap (λ v. length v) items ∙ length-append c.loop-session.rooms.items (c.in_ok-room_of.field-0 ∷ []) in
    let count = before.count in
    record {
      count = omega (arith, count, long);
      rooms = rooms_more c.args.block.now c.loop-session.rooms.items c.push.new.self.items c.in_ok-room_of.field-0 before.rooms (room.0 ∙ before.count) room.1 items;
    }
