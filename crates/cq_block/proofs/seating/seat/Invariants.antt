use Rattle.std.proofs.Common.{◌≡◌, ◌≤◌, ◌+◌, ◌++◌, List, map, length, vec_len, vec_capacity}
use Rattle.std.specs.Vec.Iter.{into_iter_items, into_iter_len}
use Rattle.cq_shared.specs.Errands.{WorkerPass}
use Rattle.cq_shared.specs.Seen.{Pass}
use Rattle.cq_block.specs.declared.legality.Ground.{Ground}
use Rattle.cq_block.specs.declared.session.Session.{Session}
use Rattle.cq_block.specs.Seating.{AreSeated}
use Rattle.cq_block.proofs.seating.seat.Given as goal

abbrev pub invariant-loop-session : goal.invariant-loop-session
invariant-loop-session g l = record {
  left : into_iter_len l.session-iterator ≡ length (into_iter_items l.session-iterator);
  groups : into_iter_len l.groups ≡ length (into_iter_items l.groups);
  workers : into_iter_len l.workers ≡ length (into_iter_items l.workers);
  many : length (into_iter_items l.groups) ≡ length (into_iter_items l.session-iterator);
  as_many : length (into_iter_items l.workers) ≡ length (into_iter_items l.session-iterator);
  seated : (front : List (Session g.row.S.Denot)) × (into_iter_items l.initial.session-iterator ≡ front ++ into_iter_items l.session-iterator) × (given : List (List (Pass g.row.S.Denot (Ground g.row.S.Denot)))) × (map (λ r. r.items) (into_iter_items l.initial.groups) ≡ given ++ map (λ r. r.items) (into_iter_items l.groups)) × (benches : List (List (WorkerPass g.row.S.Denot (Ground g.row.S.Denot)))) × (map (λ r. r.items) (into_iter_items l.initial.workers) ≡ benches ++ map (λ r. r.items) (into_iter_items l.workers)) × AreSeated front given benches l.room.items;
  room : vec_len l.room + length (into_iter_items l.session-iterator) ≤ vec_capacity l.room;
}
