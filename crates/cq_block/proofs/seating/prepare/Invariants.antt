use Rattle.std.proofs.Common.{◌≡◌, ◌≤◌, ◌+◌, ◌++◌, List, length, vec_len, vec_capacity}
use Rattle.std.specs.List.{AllZip}
use Rattle.std.specs.Vec.Iter.{into_iter_items, into_iter_len}
use Rattle.cq_block.specs.declared.drafts.SessionDrafts.{SessionDrafts}
use Rattle.cq_block.specs.Seating.{IsPrepared}
use Rattle.cq_block.proofs.seating.prepare.Given as goal

abbrev pub invariant-loop-one : goal.invariant-loop-one
invariant-loop-one g l = record {
  left : into_iter_len l.one-iterator ≡ length (into_iter_items l.one-iterator);
  prepared : (front : List SessionDrafts) × (into_iter_items l.initial.one-iterator ≡ front ++ into_iter_items l.one-iterator) × AllZip IsPrepared front l.prepared.items;
  room : vec_len l.prepared + length (into_iter_items l.one-iterator) ≤ vec_capacity l.prepared;
}
