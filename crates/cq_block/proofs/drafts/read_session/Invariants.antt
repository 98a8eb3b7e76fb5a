use Rattle.std.proofs.Common.{◌≡◌, ◌+◌, ◌≤◌, length, take, drop}
use Rattle.std.specs.Prelude.{vec_len, vec_capacity}
use Rattle.std.specs.List.{AllZip}
use Rattle.cq_block.specs.Drafts.{of_session, IsDraftOf}
use Rattle.cq_block.proofs.drafts.read_session.Given as goal

abbrev pub invariant-loop-placed : goal.invariant-loop-placed
invariant-loop-placed l = record {
  same : l.one.session ≡ l.fn.one.session;
  drafts : AllZip (IsDraftOf l.catalog) (of_session l.fn.one.session (take l.placed-index l.block)) l.one.drafts.items;
  room : vec_len l.one.drafts + length (of_session l.fn.one.session (drop l.placed-index l.block)) ≤ vec_capacity l.one.drafts;
}
