use Rattle.std.proofs.Common.{◌≡◌, take, false}
use Rattle.std.specs.List.{list_any}
use Rattle.cq_refusals.specs.Cuts.{is_cut_within}
use Rattle.cq_refusals.proofs.cuts.+cuts.Given as goal

abbrev pub invariant-has_loose_one-loop-q : goal.invariant-has_loose_one-loop-q
invariant-has_loose_one-loop-q l = list_any is_cut_within (take l.q-index l.queries) ≡ false
