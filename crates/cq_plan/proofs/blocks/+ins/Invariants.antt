use Rattle.std.proofs.Common.{◌≡◌, ◌++◌, take}
use Rattle.std.specs.List.{flat_map}
use Rattle.cq_planning.specs.Occurrences.{with_ins}
use Rattle.cq_plan.specs.Touches.{touched_alone}
use Rattle.cq_plan.proofs.blocks.+ins.Given as goal

abbrev pub invariant-put_blocks-loop-q : goal.invariant-put_blocks-loop-q
invariant-put_blocks-loop-q l = l.found ≡ l.fn.found ++ flat_map (touched_alone l.catalog) (flat_map with_ins (take l.q-index l.queries))
