use Rattle.std.proofs.Common.{◌≡◌, ◌++◌, take}
use Rattle.std.specs.List.{flat_map}
use Rattle.cq_refusals.specs.Flaws.{flaws_within}
use Rattle.cq_refusals.proofs.blocks.+blocks.Given as goal

abbrev pub invariant-put_blocks-loop-q : goal.invariant-put_blocks-loop-q
invariant-put_blocks-loop-q l = l.found ≡ l.fn.found ++ flat_map (flaws_within l.repartition l.catalog) (take l.q-index l.queries)
