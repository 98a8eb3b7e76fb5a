use Rattle.std.proofs.Common.{ap, ◌∙◌, slice_index_or, arith, rules}
use Rattle.std.proofs.Math.ListN.{set}
use Rattle.std.proofs.lemmas.List.{get_or_default}
use Rattle.std.proofs.lemmas.List.Edits.{map_over_more}
use Rattle.cq_balance.specs.declared.load.Load.{Load}
use Rattle.cq_balance.specs.Greedy.{placed}
use Rattle.cq_balance.proofs.planning.make.Goals as goal

pub loop-load-preserved : goal.loop-load-preserved
loop-load-preserved c =
    let before = c.loop-load.load-items in
    let here : Load = slice_index_or before c.loop-load.load-index (record { group = 0; node = 0; size = 0 }) in
    ap (λ y. set before c.loop-load.load-index y) c.placed.ensures
    ∙ map_over_more (placed c.args.next) c.deref_mut-load-items.result.now before c.loop-load.load-index here (omega arith) c.loop-load.invariant (search (rules, get_or_default))
