use Rattle.std.proofs.Common.{◌∙◌, ap, map}
use Rattle.cq_value.specs.Tables.{Pair}
use Rattle.cq_group.proofs.KeyLaws.{rows_picked}
use Rattle.cq_group.proofs.group.GroupTable.pick.Goals as goal

pub returns-clause-rows : goal.returns-clause-rows
returns-clause-rows g c = λ x.
    c.in_ok-rows.ensures ∙ ap (map (λ (p : Pair). p.1)) (c.in_ok-pairs.ensures.pairs x) ∙ rows_picked c.args.wanted.now _
