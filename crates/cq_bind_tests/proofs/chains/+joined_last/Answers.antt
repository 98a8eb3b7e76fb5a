use Rattle.std.proofs.Common.{◌≤◌, sym, subst, length, ◌-◌, drop, arith, Ok}
use Rattle.cq_reading.specs.Outcomes.{Judges}
use Rattle.cq_reading.specs.Rules.{chain_of}
use Rattle.cq_bind_tests.proofs.ChainLaws.{one_left, last_halves}
use Rattle.cq_bind_tests.proofs.chains.+joined_last.Goals as goal

pub returns-then-count-eq1-clause-value : goal.returns-then-count-eq1-clause-value
returns-then-count-eq1-clause-value t c =
    subst (λ n. Judges (chain_of n c.args.any (drop (length c.args.parts.now - n) c.args.parts.now)) (Ok c.last_bound.result)) (sym c.if-count-eq1.true) (one_left c.args.any _ _ c.last_bound.ensures.value)

pub returns-clause-value : goal.returns-clause-value
returns-clause-value t c =
    let h : 2 ≤ c.args.count = omega arith in
    last_halves c.args.any c.args.parts.now c.joined_last-right.new.parts c.args.count c.word_before-at.result _ _ _ h c.requires.within c.joined_last-right.ensures.rest (rw c.len.ensures at c.word_before-at.ensures)
    c.joined_last-right.ensures.value c.joined_last-left.ensures.value c.joined_halves.ensures
