use Rattle.std.proofs.Common.{◌≡◌, ◌≤◌, ◌∙◌, length, arith, sym, subst, map}
use Rattle.std.proofs.lemmas.Grind.{common_steps}
use Rattle.std.specs.List.Sorted.{IsPermutation}
use Rattle.cq_engine.specs.Keys.{numbered}
use Rattle.cq_engine.proofs.KeyLaws.{none_repeats, met_repeats, twins_repeat}
use Rattle.cq_engine.proofs.key.repeats.Goals as goal

pub returns-then-is_empty : goal.returns-then-is_empty
returns-then-is_empty c =
    let none : length c.args.key.now ≡ 0 = grind (arith, common_steps) in
    λ there met. none_repeats c.args.key.now there c.args.rows.now none

pub returns-then-met : goal.returns-then-met
returns-then-met c =
    let some : 1 ≤ length c.args.key.now = grind (arith, common_steps) in
    λ there met. met_repeats c.args.key.now c.args.rows.now some there (sym c.if-met.true ∙ met)

pub returns : goal.returns
returns c =
    let some : 1 ≤ length c.args.key.now = grind (arith, common_steps) in
    let sorted = c.in_ok-sorted.sorted in
    λ there met.
    (rw c.as_slice-2.ensures at c.has_twins.ensures)
    ∙ twins_repeat c.args.key.now c.args.rows.now some sorted (subst (λ rows. IsPermutation (map (numbered c.args.key.now) rows) sorted) c.as_slice.ensures c.in_ok-sorted.ensures.same) there (sym c.if-met.false ∙ met)
