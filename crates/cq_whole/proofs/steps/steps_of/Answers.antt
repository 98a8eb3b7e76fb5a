use Rattle.std.proofs.Common.{rules, ◌≡◌, ℕ, ◌+◌, [], length, replicate, ap, ◌∙◌}
use Rattle.cq_tree.specs.declared.query.Query.{out-Query}
use Rattle.cq_meaning.specs.Values.{Results}
use Rattle.cq_whole.specs.StepLists.{ins_in_cte_list, steps_in_cte_list}
use Rattle.cq_whole.proofs.NumberLaws.{schedule_steps, schedule_count}
use Rattle.cq_whole.proofs.steps.steps_of.Goals as goal

pub returns : goal.returns
returns c =
    let n1 : c.number_all.new.numbers ≡ length (out-Query c.args.query.now).ctes = search rules in
    let s1 : c.put_ctes.new.steps ≡ steps_in_cte_list 0 c.number_all.new.numbers (out-Query c.args.query.now).ctes = search rules in
    let n2 : c.put_ctes.new.numbers ≡ c.number_all.new.numbers + ins_in_cte_list (out-Query c.args.query.now).ctes = search rules in (
      schedule_steps c.args.query.now c.put_ctes.new.steps c.put_ins.new.steps c.number_all.new.numbers c.put_ctes.new.numbers n1 s1 n2 c.in_ok-put_ins.ensures.steps,
      c.into_results.ensures ∙ ap (λ (n : ℕ). the_places n) (schedule_count c.args.query.now c.number_all.new.numbers c.put_ctes.new.numbers c.put_ins.new.numbers n1 n2 c.in_ok-put_ins.ensures.numbers),
    )
  where
    the_places : ℕ → Results
    the_places n = replicate n []
