use Rattle.std.proofs.Common.{◌<◌, ℕ, List, length, sym, ap, ◌∙◌, subst}
use Rattle.std.specs.List.{AllByRecursion}
use Rattle.cq_exec.specs.Executing.{groups_of}
use Rattle.cq_exec.proofs.RunLaws.{places_there}
use Rattle.cq_exec.proofs.tasks.run_in_groups.Goals as goal

pub run_at-requires-clause-there : goal.run_at-requires-clause-there
run_at-requires-clause-there c =
    subst (λ (is : List ℕ). AllByRecursion (λ i. i < length c.args.read.now.parts) is) (sym (c.as_slice-3.ensures ∙ c.in-Ok.ensures))
    (places_there c.as_slice.result.now (length c.args.read.now.parts) (ap (λ (gs : List ℕ). length gs) c.as_slice.ensures ∙ c.requires.paired) (groups_of c.as_slice-2.result.now))
