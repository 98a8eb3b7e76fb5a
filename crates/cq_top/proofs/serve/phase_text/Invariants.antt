use Rattle.std.proofs.Common.{◌≡◌, ◌++◌, drop}
use Rattle.cq_top.specs.Outputs.{text_behind}
use Rattle.cq_top.proofs.serve.phase_text.Given as goal

abbrev pub invariant-loop-answered : goal.invariant-loop-answered
invariant-loop-answered l = l.out.items ++ text_behind l.csv l.session (drop l.answered-index l.phase) ≡ text_behind l.csv 0 l.phase
