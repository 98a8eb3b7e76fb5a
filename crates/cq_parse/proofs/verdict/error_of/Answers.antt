use Rattle.std.proofs.Common.{subst, Err}
use Rattle.cq_grammar.specs.declared.error.Refusal.{Refusal}
use Rattle.cq_parse.specs.Outcomes.{ReadsAll}
use Rattle.cq_parse.proofs.Left.{syntax_given, depth_given}
use Rattle.cq_parse.proofs.verdict.error_of.Goals as goal

pub returns-in-Syntax-clause-gives : goal.returns-in-Syntax-clause-gives
returns-in-Syntax-clause-gives c = λ outcome left end reads here. syntax_given outcome left end c.args.place (subst (λ (e : Refusal). ReadsAll outcome (Err e) left) c.in-Syntax.is reads) here

pub returns-in-Depth-clause-gives : goal.returns-in-Depth-clause-gives
returns-in-Depth-clause-gives c = λ outcome left end reads here. depth_given outcome left end (subst (λ (e : Refusal). ReadsAll outcome (Err e) left) c.in-Depth.is reads)
