use Rattle.std.proofs.Common.{subst, Result}
use Rattle.cq_grammar.specs.declared.error.Refusal.{Refusal}
use Rattle.cq_grammar.specs.declared.statement.Ast.{Ast}
use Rattle.cq_parse.specs.Outcomes.{ReadsAll}
use Rattle.cq_parse.proofs.Left.{ok_given}
use Rattle.cq_parse.proofs.verdict.by_grammar.Goals as goal

pub returns-in-Ok-clause-gives : goal.returns-in-Ok-clause-gives
returns-in-Ok-clause-gives c = λ outcome left end reads here.
    ok_given outcome c.in-Ok.found left end c.called.result (subst (λ (r : Result Ast Refusal). ReadsAll outcome r left) c.in-Ok.is reads) c.called.ensures

pub returns-in-Err-clause-gives : goal.returns-in-Err-clause-gives
returns-in-Err-clause-gives c = λ outcome left end reads here. c.error_of.ensures.gives outcome left end (subst (λ (r : Result Ast Refusal). ReadsAll outcome r left) c.in-Err.is reads) here
