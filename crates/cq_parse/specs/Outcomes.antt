-- What the parser answers of a whole text.
use Rattle.std.specs.Prelude.{◌≡◌, ◌≢◌, List, [], Result, Ok, Err}
use Rattle.cq_token.specs.declared.token.Token.{Token}
use Rattle.cq_tree.specs.declared.limit.What.TheVariants as limits
use Rattle.cq_grammar.specs.declared.error.Refusal.{Refusal}
use Rattle.cq_grammar.specs.declared.error.Refusal.TheVariants.{Memory}
use Rattle.cq_grammar.specs.declared.statement.Ast.{Ast}
use Rattle.cq_grammar.specs.Read.{Fault}
use Rattle.cq_grammar.specs.Statements.{max_depth}
use Rattle.cq_grammar.specs.Verdicts.{Complaint, syntax, depth}
use Rattle.cq_parse_steps.specs.Reads.{fault}
use Rattle.cq_parse.specs.declared.error.ParseError.{ParseError}
use Rattle.cq_parse.specs.declared.error.ParseError.TheVariants as errors

-- the reader's verdict, unless memory fails
abbrev pub Gives : Result Ast Complaint → Result Ast ParseError → Type 0
Gives verdict (Ok a) = verdict ≡ Ok a
Gives verdict (Err (errors.Syntax at)) = verdict ≡ Err (syntax at)
Gives verdict (Err (errors.Limit what number)) = (verdict ≡ Err depth) × (what ≡ limits.Depth) × (number ≡ max_depth)
Gives verdict (Err errors.Memory) = Unit

-- the reader's outcome on a whole text, where these tokens are left behind, unless memory fails
abbrev pub ReadsAll : Result Ast Fault → Result Ast Refusal → List Token → Type 0
ReadsAll outcome (Ok a) left = (outcome ≡ Ok a) × (left ≡ [])
ReadsAll outcome (Err e) left = e ≢ Memory → outcome ≡ Err (fault e left)
