-- Function values that parse what stands in a SELECT: expressions where as much of the depth is left, and what stands deeper.
use Rattle.std.specs.Prelude.{ℕ, List, Result}
use denote.Ref.{MutBor}
use Rattle.cq_token.specs.declared.token.Token.{Token}
use Rattle.cq_grammar.specs.declared.error.Refusal.{Refusal}
use Rattle.cq_grammar.specs.declared.expr.Expr.{Expr}
use Rattle.cq_grammar.specs.declared.query.Select.{Select}
use Rattle.cq_grammar.specs.declared.rule.Rule.{Rule}
use Rattle.cq_grammar.specs.declared.rule.Rule.TheVariants.{Or as or_}
use Rattle.cq_grammar.specs.Grammar.{expr}
use Rattle.cq_grammar.specs.Descent.{within}
use Rattle.cq_parse_steps.specs.Reads.{Reads}
use Rattle.cq_parse_calls.specs.Nests.{Nests}

pub record Selecting (left : ℕ)
    (expr_pre : MutBor (List Token) → ℕ → Rule → Type 0) (expr_post : MutBor (List Token) → ℕ → Rule → Result Expr Refusal → MutBor (List Token) → Type 0)
    (select_pre : MutBor (List Token) → ℕ → Type 0) (select_post : MutBor (List Token) → ℕ → Result Select Refusal → MutBor (List Token) → Type 0) : Type 0 where
  pub nests : Nests left expr_pre expr_post select_pre select_post
  pub expr_callable : (old : MutBor (List Token)) → expr_pre old left or_
  pub expr_reads : (old new : MutBor (List Token)) (r : Result Expr Refusal) → expr_post old left or_ r new → Reads (within left (expr or_) old.now) r new.now
