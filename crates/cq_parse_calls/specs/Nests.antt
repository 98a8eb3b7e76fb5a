-- Function values that parse what stands where less of the depth is left.
use Rattle.std.specs.Prelude.{ℕ, ◌<◌, List, Result}
use denote.Ref.{MutBor}
use Rattle.cq_token.specs.declared.token.Token.{Token}
use Rattle.cq_grammar.specs.declared.error.Refusal.{Refusal}
use Rattle.cq_grammar.specs.declared.expr.Expr.{Expr}
use Rattle.cq_grammar.specs.declared.query.Select.{Select}
use Rattle.cq_grammar.specs.declared.rule.Rule.{Rule}
use Rattle.cq_grammar.specs.Grammar.{expr, select}
use Rattle.cq_grammar.specs.Descent.{within}
use Rattle.cq_parse_steps.specs.Reads.{Reads}

pub record Nests (left : ℕ)
    (expr_pre : MutBor (List Token) → ℕ → Rule → Type 0) (expr_post : MutBor (List Token) → ℕ → Rule → Result Expr Refusal → MutBor (List Token) → Type 0)
    (select_pre : MutBor (List Token) → ℕ → Type 0) (select_post : MutBor (List Token) → ℕ → Result Select Refusal → MutBor (List Token) → Type 0) : Type 0 where
  pub expr_callable : (old : MutBor (List Token)) (d : ℕ) (rule : Rule) → d < left → expr_pre old d rule
  pub expr_reads : (old new : MutBor (List Token)) (d : ℕ) (rule : Rule) (r : Result Expr Refusal) → d < left → expr_post old d rule r new → Reads (within d (expr rule) old.now) r new.now
  pub select_callable : (old : MutBor (List Token)) (d : ℕ) → d < left → select_pre old d
  pub select_reads : (old new : MutBor (List Token)) (d : ℕ) (r : Result Select Refusal) → d < left → select_post old d r new → Reads (within d select old.now) r new.now
