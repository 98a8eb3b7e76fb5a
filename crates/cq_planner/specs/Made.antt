-- The queries of blocks, as code makes them.
use Rattle.std.specs.Prelude.{◌≡◌, ◌≤◌, ℕ, suc, List, map, length, true}
use Rattle.cq_value.specs.declared.value.Value.{Value}
use Rattle.cq_tree.specs.declared.expression.Op.TheVariants.{Eq}
use Rattle.cq_tree.specs.declared.expression.Expr.{Literal, Column}
use Rattle.cq_tree.specs.declared.expression.Cond.{Cond, Compare}
use Rattle.cq_tree.specs.declared.query.FromTree.{FromTree}
use Rattle.cq_tree.specs.declared.query.Query.{Query, out-Query, roll-Query}
use Rattle.cq_meaning.specs.Chains.{halves}

-- a condition is the tree of halves of `y = value` for each of these values, however often it may be halved
pub record IsHalved (y : ℕ) (values : List Value) (c : Cond) : Type 0 where
  pub made : (most : ℕ) → length values ≤ suc most → c ≡ halves most true (map (λ v. Compare Eq (Column y) (Literal v)) values)

-- a query with another FROM
abbrev pub with_from : Query → FromTree → Query
with_from q f = roll-Query (record (out-Query q) { from = f })
