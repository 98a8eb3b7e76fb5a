-- What the widths of the binder make sure of: no computation of a query or a write overflows 128 bits.
use Rattle.std.specs.Prelude.{◌≡◌, ℕ, length, List, false}
use Rattle.std.specs.List.{AllByRecursion}
use Rattle.cq_value.specs.Tables.{Pair}
use Rattle.cq_tree.specs.declared.expression.Expr.{Expr}
use Rattle.cq_tree.specs.declared.expression.Cond.{Cond}
use Rattle.cq_tree.specs.declared.query.Query.{Query}
use Rattle.cq_tree.specs.declared.write.ShardOp.{ShardOp}
use Rattle.cq_meaning.specs.declared.Columns.{Columns}
use Rattle.cq_meaning.specs.Values.{Row, Results, Tables}
use Rattle.cq_meaning.specs.Expressions.{value_of}
use Rattle.cq_meaning.specs.Queries.{meaning}
use Rattle.cq_meaning.specs.Limits.{is_large}
use Rattle.cq_meaning.specs.Safety.{IsSafe, IsSafeCondition, IsSafeQuery}
use Rattle.cq_meaning.specs.Widths.{bits, output_bits, IsBelow, IsBound, IsBoundCondition, IsBoundQuery, IsBoundWrite, Within, AllWithin, Holds}
use Rattle.cq_meaning.specs.Effects.{IsSafeWrite}

-- an expression whose columns are within their widths is safe, and its value within its own
abbrev pub ExpressionsFit : Type 0
ExpressionsFit = (ks : List ℕ) (row : Row) (results : Results) (e : Expr) → Within ks row → IsBound ks (length results) e →
    IsSafe e row results × IsBelow (bits ks e) (value_of e row results)

abbrev pub ConditionsFit : Type 0
ConditionsFit = (ks : List ℕ) (row : Row) (results : Results) (c : Cond) → Within ks row → IsBoundCondition ks (length results) c → IsSafeCondition c row results

-- a query over tables and results within their widths is safe
abbrev pub QueriesFit : Type 0
QueriesFit = (cs : Columns) (db : Tables) (results : Results) (q : Query) → Holds cs db results → IsBoundQuery cs q → IsSafeQuery q db results

-- and its rows are within the widths of its outputs, unless a group is too large for it to have rows
abbrev pub OutputsFit : Type 0
OutputsFit = (cs : Columns) (db : Tables) (results : Results) (q : Query) → Holds cs db results → IsBoundQuery cs q → is_large q db results ≡ false →
    AllWithin (output_bits cs q) (meaning q db results)

-- a write over rows within their widths is safe
abbrev pub WritesFit : Type 0
WritesFit = (ks : List ℕ) (op : ShardOp) (pairs : List Pair) → IsBoundWrite ks op → AllByRecursion (λ p. Within ks p.1) pairs → IsSafeWrite op pairs
