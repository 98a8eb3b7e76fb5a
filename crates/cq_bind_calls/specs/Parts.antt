-- What holds of each part that stands directly in a tree: P of its expressions, Q of its SELECTs.
use Rattle.std.specs.Prelude.{◌≡◌, ℕ, Bool, List, Option, IfSome}
use Rattle.std.specs.List.{All}
use Rattle.cq_grammar.specs.declared.name.Name.{Name}
use Rattle.cq_grammar.specs.declared.expr.AddOperator.{AddOperator}
use Rattle.cq_grammar.specs.declared.expr.Aggregate.{Aggregate}
use Rattle.cq_grammar.specs.declared.expr.Comparison.{Comparison}
use Rattle.cq_grammar.specs.declared.expr.NullTest.{NullTest}
use Rattle.cq_grammar.specs.declared.expr.Expr.{Expr}
use Rattle.cq_grammar.specs.declared.expr.Test.{Test}
use Rattle.cq_grammar.specs.declared.expr.Added.{Added, out-Added}
use Rattle.cq_grammar.specs.declared.expr.Arm.{Arm, out-Arm}
use Rattle.cq_grammar.specs.declared.expr.Chained.{Chained, out-Chained}
use Rattle.cq_grammar.specs.declared.expr.Multiplied.{Multiplied, out-Multiplied}
use Rattle.cq_grammar.specs.declared.query.From.{From, out-From}
use Rattle.cq_grammar.specs.declared.query.GroupBy.{GroupBy, out-GroupBy}
use Rattle.cq_grammar.specs.declared.query.Having.{Having, out-Having}
use Rattle.cq_grammar.specs.declared.query.Item.{Item}
use Rattle.cq_grammar.specs.declared.query.Join.{Join}
use Rattle.cq_grammar.specs.declared.query.OrderKey.{OrderKey, out-OrderKey}
use Rattle.cq_grammar.specs.declared.query.Relation.{Relation}
use Rattle.cq_grammar.specs.declared.query.Select.{Select, out-Select}
use Rattle.cq_grammar.specs.declared.expr.Expr.TheVariants as e
use Rattle.cq_grammar.specs.declared.expr.Test.TheVariants as tests
use Rattle.cq_grammar.specs.declared.query.Item.TheVariants as item
use Rattle.cq_grammar.specs.declared.query.Relation.TheVariants as relation
use Rattle.cq_grammar.specs.declared.query.Join.TheVariants as join

-- ---- expressions

-- what stands behind the operand of IN or BETWEEN
pub record TestParts (P : Expr → Type 0) (Q : Select → Type 0) (x : Test) : Type 0 where
  pub in_select : (q : Select) → x ≡ tests.InSelect q → Q q
  pub in_list : (items : List Expr) → x ≡ tests.InList items → All P items
  pub between : (low high : Expr) → x ≡ tests.Between low high → P low × P high

abbrev pub ArmParts : (Expr → Type 0) → Arm → Type 0
ArmParts P a = P (out-Arm a).condition × P (out-Arm a).result

-- an expression
pub record PartsOf (P : Expr → Type 0) (Q : Select → Type 0) (x : Expr) : Type 0 where
  pub or : (first : Expr) (rest : List Chained) → x ≡ e.Or first rest → P first × All (λ c. P (out-Chained c).part) rest
  pub and : (first : Expr) (rest : List Chained) → x ≡ e.And first rest → P first × All (λ c. P (out-Chained c).part) rest
  pub not : (inner : Expr) (at : ℕ) → x ≡ e.Not inner at → P inner
  pub is : (first : Expr) (rest : List NullTest) → x ≡ e.Is first rest → P first
  pub compare : (left : Expr) (operator : Comparison) (right : Expr) (at : ℕ) → x ≡ e.Compare left operator right at → P left × P right
  pub tested : (operand : Expr) (negated : Bool) (test : Test) (at : ℕ) → x ≡ e.Tested operand negated test at → P operand × TestParts P Q test
  pub sum : (first : Expr) (rest : List Added) → x ≡ e.Sum first rest → P first × All (λ a. P (out-Added a).term) rest
  pub product : (first : Expr) (rest : List Multiplied) → x ≡ e.Product first rest → P first × All (λ m. P (out-Multiplied m).factor) rest
  pub signed : (sign : AddOperator) (inner : Expr) (at : ℕ) → x ≡ e.Signed sign inner at → P inner
  pub group : (inner : Expr) (at : ℕ) → x ≡ e.Group inner at → P inner
  pub case : (arms : List Arm) (other : Option Expr) (at : ℕ) → x ≡ e.Case arms other at → All (ArmParts P) arms × IfSome other P
  pub coalesce : (items : List Expr) (at : ℕ) → x ≡ e.Coalesce items at → All P items
  pub aggregate : (function : Aggregate) (argument : Expr) (at : ℕ) → x ≡ e.Aggregate function argument at → P argument

-- ---- SELECTs

abbrev pub ItemParts : (Expr → Type 0) → Item → Type 0
ItemParts P x = (value : Expr) (name : Option Name) → x ≡ item.Value value name → P value

abbrev pub RelationParts : (Select → Type 0) → Relation → Type 0
RelationParts Q x = (q : Select) (spelled : Bool) (alias : Name) (at : ℕ) → x ≡ relation.Subquery q spelled alias at → Q q

pub record JoinParts (P : Expr → Type 0) (Q : Select → Type 0) (x : Join) : Type 0 where
  pub inner : (spelled : Bool) (r : Relation) (on : Expr) (at : ℕ) → x ≡ join.Inner spelled r on at → RelationParts Q r × P on
  pub left : (spelled : Bool) (r : Relation) (on : Expr) (at : ℕ) → x ≡ join.Left spelled r on at → RelationParts Q r × P on
  pub cross : (r : Relation) (at : ℕ) → x ≡ join.Cross r at → RelationParts Q r

abbrev pub FromParts : (Expr → Type 0) → (Select → Type 0) → From → Type 0
FromParts P Q f = RelationParts Q (out-From f).first × All (JoinParts P Q) (out-From f).joins

abbrev pub GroupParts : (Expr → Type 0) → GroupBy → Type 0
GroupParts P g = All P (out-GroupBy g).keys

abbrev pub HavingParts : (Expr → Type 0) → Having → Type 0
HavingParts P h = P (out-Having h).condition

abbrev pub OrderParts : (Expr → Type 0) → OrderKey → Type 0
OrderParts P o = P (out-OrderKey o).key

-- a SELECT
pub record SelectParts (P : Expr → Type 0) (Q : Select → Type 0) (x : Select) : Type 0 where
  pub items : All (ItemParts P) (out-Select x).items
  pub from : All (FromParts P Q) (out-Select x).from
  pub filter : IfSome (out-Select x).filter P
  pub groups : IfSome (out-Select x).groups (GroupParts P)
  pub having : IfSome (out-Select x).having (HavingParts P)
  pub order : All (OrderParts P) (out-Select x).order
