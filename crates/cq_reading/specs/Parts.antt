-- What the walk gives of each part of a SELECT, before it is known where the part stands.
use Rattle.std.specs.Prelude.{ℕ, Bool, List, Option}
use Rattle.cq_grammar.specs.declared.expr.AddOperator.{AddOperator}
use Rattle.cq_grammar.specs.declared.expr.MultiplyOperator.{MultiplyOperator}
use Rattle.cq_reading.specs.declared.bound.Bound.{Bound}
use Rattle.cq_reading.specs.declared.bound.Block.{Block}
use Rattle.cq_reading.specs.declared.bound.Relations.{Relations}
use Rattle.cq_reading.specs.Steps.{Reading}
use Rattle.cq_reading.specs.Scopes.{World, Context}
use Rattle.cq_reading.specs.Titles.{Form}

-- an expression: the place of its root, what it looks like, the name of its output, whether an aggregate and whether an IN subquery
-- stands in it, and what its node is read as, without regard to keys
pub record Part : Type 0 where
  pub at : ℕ
  pub form : Form
  pub title : List ℕ
  pub aggregates : Bool
  pub selects : Bool
  pub node : Context → Reading Bound

-- what stands behind an operand of IN or BETWEEN, over the operand: whether it is negated, and the place of the operator
pub record TestPart : Type 0 where
  pub aggregates : Bool
  pub selects : Bool
  pub tests : Context → Bound → Bool → ℕ → Reading Bound

-- a later part of a chain, with the place of the word or sign before it
pub record LaterPart : Type 0 where
  pub part : Part
  pub at : ℕ

pub record AddedPart : Type 0 where
  pub operator : AddOperator
  pub part : Part
  pub at : ℕ

pub record MultipliedPart : Type 0 where
  pub operator : MultiplyOperator
  pub part : Part
  pub at : ℕ

pub record ArmPart : Type 0 where
  pub condition : Part
  pub result : Part

abbrev pub SelectPart : Type 0
SelectPart = World → Reading Block

-- an item of a select list: `*`, `relation.*`, or an expression with the name behind AS
pub data ItemPart : Type 0 where
  All : ℕ → ItemPart
  AllOf : List ℕ → ℕ → ItemPart
  One : Part → Option (List ℕ) → ItemPart

-- a relation, behind those of these names
abbrev pub RelationPart : Type 0
RelationPart = World → List (List ℕ) → Reading Relations

-- a join to the relations before it, behind these names and so many columns of the FROM
abbrev pub JoinPart : Type 0
JoinPart = World → List (List ℕ) → ℕ → Relations → Reading Relations

-- a relation with its joins, behind these names and so many columns of the FROM
abbrev pub FromPart : Type 0
FromPart = World → List (List ℕ) → ℕ → Reading Relations

-- the keys of GROUP BY, with the place of the word
pub record GroupPart : Type 0 where
  pub keys : List Part
  pub at : ℕ

pub record HavingPart : Type 0 where
  pub condition : Part
  pub at : ℕ

pub record OrderPart : Type 0 where
  pub key : Part
  pub descending : Bool
