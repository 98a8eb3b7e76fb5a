-- The arms of a CASE and the operands of a COALESCE as lists, as code sees them.
use Rattle.std.specs.Prelude.{List, [], ◌∷◌, Option, None}
use Rattle.cq_value.specs.declared.value.Value.{Value}
use Rattle.cq_value.specs.declared.value.Value.TheVariants.{Null}
use Rattle.cq_tree.specs.declared.expression.Expr.{Expr}
use Rattle.cq_tree.specs.declared.expression.Arm.{Arm}
use Rattle.cq_meaning.specs.Values.{Row, Results}
use Rattle.cq_meaning.specs.Expressions.{value_of, truth_of, if_yes, known_or}

abbrev pub arm_value_in : List Arm → Row → Results → Option Value
arm_value_in [] row results = None
arm_value_in (arm ∷ more) row results = if_yes (truth_of arm.when row results) (value_of arm.then row results) (arm_value_in more row results)

abbrev pub first_known_in : List Expr → Row → Results → Value
first_known_in [] row results = Null
first_known_in (e ∷ more) row results = known_or (value_of e row results) (first_known_in more row results)
