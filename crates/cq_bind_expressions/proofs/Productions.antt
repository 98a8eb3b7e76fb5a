-- Nodes of each kind, and keys.
use Rattle.std.specs.Option.{option_map}
use Rattle.std.proofs.Common.{◌≡◌, ℕ, Bool, true, false, Option, None, Some, List, map, Result, Ok, Err, sym, subst, ap, refl, ◌∙◌}
use Rattle.cq_grammar.specs.declared.expr.Expr.{Expr}
use Rattle.cq_grammar.specs.declared.expr.Expr.TheOpen.{Expr-F}
use Rattle.cq_grammar.specs.declared.expr.Added.{Added}
use Rattle.cq_grammar.specs.declared.expr.Chained.{Chained}
use Rattle.cq_grammar.specs.declared.expr.Multiplied.{Multiplied}
use Rattle.cq_grammar.specs.declared.expr.NullTest.{NullTest}
use Rattle.cq_grammar.specs.declared.expr.AddOperator.{AddOperator}
use Rattle.cq_grammar.specs.declared.expr.Comparison.{Comparison}
use Rattle.cq_grammar.specs.declared.expr.Test.{Test}
use Rattle.cq_grammar.specs.declared.expr.Arm.{Arm}
use Rattle.cq_grammar.specs.declared.expr.Aggregate.{Aggregate}
use Rattle.cq_grammar.specs.declared.expr.Expr.TheVariants as e
use Rattle.cq_grammar.specs.declared.expr.Test.TheVariants as tests
use Rattle.cq_tree.specs.declared.expression.Expr as tree
use Rattle.cq_reading.specs.declared.bound.Found.{Found}
use Rattle.cq_reading.specs.declared.bound.Bound.{Bound}
use Rattle.cq_reading.specs.declared.error.BindError.{BindError}
use Rattle.cq_reading.specs.Steps.{Reading}
use Rattle.cq_reading.specs.Outcomes.{Binds}
use Rattle.cq_reading.specs.Scopes.{Context}
use Rattle.cq_reading.specs.Rules.{if_key, keyed_by}
use Rattle.cq_reading.specs.Expressions as expression
use Rattle.cq_reading.specs.Expressions.{reads, between_reading, aggregate_reading, expr_step}
use Rattle.cq_reading.specs.Parts.{Part}
use Rattle.cq_reading.specs.Walk.{part_of, arm_part, test_part, later_part, added_part, multiplied_part}
use Rattle.cq_bind_looks.proofs.Looks.{test_Between, node_Case, node_CaseElse, node_Aggregate, node_Or, node_And, node_Not, node_Is, node_Compare, node_Tested, node_Sum, node_Product, node_Signed, node_Group}
use Rattle.cq_bind_expressions.specs.Keys.{key_of}

-- a node by the equation of its kind
pub node_by : (x v : Expr) (p : Part) (cx : Context) (f : Found) (res : Result Bound BindError) (new : Found) → x ≡ v → part_of v ≡ p → Binds (p.node cx f) res new → Binds ((part_of x).node cx f) res new
node_by x v p cx f res new e q h = subst (λ z. Binds ((part_of z).node cx f) res new) (sym e) (subst (λ z. Binds (z.node cx f) res new) (sym q) h)

pub test_Between_by : (x : Test) (l h a b : Expr) (cx : Context) (y : Bound) (n : Bool) (at : ℕ) (f : Found) (res : Result Bound BindError) (new : Found) → x ≡ tests.Between l h → a ≡ l → b ≡ h → Binds (between_reading (part_of a) (part_of b) cx y n at f) res new → Binds ((test_part x).tests cx y n at f) res new
test_Between_by x l h a b cx y n at f res new e p q w =
    subst (λ z. Binds ((test_part z).tests cx y n at f) res new) (sym e)
    (subst (λ t. Binds (t.tests cx y n at f) res new) (sym (test_Between l h))
    (subst (λ z. Binds (between_reading (part_of z) (part_of h) cx y n at f) res new) p
    (subst (λ z. Binds (between_reading (part_of a) (part_of z) cx y n at f) res new) q w)))

pub case_is : (arms : List Arm) (o : Option Expr) (at : ℕ) → part_of (e.Case arms o at) ≡ expr_step (Expr-F.Case (map arm_part arms) (option_map part_of o) at)
case_is arms None at = node_Case arms at
case_is arms (Some x) at = node_CaseElse arms x at

pub aggregate_by : (x : Expr) (g : Aggregate) (a b : Expr) (at : ℕ) (cx : Context) (f : Found) (res : Result Bound BindError) (new : Found) → x ≡ e.Aggregate g a at → b ≡ a → Binds (aggregate_reading g (part_of b) at cx f) res new → Binds ((part_of x).node cx f) res new
aggregate_by x g a b at cx f res new i q h =
    node_by x (e.Aggregate g a at) _ cx f res new i (node_Aggregate g a at)
    (subst (λ z. Binds (aggregate_reading g (part_of z) at cx f) res new) q h)

-- a node by what is read of its kind, whose first operand `b` has been taken out of its box

pub or_by : (x a b : Expr) (rest : List Chained) (cx : Context) (f : Found) (res : Result Bound BindError) (new : Found) → x ≡ e.Or a rest → b ≡ a → Binds (expression.chain_reading true (part_of b) (map later_part rest) cx f) res new → Binds ((part_of x).node cx f) res new
or_by x a b rest cx f res new i q h = node_by x (e.Or b rest) _ cx f res new (i ∙ ap (λ z. e.Or z rest) (sym q)) (node_Or b rest) h

pub and_by : (x a b : Expr) (rest : List Chained) (cx : Context) (f : Found) (res : Result Bound BindError) (new : Found) → x ≡ e.And a rest → b ≡ a → Binds (expression.chain_reading false (part_of b) (map later_part rest) cx f) res new → Binds ((part_of x).node cx f) res new
and_by x a b rest cx f res new i q h = node_by x (e.And b rest) _ cx f res new (i ∙ ap (λ z. e.And z rest) (sym q)) (node_And b rest) h

pub not_by : (x a b : Expr) (at : ℕ) (cx : Context) (f : Found) (res : Result Bound BindError) (new : Found) → x ≡ e.Not a at → b ≡ a → Binds (expression.not_reading (part_of b) at cx f) res new → Binds ((part_of x).node cx f) res new
not_by x a b at cx f res new i q h = node_by x (e.Not b at) _ cx f res new (i ∙ ap (λ z. e.Not z at) (sym q)) (node_Not b at) h

pub is_by : (x a b : Expr) (rest : List NullTest) (cx : Context) (f : Found) (res : Result Bound BindError) (new : Found) → x ≡ e.Is a rest → b ≡ a → Binds (expression.is_reading (part_of b) rest cx f) res new → Binds ((part_of x).node cx f) res new
is_by x a b rest cx f res new i q h = node_by x (e.Is b rest) _ cx f res new (i ∙ ap (λ z. e.Is z rest) (sym q)) (node_Is b rest) h

pub tested_by : (x a b : Expr) (negated : Bool) (test : Test) (at : ℕ) (cx : Context) (f : Found) (res : Result Bound BindError) (new : Found) → x ≡ e.Tested a negated test at → b ≡ a → Binds (expression.tested_reading (part_of b) negated (test_part test) at cx f) res new → Binds ((part_of x).node cx f) res new
tested_by x a b negated test at cx f res new i q h = node_by x (e.Tested b negated test at) _ cx f res new (i ∙ ap (λ z. e.Tested z negated test at) (sym q)) (node_Tested b negated test at) h

pub sum_by : (x a b : Expr) (rest : List Added) (cx : Context) (f : Found) (res : Result Bound BindError) (new : Found) → x ≡ e.Sum a rest → b ≡ a → Binds (expression.sum_reading (part_of b) (map added_part rest) cx f) res new → Binds ((part_of x).node cx f) res new
sum_by x a b rest cx f res new i q h = node_by x (e.Sum b rest) _ cx f res new (i ∙ ap (λ z. e.Sum z rest) (sym q)) (node_Sum b rest) h

pub product_by : (x a b : Expr) (rest : List Multiplied) (cx : Context) (f : Found) (res : Result Bound BindError) (new : Found) → x ≡ e.Product a rest → b ≡ a → Binds (expression.product_reading (part_of b) (map multiplied_part rest) cx f) res new → Binds ((part_of x).node cx f) res new
product_by x a b rest cx f res new i q h = node_by x (e.Product b rest) _ cx f res new (i ∙ ap (λ z. e.Product z rest) (sym q)) (node_Product b rest) h

pub signed_by : (x a b : Expr) (sign : AddOperator) (at : ℕ) (cx : Context) (f : Found) (res : Result Bound BindError) (new : Found) → x ≡ e.Signed sign a at → b ≡ a → Binds (expression.signed_reading sign (part_of b) (part_of b).form at cx f) res new → Binds ((part_of x).node cx f) res new
signed_by x a b sign at cx f res new i q h = node_by x (e.Signed sign b at) _ cx f res new (i ∙ ap (λ z. e.Signed sign z at) (sym q)) (node_Signed sign b at) h

pub group_by : (x a b : Expr) (at : ℕ) (cx : Context) (f : Found) (res : Result Bound BindError) (new : Found) → x ≡ e.Group a at → b ≡ a → Binds (expression.reads (part_of b) cx f) res new → Binds ((part_of x).node cx f) res new
group_by x a b at cx f res new i q h = node_by x (e.Group b at) _ cx f res new (i ∙ ap (λ z. e.Group z at) (sym q)) (node_Group b at) h

pub compare_by : (x a b c d : Expr) (operator : Comparison) (at : ℕ) (cx : Context) (f : Found) (res : Result Bound BindError) (new : Found) → x ≡ e.Compare a operator c at → b ≡ a → d ≡ c → Binds (expression.compare_reading (part_of b) operator (part_of d) at cx f) res new → Binds ((part_of x).node cx f) res new
compare_by x a b c d operator at cx f res new i p q h =
    node_by x (e.Compare b operator d at) _ cx f res new (i ∙ ap (λ z. e.Compare z operator c at) (sym p) ∙ ap (λ z. e.Compare b operator z at) (sym q)) (node_Compare b operator d at) h

-- ---- keys

keyed_is : (keys : List tree.Expr) (o : Result (Bound × Found) BindError) (other : Reading Bound) → keyed_by keys o other ≡ if_key (key_of keys o) other
keyed_is keys (Ok p) other = refl
keyed_is keys (Err x) other = refl

-- where the key's column is known, if the expression is a key
pub keyed_then : (keys : List tree.Expr) (o : Result (Bound × Found) BindError) (other : Reading Bound) (k : Option Bound) (f : Found) (res : Result Bound BindError) (new : Found) → k ≡ key_of keys o → Binds (if_key k other f) res new → Binds (keyed_by keys o other f) res new
keyed_then keys o other k f res new h w = subst (λ r. Binds (r f) res new) (sym (keyed_is keys o other)) (subst (λ z. Binds (if_key z other f) res new) h w)
