-- A SELECT of any tree is nested: the induction over the tree.
use Rattle.std.proofs.Common.{ℕ, Bool, true, false, List, [], ◌∷◌, map, Option, None, Some}
use Rattle.std.specs.Prelude.{⊤}
use Rattle.std.specs.List.{AllByRecursion}
use Rattle.cq_grammar.specs.declared.expr.Expr.{Expr}
use Rattle.cq_grammar.specs.declared.query.Select.{Select}
use Rattle.cq_grammar.specs.declared.query.GroupBy.{GroupBy}
use Rattle.cq_grammar.specs.declared.query.Having.{Having}
use Rattle.cq_grammar.specs.declared.expr.Expr.TheOpen.{Expr-F, Test-F, Item-F, Join-F, Relation-F, Select-F}
use Rattle.cq_grammar.specs.declared.expr.Expr.TheFolds.{map-Select}
use Rattle.cq_tree.specs.declared.query.FromTree.{Inner, Left}
use Rattle.cq_reading.specs.declared.bound.Bound.{Bound}
use Rattle.cq_reading.specs.Rules as rule
use Rattle.cq_reading.specs.Steps.{give}
use Rattle.cq_reading.specs.Scopes.{Context}
use Rattle.cq_reading.specs.Parts.{Part, TestPart, ItemPart, JoinPart, RelationPart, AddedPart, ArmPart, LaterPart, MultipliedPart, FromPart, GroupPart, HavingPart, OrderPart, SelectPart}
use Rattle.cq_reading.specs.Expressions.{Layer}
use Rattle.cq_reading.specs.Walk.{part_of, test_part, item_part, join_part, relation_part, added_part, arm_part, later_part, multiplied_part, from_part, group_part, having_part, order_part, select_of}
use Rattle.cq_reading_laws.proofs.Induction as tree
use Rattle.cq_reading_laws.proofs.CarryingParts.{IfPart}
use Rattle.cq_bound_laws.proofs.NamedForms.{BoundNames}
use Rattle.cq_bound_laws.proofs.NamedReadings.{reads_give}
use Rattle.cq_bound_laws.proofs.NamedParts.{Outside, Seen, GivesIn, PartReads, TestReads, ArmReads, SelectReads, part_gives, not_gives, compare_gives, tested_gives, chain_reading_gives, is_gives, signed_reading_gives, coalesce_gives, case_gives, in_list_gives, between_reading_gives, column_reading_gives, column_of_gives, in_select_gives, sum_gives, product_gives, aggregate_gives, counted_node_gives}
use Rattle.cq_bound_laws.proofs.NamedLists.{ItemReads, GroupReads, IfGroup, HavingReads, IfHaving, OrderReads}
use Rattle.cq_bound_laws.proofs.NestedFrom.{RelationReads, JoinReads, FromReads, table_relation_reads, subquery_reads, inner_makes, left_makes, on_join_reads, cross_join_reads, from_part_reads}
use Rattle.cq_bound_laws.proofs.NestedSelect.{select_step_reads}

-- whether a node is written so doesn't matter
abbrev Q1 : Bool → Part → Type 0
Q1 w p = PartReads p

abbrev Q2 : Bool → TestPart → Type 0
Q2 w t = TestReads t

abbrev Q3 : Bool → ItemPart → Type 0
Q3 w i = ItemReads i

abbrev Q4 : Bool → JoinPart → Type 0
Q4 w j = JoinReads j

abbrev Q5 : Bool → RelationPart → Type 0
Q5 w r = RelationReads r

abbrev Q6 : Bool → AddedPart → Type 0
Q6 w a = PartReads a.part

abbrev Q7 : Bool → ArmPart → Type 0
Q7 w a = ArmReads a

abbrev Q8 : Bool → LaterPart → Type 0
Q8 w l = PartReads l.part

abbrev Q9 : Bool → MultipliedPart → Type 0
Q9 w m = PartReads m.part

abbrev Q10 : Bool → FromPart → Type 0
Q10 w f = FromReads f

abbrev Q11 : Bool → GroupPart → Type 0
Q11 w g = GroupReads g

abbrev Q12 : Bool → HavingPart → Type 0
Q12 w h = HavingReads h

abbrev Q13 : Bool → OrderPart → Type 0
Q13 w o = OrderReads o

abbrev Q14 : Bool → SelectPart → Type 0
Q14 w s = SelectReads s

all_parts : {A R : Type 0} (Q : R → Type 0) (f : A → R) (xs : List ((a : A) × Q (f a))) → AllByRecursion Q (map f (map (λ e. e.0) xs))
all_parts Q f [] = tt
all_parts Q f (e ∷ xs) = (e.1, all_parts Q f xs)

-- a value that names no result
value_reads : (b : Bound) → ((P : ℕ → Type 0) → BoundNames P b) → (cx : Context) (ns : List ℕ) → GivesIn cx ns ⊤ (give b)
value_reads b h cx ns = reads_give (Outside cx.world) (Seen cx.world ns) cx.may_select ⊤ (BoundNames (Seen cx.world ns)) b (λ c. h (Seen cx.world ns))

expressions : tree.KeepsExpr Q1 Q2 Q3 Q4 Q5 Q6 Q7 Q8 Q9 Q10 Q11 Q12 Q13 Q14
expressions (Expr-F.Or first rest) = λ cx ns. chain_reading_gives cx ns true (part_of first.0) (map later_part (map (λ e. e.0) rest)) first.1 (all_parts (λ l. PartReads l.part) later_part rest)
expressions (Expr-F.And first rest) = λ cx ns. chain_reading_gives cx ns false (part_of first.0) (map later_part (map (λ e. e.0) rest)) first.1 (all_parts (λ l. PartReads l.part) later_part rest)
expressions (Expr-F.Not inner at) = λ cx ns. not_gives cx ns (part_of inner.0) at inner.1
expressions (Expr-F.Is first rest) = λ cx ns. is_gives cx ns (part_of first.0) rest first.1
expressions (Expr-F.Compare l operator r at) = λ cx ns. compare_gives cx ns (part_of l.0) operator (part_of r.0) at l.1 r.1
expressions (Expr-F.Tested operand negated test at) = λ cx ns. tested_gives cx ns (part_of operand.0) negated (test_part test.0) at operand.1 test.1
expressions (Expr-F.Sum first rest) = sum_gives (part_of first.0) (map added_part (map (λ e. e.0) rest)) first.1 (all_parts (λ a. PartReads a.part) added_part rest)
expressions (Expr-F.Product first rest) = product_gives (part_of first.0) (map multiplied_part (map (λ e. e.0) rest)) first.1 (all_parts (λ m. PartReads m.part) multiplied_part rest)
expressions (Expr-F.Signed sign inner at) = λ cx ns. signed_reading_gives cx ns sign (part_of inner.0) (part_of inner.0).form at inner.1
expressions (Expr-F.Number value at) = value_reads (rule.number value) (λ P. (tt, tt))
expressions (Expr-F.Quoted text at) = value_reads (rule.quoted text) (λ P. (tt, tt))
expressions (Expr-F.Null at) = value_reads rule.null (λ P. (tt, tt))
expressions (Expr-F.Column column) = λ cx ns. column_reading_gives cx ns column
expressions (Expr-F.ColumnOf relation column) = λ cx ns. column_of_gives cx ns relation column
expressions (Expr-F.Group inner at) = λ cx ns. part_gives cx ns ⊤ (part_of inner.0) inner.1
expressions (Expr-F.Case arms None at) = λ cx ns. case_gives cx ns (map arm_part (map (λ e. e.0) arms)) None at (all_parts ArmReads arm_part arms) tt
expressions (Expr-F.Case arms (Some other) at) = λ cx ns. case_gives cx ns (map arm_part (map (λ e. e.0) arms)) (Some (part_of other.0)) at (all_parts ArmReads arm_part arms) other.1
expressions (Expr-F.Coalesce items at) = λ cx ns. coalesce_gives cx ns (map part_of (map (λ e. e.0) items)) at (all_parts PartReads part_of items)
expressions (Expr-F.CountAll at) = counted_node_gives at
expressions (Expr-F.Aggregate function argument at) = aggregate_gives function (part_of argument.0) at argument.1

tests : tree.KeepsTest Q1 Q2 Q3 Q4 Q5 Q6 Q7 Q8 Q9 Q10 Q11 Q12 Q13 Q14
tests (Test-F.InSelect select) = λ cx ns. in_select_gives cx ns (select_of select.0) select.1
tests (Test-F.InList items) = λ cx ns. in_list_gives cx ns (map part_of (map (λ e. e.0) items)) (all_parts PartReads part_of items)
tests (Test-F.Between low high) = λ cx ns. between_reading_gives cx ns (part_of low.0) (part_of high.0) low.1 high.1

items : tree.KeepsItem Q1 Q2 Q3 Q4 Q5 Q6 Q7 Q8 Q9 Q10 Q11 Q12 Q13 Q14
items (Item-F.All at) = tt
items (Item-F.AllOf relation) = tt
items (Item-F.Value value None) = value.1
items (Item-F.Value value (Some name)) = value.1

joins : tree.KeepsJoin Q1 Q2 Q3 Q4 Q5 Q6 Q7 Q8 Q9 Q10 Q11 Q12 Q13 Q14
joins (Join-F.Inner spelled relation on at) = on_join_reads Inner inner_makes (relation_part relation.0) (part_of on.0) relation.1 on.1
joins (Join-F.Left spelled relation on at) = on_join_reads Left left_makes (relation_part relation.0) (part_of on.0) relation.1 on.1
joins (Join-F.Cross relation at) = cross_join_reads (relation_part relation.0) relation.1

relations : tree.KeepsRelation Q1 Q2 Q3 Q4 Q5 Q6 Q7 Q8 Q9 Q10 Q11 Q12 Q13 Q14
relations (Relation-F.Table name) = λ w names found. table_relation_reads w found name name names
relations (Relation-F.TableAs name spelled alias) = λ w names found. table_relation_reads w found name alias names
relations (Relation-F.Subquery select spelled alias at) = subquery_reads (select_of select.0) alias select.1

froms : tree.KeepsFrom Q1 Q2 Q3 Q4 Q5 Q6 Q7 Q8 Q9 Q10 Q11 Q12 Q13 Q14
froms f = from_part_reads (relation_part f.first.0) (map join_part (map (λ e. e.0) f.joins)) f.first.1 (all_parts JoinReads join_part f.joins)

-- ---- SELECTs

abbrev Below : Type 0
Below = tree.Below Q1 Q2 Q3 Q4 Q5 Q6 Q7 Q8 Q9 Q10 Q11 Q12 Q13 Q14 Select-F

abbrev layer_of : Below → Layer Select-F
layer_of q = map-Select _ _ _ _ _ _ _ _ _ _ _ _ _ _ _ _ _ _ _ _ _ _ _ _ _ _ _ _
    part_of test_part item_part join_part relation_part added_part arm_part later_part multiplied_part from_part group_part having_part order_part select_of
    (map-Select _ _ _ _ _ _ _ _ _ _ _ _ _ _ _ _ _ _ _ _ _ _ _ _ _ _ _ _
    (λ e. e.0) (λ e. e.0) (λ e. e.0) (λ e. e.0) (λ e. e.0) (λ e. e.0) (λ e. e.0) (λ e. e.0) (λ e. e.0) (λ e. e.0) (λ e. e.0) (λ e. e.0) (λ e. e.0) (λ e. e.0) q)

filter_read : (q : Below) (p : Option ((x : Expr) × PartReads (part_of x))) → IfPart PartReads (layer_of (record q { filter = p })).filter
filter_read q None = tt
filter_read q (Some p) = p.1

groups_read : (q : Below) (p : Option ((x : GroupBy) × GroupReads (group_part x))) → IfGroup (layer_of (record q { groups = p })).groups
groups_read q None = tt
groups_read q (Some p) = p.1

having_read : (q : Below) (p : Option ((x : Having) × HavingReads (having_part x))) → IfHaving (layer_of (record q { having = p })).having
having_read q None = tt
having_read q (Some p) = p.1

selects : tree.KeepsSelect Q1 Q2 Q3 Q4 Q5 Q6 Q7 Q8 Q9 Q10 Q11 Q12 Q13 Q14
selects q = λ w found. select_step_reads w (layer_of q)
    (record {
      items = all_parts ItemReads item_part q.items;
      filter = filter_read q q.filter;
      groups = groups_read q q.groups;
      having = having_read q q.having;
      order = all_parts OrderReads order_part q.order;
    })
    (all_parts FromReads from_part q.from) found

-- a SELECT that is read is nested
pub select_reads : (x : Select) → SelectReads (select_of x)
select_reads = tree.of_select Q1 Q2 Q3 Q4 Q5 Q6 Q7 Q8 Q9 Q10 Q11 Q12 Q13 Q14
    expressions tests items joins relations (λ a. a.term.1) (λ a. (a.condition.1, a.result.1)) (λ c. c.part.1) (λ m. m.factor.1) froms (λ g. all_parts PartReads part_of g.keys) (λ h. h.condition.1) (λ o. o.key.1) selects
