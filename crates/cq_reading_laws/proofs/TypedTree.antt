-- What the walk gives is well typed: the induction over the tree.
use Rattle.std.proofs.Common.{◌≡◌, Bool, true, ◌&&◌, List, [], ◌∷◌, map, Option, None, Some}
use Rattle.std.specs.List.{AllByRecursion}
use Rattle.cq_value.proofs.Truths.{and_left, and_right}
use Rattle.cq_grammar.specs.declared.expr.Expr.{Expr}
use Rattle.cq_grammar.specs.declared.query.Select.{Select}
use Rattle.cq_grammar.specs.declared.query.From.{From}
use Rattle.cq_grammar.specs.declared.query.GroupBy.{GroupBy}
use Rattle.cq_grammar.specs.declared.query.Having.{Having}
use Rattle.cq_grammar.specs.declared.expr.Test.{Test}
use Rattle.cq_grammar.specs.declared.query.Item.{Item}
use Rattle.cq_grammar.specs.declared.query.Join.{Join}
use Rattle.cq_grammar.specs.declared.query.Relation.{Relation}
use Rattle.cq_grammar.specs.declared.expr.Added.{Added}
use Rattle.cq_grammar.specs.declared.expr.Arm.{Arm}
use Rattle.cq_grammar.specs.declared.expr.Chained.{Chained}
use Rattle.cq_grammar.specs.declared.expr.Multiplied.{Multiplied}
use Rattle.cq_grammar.specs.declared.query.OrderKey.{OrderKey}
use Rattle.cq_grammar.specs.declared.expr.Expr.TheOpen.{Item-F, Join-F, Relation-F, Select-F}
use Rattle.cq_grammar.specs.declared.expr.Expr.TheFolds.{map-Select}
use Rattle.cq_tree.specs.declared.query.FromTree.{Inner, Left}
use Rattle.cq_reading.specs.Parts.{ItemPart, JoinPart, RelationPart, FromPart, GroupPart, HavingPart, OrderPart}
use Rattle.cq_reading.specs.Expressions.{Layer}
use Rattle.cq_reading.specs.Walk.{part_of, test_part, item_part, join_part, relation_part, added_part, arm_part, later_part, multiplied_part, from_part, group_part, having_part, order_part, select_of}
use Rattle.cq_reading_laws.specs.Written.{Answers, all, if_any, is_some, written_expr, written_test, written_item, written_join, written_relation}
use Rattle.cq_reading_laws.specs.Written.{written_added, written_arm, written_chained, written_multiplied, written_from, written_group_by, written_having, written_order_key, written_select}
use Rattle.cq_reading_laws.proofs.Induction as tree
use Rattle.cq_reading_laws.proofs.Standing.{no_truth}
use Rattle.cq_reading_laws.proofs.CarryingParts.{IfPart}
use Rattle.cq_reading_laws.proofs.FineSteps.{all_stand}
use Rattle.cq_reading_laws.proofs.TypedParts.{PartTyped}
use Rattle.cq_reading_laws.proofs.TypedFurtherParts.{SelectTyped}
use Rattle.cq_reading_laws.proofs.TypedSteps as step
use Rattle.cq_reading_laws.proofs.TypedSteps.{Q1, Q2, Q6, Q7, Q8, Q9, Q14}
use Rattle.cq_reading_laws.proofs.TypedFrom.{table_relation_joined}
use Rattle.cq_reading_laws.proofs.TypedJoins.{RelationTyped, JoinTyped, FromTyped, subquery_typed}
use Rattle.cq_reading_laws.proofs.TypedProducts.{on_join, cross_join, from_typed}
use Rattle.cq_reading_laws.proofs.TypedBody.{ItemTyped, IfHaving, GroupTyped}
use Rattle.cq_reading_laws.proofs.TypedSelect.{FromsTyped, select_step_typed}
use Rattle.cq_reading_laws.proofs.TypedTrees.{types_inner, types_left, results_inner, results_left, typed_inner, typed_left}

abbrev Q3 : Bool → ItemPart → Type 0
Q3 w i = w ≡ true → ItemTyped i

abbrev Q4 : Bool → JoinPart → Type 0
Q4 w j = w ≡ true → JoinTyped j

abbrev Q5 : Bool → RelationPart → Type 0
Q5 w r = w ≡ true → RelationTyped r

abbrev Q10 : Bool → FromPart → Type 0
Q10 w f = w ≡ true → FromTyped f

abbrev Q11 : Bool → GroupPart → Type 0
Q11 w g = w ≡ true → AllByRecursion PartTyped g.keys

abbrev Q12 : Bool → HavingPart → Type 0
Q12 w h = w ≡ true → PartTyped h.condition

abbrev Q13 : Bool → OrderPart → Type 0
Q13 w o = w ≡ true → PartTyped o.key

froms_typed : (xs : List ((x : From) × (written_from x ≡ true → FromTyped (from_part x)))) → (is_some (map written_from (map (λ e. e.0) xs)) && all (map written_from (map (λ e. e.0) xs))) ≡ true → FromsTyped
    (map from_part (map (λ e. e.0) xs))
froms_typed [] h = absurd (no_truth h)
froms_typed (x ∷ xs) h = (x.1 (and_left _ _ h), all_stand written_from from_part FromTyped xs (and_right _ _ h))

items : tree.KeepsItem Q1 Q2 Q3 Q4 Q5 Q6 Q7 Q8 Q9 Q10 Q11 Q12 Q13 Q14
items (Item-F.All at) h = tt
items (Item-F.AllOf relation) h = tt
items (Item-F.Value value None) h = value.1 h
items (Item-F.Value value (Some name)) h = value.1 h

joins : tree.KeepsJoin Q1 Q2 Q3 Q4 Q5 Q6 Q7 Q8 Q9 Q10 Q11 Q12 Q13 Q14
joins (Join-F.Inner spelled relation on at) h = on_join Inner (relation_part relation.0) (part_of on.0) types_inner results_inner typed_inner (relation.1 (and_left _ _ h)) (on.1 (and_right _ _ h))
joins (Join-F.Left spelled relation on at) h = on_join Left (relation_part relation.0) (part_of on.0) types_left results_left typed_left (relation.1 (and_left _ _ h)) (on.1 (and_right _ _ h))
joins (Join-F.Cross relation at) h = cross_join (relation_part relation.0) (relation.1 h)

relations : tree.KeepsRelation Q1 Q2 Q3 Q4 Q5 Q6 Q7 Q8 Q9 Q10 Q11 Q12 Q13 Q14
relations (Relation-F.Table name) h = λ cs w fit names ahead found clean. table_relation_joined cs w fit ahead found clean name name names
relations (Relation-F.TableAs name spelled alias) h = λ cs w fit names ahead found clean. table_relation_joined cs w fit ahead found clean name alias names
relations (Relation-F.Subquery select spelled alias at) h = subquery_typed (select_of select.0) alias (select.1 h)

froms : tree.KeepsFrom Q1 Q2 Q3 Q4 Q5 Q6 Q7 Q8 Q9 Q10 Q11 Q12 Q13 Q14
froms f h = from_typed (relation_part f.first.0) (map join_part (map (λ e. e.0) f.joins)) (f.first.1 (and_left _ _ h)) (all_stand written_join join_part JoinTyped f.joins (and_right _ _ h))

groups : tree.KeepsGroupBy Q1 Q2 Q3 Q4 Q5 Q6 Q7 Q8 Q9 Q10 Q11 Q12 Q13 Q14
groups g h = all_stand written_expr part_of PartTyped g.keys h

havings : tree.KeepsHaving Q1 Q2 Q3 Q4 Q5 Q6 Q7 Q8 Q9 Q10 Q11 Q12 Q13 Q14
havings x h = x.condition.1 h

orders : tree.KeepsOrderKey Q1 Q2 Q3 Q4 Q5 Q6 Q7 Q8 Q9 Q10 Q11 Q12 Q13 Q14
orders x h = x.key.1 h

abbrev Below : Type 0
Below = tree.Below Q1 Q2 Q3 Q4 Q5 Q6 Q7 Q8 Q9 Q10 Q11 Q12 Q13 Q14 Select-F

-- the parts alone
abbrev parts_alone : Below → Select-F Expr Test Item Join Relation Added Arm Chained Multiplied From GroupBy Having OrderKey Select
parts_alone q = map-Select _ _ _ _ _ _ _ _ _ _ _ _ _ _ _ _ _ _ _ _ _ _ _ _ _ _ _ _
    (λ e. e.0) (λ e. e.0) (λ e. e.0) (λ e. e.0) (λ e. e.0) (λ e. e.0) (λ e. e.0) (λ e. e.0) (λ e. e.0) (λ e. e.0) (λ e. e.0) (λ e. e.0) (λ e. e.0) (λ e. e.0) q

-- whether each is as the grammar gives it
abbrev answers : Below → Answers Select-F
answers q = map-Select _ _ _ _ _ _ _ _ _ _ _ _ _ _ _ _ _ _ _ _ _ _ _ _ _ _ _ _
    written_expr written_test written_item written_join written_relation written_added written_arm written_chained written_multiplied written_from written_group_by written_having written_order_key written_select (parts_alone q)

-- what the walk gives of each
abbrev walked : Below → Layer Select-F
walked q = map-Select _ _ _ _ _ _ _ _ _ _ _ _ _ _ _ _ _ _ _ _ _ _ _ _ _ _ _ _
    part_of test_part item_part join_part relation_part added_part arm_part later_part multiplied_part from_part group_part having_part order_part select_of (parts_alone q)

filter_part : (q : Below) (p : Option ((x : Expr) × (written_expr x ≡ true → PartTyped (part_of x))))
    → if_any (answers (record q { filter = p })).filter ≡ true → IfPart PartTyped (walked (record q { filter = p })).filter
filter_part q None h = tt
filter_part q (Some p) h = p.1 h

groups_part : (q : Below) (p : Option ((x : GroupBy) × (written_group_by x ≡ true → AllByRecursion PartTyped (group_part x).keys)))
    → if_any (answers (record q { groups = p })).groups ≡ true → GroupTyped (walked (record q { groups = p })).groups
groups_part q None h = tt
groups_part q (Some p) h = p.1 h

having_part_typed : (q : Below) (p : Option ((x : Having) × (written_having x ≡ true → PartTyped (having_part x).condition)))
    → if_any (answers (record q { having = p })).having ≡ true → IfHaving (walked (record q { having = p })).having
having_part_typed q None h = tt
having_part_typed q (Some p) h = p.1 h

selects : tree.KeepsSelect Q1 Q2 Q3 Q4 Q5 Q6 Q7 Q8 Q9 Q10 Q11 Q12 Q13 Q14
selects q h = λ cs w fit found.
    let e = and_left _ _ h in let d = and_left _ _ e in let c = and_left _ _ d in let b = and_left _ _ c in
    select_step_typed cs w fit (walked q)
    (record {
      items = all_stand written_item item_part ItemTyped q.items (and_left _ _ b);
      filter = filter_part q q.filter (and_right _ _ c);
      keys = groups_part q q.groups (and_right _ _ d);
      having = having_part_typed q q.having (and_right _ _ e);
      order = all_stand written_order_key order_part (λ o. PartTyped o.key) q.order (and_right _ _ h);
    })
    (froms_typed q.from (and_right _ _ b)) found

pub select_typed : (x : Select) → written_select x ≡ true → SelectTyped (select_of x)
select_typed = tree.of_select Q1 Q2 Q3 Q4 Q5 Q6 Q7 Q8 Q9 Q10 Q11 Q12 Q13 Q14 (step.expressions Q3 Q4 Q5 Q10 Q11 Q12 Q13) (step.tests Q3 Q4 Q5 Q10 Q11 Q12 Q13) items joins relations
    (step.addeds Q3 Q4 Q5 Q10 Q11 Q12 Q13) (step.arms Q3 Q4 Q5 Q10 Q11 Q12 Q13) (step.chaineds Q3 Q4 Q5 Q10 Q11 Q12 Q13) (step.multiplieds Q3 Q4 Q5 Q10 Q11 Q12 Q13) froms groups havings orders selects

pub expression_typed : (x : Expr) → written_expr x ≡ true → PartTyped (part_of x)
expression_typed = tree.of_expression Q1 Q2 Q3 Q4 Q5 Q6 Q7 Q8 Q9 Q10 Q11 Q12 Q13 Q14 (step.expressions Q3 Q4 Q5 Q10 Q11 Q12 Q13) (step.tests Q3 Q4 Q5 Q10 Q11 Q12 Q13) items joins relations
    (step.addeds Q3 Q4 Q5 Q10 Q11 Q12 Q13) (step.arms Q3 Q4 Q5 Q10 Q11 Q12 Q13) (step.chaineds Q3 Q4 Q5 Q10 Q11 Q12 Q13) (step.multiplieds Q3 Q4 Q5 Q10 Q11 Q12 Q13) froms groups havings orders selects
