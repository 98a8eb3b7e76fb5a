-- What the walk gives of a SELECT is what the engine asks for: the induction over the tree.
use Rattle.std.proofs.Common.{◌≡◌, true, ◌&&◌, List, [], ◌∷◌, map, Option, None, Some, subst}
use Rattle.std.specs.List.{AllByRecursion}
use Rattle.cq_value.proofs.Truths.{and_left, and_right}
use Rattle.cq_grammar.specs.declared.expr.Expr.{Expr}
use Rattle.cq_grammar.specs.declared.query.Select.{Select}
use Rattle.cq_grammar.specs.declared.query.From.{From}
use Rattle.cq_grammar.specs.declared.query.GroupBy.{GroupBy}
use Rattle.cq_grammar.specs.declared.query.Having.{Having}
use Rattle.cq_grammar.specs.declared.expr.Expr.TheOpen.{Item-F, Join-F, Relation-F, Select-F}
use Rattle.cq_grammar.specs.declared.expr.Expr.TheFolds.{map-Select}
use Rattle.cq_tree.specs.declared.query.FromTree.{Inner, Left}
use Rattle.cq_reading.specs.Parts.{Part}
use Rattle.cq_reading.specs.Walk.{part_of, test_part, item_part, join_part, relation_part, added_part, arm_part, later_part, multiplied_part, from_part, group_part, having_part, order_part, select_of}
use Rattle.cq_reading_laws.specs.Written.{all, if_any, is_some, written_expr, written_test, written_item, written_join, written_relation, written_added, written_arm, written_chained, written_multiplied, written_from, written_group_by, written_having, written_order_key, written_select}
use Rattle.cq_reading_laws.specs.SelectLaws.{SelectsBound}
use Rattle.cq_reading_laws.proofs.Induction as tree
use Rattle.cq_reading_laws.proofs.Standing.{no_truth}
use Rattle.cq_reading_laws.proofs.CarryingParts.{IfPart}
use Rattle.cq_reading_laws.proofs.FineParts.{PartStands}
use Rattle.cq_reading_laws.proofs.FineNodes.{ArmStands}
use Rattle.cq_reading_laws.proofs.FineSteps as step
use Rattle.cq_reading_laws.proofs.FineSteps.{ExprStands, TestStands, all_stand}
use Rattle.cq_reading_laws.proofs.FineFrom.{table_relation_joined}
use Rattle.cq_reading_laws.proofs.FineJoins.{FineBlockIf, RelationStands, JoinStands, FromStands, SelectStands, subquery_stands}
use Rattle.cq_reading_laws.proofs.FineProducts.{on_join, cross_join, from_stands}
use Rattle.cq_reading_laws.proofs.FineBody.{ItemStands, IfHaving, GroupStands}
use Rattle.cq_reading_laws.proofs.FineSelect.{FromsStand, select_step_stands}
use Rattle.cq_reading_laws.proofs.Trees.{bits_inner, bits_left, bound_inner, bound_left}

firsts : (ps : List Part) → AllByRecursion ExprStands ps → AllByRecursion PartStands ps
firsts [] h = tt
firsts (p ∷ ps) h = (h.0.0, firsts ps h.1)

froms_stand : (xs : List ((x : From) × (written_from x ≡ true → FromStands (from_part x)))) → (is_some (map written_from (map (λ e. e.0) xs)) && all (map written_from (map (λ e. e.0) xs))) ≡ true → FromsStand (map from_part (map (λ e. e.0) xs))
froms_stand [] h = absurd (no_truth h)
froms_stand (x ∷ xs) h = (x.1 (and_left _ _ h), all_stand written_from from_part FromStands xs (and_right _ _ h))

items : tree.KeepsItem (λ w p. w ≡ true → ExprStands p) (λ w t. w ≡ true → TestStands t) (λ w i. w ≡ true → ItemStands i) (λ w j. w ≡ true → JoinStands j) (λ w r. w ≡ true → RelationStands r) (λ w a. w ≡ true → PartStands a.part) (λ w a. w ≡ true → ArmStands a) (λ w l. w ≡ true → PartStands l.part) (λ w m. w ≡ true → PartStands m.part) (λ w f. w ≡ true → FromStands f) (λ w g. w ≡ true → AllByRecursion PartStands g.keys) (λ w h. w ≡ true → PartStands h.condition) (λ w o. w ≡ true → PartStands o.key) (λ w s. w ≡ true → SelectStands s)
items (Item-F.All at) h = tt
items (Item-F.AllOf relation) h = tt
items (Item-F.Value value None) h = (value.1 h).0
items (Item-F.Value value (Some name)) h = (value.1 h).0

joins : tree.KeepsJoin (λ w p. w ≡ true → ExprStands p) (λ w t. w ≡ true → TestStands t) (λ w i. w ≡ true → ItemStands i) (λ w j. w ≡ true → JoinStands j) (λ w r. w ≡ true → RelationStands r) (λ w a. w ≡ true → PartStands a.part) (λ w a. w ≡ true → ArmStands a) (λ w l. w ≡ true → PartStands l.part) (λ w m. w ≡ true → PartStands m.part) (λ w f. w ≡ true → FromStands f) (λ w g. w ≡ true → AllByRecursion PartStands g.keys) (λ w h. w ≡ true → PartStands h.condition) (λ w o. w ≡ true → PartStands o.key) (λ w s. w ≡ true → SelectStands s)
joins (Join-F.Inner spelled relation on at) h = on_join Inner (relation_part relation.0) (part_of on.0) bits_inner bound_inner (relation.1 (and_left _ _ h)) (on.1 (and_right _ _ h)).0
joins (Join-F.Left spelled relation on at) h = on_join Left (relation_part relation.0) (part_of on.0) bits_left bound_left (relation.1 (and_left _ _ h)) (on.1 (and_right _ _ h)).0
joins (Join-F.Cross relation at) h = cross_join (relation_part relation.0) (relation.1 h)

relations : tree.KeepsRelation (λ w p. w ≡ true → ExprStands p) (λ w t. w ≡ true → TestStands t) (λ w i. w ≡ true → ItemStands i) (λ w j. w ≡ true → JoinStands j) (λ w r. w ≡ true → RelationStands r) (λ w a. w ≡ true → PartStands a.part) (λ w a. w ≡ true → ArmStands a) (λ w l. w ≡ true → PartStands l.part) (λ w m. w ≡ true → PartStands m.part) (λ w f. w ≡ true → FromStands f) (λ w g. w ≡ true → AllByRecursion PartStands g.keys) (λ w h. w ≡ true → PartStands h.condition) (λ w o. w ≡ true → PartStands o.key) (λ w s. w ≡ true → SelectStands s)
relations (Relation-F.Table name) h = λ cs w fit names ahead found. table_relation_joined cs w fit ahead found name name names
relations (Relation-F.TableAs name spelled alias) h = λ cs w fit names ahead found. table_relation_joined cs w fit ahead found name alias names
relations (Relation-F.Subquery select spelled alias at) h = subquery_stands (select_of select.0) alias (select.1 h)

froms : tree.KeepsFrom (λ w p. w ≡ true → ExprStands p) (λ w t. w ≡ true → TestStands t) (λ w i. w ≡ true → ItemStands i) (λ w j. w ≡ true → JoinStands j) (λ w r. w ≡ true → RelationStands r) (λ w a. w ≡ true → PartStands a.part) (λ w a. w ≡ true → ArmStands a) (λ w l. w ≡ true → PartStands l.part) (λ w m. w ≡ true → PartStands m.part) (λ w f. w ≡ true → FromStands f) (λ w g. w ≡ true → AllByRecursion PartStands g.keys) (λ w h. w ≡ true → PartStands h.condition) (λ w o. w ≡ true → PartStands o.key) (λ w s. w ≡ true → SelectStands s)
froms f h = from_stands (relation_part f.first.0) (map join_part (map (λ e. e.0) f.joins)) (f.first.1 (and_left _ _ h)) (all_stand written_join join_part JoinStands f.joins (and_right _ _ h))

groups : tree.KeepsGroupBy (λ w p. w ≡ true → ExprStands p) (λ w t. w ≡ true → TestStands t) (λ w i. w ≡ true → ItemStands i) (λ w j. w ≡ true → JoinStands j) (λ w r. w ≡ true → RelationStands r) (λ w a. w ≡ true → PartStands a.part) (λ w a. w ≡ true → ArmStands a) (λ w l. w ≡ true → PartStands l.part) (λ w m. w ≡ true → PartStands m.part) (λ w f. w ≡ true → FromStands f) (λ w g. w ≡ true → AllByRecursion PartStands g.keys) (λ w h. w ≡ true → PartStands h.condition) (λ w o. w ≡ true → PartStands o.key) (λ w s. w ≡ true → SelectStands s)
groups g h = firsts (map part_of (map (λ e. e.0) g.keys)) (all_stand written_expr part_of ExprStands g.keys h)

havings : tree.KeepsHaving (λ w p. w ≡ true → ExprStands p) (λ w t. w ≡ true → TestStands t) (λ w i. w ≡ true → ItemStands i) (λ w j. w ≡ true → JoinStands j) (λ w r. w ≡ true → RelationStands r) (λ w a. w ≡ true → PartStands a.part) (λ w a. w ≡ true → ArmStands a) (λ w l. w ≡ true → PartStands l.part) (λ w m. w ≡ true → PartStands m.part) (λ w f. w ≡ true → FromStands f) (λ w g. w ≡ true → AllByRecursion PartStands g.keys) (λ w h. w ≡ true → PartStands h.condition) (λ w o. w ≡ true → PartStands o.key) (λ w s. w ≡ true → SelectStands s)
havings x h = (x.condition.1 h).0

orders : tree.KeepsOrderKey (λ w p. w ≡ true → ExprStands p) (λ w t. w ≡ true → TestStands t) (λ w i. w ≡ true → ItemStands i) (λ w j. w ≡ true → JoinStands j) (λ w r. w ≡ true → RelationStands r) (λ w a. w ≡ true → PartStands a.part) (λ w a. w ≡ true → ArmStands a) (λ w l. w ≡ true → PartStands l.part) (λ w m. w ≡ true → PartStands m.part) (λ w f. w ≡ true → FromStands f) (λ w g. w ≡ true → AllByRecursion PartStands g.keys) (λ w h. w ≡ true → PartStands h.condition) (λ w o. w ≡ true → PartStands o.key) (λ w s. w ≡ true → SelectStands s)
orders x h = (x.key.1 h).0

filter_part : (q : tree.Below (λ w p. w ≡ true → ExprStands p) (λ w t. w ≡ true → TestStands t) (λ w i. w ≡ true → ItemStands i) (λ w j. w ≡ true → JoinStands j) (λ w r. w ≡ true → RelationStands r) (λ w a. w ≡ true → PartStands a.part) (λ w a. w ≡ true → ArmStands a) (λ w l. w ≡ true → PartStands l.part) (λ w m. w ≡ true → PartStands m.part) (λ w f. w ≡ true → FromStands f) (λ w g. w ≡ true → AllByRecursion PartStands g.keys) (λ w h. w ≡ true → PartStands h.condition) (λ w o. w ≡ true → PartStands o.key) (λ w s. w ≡ true → SelectStands s) Select-F) (p : Option ((x : Expr) × (written_expr x ≡ true → ExprStands (part_of x)))) → if_any (map-Select _ _ _ _ _ _ _ _ _ _ _ _ _ _ _ _ _ _ _ _ _ _ _ _ _ _ _ _ written_expr written_test written_item written_join written_relation written_added written_arm written_chained written_multiplied written_from written_group_by written_having written_order_key written_select (map-Select _ _ _ _ _ _ _ _ _ _ _ _ _ _ _ _ _ _ _ _ _ _ _ _ _ _ _ _ (λ e. e.0) (λ e. e.0) (λ e. e.0) (λ e. e.0) (λ e. e.0) (λ e. e.0) (λ e. e.0) (λ e. e.0) (λ e. e.0) (λ e. e.0) (λ e. e.0) (λ e. e.0) (λ e. e.0) (λ e. e.0) (record q { filter = p }))).filter ≡ true → IfPart PartStands (map-Select _ _ _ _ _ _ _ _ _ _ _ _ _ _ _ _ _ _ _ _ _ _ _ _ _ _ _ _ part_of test_part item_part join_part relation_part added_part arm_part later_part multiplied_part from_part group_part having_part order_part select_of (map-Select _ _ _ _ _ _ _ _ _ _ _ _ _ _ _ _ _ _ _ _ _ _ _ _ _ _ _ _ (λ e. e.0) (λ e. e.0) (λ e. e.0) (λ e. e.0) (λ e. e.0) (λ e. e.0) (λ e. e.0) (λ e. e.0) (λ e. e.0) (λ e. e.0) (λ e. e.0) (λ e. e.0) (λ e. e.0) (λ e. e.0) (record q { filter = p }))).filter
filter_part q None h = tt
filter_part q (Some p) h = (p.1 h).0

groups_part : (q : tree.Below (λ w p. w ≡ true → ExprStands p) (λ w t. w ≡ true → TestStands t) (λ w i. w ≡ true → ItemStands i) (λ w j. w ≡ true → JoinStands j) (λ w r. w ≡ true → RelationStands r) (λ w a. w ≡ true → PartStands a.part) (λ w a. w ≡ true → ArmStands a) (λ w l. w ≡ true → PartStands l.part) (λ w m. w ≡ true → PartStands m.part) (λ w f. w ≡ true → FromStands f) (λ w g. w ≡ true → AllByRecursion PartStands g.keys) (λ w h. w ≡ true → PartStands h.condition) (λ w o. w ≡ true → PartStands o.key) (λ w s. w ≡ true → SelectStands s) Select-F) (p : Option ((x : GroupBy) × (written_group_by x ≡ true → AllByRecursion PartStands (group_part x).keys))) → if_any (map-Select _ _ _ _ _ _ _ _ _ _ _ _ _ _ _ _ _ _ _ _ _ _ _ _ _ _ _ _ written_expr written_test written_item written_join written_relation written_added written_arm written_chained written_multiplied written_from written_group_by written_having written_order_key written_select (map-Select _ _ _ _ _ _ _ _ _ _ _ _ _ _ _ _ _ _ _ _ _ _ _ _ _ _ _ _ (λ e. e.0) (λ e. e.0) (λ e. e.0) (λ e. e.0) (λ e. e.0) (λ e. e.0) (λ e. e.0) (λ e. e.0) (λ e. e.0) (λ e. e.0) (λ e. e.0) (λ e. e.0) (λ e. e.0) (λ e. e.0) (record q { groups = p }))).groups ≡ true → GroupStands (map-Select _ _ _ _ _ _ _ _ _ _ _ _ _ _ _ _ _ _ _ _ _ _ _ _ _ _ _ _ part_of test_part item_part join_part relation_part added_part arm_part later_part multiplied_part from_part group_part having_part order_part select_of (map-Select _ _ _ _ _ _ _ _ _ _ _ _ _ _ _ _ _ _ _ _ _ _ _ _ _ _ _ _ (λ e. e.0) (λ e. e.0) (λ e. e.0) (λ e. e.0) (λ e. e.0) (λ e. e.0) (λ e. e.0) (λ e. e.0) (λ e. e.0) (λ e. e.0) (λ e. e.0) (λ e. e.0) (λ e. e.0) (λ e. e.0) (record q { groups = p }))).groups
groups_part q None h = tt
groups_part q (Some p) h = p.1 h

having_part_stands : (q : tree.Below (λ w p. w ≡ true → ExprStands p) (λ w t. w ≡ true → TestStands t) (λ w i. w ≡ true → ItemStands i) (λ w j. w ≡ true → JoinStands j) (λ w r. w ≡ true → RelationStands r) (λ w a. w ≡ true → PartStands a.part) (λ w a. w ≡ true → ArmStands a) (λ w l. w ≡ true → PartStands l.part) (λ w m. w ≡ true → PartStands m.part) (λ w f. w ≡ true → FromStands f) (λ w g. w ≡ true → AllByRecursion PartStands g.keys) (λ w h. w ≡ true → PartStands h.condition) (λ w o. w ≡ true → PartStands o.key) (λ w s. w ≡ true → SelectStands s) Select-F) (p : Option ((x : Having) × (written_having x ≡ true → PartStands (having_part x).condition))) → if_any (map-Select _ _ _ _ _ _ _ _ _ _ _ _ _ _ _ _ _ _ _ _ _ _ _ _ _ _ _ _ written_expr written_test written_item written_join written_relation written_added written_arm written_chained written_multiplied written_from written_group_by written_having written_order_key written_select (map-Select _ _ _ _ _ _ _ _ _ _ _ _ _ _ _ _ _ _ _ _ _ _ _ _ _ _ _ _ (λ e. e.0) (λ e. e.0) (λ e. e.0) (λ e. e.0) (λ e. e.0) (λ e. e.0) (λ e. e.0) (λ e. e.0) (λ e. e.0) (λ e. e.0) (λ e. e.0) (λ e. e.0) (λ e. e.0) (λ e. e.0) (record q { having = p }))).having ≡ true → IfHaving (map-Select _ _ _ _ _ _ _ _ _ _ _ _ _ _ _ _ _ _ _ _ _ _ _ _ _ _ _ _ part_of test_part item_part join_part relation_part added_part arm_part later_part multiplied_part from_part group_part having_part order_part select_of (map-Select _ _ _ _ _ _ _ _ _ _ _ _ _ _ _ _ _ _ _ _ _ _ _ _ _ _ _ _ (λ e. e.0) (λ e. e.0) (λ e. e.0) (λ e. e.0) (λ e. e.0) (λ e. e.0) (λ e. e.0) (λ e. e.0) (λ e. e.0) (λ e. e.0) (λ e. e.0) (λ e. e.0) (λ e. e.0) (λ e. e.0) (record q { having = p }))).having
having_part_stands q None h = tt
having_part_stands q (Some p) h = p.1 h

selects : tree.KeepsSelect (λ w p. w ≡ true → ExprStands p) (λ w t. w ≡ true → TestStands t) (λ w i. w ≡ true → ItemStands i) (λ w j. w ≡ true → JoinStands j) (λ w r. w ≡ true → RelationStands r) (λ w a. w ≡ true → PartStands a.part) (λ w a. w ≡ true → ArmStands a) (λ w l. w ≡ true → PartStands l.part) (λ w m. w ≡ true → PartStands m.part) (λ w f. w ≡ true → FromStands f) (λ w g. w ≡ true → AllByRecursion PartStands g.keys) (λ w h. w ≡ true → PartStands h.condition) (λ w o. w ≡ true → PartStands o.key) (λ w s. w ≡ true → SelectStands s)
selects q h = λ cs w fit found.
    let e = and_left _ _ h in let d = and_left _ _ e in let c = and_left _ _ d in let b = and_left _ _ c in
    select_step_stands cs w fit (map-Select _ _ _ _ _ _ _ _ _ _ _ _ _ _ _ _ _ _ _ _ _ _ _ _ _ _ _ _ part_of test_part item_part join_part relation_part added_part arm_part later_part multiplied_part from_part group_part having_part order_part select_of (map-Select _ _ _ _ _ _ _ _ _ _ _ _ _ _ _ _ _ _ _ _ _ _ _ _ _ _ _ _ (λ e. e.0) (λ e. e.0) (λ e. e.0) (λ e. e.0) (λ e. e.0) (λ e. e.0) (λ e. e.0) (λ e. e.0) (λ e. e.0) (λ e. e.0) (λ e. e.0) (λ e. e.0) (λ e. e.0) (λ e. e.0) q))
    (record {
      items = all_stand written_item item_part ItemStands q.items (and_left _ _ b);
      filter = filter_part q q.filter (and_right _ _ c);
      keys = groups_part q q.groups (and_right _ _ d);
      having = having_part_stands q q.having (and_right _ _ e);
      order = all_stand written_order_key order_part (λ o. PartStands o.key) q.order (and_right _ _ h);
    })
    (froms_stand q.from (and_right _ _ b)) found

pub select_stands : (x : Select) → written_select x ≡ true → SelectStands (select_of x)
select_stands = tree.of_select (λ w p. w ≡ true → ExprStands p) (λ w t. w ≡ true → TestStands t) (λ w i. w ≡ true → ItemStands i) (λ w j. w ≡ true → JoinStands j) (λ w r. w ≡ true → RelationStands r) (λ w a. w ≡ true → PartStands a.part) (λ w a. w ≡ true → ArmStands a) (λ w l. w ≡ true → PartStands l.part) (λ w m. w ≡ true → PartStands m.part) (λ w f. w ≡ true → FromStands f) (λ w g. w ≡ true → AllByRecursion PartStands g.keys) (λ w h. w ≡ true → PartStands h.condition) (λ w o. w ≡ true → PartStands o.key) (λ w s. w ≡ true → SelectStands s) (step.expressions (λ w i. w ≡ true → ItemStands i) (λ w j. w ≡ true → JoinStands j) (λ w r. w ≡ true → RelationStands r) (λ w f. w ≡ true → FromStands f) (λ w g. w ≡ true → AllByRecursion PartStands g.keys) (λ w h. w ≡ true → PartStands h.condition) (λ w o. w ≡ true → PartStands o.key) (λ w s. w ≡ true → SelectStands s)) (step.tests (λ w i. w ≡ true → ItemStands i) (λ w j. w ≡ true → JoinStands j) (λ w r. w ≡ true → RelationStands r) (λ w f. w ≡ true → FromStands f) (λ w g. w ≡ true → AllByRecursion PartStands g.keys) (λ w h. w ≡ true → PartStands h.condition) (λ w o. w ≡ true → PartStands o.key) (λ w s. w ≡ true → SelectStands s)) items joins relations (step.addeds (λ w i. w ≡ true → ItemStands i) (λ w j. w ≡ true → JoinStands j) (λ w r. w ≡ true → RelationStands r) (λ w f. w ≡ true → FromStands f) (λ w g. w ≡ true → AllByRecursion PartStands g.keys) (λ w h. w ≡ true → PartStands h.condition) (λ w o. w ≡ true → PartStands o.key) (λ w s. w ≡ true → SelectStands s)) (step.arms (λ w i. w ≡ true → ItemStands i) (λ w j. w ≡ true → JoinStands j) (λ w r. w ≡ true → RelationStands r) (λ w f. w ≡ true → FromStands f) (λ w g. w ≡ true → AllByRecursion PartStands g.keys) (λ w h. w ≡ true → PartStands h.condition) (λ w o. w ≡ true → PartStands o.key) (λ w s. w ≡ true → SelectStands s)) (step.chaineds (λ w i. w ≡ true → ItemStands i) (λ w j. w ≡ true → JoinStands j) (λ w r. w ≡ true → RelationStands r) (λ w f. w ≡ true → FromStands f) (λ w g. w ≡ true → AllByRecursion PartStands g.keys) (λ w h. w ≡ true → PartStands h.condition) (λ w o. w ≡ true → PartStands o.key) (λ w s. w ≡ true → SelectStands s)) (step.multiplieds (λ w i. w ≡ true → ItemStands i) (λ w j. w ≡ true → JoinStands j) (λ w r. w ≡ true → RelationStands r) (λ w f. w ≡ true → FromStands f) (λ w g. w ≡ true → AllByRecursion PartStands g.keys) (λ w h. w ≡ true → PartStands h.condition) (λ w o. w ≡ true → PartStands o.key) (λ w s. w ≡ true → SelectStands s)) froms groups havings orders selects

pub selects_bound : SelectsBound
selects_bound cs w x found new block written fit is = subst (λ o. FineBlockIf cs found o) is (select_stands x written cs w fit found)
