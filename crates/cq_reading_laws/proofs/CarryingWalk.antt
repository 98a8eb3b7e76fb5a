-- What the walk carries on through a whole tree: the steps of the induction, but for relations and SELECTs. Each node may bring a flag
-- along that it hands to its parts, as that it is written so.
use Rattle.std.proofs.Common.{ℕ, Bool, true, false, ◌&&◌, List, [], ◌∷◌, map, Option, None, Some}
use Rattle.std.specs.List.{AllByRecursion}
use Rattle.cq_grammar.specs.declared.expr.Expr.{Expr}
use Rattle.cq_grammar.specs.declared.expr.Chained.{Chained}
use Rattle.cq_grammar.specs.declared.query.Select.{Select}
use Rattle.cq_grammar.specs.declared.query.GroupBy.{GroupBy}
use Rattle.cq_grammar.specs.declared.query.Having.{Having}
use Rattle.cq_grammar.specs.declared.expr.Expr.TheOpen.{Expr-F, Test-F, Item-F, Select-F}
use Rattle.cq_grammar.specs.declared.expr.Expr.TheFolds.{map-Select}
use Rattle.cq_reading.specs.declared.bound.Bound.{Bound}
use Rattle.cq_reading.specs.Steps.{Reading}
use Rattle.cq_reading.specs.Scopes.{Context, plain}
use Rattle.cq_reading.specs.Parts.{Part, TestPart, ItemPart, JoinPart, RelationPart, AddedPart, ArmPart, LaterPart, MultipliedPart, FromPart, GroupPart, HavingPart, OrderPart, SelectPart}
use Rattle.cq_reading.specs.Expressions as e
use Rattle.cq_reading.specs.Expressions.{Layer}
use Rattle.cq_reading.specs.Rules as rule
use Rattle.cq_reading.specs.Walk.{part_of, test_part, item_part, join_part, relation_part, added_part, arm_part, later_part, multiplied_part, from_part, group_part, having_part, order_part, select_of}
use Rattle.cq_reading_laws.specs.Written.{Answers, all, if_any, select_node, written_expr, written_test, written_item, written_join, written_relation, written_added, written_arm, written_chained, written_multiplied, written_from, written_group_by, written_having, written_order_key, written_select}
use Rattle.cq_reading_laws.proofs.Induction as tree
use Rattle.cq_reading_laws.proofs.Carrying.{Law, Carries, carries_give}
use Rattle.cq_reading_laws.proofs.CarryingParts as part
use Rattle.cq_reading_laws.proofs.CarryingParts.{PartCarries, TestCarries, ArmCarries, IfPart}
use Rattle.cq_reading_laws.proofs.CarryingSelects as list
use Rattle.cq_reading_laws.proofs.CarryingSelects.{ItemCarries, GroupCarries, IfGroup, IfHaving}

abbrev pub OfExpr : (Bool → Type 0) → (Context → Law) → Bool → Part → Type 0
OfExpr Flag law w p = Flag w → PartCarries law p

abbrev pub OfTest : (Bool → Type 0) → (Context → Law) → Bool → TestPart → Type 0
OfTest Flag law w t = Flag w → TestCarries law t

abbrev pub OfItem : (Bool → Type 0) → (Context → Law) → Bool → ItemPart → Type 0
OfItem Flag law w i = Flag w → ItemCarries law i

abbrev pub OfAdded : (Bool → Type 0) → (Context → Law) → Bool → AddedPart → Type 0
OfAdded Flag law w a = Flag w → PartCarries law a.part

abbrev pub OfArm : (Bool → Type 0) → (Context → Law) → Bool → ArmPart → Type 0
OfArm Flag law w a = Flag w → ArmCarries law a

abbrev pub OfChained : (Bool → Type 0) → (Context → Law) → Bool → LaterPart → Type 0
OfChained Flag law w l = Flag w → PartCarries law l.part

abbrev pub OfMultiplied : (Bool → Type 0) → (Context → Law) → Bool → MultipliedPart → Type 0
OfMultiplied Flag law w m = Flag w → PartCarries law m.part

abbrev pub OfGroup : (Bool → Type 0) → (Context → Law) → Bool → GroupPart → Type 0
OfGroup Flag law w g = Flag w → GroupCarries law g

abbrev pub OfHaving : (Bool → Type 0) → (Context → Law) → Bool → HavingPart → Type 0
OfHaving Flag law w h = Flag w → PartCarries law h.condition

abbrev pub OfOrder : (Bool → Type 0) → (Context → Law) → Bool → OrderPart → Type 0
OfOrder Flag law w o = Flag w → PartCarries law o.key

-- the parts of a SELECT behind its FROM carry the law on
pub record PartsCarry (law : Context → Law) (q : Layer Select-F) : Type 0 where
  pub items : AllByRecursion (ItemCarries law) q.items
  pub filter : IfPart (PartCarries law) q.filter
  pub groups : IfGroup law q.groups
  pub having : IfHaving law q.having
  pub order : AllByRecursion (λ o. PartCarries law o.key) q.order

module _ (Flag : Bool → Type 0) (left : (a b : Bool) → Flag (a && b) → Flag a) (right : (a b : Bool) → Flag (a && b) → Flag b) where
  pub all_parts : {A P : Type 0} (W : A → Bool) (f : A → P) (Q : P → Type 0) (xs : List ((a : A) × (Flag (W a) → Q (f a)))) → Flag (all (map W (map (λ e. e.0) xs))) → AllByRecursion Q (map f (map (λ e. e.0) xs))
  all_parts W f Q [] h = tt
  all_parts W f Q (x ∷ xs) h = (x.1 (left _ _ h), all_parts W f Q xs (right _ _ h))

  -- a SELECT's flag is that of its parts
  pub record SelectFlags (y : Answers Select-F) : Type 0 where
    pub items : Flag (all y.items)
    pub from : Flag (all y.from)
    pub filter : Flag (if_any y.filter)
    pub groups : Flag (if_any y.groups)
    pub having : Flag (if_any y.having)
    pub order : Flag (all y.order)

  pub flags_of : (y : Answers Select-F) → Flag (select_node y) → SelectFlags y
  flags_of y h =
      let e = left _ _ h in let d = left _ _ e in let c = left _ _ d in let b = left _ _ c in
      record { items = left _ _ b; from = right _ _ (right _ _ b); filter = right _ _ c; groups = right _ _ d; having = right _ _ e; order = right _ _ h }

  module _ (law : Context → Law) (same : (cx : Context) (r : Reading Bound) → Carries (law (plain cx)) r → Carries (law cx) r)
      (Q4 : Bool → JoinPart → Type 0) (Q5 : Bool → RelationPart → Type 0) (Q10 : Bool → FromPart → Type 0) (Q14 : Bool → SelectPart → Type 0)
      (in_select : (x : Select) → Q14 (written_select x) (select_of x) → Flag (written_select x) → (cx : Context) (b : Bound) (negate : Bool) (at : ℕ) → Carries (law cx) (e.in_select_reading (select_of x) cx b negate at)) where
    chained : (any : Bool) (first : (x : Expr) × OfExpr Flag law (written_expr x) (part_of x)) (rest : List ((x : Chained) × OfChained Flag law (written_chained x) (later_part x)))
        → Flag (written_expr first.0 && all (map written_chained (map (λ e. e.0) rest))) → PartCarries law (e.chain any (part_of first.0) (map later_part (map (λ e. e.0) rest)))
    chained any first rest h =
        part.chain_reading_carries law same any (part_of first.0) (map later_part (map (λ e. e.0) rest)) (first.1 (left _ _ h)) (all_parts written_chained later_part (λ l. PartCarries law l.part) rest (right _ _ h))

    expressions : tree.KeepsExpr (OfExpr Flag law) (OfTest Flag law) (OfItem Flag law) Q4 Q5 (OfAdded Flag law) (OfArm Flag law) (OfChained Flag law) (OfMultiplied Flag law)
        Q10 (OfGroup Flag law) (OfHaving Flag law) (OfOrder Flag law) Q14
    expressions (Expr-F.Or first rest) h = chained true first rest h
    expressions (Expr-F.And first rest) h = chained false first rest h
    expressions (Expr-F.Not inner at) h = part.not_carries law same (part_of inner.0) at (inner.1 h)
    expressions (Expr-F.Is first rest) h = part.is_carries law same (part_of first.0) rest (first.1 h)
    expressions (Expr-F.Compare l operator r at) h = part.compare_carries law same (part_of l.0) operator (part_of r.0) at (l.1 (left _ _ h)) (r.1 (right _ _ h))
    expressions (Expr-F.Tested operand negated test at) h = part.tested_carries law same (part_of operand.0) negated (test_part test.0) at (operand.1 (left _ _ h)) (test.1 (right _ _ h))
    expressions (Expr-F.Sum first rest) h =
        part.sum_carries law same (part_of first.0) (map added_part (map (λ e. e.0) rest)) (first.1 (left _ _ h)) (all_parts written_added added_part (λ a. PartCarries law a.part) rest (right _ _ h))
    expressions (Expr-F.Product first rest) h =
        part.product_carries law same (part_of first.0) (map multiplied_part (map (λ e. e.0) rest)) (first.1 (left _ _ h))
        (all_parts written_multiplied multiplied_part (λ m. PartCarries law m.part) rest (right _ _ h))
    expressions (Expr-F.Signed sign inner at) h = part.signed_reading_carries law same sign (part_of inner.0) (part_of inner.0).form at (inner.1 h)
    expressions (Expr-F.Number value at) h = λ cx. carries_give (law cx) (rule.number value)
    expressions (Expr-F.Quoted text at) h = λ cx. carries_give (law cx) (rule.quoted text)
    expressions (Expr-F.Null at) h = λ cx. carries_give (law cx) rule.null
    expressions (Expr-F.Column column) h = part.column_carries law same column
    expressions (Expr-F.ColumnOf relation column) h = part.column_of_carries law same relation column
    expressions (Expr-F.Group inner at) h = λ cx. part.reads_carry law same (part_of inner.0) cx (inner.1 h)
    expressions (Expr-F.Case arms None at) h = part.case_carries law same (map arm_part (map (λ e. e.0) arms)) None at (all_parts written_arm arm_part (ArmCarries law) arms (left _ _ h)) tt
    expressions (Expr-F.Case arms (Some other) at) h =
        part.case_carries law same (map arm_part (map (λ e. e.0) arms)) (Some (part_of other.0)) at (all_parts written_arm arm_part (ArmCarries law) arms (left _ _ h)) (other.1 (right _ _ h))
    expressions (Expr-F.Coalesce items at) h = part.coalesce_carries law same (map part_of (map (λ e. e.0) items)) at (all_parts written_expr part_of (PartCarries law) items (right _ _ h))
    expressions (Expr-F.CountAll at) h = part.counted_node_carries law same at
    expressions (Expr-F.Aggregate function argument at) h = part.aggregate_carries law same function (part_of argument.0) at (argument.1 h)

    tests : tree.KeepsTest (OfExpr Flag law) (OfTest Flag law) (OfItem Flag law) Q4 Q5 (OfAdded Flag law) (OfArm Flag law) (OfChained Flag law) (OfMultiplied Flag law)
        Q10 (OfGroup Flag law) (OfHaving Flag law) (OfOrder Flag law) Q14
    tests (Test-F.InSelect select) h = in_select select.0 select.1 h
    tests (Test-F.InList items) h = part.in_list_carries law same (map part_of (map (λ e. e.0) items)) (all_parts written_expr part_of (PartCarries law) items h)
    tests (Test-F.Between low high) h = part.between_carries law same (part_of low.0) (part_of high.0) (low.1 (left _ _ h)) (high.1 (right _ _ h))

    items : tree.KeepsItem (OfExpr Flag law) (OfTest Flag law) (OfItem Flag law) Q4 Q5 (OfAdded Flag law) (OfArm Flag law) (OfChained Flag law) (OfMultiplied Flag law)
        Q10 (OfGroup Flag law) (OfHaving Flag law) (OfOrder Flag law) Q14
    items (Item-F.All at) h = (list.value_item law same).0 at
    items (Item-F.AllOf relation) h = (list.value_item law same).1 relation
    items (Item-F.Value value None) h = (list.value_item law same).2 (part_of value.0) None (value.1 h)
    items (Item-F.Value value (Some name)) h = (list.value_item law same).2 (part_of value.0) (Some name.text) (value.1 h)

    addeds : tree.KeepsAdded (OfExpr Flag law) (OfTest Flag law) (OfItem Flag law) Q4 Q5 (OfAdded Flag law) (OfArm Flag law) (OfChained Flag law) (OfMultiplied Flag law)
        Q10 (OfGroup Flag law) (OfHaving Flag law) (OfOrder Flag law) Q14
    addeds a h = a.term.1 h

    arms : tree.KeepsArm (OfExpr Flag law) (OfTest Flag law) (OfItem Flag law) Q4 Q5 (OfAdded Flag law) (OfArm Flag law) (OfChained Flag law) (OfMultiplied Flag law)
        Q10 (OfGroup Flag law) (OfHaving Flag law) (OfOrder Flag law) Q14
    arms a h = (a.condition.1 (left _ _ h), a.result.1 (right _ _ h))

    chaineds : tree.KeepsChained (OfExpr Flag law) (OfTest Flag law) (OfItem Flag law) Q4 Q5 (OfAdded Flag law) (OfArm Flag law) (OfChained Flag law) (OfMultiplied Flag law)
        Q10 (OfGroup Flag law) (OfHaving Flag law) (OfOrder Flag law) Q14
    chaineds c h = c.part.1 h

    multiplieds : tree.KeepsMultiplied (OfExpr Flag law) (OfTest Flag law) (OfItem Flag law) Q4 Q5 (OfAdded Flag law) (OfArm Flag law) (OfChained Flag law) (OfMultiplied Flag law)
        Q10 (OfGroup Flag law) (OfHaving Flag law) (OfOrder Flag law) Q14
    multiplieds m h = m.factor.1 h

    groups : tree.KeepsGroupBy (OfExpr Flag law) (OfTest Flag law) (OfItem Flag law) Q4 Q5 (OfAdded Flag law) (OfArm Flag law) (OfChained Flag law) (OfMultiplied Flag law)
        Q10 (OfGroup Flag law) (OfHaving Flag law) (OfOrder Flag law) Q14
    groups g h = all_parts written_expr part_of (PartCarries law) g.keys h

    havings : tree.KeepsHaving (OfExpr Flag law) (OfTest Flag law) (OfItem Flag law) Q4 Q5 (OfAdded Flag law) (OfArm Flag law) (OfChained Flag law) (OfMultiplied Flag law)
        Q10 (OfGroup Flag law) (OfHaving Flag law) (OfOrder Flag law) Q14
    havings x h = x.condition.1 h

    orders : tree.KeepsOrderKey (OfExpr Flag law) (OfTest Flag law) (OfItem Flag law) Q4 Q5 (OfAdded Flag law) (OfArm Flag law) (OfChained Flag law) (OfMultiplied Flag law)
        Q10 (OfGroup Flag law) (OfHaving Flag law) (OfOrder Flag law) Q14
    orders o h = o.key.1 h

    -- a SELECT with a proof beside each part: what it is built of, its parts, and whether they are written
    abbrev pub Below : Type 0
    Below = tree.Below (OfExpr Flag law) (OfTest Flag law) (OfItem Flag law) Q4 Q5 (OfAdded Flag law) (OfArm Flag law) (OfChained Flag law) (OfMultiplied Flag law)
        Q10 (OfGroup Flag law) (OfHaving Flag law) (OfOrder Flag law) Q14 Select-F

    abbrev pub layer_of : Below → Layer Select-F
    layer_of q = map-Select _ _ _ _ _ _ _ _ _ _ _ _ _ _ _ _ _ _ _ _ _ _ _ _ _ _ _ _
        part_of test_part item_part join_part relation_part added_part arm_part later_part multiplied_part from_part group_part having_part order_part select_of
        (map-Select _ _ _ _ _ _ _ _ _ _ _ _ _ _ _ _ _ _ _ _ _ _ _ _ _ _ _ _
        (λ e. e.0) (λ e. e.0) (λ e. e.0) (λ e. e.0) (λ e. e.0) (λ e. e.0) (λ e. e.0) (λ e. e.0) (λ e. e.0) (λ e. e.0) (λ e. e.0) (λ e. e.0) (λ e. e.0) (λ e. e.0) q)

    abbrev pub written_of : Below → Answers Select-F
    written_of q = map-Select _ _ _ _ _ _ _ _ _ _ _ _ _ _ _ _ _ _ _ _ _ _ _ _ _ _ _ _
        written_expr written_test written_item written_join written_relation written_added written_arm written_chained written_multiplied written_from written_group_by written_having written_order_key written_select
        (map-Select _ _ _ _ _ _ _ _ _ _ _ _ _ _ _ _ _ _ _ _ _ _ _ _ _ _ _ _
        (λ e. e.0) (λ e. e.0) (λ e. e.0) (λ e. e.0) (λ e. e.0) (λ e. e.0) (λ e. e.0) (λ e. e.0) (λ e. e.0) (λ e. e.0) (λ e. e.0) (λ e. e.0) (λ e. e.0) (λ e. e.0) q)

    filter_part : (q : Below) (p : Option ((x : Expr) × OfExpr Flag law (written_expr x) (part_of x))) → Flag (if_any (written_of (record q { filter = p })).filter)
        → IfPart (PartCarries law) (layer_of (record q { filter = p })).filter
    filter_part q None h = tt
    filter_part q (Some p) h = p.1 h

    groups_part : (q : Below) (p : Option ((x : GroupBy) × OfGroup Flag law (written_group_by x) (group_part x))) → Flag (if_any (written_of (record q { groups = p })).groups)
        → IfGroup law (layer_of (record q { groups = p })).groups
    groups_part q None h = tt
    groups_part q (Some p) h = p.1 h

    having_part_carries : (q : Below) (p : Option ((x : Having) × OfHaving Flag law (written_having x) (having_part x))) → Flag (if_any (written_of (record q { having = p })).having)
        → IfHaving law (layer_of (record q { having = p })).having
    having_part_carries q None h = tt
    having_part_carries q (Some p) h = p.1 h

    pub select_parts : (q : Below) → Flag (select_node (written_of q)) → PartsCarry law (layer_of q)
    select_parts q h =
        let f = flags_of (written_of q) h in
        record {
          items = all_parts written_item item_part (ItemCarries law) q.items f.items;
          filter = filter_part q q.filter f.filter;
          groups = groups_part q q.groups f.groups;
          having = having_part_carries q q.having f.having;
          order = all_parts written_order_key order_part (λ o. PartCarries law o.key) q.order f.order;
        }

    abbrev pub Joins : Type 0
    Joins = tree.KeepsJoin (OfExpr Flag law) (OfTest Flag law) (OfItem Flag law) Q4 Q5 (OfAdded Flag law) (OfArm Flag law) (OfChained Flag law) (OfMultiplied Flag law)
        Q10 (OfGroup Flag law) (OfHaving Flag law) (OfOrder Flag law) Q14

    abbrev pub Relations : Type 0
    Relations = tree.KeepsRelation (OfExpr Flag law) (OfTest Flag law) (OfItem Flag law) Q4 Q5 (OfAdded Flag law) (OfArm Flag law) (OfChained Flag law) (OfMultiplied Flag law)
        Q10 (OfGroup Flag law) (OfHaving Flag law) (OfOrder Flag law) Q14

    abbrev pub Froms : Type 0
    Froms = tree.KeepsFrom (OfExpr Flag law) (OfTest Flag law) (OfItem Flag law) Q4 Q5 (OfAdded Flag law) (OfArm Flag law) (OfChained Flag law) (OfMultiplied Flag law)
        Q10 (OfGroup Flag law) (OfHaving Flag law) (OfOrder Flag law) Q14

    abbrev pub Selects : Type 0
    Selects = tree.KeepsSelect (OfExpr Flag law) (OfTest Flag law) (OfItem Flag law) Q4 Q5 (OfAdded Flag law) (OfArm Flag law) (OfChained Flag law) (OfMultiplied Flag law)
        Q10 (OfGroup Flag law) (OfHaving Flag law) (OfOrder Flag law) Q14

    module _ (joins : Joins) (relations : Relations) (froms : Froms) (selects : Selects) where
      pub of_expression : (x : Expr) → Flag (written_expr x) → PartCarries law (part_of x)
      of_expression = tree.of_expression (OfExpr Flag law) (OfTest Flag law) (OfItem Flag law) Q4 Q5 (OfAdded Flag law) (OfArm Flag law) (OfChained Flag law) (OfMultiplied Flag law)
          Q10 (OfGroup Flag law) (OfHaving Flag law) (OfOrder Flag law) Q14
          expressions tests items joins relations addeds arms chaineds multiplieds froms groups havings orders selects

      pub of_select : (x : Select) → Q14 (written_select x) (select_of x)
      of_select = tree.of_select (OfExpr Flag law) (OfTest Flag law) (OfItem Flag law) Q4 Q5 (OfAdded Flag law) (OfArm Flag law) (OfChained Flag law) (OfMultiplied Flag law)
          Q10 (OfGroup Flag law) (OfHaving Flag law) (OfOrder Flag law) Q14
          expressions tests items joins relations addeds arms chaineds multiplieds froms groups havings orders selects
