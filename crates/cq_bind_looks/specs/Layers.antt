-- Whether a SELECT groups, over the tree itself.
use Rattle.std.specs.Prelude.{Bool, ◌||◌, map}
use Rattle.std.specs.List.{list_any}
use Rattle.cq_grammar.specs.declared.expr.Expr.TheOpen.{Expr-F, Select-F}
use Rattle.cq_grammar.specs.declared.expr.Expr.TheFolds.{map-Expr, map-Select}
use Rattle.cq_grammar.specs.declared.expr.Expr.{Expr, out-Expr}
use Rattle.cq_grammar.specs.declared.query.Select.{Select, out-Select}
use Rattle.cq_reading.specs.Expressions.{Layer}
use Rattle.cq_reading.specs.Widths.{is_some}
use Rattle.cq_reading.specs.Selects.{has_aggregate}
use Rattle.cq_reading.specs.Walk.{part_of, select_of, test_part, item_part, join_part, relation_part, added_part, arm_part, later_part, multiplied_part, from_part, group_part, having_part, order_part}

-- the layer of an expression, with what the walk gives of its parts
abbrev pub expr_layer : Expr → Layer Expr-F
expr_layer e = map-Expr _ _ _ _ _ _ _ _ _ _ _ _ _ _ _ _ _ _ _ _ _ _ _ _ _ _ _ _ part_of test_part item_part join_part relation_part added_part arm_part later_part multiplied_part from_part group_part having_part order_part select_of (out-Expr e)

-- the layer of a SELECT, with what the walk gives of its parts
abbrev pub select_layer : Select → Layer Select-F
select_layer q = map-Select _ _ _ _ _ _ _ _ _ _ _ _ _ _ _ _ _ _ _ _ _ _ _ _ _ _ _ _ part_of test_part item_part join_part relation_part added_part arm_part later_part multiplied_part from_part group_part having_part order_part select_of (out-Select q)

-- a SELECT groups where it has GROUP BY, HAVING or an aggregate
abbrev pub select_groups : Select → Bool
select_groups q =
    let l = out-Select q in
    is_some l.groups || is_some l.having || list_any has_aggregate (map item_part l.items) || list_any (λ o. o.key.aggregates) (map order_part l.order)
