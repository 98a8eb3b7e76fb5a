-- A SELECT in two parts: what is read before its outputs, and the rest.
use Rattle.std.specs.Prelude.{Bool, true, false, List, [], map, Result, Ok, Err}
use Rattle.cq_reading.specs.declared.error.BindError.{BindError}
use Rattle.cq_reading.specs.declared.bound.Relations.{Relations}
use Rattle.cq_reading.specs.declared.bound.Found.{Found}
use Rattle.cq_reading.specs.declared.bound.Block.{Block}
use Rattle.cq_reading.specs.declared.bound.Shown.{Shown}
use Rattle.cq_reading.specs.declared.bound.Ordered.{Ordered}
use Rattle.std.specs.Option.{option_map}
use Rattle.cq_tree.specs.declared.expression.Cond.{Cond}
use Rattle.cq_tree.specs.declared.expression.Expr as tree
use Rattle.cq_grammar.specs.declared.expr.Expr.TheOpen.{Select-F}
use Rattle.cq_grammar.specs.declared.query.Select.{Select, out-Select}
use Rattle.cq_reading.specs.declared.error.Limited.TheVariants as limited
use Rattle.cq_reading.specs.Steps.{Reading, give, ◌then◌}
use Rattle.cq_reading.specs.Scopes.{World, Context}
use Rattle.cq_reading.specs.Parts.{ItemPart, OrderPart}
use Rattle.cq_reading.specs.Expressions.{Layer}
use Rattle.cq_reading.specs.Relations.{from_of}
use Rattle.cq_reading.specs.Selects.{look, at_most, targets, read_target, item_of, group_keys, having_of, order_keys, before_grouping, after_grouping, filter_of}
use Rattle.cq_reading.specs.Walk.{groups, block_of, part_of, item_part, from_part, group_part, having_part, order_part}
use Rattle.cq_bind_names.specs.declared.blocks.Outer.{Outer}
use Rattle.cq_bind_walk.specs.declared.selects.Rows.{Rows}
use Rattle.cq_bind_walk.specs.declared.selects.Shape.{Shape}

-- the layer of a SELECT, with what the walk gives of its parts
abbrev pub layer_of : Select → Layer Select-F
layer_of q = record {
  distinct = (out-Select q).distinct;
  items = map item_part (out-Select q).items;
  from = map from_part (out-Select q).from;
  filter = option_map part_of (out-Select q).filter;
  groups = option_map group_part (out-Select q).groups;
  having = option_map having_part (out-Select q).having;
  order = map order_part (out-Select q).order;
  limit = (out-Select q).limit;
  offset = (out-Select q).offset;
  at = (out-Select q).at;
}

-- WHERE and GROUP BY
abbrev pub conditions_reading : Layer Select-F → World → Relations → Reading (Cond × List tree.Expr)
conditions_reading q w r =
    filter_of (before_grouping w r true) q.filter then (λ filter.
    group_keys (before_grouping w r false) (targets r.columns q.items) r.joined q.groups then (λ keys.
    give (filter, keys)))

-- what is made of what is read, or its refusal
abbrev pub made : {A B : Type 0} → (A → B) → Result A BindError → Result B BindError
made make (Ok a) = Ok (make a)
made make (Err e) = Err e

abbrev pub rows_of : Relations → Cond × List tree.Expr → Rows
rows_of r p = record { relations = r; filter = p.0; keys = p.1 }

abbrev pub rows_from : Relations × (Cond × List tree.Expr) → Rows
rows_from p = rows_of p.0 p.1

abbrev pub shape_of : Cond → List Shown × Ordered → Shape
shape_of having p = record { having = having; outputs = p.0; order = p.1 }

abbrev pub with_shape : Rows → Shape → Rows × Shape
with_shape x s = (x, s)

-- FROM, WHERE, GROUP BY
abbrev pub rows_reading : Layer Select-F → World → Reading Rows
rows_reading q w = from_of w q.from then (λ r. conditions_reading q w r then (λ p. give (rows_of r p)))

-- the select list and ORDER BY
abbrev pub ordered_reading : List ItemPart → Bool → List OrderPart → Context → Reading (List Shown × Ordered)
ordered_reading items distinct order cx =
    at_most 512 limited.Outputs (read_target cx) (targets cx.columns items) then (λ outputs.
    order_keys cx outputs distinct order (record { items = map item_of outputs; keys = [] }) then (λ order.
    give (outputs, order)))

-- HAVING, the select list, ORDER BY
abbrev pub shape_reading : Layer Select-F → World → Bool → Rows → Reading Shape
shape_reading q w grouped x =
    having_of (after_grouping w x.relations grouped x.keys true) x.relations.joined q.having then (λ having.
    ordered_reading q.items q.distinct q.order (after_grouping w x.relations grouped x.keys false) then (λ p.
    give (shape_of having p)))

abbrev pub parts_reading : Layer Select-F → World → Bool → Reading (Rows × Shape)
parts_reading q w grouped = rows_reading q w then (λ x. shape_reading q w grouped x then (λ s. give (with_shape x s)))

abbrev pub finished : Layer Select-F → Rows × Shape → Reading Block
finished q p = look then (λ found. give (block_of q p.0.relations p.0.filter p.0.keys p.1.having p.1.outputs p.1.order found))

-- the same as the definition has it
abbrev pub inner_reading : Layer Select-F → World → Reading Block
inner_reading q w =
    from_of w q.from then (λ r.
    filter_of (before_grouping w r true) q.filter then (λ filter.
    group_keys (before_grouping w r false) (targets r.columns q.items) r.joined q.groups then (λ keys.
    having_of (after_grouping w r (groups q) keys true) r.joined q.having then (λ having.
    at_most 512 limited.Outputs (read_target (after_grouping w r (groups q) keys false)) (targets r.columns q.items) then (λ outputs.
    order_keys (after_grouping w r (groups q) keys false) outputs q.distinct q.order (record { items = map item_of outputs; keys = [] }) then (λ order.
    look then (λ found. give (block_of q r filter keys having outputs order found))))))))

-- the block, of what was found in it
abbrev pub found_with : Outer → Found
found_with inner = record { results = 0; blocks = 0; subs = inner.subs; aggs = inner.aggs }

abbrev pub block_with : Layer Select-F → Rows → Shape → Outer → Block
block_with q x s inner = block_of q x.relations x.filter x.keys s.having s.outputs s.order (found_with inner)
