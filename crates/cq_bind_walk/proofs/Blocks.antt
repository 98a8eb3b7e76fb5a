-- A SELECT in parts.
use Rattle.std.proofs.Common.{◌≡◌, Bool, true, false, nat_lt, List, [], map, IsErrAnd, Result, Ok, Err, sym, subst, ap, refl, ◌∙◌}
use Rattle.cq_grammar.specs.declared.expr.Expr.TheOpen.{Select-F}
use Rattle.cq_grammar.specs.declared.query.Select.{Select}
use Rattle.cq_tree.specs.declared.expression.Cond.{Cond}
use Rattle.cq_tree.specs.declared.expression.Expr.{Expr}
use Rattle.cq_reading.specs.declared.bound.Relations.{Relations}
use Rattle.cq_reading.specs.declared.bound.Shown.{Shown}
use Rattle.cq_reading.specs.declared.bound.Ordered.{Ordered}
use Rattle.cq_reading.specs.declared.bound.Found.{Found}
use Rattle.cq_reading.specs.declared.bound.Block.{Block}
use Rattle.cq_reading.specs.declared.error.BindError.{BindError}
use Rattle.cq_reading.specs.Steps.{Reading, give, follow, ◌then◌}
use Rattle.cq_reading.specs.Outcomes.{Binds}
use Rattle.cq_reading.specs.Scopes.{World}
use Rattle.cq_reading.specs.Expressions.{Layer}
use Rattle.cq_reading.specs.declared.error.BindError.TheVariants as error
use Rattle.cq_reading.specs.declared.error.Limited.TheVariants as limited
use Rattle.cq_reading.specs.Relations.{from_of}
use Rattle.cq_reading.specs.Selects.{look, at_most, targets, read_target, item_of, filter_of, group_keys, having_of, order_keys, before_grouping, after_grouping, a_block}
use Rattle.cq_reading.specs.Walk.{groups, block_of, select_of, select_step}
use Rattle.cq_bind_names.specs.Blocks.{entered, left}
use Rattle.cq_bind_names.proofs.BlockLaws.{block_ok, block_err, block_limit}
use Rattle.cq_bind_calls.proofs.Loops.{err_is}
use Rattle.cq_bind_names.specs.declared.blocks.Outer.{Outer}
use Rattle.cq_bind_walk.specs.declared.selects.Rows.{Rows}
use Rattle.cq_bind_walk.specs.declared.selects.Shape.{Shape}
use Rattle.cq_bind_looks.proofs.Looks.{select_is}
use Rattle.cq_bind_walk.proofs.Layers.{layer_is}
use Rattle.cq_bind_walk.specs.Blocks.{layer_of, block_with, conditions_reading, ordered_reading, shape_reading, parts_reading, finished, inner_reading, rows_of, shape_of, with_shape}

-- what is read behind a part is read behind the whole
deep : {A X D : Type 0} (C : Result (X × Found) BindError → Result (D × Found) BindError) (o : Result (A × Found) BindError) (p : A → Reading X) (r : A → Reading D)
    → ((e : BindError) → C (Err e) ≡ Err e) → ((a : A) (f : Found) → r a f ≡ C (p a f)) → follow o r ≡ C (follow o p)
deep C (Ok a) p r e h = h a.0 a.1
deep C (Err x) p r e h = sym (e x)

module _ (q : Layer Select-F) (w : World) where
  abbrev rest : (x : Rows) → Reading Block
  rest x =
      having_of (after_grouping w x.relations (groups q) x.keys true) x.relations.joined q.having then (λ having.
      at_most 512 limited.Outputs (read_target (after_grouping w x.relations (groups q) x.keys false)) (targets x.relations.columns q.items) then (λ outputs.
      order_keys (after_grouping w x.relations (groups q) x.keys false) outputs q.distinct q.order (record { items = map item_of outputs; keys = [] }) then (λ order.
      look then (λ found. give (block_of q x.relations x.filter x.keys having outputs order found)))))

  abbrev shaped : Rows → Cond → Reading Shape
  shaped x having = ordered_reading q.items q.distinct q.order (after_grouping w x.relations (groups q) x.keys false) then (λ p. give (shape_of having p))

  abbrev ordered : Rows → List Shown → Reading (List Shown × Ordered)
  ordered x outputs =
      order_keys (after_grouping w x.relations (groups q) x.keys false) outputs q.distinct q.order (record { items = map item_of outputs; keys = [] }) then (λ order. give (outputs, order))

  rest_is : (x : Rows) (f : Found) → rest x f ≡ follow (follow (shape_reading q w (groups q) x f) (λ s. give (with_shape x s))) (finished q)
  rest_is x f =
      deep {A = Cond} {X = Shape} {D = Block} (λ z. follow (follow z (λ s. give (with_shape x s))) (finished q))
      (having_of (after_grouping w x.relations (groups q) x.keys true) x.relations.joined q.having f) (shaped x) _ (λ e. refl) (λ having g.
      deep {A = List Shown} {X = List Shown × Ordered} {D = Block} (λ z. follow (follow (follow z (λ p. give (shape_of having p))) (λ s. give (with_shape x s))) (finished q))
      (at_most 512 limited.Outputs (read_target (after_grouping w x.relations (groups q) x.keys false)) (targets x.relations.columns q.items) g) (ordered x) _ (λ e. refl) (λ outputs h.
      deep {A = Ordered} {X = List Shown × Ordered} {D = Block} (λ z. follow (follow (follow z (λ p. give (shape_of having p))) (λ s. give (with_shape x s))) (finished q))
      (order_keys (after_grouping w x.relations (groups q) x.keys false) outputs q.distinct q.order (record { items = map item_of outputs; keys = [] }) h) (λ order. give (outputs, order)) _ (λ e. refl) (λ order k. refl)))

  abbrev behind : Rows → Reading (Rows × Shape)
  behind x = shape_reading q w (groups q) x then (λ s. give (with_shape x s))

  abbrev rows_behind : Relations → Reading Rows
  rows_behind r = conditions_reading q w r then (λ p. give (rows_of r p))

  abbrev keys_behind : Relations → Cond → Reading (Cond × List Expr)
  keys_behind r filter = group_keys (before_grouping w r false) (targets r.columns q.items) r.joined q.groups then (λ keys. give (filter, keys))

  pub inner_is : (f : Found) → inner_reading q w f ≡ follow (parts_reading q w (groups q) f) (finished q)
  inner_is f =
      deep {A = Relations} {X = Rows} {D = Block} (λ z. follow (follow z behind) (finished q)) (from_of w q.from f) rows_behind _ (λ e. refl) (λ r g.
      deep {A = Cond} {X = Cond × List Expr} {D = Block} (λ z. follow (follow (follow z (λ p. give (rows_of r p))) behind) (finished q))
      (filter_of (before_grouping w r true) q.filter g) (keys_behind r) _ (λ e. refl) (λ filter h.
      deep {A = List Expr} {X = Cond × List Expr} {D = Block} (λ z. follow (follow (follow z (λ p. give (rows_of r p))) behind) (finished q))
      (group_keys (before_grouping w r false) (targets r.columns q.items) r.joined q.groups h) (λ keys. give (filter, keys)) _ (λ e. refl) (λ keys k.
      rest_is (record { relations = r; filter = filter; keys = keys }) k)))

  step_is : select_step q w ≡ a_block (inner_reading q w)
  step_is = refl

whole : (q : Select) (w : World) (f : Found) → select_of q w f ≡ a_block (inner_reading (layer_of q) w) f
whole q w f = ap (λ p. p w f) (select_is q) ∙ ap (λ l. select_step l w f) (layer_is q)

module _ (q : Select) (w : World) (b : Bool) (f g : Found) where
  inner_ok : (p : Rows × Shape) → b ≡ groups (layer_of q) → parts_reading (layer_of q) w b f ≡ Ok (p, g) → inner_reading (layer_of q) w f ≡ finished (layer_of q) p g
  inner_ok p k h = inner_is (layer_of q) w f ∙ ap (λ o. follow o (finished (layer_of q))) (ap (λ t. parts_reading (layer_of q) w t f) (sym k) ∙ h)

  inner_err : (e : BindError) → b ≡ groups (layer_of q) → parts_reading (layer_of q) w b f ≡ Err e → inner_reading (layer_of q) w f ≡ Err e
  inner_err e k h = inner_is (layer_of q) w f ∙ ap (λ o. follow o (finished (layer_of q))) (ap (λ t. parts_reading (layer_of q) w t f) (sym k) ∙ h)

-- the whole, between `enter` and `leave`: `f` is what is found before, and `g` at its end
pub select_ok : (q : Select) (w : World) (b : Bool) (f g : Found) (p : Rows × Shape) (block : Block) → nat_lt f.blocks 64 ≡ true → b ≡ groups (layer_of q) → parts_reading (layer_of q) w b (entered f) ≡ Ok (p, g)
    → block ≡ block_of (layer_of q) p.0.relations p.0.filter p.0.keys p.1.having p.1.outputs p.1.order g
    → Binds (select_of q w f) (Ok block) (left g (record { subs = f.subs; aggs = f.aggs }))
select_ok q w b f g p block n k h e =
    whole q w f ∙ block_ok (inner_reading (layer_of q) w) f g block n (inner_ok q w b (entered f) g p k h ∙ ap (λ x. Ok (x, g)) (sym e))

pub select_err : (q : Select) (w : World) (b : Bool) (f g new : Found) (x : BindError) → nat_lt f.blocks 64 ≡ true → b ≡ groups (layer_of q) → Binds (parts_reading (layer_of q) w b (entered f)) (Err x) g
    → Binds (select_of q w f) (Err x) new
select_err q w b f g new x n k h = λ ne. whole q w f ∙ block_err (inner_reading (layer_of q) w) f g new x n (λ me. inner_err q w b (entered f) g x k (h me)) ne

pub select_limit : (q : Select) (w : World) (f new : Found) (x : BindError) → nat_lt f.blocks 64 ≡ false → x ≡ error.Limit limited.Blocks 64 → Binds (select_of q w f) (Err x) new
select_limit q w f new x n e = λ ne. whole q w f ∙ block_limit (inner_reading (layer_of q) w) f new x n e ne

-- ---- the same, as the code has it

module _ (q : Select) (w : World) (f : Found) where
  pub ends_at_limit : (x : BindError) (res : Result Block BindError) (new : Found) → nat_lt f.blocks 64 ≡ false → x ≡ error.Limit limited.Blocks 64 → IsErrAnd res (λ y. y ≡ x) → Binds (select_of q w f) res new
  ends_at_limit x res new n e k = subst (λ z. Binds (select_of q w f) z new) (sym (err_is res x k)) (select_limit q w f new x n e)

  pub ends_inside : (b : Bool) (h g new : Found) (x : BindError) (res : Result Block BindError) → nat_lt f.blocks 64 ≡ true → h ≡ entered f → b ≡ groups (layer_of q) → Binds (parts_reading (layer_of q) w b h) (Err x) g → IsErrAnd res (λ y. y ≡ x)
      → Binds (select_of q w f) res new
  ends_inside b h g new x res n i k r d =
      subst (λ z. Binds (select_of q w f) z new) (sym (err_is res x d)) (select_err q w b f g new x n k (subst (λ u. Binds (parts_reading (layer_of q) w b u) (Err x) g) i r))

  pub ends_well : (b : Bool) (h g new : Found) (p : Rows × Shape) (outer inner : Outer) (block : Block) → nat_lt f.blocks 64 ≡ true → h ≡ entered f → outer ≡ record { subs = f.subs; aggs = f.aggs } → b ≡ groups (layer_of q)
      → parts_reading (layer_of q) w b h ≡ Ok (p, g) → inner ≡ record { subs = g.subs; aggs = g.aggs } → new ≡ left g outer → block ≡ block_with (layer_of q) p.0 p.1 inner → Binds (select_of q w f) (Ok block) new
  ends_well b h g new p outer inner block n i o k r j l d =
      subst (λ z. Binds (select_of q w f) (Ok block) z) (sym (l ∙ ap (left g) o))
      (select_ok q w b f g p block n k (subst (λ u. parts_reading (layer_of q) w b u ≡ Ok (p, g)) i r) (d ∙ ap (block_with (layer_of q) p.0 p.1) j))
