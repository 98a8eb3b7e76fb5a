-- The items behind the keys of ORDER BY are well typed.
use Rattle.std.proofs.Common.{◌≡◌, ℕ, ◌+◌, ◌-◌, Bool, ◌&&◌, not, List, [], ◌∷◌, ◌++◌, map, length, ap, ◌∙◌, Option, None, Some}
use Rattle.std.specs.Prelude.{slice_get, position, nat_lt}
use Rattle.std.specs.List.{AllByRecursion}
use Rattle.cq_value.proofs.Lists.{all_more}
use Rattle.cq_tree.specs.declared.expression.Expr.{Expr}
use Rattle.cq_reading.specs.declared.bound.Found.{Found}
use Rattle.cq_reading.specs.declared.bound.Shown.{Shown}
use Rattle.cq_reading.specs.declared.bound.Ordered.{Ordered}
use Rattle.cq_reading.specs.declared.error.BindError.TheVariants as error
use Rattle.cq_reading.specs.declared.error.Limited.TheVariants as limited
use Rattle.cq_reading.specs.Steps.{give}
use Rattle.cq_reading.specs.Widths.{expr_of}
use Rattle.cq_tree.specs.Equal.{equal_exprs}
use Rattle.cq_reading.specs.Scopes.{Context}
use Rattle.cq_reading.specs.Titles as title
use Rattle.cq_reading.specs.Titles.{Form}
use Rattle.cq_reading.specs.Parts.{OrderPart}
use Rattle.cq_reading.specs.Expressions.{reads}
use Rattle.cq_reading.specs.Selects as s
use Rattle.cq_reading_laws.specs.Bounds.{MayStand}
use Rattle.cq_reading_laws.proofs.Onwards.{append_all}
use Rattle.cq_reading_laws.specs.Reach.{Onward}
use Rattle.cq_reading_laws.proofs.TypedKeeping.{Setting, Later, Run, Fine, lasts, gives, where_fit, onwards, through_all}
use Rattle.cq_reading_laws.proofs.TypedParts.{Reached, PartTyped}
use Rattle.cq_reading_laws.proofs.TypedLists.{ExprFine, value_fine}

module _ (z : Setting) (cx : Context) (have : Reached z cx) (outputs : List Shown) where
  -- the outputs come first, and all items are typed
  abbrev pub OrderFine : Found → Ordered → Type 0
  OrderFine later o = ((more : List Expr) × (o.items ≡ map s.item_of outputs ++ more)) × AllByRecursion (ExprFine z cx have later) o.items

  abbrev O : Found → Ordered → Type 0
  O found o = Later OrderFine found o

  hidden_fine : (o : Ordered) (x : Expr) (descending : Bool) (found : Found) → O found o → Later (ExprFine z cx have) found x → O found (s.with_hidden o x descending)
  hidden_fine o x descending found h k later l =
      let p = h later l in
      ((p.0.0 ++ x ∷ [], ap (λ xs. xs ++ x ∷ []) p.0.1 ∙ append_all (map s.item_of outputs) p.0.0 (x ∷ [])), all_more (ExprFine z cx have later) o.items x p.1 (k later l))

  key_at_fine : (shown : ℕ) (distinct descending : Bool) (at : ℕ) (o : Ordered) (x : Expr) (i : Option ℕ) (found : Found) → O found o → Later (ExprFine z cx have) found x → Run z cx O found
      (s.key_at shown distinct descending at o x i found)
  key_at_fine shown distinct descending at o x None found h k =
      where_fit z cx O found (not distinct) (error.NotGrouped at) (give (s.with_hidden o x descending)) (λ t. gives z cx O found (s.with_hidden o x descending) (hidden_fine o x descending found h k))
  key_at_fine shown distinct descending at o x (Some i) found h k = gives z cx O found (s.with_key o i descending) (λ later l. h later l)

  by_output_fine : (descending : Bool) (at : ℕ) (name : List ℕ) (o : Ordered) (i : ℕ) (x : Option Shown) (found : Found) → O found o → Run z cx O found (s.key_by_output descending at name outputs o i x found)
  by_output_fine descending at name o i None found h = λ good. tt
  by_output_fine descending at name o i (Some x) found h =
      where_fit z cx O found (s.alike_named name outputs (s.item_of x)) (error.Ambiguous at) (give (s.with_key o i descending)) (λ t. gives z cx O found (s.with_key o i descending) (λ later l. h later l))

  by_expression_fine : (distinct : Bool) (p : OrderPart) (o : Ordered) (found : Found) → PartTyped p.key → MayStand cx p.key.aggregates → O found o → Run z cx O found (s.order_by_expression cx outputs distinct p o found)
  by_expression_fine distinct p o found h may g =
      onwards z cx (Later (Fine z cx)) O found (s.value_of p.key.at (reads p.key cx) found) (s.key_by_value (length outputs) distinct p.descending p.key.at o)
      (value_fine z cx have p.key.at (reads p.key cx) found (h z cx have may found)) (λ b mid l k.
      key_at_fine (length outputs) distinct p.descending p.key.at o (expr_of b) (position (equal_exprs (expr_of b)) o.items) mid (lasts OrderFine found mid o l g) (λ later m. (k later m).expression))

  by_name_fine : (distinct : Bool) (p : OrderPart) (o : Ordered) (name : List ℕ) (i : Option ℕ) (found : Found) → PartTyped p.key → MayStand cx p.key.aggregates → O found o → Run z cx O found
      (s.order_by_name cx outputs distinct p o name i found)
  by_name_fine distinct p o name None found h may g = by_expression_fine distinct p o found h may g
  by_name_fine distinct p o name (Some i) found h may g = by_output_fine p.descending p.key.at name o i (slice_get outputs i) found g

  by_form_fine : (distinct : Bool) (p : OrderPart) (o : Ordered) (form : Form) (found : Found) → PartTyped p.key → MayStand cx p.key.aggregates → O found o → Run z cx O found (s.order_by_form cx outputs distinct p o form found)
  by_form_fine distinct p o (title.Number n) found h may g =
      where_fit z cx O found (nat_lt 0 n && nat_lt n (length outputs + 1)) (error.Unknown p.key.at) (give (s.with_key o (n - 1) p.descending))
      (λ t. gives z cx O found (s.with_key o (n - 1) p.descending) (λ later l. g later l))
  by_form_fine distinct p o (title.Name name) found h may g = by_name_fine distinct p o name (position (s.has_title name) outputs) found h may g
  by_form_fine distinct p o (title.Signed sign n) found h may g = by_expression_fine distinct p o found h may g
  by_form_fine distinct p o title.Other found h may g = by_expression_fine distinct p o found h may g

  order_steps : (distinct : Bool) (ps : List OrderPart) (found : Found) → AllByRecursion (λ p. PartTyped p.key × MayStand cx p.key.aggregates) ps
      → AllByRecursion (λ p. (o : Ordered) (f : Found) → Onward found f → O f o → Run z cx O f (s.with_order_key cx outputs distinct o p f)) ps
  order_steps distinct [] found h = tt
  order_steps distinct (p ∷ more) found h = (
    (λ o f l g. where_fit z cx O f (nat_lt (length o.keys) 16) (error.Limit limited.Keys 16) (s.order_by_form cx outputs distinct p o p.key.form) (λ t. by_form_fine distinct p o p.key.form f h.0.0 h.0.1 g)),
    order_steps distinct more found h.1,
  )

  pub order_fine : (distinct : Bool) (ps : List OrderPart) (o : Ordered) (found : Found) → AllByRecursion (λ p. PartTyped p.key × MayStand cx p.key.aggregates) ps → O found o → Run z cx O found
      (s.order_keys cx outputs distinct ps o found)
  order_fine distinct ps o found h g = through_all z cx O (s.with_order_key cx outputs distinct) ps o found (order_steps distinct ps found h) g
