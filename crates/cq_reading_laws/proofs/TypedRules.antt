-- The rules over operands that are well typed give what is well typed.
use Rattle.std.proofs.Common.{◌≡◌, ℕ, zero, suc, ℤ, pos, ◌+◌, ◌-◌, ◌/◌, Bool, true, ◌&&◌, not, List, [], ◌∷◌, ◌++◌, map, length, take, drop, refl, Option, None, Some, Result}
use Rattle.std.specs.List.{AllByRecursion, list_all}
use Rattle.std.specs.Ordering.{int_eq}
use Rattle.cq_value.proofs.Truths.{and_left, and_right}
use Rattle.cq_tree.specs.declared.expression.Op.TheVariants as op
use Rattle.cq_tree.specs.declared.expression.Expr.{Expr, Div, Rem, Case}
use Rattle.cq_tree.specs.declared.expression.Cond.{Cond, Compare, IsNull, And}
use Rattle.cq_grammar.specs.declared.expr.AddOperator.{AddOperator}
use Rattle.cq_grammar.specs.declared.expr.AddOperator.TheVariants as add
use Rattle.cq_grammar.specs.declared.expr.MultiplyOperator.{MultiplyOperator}
use Rattle.cq_grammar.specs.declared.expr.MultiplyOperator.TheVariants as multiply
use Rattle.cq_grammar.specs.declared.expr.Comparison.{Comparison}
use Rattle.cq_reading.specs.declared.bound.Found.{Found}
use Rattle.cq_reading.specs.declared.bound.Bound.{Bound}
use Rattle.cq_reading.specs.declared.error.BindError.{BindError}
use Rattle.cq_reading.specs.declared.bound.Bound.TheVariants.{Value, Truth}
use Rattle.cq_reading.specs.declared.bound.Type.TheVariants as type
use Rattle.cq_reading.specs.declared.error.BindError.TheVariants as error
use Rattle.cq_reading.specs.Steps.{give, provided}
use Rattle.cq_reading.specs.Widths.{ValueType, expr_of, width_of, cond_of, is_number, is_truth, is_value, agree, are_alike, common_of, fits_width, greatest_width}
use Rattle.cq_reading.specs.Scopes.{Context}
use Rattle.cq_reading.specs.Rules as rule
use Rattle.cq_meaning_laws.proofs.WithinLaws.{all_drop, all_take}
use Rattle.cq_reading_laws.specs.Typing.{IsTypedCondition}
use Rattle.cq_reading_laws.specs.Reach.{types_in, Onward}
use Rattle.cq_reading_laws.proofs.TypedNodes.{sound_truth, sound_neg, sound_add, sound_sub, sound_mul, sound_div, sound_rem, sound_same, typed_negated, typed_joined, typed_and, typed_compare, typed_common, typed_listed, sound_coalesce, sound_case}
use Rattle.cq_reading_laws.proofs.TypedForms.{agree_fit}
use Rattle.cq_reading_laws.proofs.TypedKeeping.{Setting, Given, Later, Run, Fine, on, lasts, gives, where_fit, onwards}

module _ (z : Setting) (cx : Context) (found : Found) where
  abbrev pub IsFine : Bound → Type 0
  IsFine b = Later (Fine z cx) found b

  abbrev pub Gives : Result (Bound × Found) BindError → Type 0
  Gives o = Run z cx (Later (Fine z cx)) found o

  numbers_fine : (e : Expr) (width : ℕ) (fit : Bool) (at : ℕ) → (fit ≡ true → IsFine (Value e type.Number width)) → Gives (rule.numbers e width fit at found)
  numbers_fine e width fit at h =
      where_fit z cx (Later (Fine z cx)) found fit (error.Type at) (provided (fits_width width) (error.TooWide at) (give (Value e type.Number width))) (λ t.
      where_fit z cx (Later (Fine z cx)) found (fits_width width) (error.TooWide at) (give (Value e type.Number width)) (λ f.
      gives z cx (Later (Fine z cx)) found (Value e type.Number width) (h t)))

  pub added_fine : (o : AddOperator) (a b : Bound) (at : ℕ) → IsFine a → IsFine b → Gives (rule.added o a b at found)
  added_fine add.Plus a b at h k = numbers_fine _ _ (is_number a && is_number b) at (λ t later l. sound_add _ _ _ a b _ (h later l) (k later l) t)
  added_fine add.Minus a b at h k = numbers_fine _ _ (is_number a && is_number b) at (λ t later l. sound_sub _ _ _ a b _ (h later l) (k later l) t)

  pub signed_fine : (o : AddOperator) (a : Bound) (at : ℕ) → IsFine a → Gives (rule.signed o a at found)
  signed_fine add.Plus a at h = numbers_fine _ _ (is_number a) at (λ t later l. sound_same _ _ _ a _ (h later l) t)
  signed_fine add.Minus a at h = numbers_fine _ _ (is_number a) at (λ t later l. sound_neg _ _ _ a _ (h later l) t)

  divided_fine : (make : Expr → ℤ → Expr) (width : ℕ) (a : Bound) (at : ℕ) (c : Option ℤ) → ((c : ℤ) → IsFine (Value (make (expr_of a) c) type.Number width)) → Gives (rule.divided_by make width a at c found)
  divided_fine make width a at None h = λ good. tt
  divided_fine make width a at (Some c) h =
      let last = give (Value (make (expr_of a) c) type.Number width) in
      where_fit z cx (Later (Fine z cx)) found (not (int_eq c (pos 0))) (error.Divisor at) (provided (fits_width width) (error.TooWide at) last) (λ n.
      where_fit z cx (Later (Fine z cx)) found (fits_width width) (error.TooWide at) last (λ f.
      gives z cx (Later (Fine z cx)) found (Value (make (expr_of a) c) type.Number width) (h c)))

  pub multiplied_fine : (o : MultiplyOperator) (a b : Bound) (c : Option ℤ) (at : ℕ) → IsFine a → IsFine b → Gives (rule.multiplied o a b c at found)
  multiplied_fine multiply.Times a b c at h k = numbers_fine _ _ (is_number a && is_number b) at (λ t later l. sound_mul _ _ _ a b _ (h later l) (k later l) t)
  multiplied_fine multiply.Divide a b c at h k =
      where_fit z cx (Later (Fine z cx)) found (is_number a && is_number b) (error.Type at) (rule.divided_by Div (width_of a + 1) a at c) (λ t.
      divided_fine Div (width_of a + 1) a at c (λ c later l. sound_div _ _ _ a c _ (h later l) (and_left _ _ t)))
  multiplied_fine multiply.Remainder a b c at h k =
      where_fit z cx (Later (Fine z cx)) found (is_number a && is_number b) (error.Type at) (rule.divided_by Rem (width_of a) a at c) (λ t.
      divided_fine Rem (width_of a) a at c (λ c later l. sound_rem _ _ _ a c _ (h later l) (and_left _ _ t)))

  -- ---- conditions

  condition_fine : (c : Cond) (fit : Bool) (at : ℕ) → (fit ≡ true → (later : Found) → Onward found later → Given z later → IsTypedCondition (types_in z.columns cx later.aggs) z.types.results c) → Gives
      (rule.condition c fit at found)
  condition_fine c fit at h = where_fit z cx (Later (Fine z cx)) found fit (error.Type at) (give (Truth c)) (λ t. gives z cx (Later (Fine z cx)) found (Truth c) (λ later l. sound_truth _ _ _ c (h t later l)))

  pub compared_fine : (o : Comparison) (a b : Bound) (at : ℕ) → IsFine a → IsFine b → Gives (rule.compared o a b at found)
  compared_fine o a b at h k = condition_fine _ (are_alike a b) at (λ t later l. typed_compare _ _ _ (rule.op_of o) a b (h later l) (k later l) t)

  pub negated_fine : (a : Bound) (at : ℕ) → IsFine a → Gives (rule.negated a at found)
  negated_fine a at h = condition_fine (rule.negated_if true (cond_of a)) (is_truth a) at (λ t later l g. typed_negated (Given z later) _ _ true (cond_of a) ((h later l).condition g))

  pub null_tested_fine : (not_null : Bool) (a : Bound) (at : ℕ) → IsFine a → Gives (rule.null_tested not_null a at found)
  null_tested_fine not_null a at h = condition_fine (rule.negated_if not_null (IsNull (expr_of a))) (is_value a) at (λ t later l g. typed_negated (Given z later) _ _ not_null (IsNull (expr_of a)) ((h later l).expression g))

  pub between_fine : (negate : Bool) (x a b : Bound) (at : ℕ) → IsFine x → IsFine a → IsFine b → Gives (rule.between negate x a b at found)
  between_fine negate x a b at i h k =
      let c = Compare op.Ge (expr_of x) (expr_of a) in let d = Compare op.Le (expr_of x) (expr_of b) in
      condition_fine (rule.negated_if negate (And c d)) (agree (x ∷ a ∷ b ∷ [])) at (λ t later l g.
      let u = agree_fit (x ∷ a ∷ b ∷ []) t in
      typed_negated (Given z later) _ _ negate (And c d) (typed_and (Given z later) _ _ c d
      (typed_common (Given z later) _ _ op.Ge x a u.0 (i later l) (h later l) u.1.0 u.1.1.0 g) (typed_common (Given z later) _ _ op.Le x b u.0 (i later l) (k later l) u.1.0 u.1.1.1.0 g)))

  pub listed_fine : (negate : Bool) (x : Bound) (items : List Bound) (at : ℕ) → IsFine x → Later (λ later bs. AllByRecursion (Fine z cx later) bs) found items → Gives (rule.listed negate x items at found)
  listed_fine negate x items at h k = condition_fine (rule.negated_if negate (rule.halved true (map (λ i. Compare op.Eq (expr_of x) (expr_of i)) items))) (agree (x ∷ items)) at (λ t later l g.
      typed_listed (Given z later) _ _ op.Eq negate x items (h later l) (k later l) t g)

  pub joined_fine : (any : Bool) (a b : Bound) (at : ℕ) → IsFine a → IsFine b → Gives (rule.joined any a b at found)
  joined_fine any a b at h k =
      condition_fine (rule.joined_by any (cond_of a) (cond_of b)) (is_truth a && is_truth b) at (λ t later l g. typed_joined (Given z later) _ _ any (cond_of a) (cond_of b) ((h later l).condition g) ((k later l).condition g))

  -- ---- CASE and COALESCE

  of_type_fine : (t : Option ValueType) (e : Expr) (width at : ℕ) → ((u : ValueType) → t ≡ Some u → IsFine (Value e u width)) → Gives (rule.of_type t e width at found)
  of_type_fine None e width at h = λ good. tt
  of_type_fine (Some u) e width at h = gives z cx (Later (Fine z cx)) found (Value e u width) (h u refl)

  pub coalesced_fine : (bs : List Bound) (at : ℕ) → Later (λ later bs. AllByRecursion (Fine z cx later) bs) found bs → Gives (rule.coalesced bs at found)
  coalesced_fine bs at h = of_type_fine (common_of bs) _ _ at (λ u is later l. sound_coalesce _ _ _ bs u _ (h later l) is)

  abbrev pub ArmsFine : Found → List rule.Pair → Type 0
  ArmsFine later ps = AllByRecursion (λ p. Fine z cx later p.0 × Fine z cx later p.1) ps

  pub chosen_fine : (arms : List rule.Pair) (other : Bound) (at : ℕ) → Later ArmsFine found arms → IsFine other → Gives (rule.chosen arms other at found)
  chosen_fine arms other at h k =
      let results = map (λ p. p.1) arms ++ other ∷ [] in
      where_fit z cx (Later (Fine z cx)) found _ (error.Type at) (rule.of_type (common_of results) (Case (map rule.arm_of arms) (expr_of other)) (greatest_width results) at) (λ t.
      of_type_fine (common_of results) _ _ at (λ u is later l. sound_case _ _ _ arms other u _ (h later l) (k later l) is))

-- ---- chains

module _ (z : Setting) (cx : Context) where
  abbrev pub PartsFine : Found → List rule.ChainPart → Type 0
  PartsFine later ps = AllByRecursion (λ p. Fine z cx later p.0) ps

  pub chain_fine : (most : ℕ) (any : Bool) (parts : List rule.ChainPart) (found : Found) → Later PartsFine found parts → Run z cx (Later (Fine z cx)) found (rule.chain_of most any parts found)
  chain_fine most any [] found h = gives z cx (Later (Fine z cx)) found _ (λ later l. sound_truth _ _ _ _ (λ g. tt))
  chain_fine most any (p ∷ []) found h = gives z cx (Later (Fine z cx)) found p.0 (λ later l. (h later l).0)
  chain_fine zero any (p ∷ q ∷ more) found h = gives z cx (Later (Fine z cx)) found _ (λ later l. sound_truth _ _ _ _ (λ g. tt))
  chain_fine (suc most) any (p ∷ q ∷ more) found h =
      let parts = p ∷ q ∷ more in let m = length parts - length parts / 2 in
      onwards z cx (Later (Fine z cx)) (Later (Fine z cx)) found (rule.chain_of most any (take m parts) found) _
      (chain_fine most any (take m parts) found (λ later l. all_take (λ p. Fine z cx later p.0) m parts (h later l)))
      (λ a mid l g. onwards z cx (Later (Fine z cx)) (Later (Fine z cx)) mid (rule.chain_of most any (drop m parts) mid) _
      (chain_fine most any (drop m parts) mid (λ later k. all_drop (λ p. Fine z cx later p.0) m parts (h later (on found mid later l k))))
      (λ b end k f. joined_fine z cx end any a b (rule.place_after m parts) (lasts (Fine z cx) mid end a k g) f))
