-- The rules over operands that stand give what stands.
use Rattle.std.proofs.Common.{◌≡◌, ◌≢◌, ℕ, zero, suc, ℤ, pos, ◌+◌, ◌-◌, ◌/◌, ◌≤◌, Bool, true, ◌&&◌, not, List, [], ◌∷◌, ◌++◌, map, length, take, drop, refl, sym, ap, ◌∙◌, arith, Option, None, Some, Result}
use Rattle.std.specs.List.{AllByRecursion}
use Rattle.std.specs.Ordering.{int_eq}
use Rattle.std.proofs.lemmas.Bool.Decides.{Decides-int_eq}
use Rattle.cq_value.proofs.Truths.{and_left, and_right}
use Rattle.cq_tree.specs.declared.expression.Op.TheVariants as op
use Rattle.cq_tree.specs.declared.expression.Expr.{Expr, Div, Rem, Case}
use Rattle.cq_tree.specs.declared.expression.Cond.{Cond, Compare, IsNull, And}
use Rattle.cq_grammar.specs.declared.expr.AddOperator.{AddOperator}
use Rattle.cq_grammar.specs.declared.expr.AddOperator.TheVariants as add
use Rattle.cq_grammar.specs.declared.expr.MultiplyOperator.{MultiplyOperator}
use Rattle.cq_grammar.specs.declared.expr.MultiplyOperator.TheVariants as multiply
use Rattle.cq_grammar.specs.declared.expr.Comparison.{Comparison}
use Rattle.cq_meaning.specs.Widths.{IsBoundCondition}
use Rattle.cq_meaning_laws.proofs.WithinLaws.{all_drop, all_take}
use Rattle.cq_reading.specs.declared.bound.Found.{Found}
use Rattle.cq_reading.specs.declared.bound.Bound.{Bound}
use Rattle.cq_reading.specs.declared.error.BindError.{BindError}
use Rattle.cq_reading.specs.declared.bound.Bound.TheVariants.{Value, Truth}
use Rattle.cq_reading.specs.declared.bound.Type.TheVariants as type
use Rattle.cq_reading.specs.declared.error.BindError.TheVariants as error
use Rattle.cq_reading.specs.Steps.{give, provided}
use Rattle.cq_reading.specs.Widths.{ValueType, expr_of, width_of, cond_of, is_number, is_number_type, common_of, fits_width, greatest_width}
use Rattle.cq_reading.specs.Scopes.{Context}
use Rattle.cq_reading.specs.Rules as rule
use Rattle.cq_reading_laws.specs.Bounds.{Stands, bits_in, Onward}
use Rattle.cq_reading_laws.proofs.Onwards.{Later, Kept, Fine, on, lasts, gives, where_fit, onwards}
use Rattle.cq_reading_laws.proofs.Standing.{no_truth, stands_truth, stands_neg, stands_add, stands_sub, stands_mul, stands_div, stands_rem, stands_same, bound_negated, bound_joined, bound_and, stands_listed, stands_coalesce, stands_case, PairStands}
use Rattle.cq_reading_laws.proofs.Types.{some_width}

pub fits : (w : ℕ) → fits_width w ≡ true → w ≤ 127
fits w h = grind (arith, h)

not_zero : (c : ℤ) → not (int_eq c (pos 0)) ≡ true → c ≢ pos 0
not_zero c h e = no_truth (sym (ap not ((Decides-int_eq c (pos 0)).1 e)) ∙ h)

module _ (ks : List ℕ) (cx : Context) (found : Found) where
  abbrev pub IsFine : Bound → Type 0
  IsFine b = Later ks (Fine ks cx) found b

  abbrev pub Gives : Result (Bound × Found) BindError → Type 0
  Gives o = Kept ks (Fine ks cx) found o

  numbers_fine : (e : Expr) (width : ℕ) (fit : Bool) (at : ℕ) → (fit ≡ true → width ≤ 127 → IsFine (Value e type.Number width)) → Gives (rule.numbers e width fit at found)
  numbers_fine e width fit at h =
      where_fit ks (Fine ks cx) found fit (error.Type at) (provided (fits_width width) (error.TooWide at) (give (Value e type.Number width))) (λ t.
      where_fit ks (Fine ks cx) found (fits_width width) (error.TooWide at) (give (Value e type.Number width)) (λ f.
      gives ks (Fine ks cx) found (Value e type.Number width) (h t (fits width f))))

  pub added_fine : (o : AddOperator) (a b : Bound) (at : ℕ) → IsFine a → IsFine b → Gives (rule.added o a b at found)
  added_fine add.Plus a b at h k = numbers_fine _ _ (is_number a && is_number b) at (λ t f later l. stands_add _ _ a b (h later l) (k later l) (and_left _ _ t) (and_right _ _ t) f)
  added_fine add.Minus a b at h k = numbers_fine _ _ (is_number a && is_number b) at (λ t f later l. stands_sub _ _ a b (h later l) (k later l) (and_left _ _ t) (and_right _ _ t) f)

  pub signed_fine : (o : AddOperator) (a : Bound) (at : ℕ) → IsFine a → Gives (rule.signed o a at found)
  signed_fine add.Plus a at h = numbers_fine _ _ (is_number a) at (λ t f later l. stands_same _ _ a (h later l) t)
  signed_fine add.Minus a at h = numbers_fine _ _ (is_number a) at (λ t f later l. stands_neg _ _ a (h later l) t f)

  divided_fine : (make : Expr → ℤ → Expr) (width : ℕ) (a : Bound) (at : ℕ) (c : Option ℤ) → ((c : ℤ) → c ≢ pos 0 → width ≤ 127 → IsFine (Value (make (expr_of a) c) type.Number width)) → Gives (rule.divided_by make width a at c found)
  divided_fine make width a at None h = tt
  divided_fine make width a at (Some c) h =
      let last = give (Value (make (expr_of a) c) type.Number width) in
      where_fit ks (Fine ks cx) found (not (int_eq c (pos 0))) (error.Divisor at) (provided (fits_width width) (error.TooWide at) last) (λ z.
      where_fit ks (Fine ks cx) found (fits_width width) (error.TooWide at) last (λ f.
      gives ks (Fine ks cx) found (Value (make (expr_of a) c) type.Number width) (h c (not_zero c z) (fits width f))))

  pub multiplied_fine : (o : MultiplyOperator) (a b : Bound) (c : Option ℤ) (at : ℕ) → IsFine a → IsFine b → Gives (rule.multiplied o a b c at found)
  multiplied_fine multiply.Times a b c at h k = numbers_fine _ _ (is_number a && is_number b) at (λ t f later l. stands_mul _ _ a b (h later l) (k later l) (and_left _ _ t) (and_right _ _ t) f)
  multiplied_fine multiply.Divide a b c at h k =
      where_fit ks (Fine ks cx) found (is_number a && is_number b) (error.Type at) (rule.divided_by Div (width_of a + 1) a at c) (λ t.
      divided_fine Div (width_of a + 1) a at c (λ c z f later l. stands_div _ _ a c (h later l) (and_left _ _ t) f z))
  multiplied_fine multiply.Remainder a b c at h k =
      where_fit ks (Fine ks cx) found (is_number a && is_number b) (error.Type at) (rule.divided_by Rem (width_of a) a at c) (λ t.
      divided_fine Rem (width_of a) a at c (λ c z f later l. stands_rem _ _ a c (h later l) (and_left _ _ t) f z))

  -- ---- conditions

  condition_fine : (c : Cond) (fit : Bool) (at : ℕ) → ((later : Found) → Onward ks found later → IsBoundCondition (bits_in ks cx later.aggs) later.results c) → Gives (rule.condition c fit at found)
  condition_fine c fit at h = where_fit ks (Fine ks cx) found fit (error.Type at) (give (Truth c)) (λ t. gives ks (Fine ks cx) found (Truth c) (λ later l. stands_truth _ _ c (h later l)))

  pub compared_fine : (o : Comparison) (a b : Bound) (at : ℕ) → IsFine a → IsFine b → Gives (rule.compared o a b at found)
  compared_fine o a b at h k = condition_fine _ _ at (λ later l. ((h later l).expression, (k later l).expression))

  pub negated_fine : (a : Bound) (at : ℕ) → IsFine a → Gives (rule.negated a at found)
  negated_fine a at h = condition_fine (rule.negated_if true (cond_of a)) _ at (λ later l. bound_negated _ _ true (cond_of a) (h later l).condition)

  pub null_tested_fine : (not_null : Bool) (a : Bound) (at : ℕ) → IsFine a → Gives (rule.null_tested not_null a at found)
  null_tested_fine not_null a at h = condition_fine (rule.negated_if not_null (IsNull (expr_of a))) _ at (λ later l. bound_negated _ _ not_null (IsNull (expr_of a)) (h later l).expression)

  pub between_fine : (negate : Bool) (x a b : Bound) (at : ℕ) → IsFine x → IsFine a → IsFine b → Gives (rule.between negate x a b at found)
  between_fine negate x a b at g h k =
      let c = Compare op.Ge (expr_of x) (expr_of a) in let d = Compare op.Le (expr_of x) (expr_of b) in
      condition_fine (rule.negated_if negate (And c d)) _ at (λ later l. bound_negated _ _ negate (And c d) (bound_and _ _ c d ((g later l).expression, (h later l).expression) ((g later l).expression, (k later l).expression)))

  pub listed_fine : (negate : Bool) (x : Bound) (items : List Bound) (at : ℕ) → IsFine x → Later ks (λ later bs. AllByRecursion (Fine ks cx later) bs) found items → Gives (rule.listed negate x items at found)
  listed_fine negate x items at h k = condition_fine (rule.negated_if negate (rule.halved true (map (λ i. Compare op.Eq (expr_of x) (expr_of i)) items))) _ at (λ later l. (stands_listed _ _ op.Eq negate x items (h later l) (k later l)).condition)

  pub joined_fine : (any : Bool) (a b : Bound) (at : ℕ) → IsFine a → IsFine b → Gives (rule.joined any a b at found)
  joined_fine any a b at h k = condition_fine (rule.joined_by any (cond_of a) (cond_of b)) _ at (λ later l. bound_joined _ _ any (cond_of a) (cond_of b) (h later l).condition (k later l).condition)

  -- ---- CASE and COALESCE

  of_type_fine : (t : Option ValueType) (e : Expr) (width at : ℕ) → ((u : ValueType) → t ≡ Some u → IsFine (Value e u width)) → Gives (rule.of_type t e width at found)
  of_type_fine None e width at h = tt
  of_type_fine (Some u) e width at h = gives ks (Fine ks cx) found (Value e u width) (h u refl)

  pub coalesced_fine : (b : Bound) (bs : List Bound) (at : ℕ) → Later ks (λ later bs. AllByRecursion (Fine ks cx later) bs) found (b ∷ bs) → Gives (rule.coalesced (b ∷ bs) at found)
  coalesced_fine b bs at h = of_type_fine (common_of (b ∷ bs)) _ _ at (λ u is later l. stands_coalesce _ _ (b ∷ bs) u (h later l) (λ e. some_width _ _ u b bs (h later l) is e))

  abbrev pub ArmsFine : Found → List rule.Pair → Type 0
  ArmsFine later ps = AllByRecursion (λ p. Fine ks cx later p.0 × Fine ks cx later p.1) ps

  some_result : (k : List ℕ) (n : ℕ) (ps : List rule.Pair) (o : Bound) (t : ValueType) → AllByRecursion (PairStands k n) ps → Stands k n o → common_of (map (λ p. p.1) ps ++ o ∷ []) ≡ Some t → is_number_type t ≡ true → 1 ≤ greatest_width (map (λ p. p.1) ps ++ o ∷ [])
  some_result k n [] o t h g is e = some_width k n t o [] (g, tt) is e
  some_result k n (p ∷ ps) o t h g is e = some_width k n t p.1 (map (λ p. p.1) ps ++ o ∷ []) (h.0.1, all_results ps h.1) is e
    where
      all_results : (ps : List rule.Pair) → AllByRecursion (PairStands k n) ps → AllByRecursion (Stands k n) (map (λ p. p.1) ps ++ o ∷ [])
      all_results [] h = (g, tt)
      all_results (p ∷ ps) h = (h.0.1, all_results ps h.1)

  pub chosen_fine : (arms : List rule.Pair) (other : Bound) (at : ℕ) → Later ks ArmsFine found arms → IsFine other → Gives (rule.chosen arms other at found)
  chosen_fine arms other at h k =
      let results = map (λ p. p.1) arms ++ other ∷ [] in
      where_fit ks (Fine ks cx) found _ (error.Type at) (rule.of_type (common_of results) (Case (map rule.arm_of arms) (expr_of other)) (greatest_width results) at) (λ t.
      of_type_fine (common_of results) _ _ at (λ u is later l. stands_case _ _ arms other u (h later l) (k later l) (λ e. some_result _ _ arms other u (h later l) (k later l) is e)))

-- ---- chains

module _ (ks : List ℕ) (cx : Context) where
  abbrev pub PartsFine : Found → List rule.ChainPart → Type 0
  PartsFine later ps = AllByRecursion (λ p. Fine ks cx later p.0) ps

  pub chain_fine : (most : ℕ) (any : Bool) (parts : List rule.ChainPart) (found : Found) → Later ks PartsFine found parts → Kept ks (Fine ks cx) found (rule.chain_of most any parts found)
  chain_fine most any [] found h = gives ks (Fine ks cx) found _ (λ later l. stands_truth _ _ _ tt)
  chain_fine most any (p ∷ []) found h = gives ks (Fine ks cx) found p.0 (λ later l. (h later l).0)
  chain_fine zero any (p ∷ q ∷ more) found h = gives ks (Fine ks cx) found _ (λ later l. stands_truth _ _ _ tt)
  chain_fine (suc most) any (p ∷ q ∷ more) found h =
      let parts = p ∷ q ∷ more in let m = length parts - length parts / 2 in
      onwards ks (Fine ks cx) (Fine ks cx) found (rule.chain_of most any (take m parts) found) _
      (chain_fine most any (take m parts) found (λ later l. all_take (λ p. Fine ks cx later p.0) m parts (h later l)))
      (λ a mid l g. onwards ks (Fine ks cx) (Fine ks cx) mid (rule.chain_of most any (drop m parts) mid) _
      (chain_fine most any (drop m parts) mid (λ later k. all_drop (λ p. Fine ks cx later p.0) m parts (h later (on ks found mid later l k))))
      (λ b end k f. joined_fine ks cx end any a b (rule.place_after m parts) (lasts ks (Fine ks cx) mid end a k g) f))
