-- The widths at the nodes of a tree as code sees them.
use Rattle.std.proofs.Common.{◌≡◌, ◌≢◌, ℕ, ℤ, pos, ◌+◌, ◌≤◌, max, List, refl, sym, ap, ◌∙◌, subst}
use Rattle.std.specs.Prelude.{All}
use Rattle.std.specs.List.{AllByRecursion}
use Rattle.std.proofs.lemmas.List.Elements.{recursion_from_All}
use denote.Hole.Carrier.{hidden}
use Rattle.cq_tree.specs.declared.expression.Arm.{Arm}
use Rattle.cq_tree.specs.declared.expression.Expr.{Expr, Neg, Add, Sub, Mul, Div, Rem, Case, Coalesce, Row_of-Expr, end_of-Expr, more_of-Expr, Row_of-Arm, end_of-Arm, more_of-Arm, items-the_row-Arm, items-the_row-Expr, items_hidden-the_row-Arm-2, items_hidden-the_row-Expr-3}
use Rattle.cq_tree.specs.declared.expression.Cond.{Cond, And, Or, Not}
use Rattle.cq_tree.specs.declared.expression.Cond.TheBlock.{hidden-the_row-Arm-2, hidden-the_row-Cond-0, hidden-the_row-Expr-1, hidden-the_row-Expr-3}
use Rattle.cq_tree.proofs.Opened.{case_is, coalesce_is}
use Rattle.cq_meaning.specs.Widths.{bits, bits_of_arms, bits_of_all, IsBound, AreBound, AreBoundArms, IsBoundCondition}
use Rattle.cq_bind.specs.TreeLists.{bits_of_arms_in, bits_of_all_in, IsBoundArm}

module _ (ks : List ℕ) (n : ℕ) where
  -- the bits of an expression that may be computed
  abbrev pub Made : Expr → ℕ → Type 0
  Made e k = (k ≡ bits ks e) × IsBound ks n e

  pub made_neg : (a : Expr) (k r : ℕ) → Made a k → (r ≡ k + 1) × (k + 1 ≤ 126) → Made (Neg a) r
  unfolding hidden-the_row-Expr-1 hidden
  made_neg a k r h p = (p.0 ∙ ap (λ j. j + 1) h.0, (h.1, subst (λ j. j + 1 ≤ 126) h.0 p.1))

  pub made_add : (a b : Expr) (j k r : ℕ) → Made a j → Made b k → (r ≡ max j k + 1) × (max j k + 1 ≤ 126) → Made (Add a b) r
  unfolding hidden-the_row-Expr-1 hidden
  made_add a b j k r h g p = (p.0 ∙ (λ i. max (h.0 i) (g.0 i) + 1), (h.1, g.1, subst (λ m. m ≤ 126) (λ i. max (h.0 i) (g.0 i) + 1) p.1))

  pub made_sub : (a b : Expr) (j k r : ℕ) → Made a j → Made b k → (r ≡ max j k + 1) × (max j k + 1 ≤ 126) → Made (Sub a b) r
  unfolding hidden-the_row-Expr-1 hidden
  made_sub a b j k r h g p = (p.0 ∙ (λ i. max (h.0 i) (g.0 i) + 1), (h.1, g.1, subst (λ m. m ≤ 126) (λ i. max (h.0 i) (g.0 i) + 1) p.1))

  pub made_mul : (a b : Expr) (j k r : ℕ) → Made a j → Made b k → (r ≡ j + k) × (j + k ≤ 126) → Made (Mul a b) r
  unfolding hidden-the_row-Expr-1 hidden
  made_mul a b j k r h g p = (p.0 ∙ (λ i. h.0 i + g.0 i), (h.1, g.1, subst (λ m. m ≤ 126) (λ i. h.0 i + g.0 i) p.1))

  pub made_div : (a : Expr) (c : ℤ) (k r : ℕ) → c ≢ pos 0 → Made a k → (r ≡ k + 1) × (k + 1 ≤ 126) → Made (Div a c) r
  unfolding hidden-the_row-Expr-1 hidden
  made_div a c k r some h p = (p.0 ∙ ap (λ j. j + 1) h.0, (h.1, subst (λ j. j + 1 ≤ 126) h.0 p.1, some))

  pub made_rem : (a : Expr) (c : ℤ) (k r : ℕ) → c ≢ pos 0 → Made a k → (r ≡ k) × (k ≤ 126) → Made (Rem a c) r
  unfolding hidden-the_row-Expr-1 hidden
  made_rem a c k r some h p = (p.0 ∙ h.0, (h.1, subst (λ j. j ≤ 126) h.0 p.1, some))

  arms_are : {m : _} (k : Row_of-Arm m) → bits_of_arms ks k ≡ bits_of_arms_in ks (items-the_row-Arm _ k)
  arms_are end_of-Arm = refl
  arms_are (more_of-Arm c e more) = ap (λ j. max (bits ks e) j) (arms_are more)

  operands_are : {m : _} (k : Row_of-Expr m) → bits_of_all ks k ≡ bits_of_all_in ks (items-the_row-Expr _ k)
  operands_are end_of-Expr = refl
  operands_are (more_of-Expr e more) = ap (λ j. max (bits ks e) j) (operands_are more)

  bound_arms : {m : _} (k : Row_of-Arm m) → AllByRecursion (IsBoundArm ks n) (items-the_row-Arm _ k) → AreBoundArms ks n k
  bound_arms end_of-Arm h = tt
  bound_arms (more_of-Arm c e more) h = (h.0.0, h.0.1, bound_arms more h.1)

  bound_operands : {m : _} (k : Row_of-Expr m) → AllByRecursion (IsBound ks n) (items-the_row-Expr _ k) → AreBound ks n k
  bound_operands end_of-Expr h = tt
  bound_operands (more_of-Expr e more) h = (h.0, bound_operands more h.1)

  pub made_case : (arms : List Arm) (o : Expr) (j k : ℕ) → (j ≡ bits_of_arms_in ks arms) × All (IsBoundArm ks n) arms → Made o k → Made (Case arms o) (max j k)
  made_case arms o j k h g =
      let e : bits_of_arms ks (hidden-the_row-Arm-2 arms) ≡ bits_of_arms_in ks arms = arms_are (hidden-the_row-Arm-2 arms) ∙ ap (λ xs. bits_of_arms_in ks xs) (items_hidden-the_row-Arm-2 arms) in
      let p : j ≡ bits_of_arms ks (hidden-the_row-Arm-2 arms) = h.0 ∙ sym e in
      rw (case_is arms o) ((λ i. max (p i) (g.0 i)), (bound_arms (hidden-the_row-Arm-2 arms) (subst (λ xs. AllByRecursion (IsBoundArm ks n) xs) (sym (items_hidden-the_row-Arm-2 arms)) (recursion_from_All (IsBoundArm ks n) arms h.1)), g.1))

  pub made_coalesce : (es : List Expr) (k : ℕ) → (k ≡ bits_of_all_in ks es) × All (IsBound ks n) es → Made (Coalesce es) k
  made_coalesce es k h =
      let e : bits_of_all ks (hidden-the_row-Expr-3 es) ≡ bits_of_all_in ks es = operands_are (hidden-the_row-Expr-3 es) ∙ ap (λ xs. bits_of_all_in ks xs) (items_hidden-the_row-Expr-3 es) in
      (h.0 ∙ sym e, bound_operands (hidden-the_row-Expr-3 es) (subst (λ xs. AllByRecursion (IsBound ks n) xs) (sym (items_hidden-the_row-Expr-3 es)) (recursion_from_All (IsBound ks n) es h.1)))

  pub bound_and : (a b : Cond) → IsBoundCondition ks n a → IsBoundCondition ks n b → IsBoundCondition ks n (And a b)
  unfolding hidden-the_row-Cond-0 hidden
  bound_and a b h g = (h, g)

  pub bound_or : (a b : Cond) → IsBoundCondition ks n a → IsBoundCondition ks n b → IsBoundCondition ks n (Or a b)
  unfolding hidden-the_row-Cond-0 hidden
  bound_or a b h g = (h, g)

  pub bound_not : (a : Cond) → IsBoundCondition ks n a → IsBoundCondition ks n (Not a)
  unfolding hidden-the_row-Cond-0 hidden
  bound_not a h = h
