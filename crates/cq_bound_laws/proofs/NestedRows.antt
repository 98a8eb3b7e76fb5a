-- Nested queries and FROMs at the nodes as the walk makes them, where a query's parts are lists.
use Rattle.std.proofs.Common.{◌≡◌, ℕ, ◌+◌, ◌<◌, inl, inr, true, List, [], ◌∷◌, ◌++◌, length, refl, sym, ap, ◌∙◌, subst, arith}
use Rattle.std.specs.Prelude.{⊤, ◌⊎◌}
use Rattle.std.specs.List.{AllByRecursion}
use denote.Hole.Carrier.{hidden}
use Rattle.cq_tree.specs.declared.expression.Cond.{Cond}
use Rattle.cq_tree.specs.declared.query.FromTree.{FromTree, Sub, Cross, Inner, Left}
use Rattle.cq_tree.specs.declared.query.FromTree.TheBlock.{hidden-the_row-FromTree-1, hidden-the_row-Query-0, hidden-the_row-Query-2}
use Rattle.cq_tree.specs.declared.query.FromTree.TheOpen.{Query-F}
use Rattle.cq_tree.specs.declared.query.Query.{Query, Row_of-Query, end_of-Query, more_of-Query, items-the_row-Query, items_hidden-the_row-Query-2, roll-Query}
use Rattle.cq_meaning.specs.Lists.{Has}
use Rattle.cq_meaning.specs.Results.{ins_in, ins_in_from, ins_in_ctes, count_of}
use Rattle.cq_planning.specs.Routing.{is_none_of_them}
use Rattle.cq_reading_laws.proofs.StepRows.{ins_ctes, count_hidden, ins_ctes_hidden}
use Rattle.cq_plan_laws.specs.Scoping.{Names, CondNames, AggNames}
use Rattle.cq_plan_laws.specs.Nested.{numbers_from, IsNested, FromIsNested, AreNested, CtesAreNested, IsNestedBehind, IsNestedStatement}
use Rattle.cq_bound_laws.proofs.NamedReadings.{Covers, AllNested}

-- the numbers of IN subqueries, of which the first has the number k
abbrev pub numbers_all : ℕ → List Query → List ℕ
numbers_all k [] = []
numbers_all k (q ∷ more) = k ∷ numbers_all (k + 1 + ins_in q) more

-- what holds of their numbers
pub covers_all : (P : ℕ → Type 0) (k : ℕ) (qs : List Query) → ((i : ℕ) → Has (numbers_all k qs) i → P i) → Covers P k qs
covers_all P k [] h = tt
covers_all P k (q ∷ more) h = (h k (inl refl), covers_all P (k + 1 + ins_in q) more (λ i has. h i (inr has)))

numbers_row : {n : _} (qs : Row_of-Query n) (k : ℕ) → numbers_from k qs ≡ numbers_all k (items-the_row-Query _ qs)
numbers_row end_of-Query k = refl
numbers_row (more_of-Query q more) k = ap (λ ns. k ∷ ns) (numbers_row more (k + 1 + ins_in q))

numbers_hidden : (qs : List Query) (k : ℕ) → numbers_from k (hidden-the_row-Query-2 qs) ≡ numbers_all k qs
numbers_hidden qs k = numbers_row (hidden-the_row-Query-2 qs) k ∙ ap (λ qs. numbers_all k qs) (items_hidden-the_row-Query-2 qs)

nested_row : (O : ℕ → Type 0) {n : _} (qs : Row_of-Query n) (k : ℕ) → AllNested O k (items-the_row-Query _ qs) → AreNested O k qs
nested_row O end_of-Query k h = tt
nested_row O (more_of-Query q more) k h = (h.0, nested_row O more (k + 1 + ins_in q) h.1)

nested_hidden : (O : ℕ → Type 0) (qs : List Query) (k : ℕ) → AllNested O k qs → AreNested O k (hidden-the_row-Query-2 qs)
nested_hidden O qs k h = nested_row O (hidden-the_row-Query-2 qs) k (subst (λ qs. AllNested O k qs) (sym (items_hidden-the_row-Query-2 qs)) h)

none_hidden : (qs : List Query) → qs ≡ [] → is_none_of_them (hidden-the_row-Query-2 qs) ≡ true
none_hidden qs is = none (hidden-the_row-Query-2 qs) (items_hidden-the_row-Query-2 qs ∙ is)
  where
    none : {n : _} (row : Row_of-Query n) → items-the_row-Query _ row ≡ [] → is_none_of_them row ≡ true
    none end_of-Query is = refl
    none (more_of-Query q more) is = absurd (cc is)

-- ---- a query

module _ (O : ℕ → Type 0) (k : ℕ) (x : Query-F FromTree Query) where
  -- the parts of a query, over results that are seen outside and those of these numbers
  abbrev pub PartsName : List ℕ → Type 0
  PartsName ns =
      let S : ℕ → Type 0 = λ i. O i ⊎ Has ns i in
      FromIsNested O S k x.from × CondNames S x.filter × AllByRecursion (Names S) x.keys × AllByRecursion (AggNames S) x.aggs × CondNames S x.having × AllByRecursion (Names S) x.items

  behind_row : AreNested O (k + ins_in_from x.from) (hidden-the_row-Query-2 x.subs) → PartsName (numbers_from (k + ins_in_from x.from) (hidden-the_row-Query-2 x.subs)) → IsNestedBehind O k (roll-Query x)
  unfolding roll-Query denote.Hole.Carrier.roll
  behind_row h n = (n.0, h, n.1, n.2, n.3, n.4, n.5)

  alone_row : is_none_of_them (hidden-the_row-Query-2 x.ctes) ≡ true → IsNestedBehind O k (roll-Query x) → IsNested O k (roll-Query x)
  unfolding roll-Query denote.Hole.Carrier.roll
  alone_row none h = (none, h.0, h.1, h.2, h.3, h.4, h.5, h.6)

  -- a query with no WITH
  pub nested_query : x.ctes ≡ [] → AllNested O (k + ins_in_from x.from) x.subs → PartsName (numbers_all (k + ins_in_from x.from) x.subs) → IsNested O k (roll-Query x)
  nested_query none h n =
      alone_row (none_hidden x.ctes none) (behind_row (nested_hidden O x.subs (k + ins_in_from x.from) h) (subst PartsName (sym (numbers_hidden x.subs (k + ins_in_from x.from))) n))

  -- the same behind a WITH
  pub nested_behind : (ctes : List Query) → IsNested O k (roll-Query x) → IsNestedBehind O k (roll-Query (record x { ctes = ctes }))
  unfolding roll-Query denote.Hole.Carrier.roll
  nested_behind ctes h = (h.1, h.2, h.3, h.4, h.5, h.6, h.7)

-- ---- a FROM

module _ (O S : ℕ → Type 0) (k : ℕ) where
  pub nested_cross : (a b : FromTree) → FromIsNested O S k a → FromIsNested O S (k + ins_in_from a) b → FromIsNested O S k (Cross a b)
  unfolding hidden-the_row-FromTree-1 hidden
  nested_cross a b h g = (h, g)

  pub nested_inner : (a b : FromTree) (c : Cond) → FromIsNested O S k a → FromIsNested O S (k + ins_in_from a) b → CondNames S c → FromIsNested O S k (Inner a b c)
  unfolding hidden-the_row-FromTree-1 hidden
  nested_inner a b c h g n = (h, g, n)

  pub nested_left : (a b : FromTree) (c : Cond) → FromIsNested O S k a → FromIsNested O S (k + ins_in_from a) b → CondNames S c → FromIsNested O S k (Left a b c)
  unfolding hidden-the_row-FromTree-1 hidden
  nested_left a b c h g n = (h, g, n)

  pub nested_sub : (q : Query) → IsNested O k q → FromIsNested O S k (Sub q)
  unfolding hidden-the_row-Query-0 hidden
  nested_sub q h = h

-- ---- a statement

-- CTEs from number i on, whose IN subqueries have numbers from k on
abbrev pub AllCtesNested : ℕ → ℕ → List Query → Type 0
AllCtesNested i k [] = ⊤
AllCtesNested i k (q ∷ more) = IsNested (λ j. j < i) k q × AllCtesNested (i + 1) (k + ins_in q) more

ctes_row : {n : _} (qs : Row_of-Query n) (i k : ℕ) → AllCtesNested i k (items-the_row-Query _ qs) → CtesAreNested i k qs
ctes_row end_of-Query i k h = tt
ctes_row (more_of-Query q more) i k h = (h.0, ctes_row more (i + 1) (k + ins_in q) h.1)

pub ctes_last : (i k : ℕ) (qs : List Query) (q : Query) → AllCtesNested i k qs → IsNested (λ j. j < i + length qs) (k + ins_ctes qs) q → AllCtesNested i k (qs ++ q ∷ [])
ctes_last i k [] q h n =
    let d : i + 0 ≡ i = omega arith in
    let e : k + 0 ≡ k = omega arith in
    (subst (λ m. IsNested (λ j. j < m) k q) d (subst (λ l. IsNested (λ j. j < i + 0) l q) e n), tt)
ctes_last i k (p ∷ ps) q h n =
    let d : i + length (p ∷ ps) ≡ i + 1 + length ps = omega arith in
    let e : k + (ins_in p + ins_ctes ps) ≡ k + ins_in p + ins_ctes ps = omega arith in
    (h.0, ctes_last (i + 1) (k + ins_in p) ps q h.1 (subst (λ m. IsNested (λ j. j < m) (k + ins_in p + ins_ctes ps) q) d (subst (λ l. IsNested (λ j. j < i + length (p ∷ ps)) l q) e n)))

statement_row : (x : Query-F FromTree Query) → CtesAreNested 0 (count_of (hidden-the_row-Query-2 x.ctes)) (hidden-the_row-Query-2 x.ctes)
    → IsNestedBehind (λ j. j < count_of (hidden-the_row-Query-2 x.ctes)) (count_of (hidden-the_row-Query-2 x.ctes) + ins_in_ctes (hidden-the_row-Query-2 x.ctes)) (roll-Query x) → IsNestedStatement (roll-Query x)
unfolding roll-Query denote.Hole.Carrier.roll
statement_row x h g = (h, g)

pub nested_statement : (x : Query-F FromTree Query) → AllCtesNested 0 (length x.ctes) x.ctes → IsNestedBehind (λ j. j < length x.ctes) (length x.ctes + ins_ctes x.ctes) (roll-Query x) → IsNestedStatement (roll-Query x)
nested_statement x h g =
    let row = hidden-the_row-Query-2 x.ctes in
    let count = count_hidden x.ctes in
    statement_row x (ctes_row row 0 (count_of row) (subst (AllCtesNested 0 (count_of row)) (sym (items_hidden-the_row-Query-2 x.ctes)) (subst (λ n. AllCtesNested 0 n x.ctes) (sym count) h)))
    (subst (λ n. IsNestedBehind (λ j. j < n) (n + ins_in_ctes row) (roll-Query x)) (sym count) (subst (λ m. IsNestedBehind (λ j. j < length x.ctes) (length x.ctes + m) (roll-Query x)) (sym (ins_ctes_hidden x.ctes)) g))
