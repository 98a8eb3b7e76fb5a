-- The numbers of a statement's results, as code counts them.
use Rattle.std.proofs.Common.{◌≡◌, ℕ, ◌+◌, List, ◌∷◌, ◌++◌, length, refl, sym, ap, ◌∙◌, arith}
use Rattle.std.proofs.lemmas.List.{length-append}
use Rattle.cq_tree.specs.declared.query.FromTree.{FromTree, Table, Sub', Result, Cross', Inner', Left', end_of-FromTree, more_of-FromTree}
use Rattle.cq_tree.specs.declared.query.FromTree as from
use Rattle.cq_tree.specs.declared.query.FromTree.TheBlock.{hidden-the_row-Query-2}
use Rattle.cq_tree.specs.declared.query.FromTree.TheOpen.{Query-F}
use Rattle.cq_tree.specs.declared.query.Query.{Query, Query', out-Query, roll-Query, roll-out-Query, Row_of-Query, end_of-Query, more_of-Query, items-the_row-Query, items_hidden-the_row-Query-2}
use Rattle.cq_meaning.specs.Results.{ins_in, ins_in_from, ins_in_all, ins_in_ctes, count_of}
use Rattle.cq_meaning_laws.specs.WholeRules.{Step, steps_in, steps_in_from, steps_in_all, steps_in_ctes, steps_of}
use Rattle.cq_catalog.specs.Contents.{Contents}
use Rattle.cq_one_plan.specs.declared.plan.Plan.{Plan}
use Rattle.cq_one_plan.specs.Stays.{leaves_of}
use Rattle.cq_one_plan.specs.Plans.{plan_of, whole_plan, first_free, ctes_of, first_in}
use Rattle.cq_planner.specs.declared.counting.Numbers.{Numbers}
use Rattle.cq_planner.specs.Counting.{counts_of, counts_among, ins_each}

-- ---- lists of queries

count_row : {n : _} (qs : Row_of-Query n) → count_of qs ≡ length (items-the_row-Query _ qs)
count_row end_of-Query = refl
count_row (more_of-Query q more) = counted (count_of more) (items-the_row-Query _ more) (count_row more)
  where
    counted : (n : ℕ) (qs : List Query) → n ≡ length qs → 1 + n ≡ length (q ∷ qs)
    counted n qs e = omega (arith, e)

ctes_row : {n : _} (qs : Row_of-Query n) → ins_in_ctes qs ≡ ins_each (items-the_row-Query _ qs)
ctes_row end_of-Query = refl
ctes_row (more_of-Query q more) = ap (λ (n : ℕ). ins_in q + n) (ctes_row more)

count_hidden : (qs : List Query) → count_of (hidden-the_row-Query-2 qs) ≡ length qs
count_hidden qs = count_row (hidden-the_row-Query-2 qs) ∙ ap length (items_hidden-the_row-Query-2 qs)

ctes_hidden : (qs : List Query) → ins_in_ctes (hidden-the_row-Query-2 qs) ≡ ins_each qs
ctes_hidden qs = ctes_row (hidden-the_row-Query-2 qs) ∙ ap ins_each (items_hidden-the_row-Query-2 qs)

-- ---- a statement

one_after_another : (xs ys : List Step) (m n : ℕ) → length xs ≡ m → length ys ≡ n → length (xs ++ ys) ≡ m + n
one_after_another xs ys m n e f = omega (arith, length-append xs ys, e, f)

with_one : (xs : List Step) (s : Step) (ys : List Step) (m n : ℕ) → length xs ≡ m → length ys ≡ n → length (xs ++ (s ∷ ys)) ≡ 1 + m + n
with_one xs s ys m n e f = omega (arith, length-append xs (s ∷ ys), e, f)

mutual
  steps_within : (q : Query) (k : ℕ) → length (steps_in k q) ≡ ins_in q
  steps_within (Query' cs ctes ss subs f filter_ grouped keys aggs having items shown distinct order limit offset names) k =
      one_after_another (steps_in_from k f) (steps_in_all (k + ins_in_from f) subs) (ins_in_from f) (ins_in_all subs) (steps_below f k) (steps_of_all subs (k + ins_in_from f))

  steps_below : (f : FromTree) (k : ℕ) → length (steps_in_from k f) ≡ ins_in_from f
  steps_below (Table t n) k = refl
  steps_below (Sub' p (from.more_of-Query q from.end_of-Query)) k = steps_within q k
  steps_below (Result i n) k = refl
  steps_below (Cross' p (more_of-FromTree a end_of-FromTree) q (more_of-FromTree b end_of-FromTree)) k =
      one_after_another (steps_in_from k a) (steps_in_from (k + ins_in_from a) b) (ins_in_from a) (ins_in_from b) (steps_below a k) (steps_below b (k + ins_in_from a))
  steps_below (Inner' p (more_of-FromTree a end_of-FromTree) q (more_of-FromTree b end_of-FromTree) on) k =
      one_after_another (steps_in_from k a) (steps_in_from (k + ins_in_from a) b) (ins_in_from a) (ins_in_from b) (steps_below a k) (steps_below b (k + ins_in_from a))
  steps_below (Left' p (more_of-FromTree a end_of-FromTree) q (more_of-FromTree b end_of-FromTree) on) k =
      one_after_another (steps_in_from k a) (steps_in_from (k + ins_in_from a) b) (ins_in_from a) (ins_in_from b) (steps_below a k) (steps_below b (k + ins_in_from a))

  steps_of_all : {n : _} (qs : Row_of-Query n) (k : ℕ) → length (steps_in_all k qs) ≡ ins_in_all qs
  steps_of_all end_of-Query k = refl
  steps_of_all (more_of-Query q more) k =
      with_one (steps_in (k + 1) q) (record { number = k; query = q }) (steps_in_all (k + 1 + ins_in q) more) (ins_in q) (ins_in_all more) (steps_within q (k + 1)) (steps_of_all more (k + 1 + ins_in q))

steps_of_ctes : {n : _} (qs : Row_of-Query n) (i k : ℕ) → length (steps_in_ctes i k qs) ≡ count_of qs + ins_in_ctes qs
steps_of_ctes end_of-Query i k = refl
steps_of_ctes (more_of-Query q more) i k =
    let e : length (steps_in k q ++ (record { number = i; query = q } ∷ steps_in_ctes (i + 1) (k + ins_in q) more)) ≡ 1 + ins_in q + (count_of more + ins_in_ctes more) =
    with_one (steps_in k q) (record { number = i; query = q }) (steps_in_ctes (i + 1) (k + ins_in q) more) (ins_in q) (count_of more + ins_in_ctes more) (steps_within q k) (steps_of_ctes more (i + 1) (k + ins_in q)) in
    omega (arith, e)

free_is : (q : Query) → first_free q ≡ first_in q + ins_in q
free_is (Query' cs ctes ss subs f filter_ grouped keys aggs having items shown distinct order limit offset names) =
    let n : ℕ = count_of ctes in
    let m : ℕ = n + ins_in_ctes ctes in
    one_after_another (steps_in_ctes 0 n ctes) (steps_in_from m f ++ steps_in_all (m + ins_in_from f) subs) m (ins_in_from f + ins_in_all subs) (steps_of_ctes ctes 0 n)
    (one_after_another (steps_in_from m f) (steps_in_all (m + ins_in_from f) subs) (ins_in_from f) (ins_in_all subs) (steps_below f m) (steps_of_all subs (m + ins_in_from f)))

ctes_rolled : (x : Query-F FromTree Query) → ctes_of (roll-Query x) ≡ length x.ctes
unfolding roll-Query denote.Hole.Carrier.roll
ctes_rolled x = count_hidden x.ctes

first_rolled : (x : Query-F FromTree Query) → first_in (roll-Query x) ≡ length x.ctes + ins_each x.ctes
unfolding roll-Query denote.Hole.Carrier.roll
first_rolled x = λ i. count_hidden x.ctes i + ctes_hidden x.ctes i

ctes_is : (q : Query) → ctes_of q ≡ length (out-Query q).ctes
ctes_is q = ap ctes_of (sym (roll-out-Query q)) ∙ ctes_rolled (out-Query q)

first_is : (q : Query) → first_in q ≡ length (out-Query q).ctes + ins_each (out-Query q).ctes
first_is q = ap first_in (sym (roll-out-Query q)) ∙ first_rolled (out-Query q)

-- the plan of a statement, by the numbers that code finds
pub whole_found : (c : Contents) (q : Query) (ctes all : Numbers) (count first free number : ℕ) (p : Plan) →
    ctes ≡ counts_among (out-Query q).ctes → all ≡ counts_of q → count ≡ length (out-Query q).ctes → first ≡ count + ctes.ins → free ≡ first + all.ins → number ≡ free + all.relations →
    p ≡ plan_of c number count first free q → p ≡ whole_plan c q
whole_found c q ctes all count first free number p ec ea en ef er eb is =
    let n : count ≡ ctes_of q = en ∙ sym (ctes_is q) in
    let f : first ≡ first_in q = ef ∙ ((λ i. en i + (ec i).ins) ∙ sym (first_is q)) in
    let r : free ≡ first_free q = er ∙ ((λ i. f i + (ea i).ins) ∙ sym (free_is q)) in
    let b : number ≡ first_free q + leaves_of q = eb ∙ (λ i. r i + (ea i).relations) in
    is ∙ (λ i. plan_of c (b i) (n i) (f i) (r i) q)
