-- A statement whose queries name only the results that they see: the CTEs before them, and those of their own IN subqueries.
use Rattle.std.specs.Prelude.{◌≡◌, ◌+◌, ◌<◌, ◌⊎◌, ⊤, ℕ, List, [], ◌∷◌, length, true}
use Rattle.std.specs.List.{AllByRecursion}
use Rattle.cq_tree.specs.declared.query.FromTree.{FromTree, Table, Sub', Result, Cross', Inner', Left', end_of-FromTree, more_of-FromTree, end_of-Query, more_of-Query}
use Rattle.cq_tree.specs.declared.query.Query.{Query, Query', Row_of-Query}
use Rattle.cq_tree.specs.declared.query.Query as query
use Rattle.cq_meaning.specs.Lists.{Has}
use Rattle.cq_meaning.specs.Results.{ins_in, ins_in_from, ins_in_ctes, count_of}
use Rattle.cq_planning.specs.Routing.{is_none_of_them}
use Rattle.cq_plan_laws.specs.Scoping.{Names, CondNames, AggNames}

-- the numbers of IN subqueries, of which the first has the number k
abbrev pub numbers_from : {n : _} → ℕ → Row_of-Query n → List ℕ
numbers_from k query.end_of-Query = []
numbers_from k (query.more_of-Query q more) = k ∷ numbers_from (k + 1 + ins_in q) more

-- a result that is seen outside, or that of an IN subquery of the query's own
abbrev pub Sees : {n : _} → (ℕ → Type 0) → ℕ → Row_of-Query n → ℕ → Type 0
Sees P k subs i = P i ⊎ Has (numbers_from k subs) i

module _ (P : ℕ → Type 0) where
  abbrev mutual
    -- a query that sees these results from outside, whose IN subqueries have numbers from k on; it has no WITH
    pub IsNested : ℕ → Query → Type 0
    IsNested k (Query' cs ctes ss subs from filter_ grouped keys aggs having items shown distinct order limit offset names) =
        (is_none_of_them ctes ≡ true) × FromIsNested (Sees P (k + ins_in_from from) subs) k from × AreNested (k + ins_in_from from) subs
        × CondNames (Sees P (k + ins_in_from from) subs) filter_ × AllByRecursion (Names (Sees P (k + ins_in_from from) subs)) keys
        × AllByRecursion (AggNames (Sees P (k + ins_in_from from) subs)) aggs × CondNames (Sees P (k + ins_in_from from) subs) having
        × AllByRecursion (Names (Sees P (k + ins_in_from from) subs)) items

    -- its FROM, whose ON conditions see what the query does
    pub FromIsNested : (ℕ → Type 0) → ℕ → FromTree → Type 0
    FromIsNested S k (Table t n) = ⊤
    FromIsNested S k (Sub' p (more_of-Query q end_of-Query)) = IsNested k q
    FromIsNested S k (Result i n) = P i
    FromIsNested S k (Cross' p (more_of-FromTree a end_of-FromTree) q (more_of-FromTree b end_of-FromTree)) = FromIsNested S k a × FromIsNested S (k + ins_in_from a) b
    FromIsNested S k (Inner' p (more_of-FromTree a end_of-FromTree) q (more_of-FromTree b end_of-FromTree) on) = FromIsNested S k a × FromIsNested S (k + ins_in_from a) b × CondNames S on
    FromIsNested S k (Left' p (more_of-FromTree a end_of-FromTree) q (more_of-FromTree b end_of-FromTree) on) = FromIsNested S k a × FromIsNested S (k + ins_in_from a) b × CondNames S on

    -- IN subqueries, each before those in it
    pub AreNested : {n : _} → ℕ → Row_of-Query n → Type 0
    AreNested k query.end_of-Query = ⊤
    AreNested k (query.more_of-Query q more) = IsNested (k + 1) q × AreNested (k + 1 + ins_in q) more

-- CTEs from number i on, each of which sees those before it, and whose IN subqueries have numbers from k on
abbrev pub CtesAreNested : {n : _} → ℕ → ℕ → Row_of-Query n → Type 0
CtesAreNested i k query.end_of-Query = ⊤
CtesAreNested i k (query.more_of-Query q more) = IsNested (λ j. j < i) k q × CtesAreNested (i + 1) (k + ins_in q) more

-- a query behind its WITH, by the number of the first IN subquery that isn't in a CTE
abbrev pub IsNestedBehind : (ℕ → Type 0) → ℕ → Query → Type 0
IsNestedBehind P k (Query' cs ctes ss subs from filter_ grouped keys aggs having items shown distinct order limit offset names) =
    FromIsNested P (Sees P (k + ins_in_from from) subs) k from × AreNested P (k + ins_in_from from) subs
    × CondNames (Sees P (k + ins_in_from from) subs) filter_ × AllByRecursion (Names (Sees P (k + ins_in_from from) subs)) keys
    × AllByRecursion (AggNames (Sees P (k + ins_in_from from) subs)) aggs × CondNames (Sees P (k + ins_in_from from) subs) having
    × AllByRecursion (Names (Sees P (k + ins_in_from from) subs)) items

-- a whole statement
abbrev pub IsNestedStatement : Query → Type 0
IsNestedStatement (Query' cs ctes ss subs from filter_ grouped keys aggs having items shown distinct order limit offset names) =
    CtesAreNested 0 (count_of ctes) ctes
    × IsNestedBehind (λ j. j < count_of ctes) (count_of ctes + ins_in_ctes ctes) (Query' cs ctes ss subs from filter_ grouped keys aggs having items shown distinct order limit offset names)
