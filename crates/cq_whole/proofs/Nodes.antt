-- The steps and the tables of the nodes of a query, as code sees them.
use Rattle.std.proofs.Common.{◌≡◌, ℕ, ◌+◌, List, ◌∷◌, ◌++◌, length, refl, sym, ap, ◌∙◌, arith}
use denote.Hole.Carrier.{hidden}
use Rattle.cq_tree.specs.declared.expression.Cond.{Cond}
use Rattle.cq_tree.specs.declared.query.FromTree.{FromTree, Sub, Cross, Inner, Left}
use Rattle.cq_tree.specs.declared.query.FromTree.TheBlock.{hidden-the_row-FromTree-1, hidden-the_row-Query-0, hidden-the_row-Query-2}
use Rattle.cq_tree.specs.declared.query.FromTree.TheOpen.{Query-F}
use Rattle.cq_tree.specs.declared.query.Query.{Query, Query', out-Query, roll-Query, roll-out-Query, Row_of-Query, end_of-Query, more_of-Query, items-the_row-Query, items_hidden-the_row-Query-2}
use Rattle.cq_meaning.specs.Results.{ins_in, ins_in_from, ins_in_all, ins_in_ctes, count_of}
use Rattle.cq_meaning_laws.specs.WholeRules.{Step, steps_in, steps_in_from, steps_in_all, steps_in_ctes, steps_of}
use Rattle.cq_whole.specs.StepLists.{ins_in_list, steps_in_list, ins_in_cte_list, steps_in_cte_list}
use Rattle.cq_whole.specs.Tables.{tables_from, tables_in}

-- ---- steps

ins_row : {n : _} (qs : Row_of-Query n) → ins_in_all qs ≡ ins_in_list (items-the_row-Query _ qs)
ins_row end_of-Query = refl
ins_row (more_of-Query q more) = ap (λ (n : ℕ). 1 + ins_in q + n) (ins_row more)

steps_row : {n : _} (qs : Row_of-Query n) (k : ℕ) → steps_in_all k qs ≡ steps_in_list k (items-the_row-Query _ qs)
steps_row end_of-Query k = refl
steps_row (more_of-Query q more) k = ap (λ (rest : List Step). steps_in (k + 1) q ++ (record { number = k; query = q } ∷ rest)) (steps_row more (k + 1 + ins_in q))

cte_ins_row : {n : _} (qs : Row_of-Query n) → ins_in_ctes qs ≡ ins_in_cte_list (items-the_row-Query _ qs)
cte_ins_row end_of-Query = refl
cte_ins_row (more_of-Query q more) = ap (λ (n : ℕ). ins_in q + n) (cte_ins_row more)

cte_steps_row : {n : _} (qs : Row_of-Query n) (i k : ℕ) → steps_in_ctes i k qs ≡ steps_in_cte_list i k (items-the_row-Query _ qs)
cte_steps_row end_of-Query i k = refl
cte_steps_row (more_of-Query q more) i k = ap (λ (rest : List Step). steps_in k q ++ (record { number = i; query = q } ∷ rest)) (cte_steps_row more (i + 1) (k + ins_in q))

count_row : {n : _} (qs : Row_of-Query n) → count_of qs ≡ length (items-the_row-Query _ qs)
count_row end_of-Query = refl
count_row (more_of-Query q more) = counted (count_of more) (items-the_row-Query _ more) (count_row more)
  where
    counted : (n : ℕ) (qs : List Query) → n ≡ length qs → 1 + n ≡ length (q ∷ qs)
    counted n qs e = omega (arith, e)

-- of a list that stands in a query
ins_list : (qs : List Query) → ins_in_all (hidden-the_row-Query-2 qs) ≡ ins_in_list qs
ins_list qs = ins_row (hidden-the_row-Query-2 qs) ∙ ap ins_in_list (items_hidden-the_row-Query-2 qs)

steps_list : (qs : List Query) (k : ℕ) → steps_in_all k (hidden-the_row-Query-2 qs) ≡ steps_in_list k qs
steps_list qs k = steps_row (hidden-the_row-Query-2 qs) k ∙ ap (steps_in_list k) (items_hidden-the_row-Query-2 qs)

cte_ins_list : (qs : List Query) → ins_in_ctes (hidden-the_row-Query-2 qs) ≡ ins_in_cte_list qs
cte_ins_list qs = cte_ins_row (hidden-the_row-Query-2 qs) ∙ ap ins_in_cte_list (items_hidden-the_row-Query-2 qs)

cte_steps_list : (qs : List Query) (i k : ℕ) → steps_in_ctes i k (hidden-the_row-Query-2 qs) ≡ steps_in_cte_list i k qs
cte_steps_list qs i k = cte_steps_row (hidden-the_row-Query-2 qs) i k ∙ ap (steps_in_cte_list i k) (items_hidden-the_row-Query-2 qs)

count_list : (qs : List Query) → count_of (hidden-the_row-Query-2 qs) ≡ length qs
count_list qs = count_row (hidden-the_row-Query-2 qs) ∙ ap length (items_hidden-the_row-Query-2 qs)

ins_rolled : (x : Query-F FromTree Query) → ins_in (roll-Query x) ≡ ins_in_from x.from + ins_in_list x.subs
unfolding roll-Query denote.Hole.Carrier.roll
ins_rolled x = ap (λ (n : ℕ). ins_in_from x.from + n) (ins_list x.subs)

steps_rolled : (x : Query-F FromTree Query) (k : ℕ) → steps_in k (roll-Query x) ≡ steps_in_from k x.from ++ steps_in_list (k + ins_in_from x.from) x.subs
unfolding roll-Query denote.Hole.Carrier.roll
steps_rolled x k = ap (λ (rest : List Step). steps_in_from k x.from ++ rest) (steps_list x.subs (k + ins_in_from x.from))

-- the CTEs of a statement, and then its own IN subqueries
whole_rolled : (x : Query-F FromTree Query) → steps_of (roll-Query x) ≡ steps_in_cte_list 0 (length x.ctes) x.ctes ++ steps_in (length x.ctes + ins_in_cte_list x.ctes) (roll-Query x)
unfolding roll-Query denote.Hole.Carrier.roll
whole_rolled x =
    ap (λ (rest : List Step). rest ++ steps_in (count_of (hidden-the_row-Query-2 x.ctes) + ins_in_ctes (hidden-the_row-Query-2 x.ctes)) (roll-Query x)) (cte_steps_list x.ctes 0 (count_of (hidden-the_row-Query-2 x.ctes)))
    ∙ (ap (λ (n : ℕ). steps_in_cte_list 0 n x.ctes ++ steps_in (n + ins_in_ctes (hidden-the_row-Query-2 x.ctes)) (roll-Query x)) (count_list x.ctes)
    ∙ ap (λ (n : ℕ). steps_in_cte_list 0 (length x.ctes) x.ctes ++ steps_in (length x.ctes + n) (roll-Query x)) (cte_ins_list x.ctes))

-- how many CTEs and IN subqueries a statement has
abbrev pub count_in : Query → ℕ
count_in (Query' cs ctes ss subs from filter_ grouped keys aggs having items shown distinct order limit offset names) =
    count_of ctes + ins_in_ctes ctes + ins_in_from from + ins_in_all subs

count_rolled : (x : Query-F FromTree Query) → count_in (roll-Query x) ≡ length x.ctes + ins_in_cte_list x.ctes + ins_in (roll-Query x)
unfolding roll-Query denote.Hole.Carrier.roll
count_rolled x = sum (count_of (hidden-the_row-Query-2 x.ctes)) (length x.ctes) (ins_in_ctes (hidden-the_row-Query-2 x.ctes)) (ins_in_cte_list x.ctes) (ins_in_from x.from) (ins_in_all (hidden-the_row-Query-2 x.subs)) (count_list x.ctes) (cte_ins_list x.ctes)
  where
    sum : (a b c d e f : ℕ) → a ≡ b → c ≡ d → a + c + e + f ≡ b + d + (e + f)
    sum a b c d e f g h = omega arith

pub count_whole : (q : Query) → count_in q ≡ length (out-Query q).ctes + ins_in_cte_list (out-Query q).ctes + ins_in q
count_whole q =
    ap count_in (sym (roll-out-Query q)) ∙ (count_rolled (out-Query q) ∙ ap (λ (v : Query). length (out-Query q).ctes + ins_in_cte_list (out-Query q).ctes + ins_in v) (roll-out-Query q))

pub ins_query : (q : Query) → ins_in q ≡ ins_in_from (out-Query q).from + ins_in_list (out-Query q).subs
ins_query q = ap ins_in (sym (roll-out-Query q)) ∙ ins_rolled (out-Query q)

pub steps_query : (k : ℕ) (q : Query) → steps_in k q ≡ steps_in_from k (out-Query q).from ++ steps_in_list (k + ins_in_from (out-Query q).from) (out-Query q).subs
steps_query k q = ap (steps_in k) (sym (roll-out-Query q)) ∙ steps_rolled (out-Query q) k

pub steps_whole : (q : Query) → steps_of q ≡ steps_in_cte_list 0 (length (out-Query q).ctes) (out-Query q).ctes ++ steps_in (length (out-Query q).ctes + ins_in_cte_list (out-Query q).ctes) q
steps_whole q =
    ap steps_of (sym (roll-out-Query q))
    ∙ (whole_rolled (out-Query q)
    ∙ ap (λ (v : Query). steps_in_cte_list 0 (length (out-Query q).ctes) (out-Query q).ctes ++ steps_in (length (out-Query q).ctes + ins_in_cte_list (out-Query q).ctes) v) (roll-out-Query q))

pub ins_sub : (q : Query) → ins_in_from (Sub q) ≡ ins_in q
unfolding hidden-the_row-Query-0 hidden
ins_sub q = refl

pub ins_cross : (a b : FromTree) → ins_in_from (Cross a b) ≡ ins_in_from a + ins_in_from b
unfolding hidden-the_row-FromTree-1 hidden
ins_cross a b = refl

pub ins_inner : (a b : FromTree) (on : Cond) → ins_in_from (Inner a b on) ≡ ins_in_from a + ins_in_from b
unfolding hidden-the_row-FromTree-1 hidden
ins_inner a b on = refl

pub ins_left : (a b : FromTree) (on : Cond) → ins_in_from (Left a b on) ≡ ins_in_from a + ins_in_from b
unfolding hidden-the_row-FromTree-1 hidden
ins_left a b on = refl

pub steps_sub : (k : ℕ) (q : Query) → steps_in_from k (Sub q) ≡ steps_in k q
unfolding hidden-the_row-Query-0 hidden
steps_sub k q = refl

pub steps_cross : (k : ℕ) (a b : FromTree) → steps_in_from k (Cross a b) ≡ steps_in_from k a ++ steps_in_from (k + ins_in_from a) b
unfolding hidden-the_row-FromTree-1 hidden
steps_cross k a b = refl

pub steps_inner : (k : ℕ) (a b : FromTree) (on : Cond) → steps_in_from k (Inner a b on) ≡ steps_in_from k a ++ steps_in_from (k + ins_in_from a) b
unfolding hidden-the_row-FromTree-1 hidden
steps_inner k a b on = refl

pub steps_left : (k : ℕ) (a b : FromTree) (on : Cond) → steps_in_from k (Left a b on) ≡ steps_in_from k a ++ steps_in_from (k + ins_in_from a) b
unfolding hidden-the_row-FromTree-1 hidden
steps_left k a b on = refl

-- ---- tables

pub tables_query : (q : Query) → tables_in q ≡ tables_from (out-Query q).from
unfolding out-Query denote.Hole.Carrier.out
tables_query (Query' cs ctes ss subs from filter_ grouped keys aggs having items shown distinct order limit offset names) = refl

pub tables_sub : (q : Query) → tables_from (Sub q) ≡ tables_in q
unfolding hidden-the_row-Query-0 hidden
tables_sub q = refl

pub tables_cross : (a b : FromTree) → tables_from (Cross a b) ≡ tables_from a ++ tables_from b
unfolding hidden-the_row-FromTree-1 hidden
tables_cross a b = refl

pub tables_inner : (a b : FromTree) (on : Cond) → tables_from (Inner a b on) ≡ tables_from a ++ tables_from b
unfolding hidden-the_row-FromTree-1 hidden
tables_inner a b on = refl

pub tables_left : (a b : FromTree) (on : Cond) → tables_from (Left a b on) ≡ tables_from a ++ tables_from b
unfolding hidden-the_row-FromTree-1 hidden
tables_left a b on = refl
