-- What names results of some names results of more.
use Rattle.std.proofs.Common.{ℕ, List, ◌⊎◌, inl, inr}
use Rattle.std.specs.List.{AllByRecursion}
use Rattle.cq_value.proofs.Lists.{all_weaker}
use Rattle.cq_tree.specs.declared.expression.Expr.{Expr, Literal, Column, Neg', Add', Sub', Mul', Div', Rem', Case', Coalesce', Row_of-Expr, end_of-Expr, more_of-Expr, Row_of-Arm, end_of-Arm, more_of-Arm}
use Rattle.cq_tree.specs.declared.expression.Cond.{Cond, Compare, IsNull, InResult, And', Or', Not', Always, more_of-Cond, end_of-Cond}
use Rattle.cq_tree.specs.declared.query.Agg.{Agg}
use Rattle.cq_tree.specs.declared.query.Agg.TheVariants as agg
use Rattle.cq_tree.specs.declared.query.FromTree.{FromTree, Table, Result, Cross', Inner', Left', end_of-FromTree, more_of-FromTree, end_of-Query, more_of-Query}
use Rattle.cq_tree.specs.declared.query.FromTree as tree
use Rattle.cq_tree.specs.declared.query.Query.{Query, Query'}
use Rattle.cq_meaning.specs.Lists.{Has}
use Rattle.cq_plan_laws.specs.Scoping.{Names, ArmsName, EachNames, CondNames, AggNames, FromNames, QueryNames}

module _ (P R : ℕ → Type 0) (more : (i : ℕ) → P i → R i) where
  -- with further ones in both
  pub wider : (us : List ℕ) (i : ℕ) → P i ⊎ Has us i → R i ⊎ Has us i
  wider us i (inl p) = inl (more i p)
  wider us i (inr h) = inr h

  mutual
    expr_grows : (e : Expr) → Names P e → Names R e
    expr_grows (Literal v) h = tt
    expr_grows (Column at) h = tt
    expr_grows (Neg' p (more_of-Expr e end_of-Expr)) h = expr_grows e h
    expr_grows (Add' p (more_of-Expr a end_of-Expr) q (more_of-Expr b end_of-Expr)) h = (expr_grows a h.0, expr_grows b h.1)
    expr_grows (Sub' p (more_of-Expr a end_of-Expr) q (more_of-Expr b end_of-Expr)) h = (expr_grows a h.0, expr_grows b h.1)
    expr_grows (Mul' p (more_of-Expr a end_of-Expr) q (more_of-Expr b end_of-Expr)) h = (expr_grows a h.0, expr_grows b h.1)
    expr_grows (Div' p (more_of-Expr e end_of-Expr) c) h = expr_grows e h
    expr_grows (Rem' p (more_of-Expr e end_of-Expr) c) h = expr_grows e h
    expr_grows (Case' s arms p (more_of-Expr other end_of-Expr)) h = (arms_grow arms h.0, expr_grows other h.1)
    expr_grows (Coalesce' s es) h = each_grows es h

    arms_grow : {n : _} (k : Row_of-Arm n) → ArmsName P k → ArmsName R k
    arms_grow end_of-Arm h = tt
    arms_grow (more_of-Arm c e rest) h = (cond_grows c h.0, expr_grows e h.1, arms_grow rest h.2)

    each_grows : {n : _} (k : Row_of-Expr n) → EachNames P k → EachNames R k
    each_grows end_of-Expr h = tt
    each_grows (more_of-Expr e rest) h = (expr_grows e h.0, each_grows rest h.1)

    pub cond_grows : (c : Cond) → CondNames P c → CondNames R c
    cond_grows (Compare op a b) h = (expr_grows a h.0, expr_grows b h.1)
    cond_grows (IsNull e) h = expr_grows e h
    cond_grows (InResult e k) h = (expr_grows e h.0, more k h.1)
    cond_grows (And' p (more_of-Cond a end_of-Cond) q (more_of-Cond b end_of-Cond)) h = (cond_grows a h.0, cond_grows b h.1)
    cond_grows (Or' p (more_of-Cond a end_of-Cond) q (more_of-Cond b end_of-Cond)) h = (cond_grows a h.0, cond_grows b h.1)
    cond_grows (Not' p (more_of-Cond a end_of-Cond)) h = cond_grows a h
    cond_grows Always h = tt

  agg_grows : (a : Agg) → AggNames P a → AggNames R a
  agg_grows agg.CountAll h = tt
  agg_grows (agg.Count e) h = expr_grows e h
  agg_grows (agg.Sum e) h = expr_grows e h
  agg_grows (agg.Min e) h = expr_grows e h
  agg_grows (agg.Max e) h = expr_grows e h

  -- what stands behind a FROM
  pub clauses_grow : (from : FromTree) (filter_ : Cond) (keys : List Expr) (aggs : List Agg) (having : Cond) (items : List Expr) → FromNames R from →
      CondNames P filter_ → AllByRecursion (Names P) keys → AllByRecursion (AggNames P) aggs → CondNames P having → AllByRecursion (Names P) items →
      FromNames R from × CondNames R filter_ × AllByRecursion (Names R) keys × AllByRecursion (AggNames R) aggs × CondNames R having × AllByRecursion (Names R) items
  clauses_grow from filter_ keys aggs having items g f k a h t = (
    g,
    cond_grows filter_ f,
    all_weaker (Names P) (Names R) expr_grows keys k,
    all_weaker (AggNames P) (AggNames R) agg_grows aggs a,
    cond_grows having h,
    all_weaker (Names P) (Names R) expr_grows items t,
  )

  mutual
    from_grows : (f : FromTree) → FromNames P f → FromNames R f
    from_grows (Table t n) h = tt
    from_grows (tree.Sub' p (more_of-Query q end_of-Query)) h = query_grows q h
    from_grows (Result i n) h = more i h
    from_grows (Cross' p (more_of-FromTree a end_of-FromTree) q (more_of-FromTree b end_of-FromTree)) h = (from_grows a h.0, from_grows b h.1)
    from_grows (Inner' p (more_of-FromTree a end_of-FromTree) q (more_of-FromTree b end_of-FromTree) on) h = (from_grows a h.0, from_grows b h.1, cond_grows on h.2)
    from_grows (Left' p (more_of-FromTree a end_of-FromTree) q (more_of-FromTree b end_of-FromTree) on) h = (from_grows a h.0, from_grows b h.1, cond_grows on h.2)

    pub query_grows : (q : Query) → QueryNames P q → QueryNames R q
    query_grows (Query' cs ctes ss subs from filter_ grouped keys aggs having items shown distinct order limit offset names) h =
        clauses_grow from filter_ keys aggs having items (from_grows from h.0) h.1 h.2 h.3 h.4 h.5
