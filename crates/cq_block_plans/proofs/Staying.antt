-- What stays of a FROM has the relations of the original, with results for what left, so that pushdown makes tasks of it.
use Rattle.std.proofs.Common.{◌≡◌, ℕ, ◌+◌, List, [], ◌∷◌, ◌++◌, map, filter, fold, take, Bool, true, false, not, ◌&&◌, ◌||◌, nat_eq, cond, if◌then◌else◌, Option, None, Some, is_some, refl, sym, ap, ◌∙◌}
use Rattle.std.specs.Prelude.{is_none, position}
use Rattle.std.specs.List.{list_any, list_all, AllByRecursion}
use Rattle.cq_value.proofs.Truths.{not_true, and_left, and_right, both_true, right_false, or_left, or_right}
use Rattle.cq_tree.specs.declared.expression.Cond.{Cond}
use Rattle.cq_tree.specs.declared.expression.Expr.{Expr}
use Rattle.cq_tree.specs.declared.plan.Planner.TheVariants.{FastPath, Router, Pushdown, Repartition, Coordinator}
use Rattle.cq_tree.specs.declared.query.FromTree.{FromTree, Table, Sub', Result, Cross', Inner', Left', end_of-FromTree, more_of-FromTree, end_of-Query, more_of-Query}
use Rattle.cq_tree.specs.declared.query.Query.{Query, Query'}
use Rattle.cq_meaning.specs.Queries.{columns_in, outputs_of}
use Rattle.cq_catalog.specs.Contents.{Contents}
use Rattle.cq_catalog.specs.Placement.{place_at}
use Rattle.cq_planning.specs.Classes.{first_of_class}
use Rattle.cq_planning.specs.Components.{is_one_class, is_of_class, is_one_component, is_located, with_colocated, is_loose}
use Rattle.cq_planning.specs.Conjuncts.{column_of, conjuncts, conjuncts_of, inner_conjuncts, equalities}
use Rattle.cq_planning.specs.Joins.{equalities_of, relations_of, plain_in, are_one_component, has_several_components, has_loose_join}
use Rattle.cq_planning.specs.Pushable.{Pushable, pushable, pushable_over, pushable_by, relations, distribution_by, column_behind}
use Rattle.cq_planning.specs.Relations.{Distribution, OuterJoin, Relation, distribution_at, distribution_of, distributions, is_distributed, is_right, is_plain, is_left_in_block, has_distributed_left, partners}
use Rattle.cq_planning.specs.Routing.{fits_fast_path, fits_router}
use Rattle.cq_outline.specs.declared.outline.Leaving.{Leaving}
use Rattle.cq_outline.specs.declared.outline.Leaving.TheVariants.{Nothing, Alone, Rights}
use Rattle.cq_outline.specs.Leaving.{leaves, leaves_subquery, inside}
use Rattle.cq_outline.specs.Tasking.{is_none_left, planner_of}
use Rattle.cq_pushdown_laws.specs.Pushed.{strays, are_pushed, is_single, joins_pushed, is_pushed, is_over_references}
use Rattle.cq_one_plan.specs.Stays.{leaves_in, leaves_of_all, result_if, from_staying, query_staying}
use Rattle.cq_block_plans.specs.Firm.{result_for, settled, settled_all, AreFirm, IsFirm, IsFirmFrom}
use Rattle.cq_block_plans.specs.Laws.{RelationsStay, StaysArePushed}

-- ---- what doesn't change

map_append : {X Y : Type 0} (f : X → Y) (xs ys : List X) → map f (xs ++ ys) ≡ map f xs ++ map f ys
map_append f [] ys = refl
map_append f (x ∷ xs) ys = ap (λ us. f x ∷ us) (map_append f xs ys)

outputs_stay : (c : Contents) (leaving : Leaving) (q : Query) (l : ℕ) → outputs_of (query_staying c leaving q l) ≡ outputs_of q
outputs_stay c leaving (Query' cs ctes ss subs from filter_ grouped keys aggs having items shown distinct order limit offset names) l = refl

module _ (c : Contents) (leaving : Leaving) where
  -- a FROM has the columns that it had
  pub columns_stay : (rels : List Relation) (f : FromTree) (start : ℕ) (outer : Option OuterJoin) (l : ℕ) → columns_in (from_staying c leaving rels f start outer l) ≡ columns_in f
  columns_stay rels (Table t n) start outer l = by_case (leaves leaving rels (record { start = start; distribution = distribution_at start (place_at c t); outer = outer }))
    where
      by_case : (b : Bool) → columns_in (result_if b l n (Table t n)) ≡ n
      by_case true = refl
      by_case false = refl
  columns_stay rels (Sub' p (more_of-Query q end_of-Query)) start outer l = by_case (leaves_subquery leaving rels (record { start = start; distribution = distribution_by start (pushable c q); outer = outer }))
    where
      by_case : (b : Bool) → columns_in (result_if b l (outputs_of q) (Sub' p (more_of-Query (query_staying c (inside leaving) q (l + 1)) end_of-Query))) ≡ outputs_of q
      by_case true = refl
      by_case false = outputs_stay c (inside leaving) q (l + 1)
  columns_stay rels (Result i n) start outer l = refl
  columns_stay rels (Cross' p (more_of-FromTree a end_of-FromTree) q (more_of-FromTree b end_of-FromTree)) start outer l =
      λ i. columns_stay rels a start None l i + columns_stay rels b (start + columns_in a) None (l + leaves_in a) i
  columns_stay rels (Inner' p (more_of-FromTree a end_of-FromTree) q (more_of-FromTree b end_of-FromTree) on) start outer l =
      λ i. columns_stay rels a start None l i + columns_stay rels b (start + columns_in a) None (l + leaves_in a) i
  columns_stay rels (Left' p (more_of-FromTree a end_of-FromTree) q (more_of-FromTree b end_of-FromTree) on) start outer l =
      λ i. columns_stay rels a start None l i + columns_stay rels b (start + columns_in a) (Some (record { left = start; equalities = equalities (conjuncts on) })) (l + leaves_in a) i

  -- and the conjuncts
  inner_stay : (rels : List Relation) (f : FromTree) (start : ℕ) (outer : Option OuterJoin) (l : ℕ) → inner_conjuncts (from_staying c leaving rels f start outer l) ≡ inner_conjuncts f
  inner_stay rels (Table t n) start outer l = by_case (leaves leaving rels (record { start = start; distribution = distribution_at start (place_at c t); outer = outer }))
    where
      by_case : (b : Bool) → inner_conjuncts (result_if b l n (Table t n)) ≡ []
      by_case true = refl
      by_case false = refl
  inner_stay rels (Sub' p (more_of-Query q end_of-Query)) start outer l = by_case (leaves_subquery leaving rels (record { start = start; distribution = distribution_by start (pushable c q); outer = outer }))
    where
      by_case : (b : Bool) → inner_conjuncts (result_if b l (outputs_of q) (Sub' p (more_of-Query (query_staying c (inside leaving) q (l + 1)) end_of-Query))) ≡ []
      by_case true = refl
      by_case false = refl
  inner_stay rels (Result i n) start outer l = refl
  inner_stay rels (Cross' p (more_of-FromTree a end_of-FromTree) q (more_of-FromTree b end_of-FromTree)) start outer l =
      λ i. inner_stay rels a start None l i ++ inner_stay rels b (start + columns_in a) None (l + leaves_in a) i
  inner_stay rels (Inner' p (more_of-FromTree a end_of-FromTree) q (more_of-FromTree b end_of-FromTree) on) start outer l =
      λ i. (inner_stay rels a start None l i ++ inner_stay rels b (start + columns_in a) None (l + leaves_in a) i) ++ conjuncts on
  inner_stay rels (Left' p (more_of-FromTree a end_of-FromTree) q (more_of-FromTree b end_of-FromTree) on) start outer l = inner_stay rels a start None l

  pub conjuncts_stay : (rels : List Relation) (filter_ : Cond) (f : FromTree) (l : ℕ) → conjuncts_of filter_ (from_staying c leaving rels f 0 None l) ≡ conjuncts_of filter_ f
  conjuncts_stay rels filter_ f l = ap (λ cs. conjuncts filter_ ++ cs) (inner_stay rels f 0 None l)

-- ---- of a fast path or a router's block nothing leaves

module _ (c : Contents) where
  mutual
    pub all_stays : (q : Query) (l : ℕ) → query_staying c Nothing q l ≡ q
    all_stays (Query' cs ctes ss subs from filter_ grouped keys aggs having items shown distinct order limit offset names) l =
        ap (λ f. Query' cs ctes ss subs f filter_ grouped keys aggs having items shown distinct order limit offset names) (from_all_stays (relations c from 0 None) from 0 None (l + leaves_of_all ctes))

    pub from_all_stays : (rels : List Relation) (f : FromTree) (start : ℕ) (outer : Option OuterJoin) (l : ℕ) → from_staying c Nothing rels f start outer l ≡ f
    from_all_stays rels (Table t n) start outer l = refl
    from_all_stays rels (Sub' p (more_of-Query q end_of-Query)) start outer l = ap (λ r. Sub' p (more_of-Query r end_of-Query)) (all_stays q (l + 1))
    from_all_stays rels (Result i n) start outer l = refl
    from_all_stays rels (Cross' p (more_of-FromTree a end_of-FromTree) q (more_of-FromTree b end_of-FromTree)) start outer l =
        λ i. Cross' p (more_of-FromTree (from_all_stays rels a start None l i) end_of-FromTree) q (more_of-FromTree (from_all_stays rels b (start + columns_in a) None (l + leaves_in a) i) end_of-FromTree)
    from_all_stays rels (Inner' p (more_of-FromTree a end_of-FromTree) q (more_of-FromTree b end_of-FromTree) on) start outer l =
        λ i. Inner' p (more_of-FromTree (from_all_stays rels a start None l i) end_of-FromTree) q (more_of-FromTree (from_all_stays rels b (start + columns_in a) None (l + leaves_in a) i) end_of-FromTree) on
    from_all_stays rels (Left' p (more_of-FromTree a end_of-FromTree) q (more_of-FromTree b end_of-FromTree) on) start outer l =
        λ i. Left' p (more_of-FromTree (from_all_stays rels a start None l i) end_of-FromTree)
        q (more_of-FromTree (from_all_stays rels b (start + columns_in a) (Some (record { left = start; equalities = equalities (conjuncts on) })) (l + leaves_in a) i) end_of-FromTree) on

-- ---- relations where some are results

-- a relation that leaves is a right side
leaver_right : (leaving : Leaving) (rels : List Relation) (r : Relation) → leaves leaving rels r ≡ true → is_right r ≡ true
leaver_right Nothing rels r h = cc
leaver_right Alone rels r h = by_case (is_distributed r) (is_right r) (has_distributed_left rels r.start r.outer) h
  where
    by_case : (d o l : Bool) → (d && not (d && (not o || l))) ≡ true → o ≡ true
    by_case true true l h = refl
    by_case true false l h = cc
    by_case false o l h = cc
leaver_right Rights rels r h = and_right (is_distributed r) (is_right r) h

-- and doesn't stay
leaver_gone : (rels : List Relation) (r : Relation) → leaves Alone rels r ≡ true → is_left_in_block rels r ≡ false
leaver_gone rels r h = not_true (is_left_in_block rels r) (and_right (is_distributed r) (not (is_left_in_block rels r)) h)

module _ (leaving : Leaving) (rels : List Relation) where
  -- a test that says the same of each relation as it stands there, and that no relation passes that leaves
  record SameTest (new old : Relation → Bool) (r : Relation) : Type 0 where
    same : new (settled leaving rels r) ≡ old r
    gone : leaves leaving rels r ≡ true → old r ≡ false

  filter_settled : (new old : Relation → Bool) (rs : List Relation) → AllByRecursion (SameTest new old) rs → filter new (map (settled leaving rels) rs) ≡ filter old rs
  filter_settled new old [] h = refl
  filter_settled new old (r ∷ rs) h = by_case (leaves leaving rels r) (filter new (map (settled leaving rels) rs)) (filter_settled new old rs h.1) h.0.same h.0.gone
    where
      by_case : (b : Bool) (us : List Relation) → us ≡ filter old rs → new (if b then result_for r else r) ≡ old r → (b ≡ true → old r ≡ false) →
          cond (new (if b then result_for r else r)) ((if b then result_for r else r) ∷ us) us ≡ cond (old r) (r ∷ filter old rs) (filter old rs)
      by_case true us more e g =
          ap (λ (b : Bool). cond b (result_for r ∷ us) us) (e ∙ g refl)
          ∙ more ∙ sym (ap (λ (b : Bool). cond b (r ∷ filter old rs) (filter old rs)) (g refl))
      by_case false us more e g = λ i. cond (e i) (r ∷ more i) (more i)

  any_settled : (new old : Relation → Bool) (rs : List Relation) → AllByRecursion (λ r. new (settled leaving rels r) ≡ old r) rs → list_any new (map (settled leaving rels) rs) ≡ list_any old rs
  any_settled new old [] h = refl
  any_settled new old (r ∷ rs) h = λ i. h.0 i || any_settled new old rs h.1 i

  -- a relation as it stands there, by whether it leaves
  settled_same : (test : Relation → Bool) (r : Relation) → (leaves leaving rels r ≡ true → test (result_for r) ≡ test r) → test (settled leaving rels r) ≡ test r
  settled_same test r h = by_case (leaves leaving rels r) h
    where
      by_case : (b : Bool) → (b ≡ true → test (result_for r) ≡ test r) → test (if b then result_for r else r) ≡ test r
      by_case true h = h refl
      by_case false h = refl

  plain_settled : (rs : List Relation) → AllByRecursion (SameTest is_plain is_plain) rs
  plain_settled [] = tt
  plain_settled (r ∷ rs) = (record { same = settled_same is_plain r (λ e. sym (not_plain e)); gone = not_plain }, plain_settled rs)
    where
      not_plain : leaves leaving rels r ≡ true → is_plain r ≡ false
      not_plain e = right_false (is_distributed r) (not (is_right r)) (ap not (leaver_right leaving rels r e))

  -- the components are the same
  pub plain_stay : (rs : List Relation) → distributions is_plain (map (settled leaving rels) rs) ≡ distributions is_plain rs
  plain_stay rs = ap (map distribution_of) (filter_settled is_plain is_plain rs (plain_settled rs))

-- ---- pushdown of what stays

module _ (first : ℕ → ℕ) (rels : List Relation) (firm : AreFirm first rels) where
  abbrev now : List Relation
  now = settled_all Alone rels

  abbrev Left : Relation → Type 0
  Left r = is_left_in_block now (settled Alone rels r) ≡ is_left_in_block rels r

  left_settled : (rs : List Relation) → AllByRecursion Left rs → AllByRecursion (SameTest Alone rels (is_left_in_block now) (is_left_in_block rels)) rs
  left_settled [] h = tt
  left_settled (r ∷ rs) h = (record { same = h.0; gone = leaver_gone rels r }, left_settled rs h.1)

  left_stay : distributions (is_left_in_block now) now ≡ distributions (is_left_in_block rels) rels
  left_stay = ap (map distribution_of) (filter_settled Alone rels (is_left_in_block now) (is_left_in_block rels) rels (left_settled rels firm.left))

  -- none strays that isn't loose
  stray_settled : (r : Relation) → Left r → strays first now (settled Alone rels r) ≡ is_loose first now (settled Alone rels r)
  stray_settled r h = by_case (leaves Alone rels r) refl h
    where
      by_case : (b : Bool) → leaves Alone rels r ≡ b → is_left_in_block now (if b then result_for r else r) ≡ is_left_in_block rels r →
          ((is_distributed (if b then result_for r else r) && not (is_left_in_block now (if b then result_for r else r))) || is_loose first now (settled Alone rels r)) ≡ is_loose first now (settled Alone rels r)
      by_case true y e = refl
      by_case false y e = ap (λ (b : Bool). b || is_loose first now (settled Alone rels r)) (ap (λ (b : Bool). is_distributed r && not b) e ∙ y)

  loose_stay : list_any (is_loose first now) now ≡ list_any (is_loose first rels) rels
  loose_stay = any_settled Alone rels (is_loose first now) (is_loose first rels) rels firm.loose

  strays_each : (rs : List Relation) → AllByRecursion Left rs → list_any (strays first now) (map (settled Alone rels) rs) ≡ list_any (is_loose first now) (map (settled Alone rels) rs)
  strays_each [] h = refl
  strays_each (r ∷ rs) h = λ i. stray_settled r h.0 i || strays_each rs h.1 i

  strays_stay : list_any (strays first now) now ≡ list_any (is_loose first rels) rels
  strays_stay = strays_each rels firm.left ∙ loose_stay

  -- so a subquery can be pushed down as before
  pub over_stay : (ls ps : List Distribution) (grouped : Bool) (keys outputs : List Expr) (limit : Option ℕ) (offset : ℕ) →
      pushable_over first now ls ps grouped keys outputs limit offset ≡ pushable_over first rels ls ps grouped keys outputs limit offset
  over_stay [] ps grouped keys outputs limit offset = refl
  over_stay (l ∷ ls) [] grouped keys outputs limit offset = refl
  over_stay (l ∷ ls) (p ∷ ps) grouped keys outputs limit offset =
      ap (λ (b : Bool). if list_all (is_one_component first p) ps && (not b && (is_none limit && (nat_eq offset 0 && (not grouped || list_any (λ e. is_of_class first l.column (column_of e)) keys))))
      then pushable_by l grouped keys outputs (position (λ e. is_of_class first l.column (column_behind grouped keys (column_of e))) outputs) else None) loose_stay

  -- and pushdown makes tasks of what it can push down
  pub pushed_by : (d : Distribution) (ds : List Distribution) → distributions is_plain rels ≡ d ∷ ds → list_all (is_one_component first d) ds ≡ true → list_any (is_loose first rels) rels ≡ false →
      are_pushed first now (distributions is_plain now) ≡ true
  pushed_by d ds e one none =
      ap (are_pushed first now) (plain_stay Alone rels rels ∙ e)
      ∙ both_true (list_all (is_one_component first d) ds) (not (list_any (strays first now) now)) one (ap not (strays_stay ∙ none))

  pub over_settled : (grouped : Bool) (keys outputs : List Expr) (limit : Option ℕ) (offset : ℕ) →
      pushable_over first now (distributions (is_left_in_block now) now) (distributions is_plain now) grouped keys outputs limit offset
      ≡ pushable_over first rels (distributions (is_left_in_block rels) rels) (distributions is_plain rels) grouped keys outputs limit offset
  over_settled grouped keys outputs limit offset =
      (λ i. pushable_over first now (left_stay i) (plain_stay Alone rels rels i) grouped keys outputs limit offset)
      ∙ over_stay (distributions (is_left_in_block rels) rels) (distributions is_plain rels) grouped keys outputs limit offset

-- what a pushable subquery has
pub record Pushes (first : ℕ → ℕ) (rels : List Relation) : Type 0 where
  pub head : Distribution
  pub others : List Distribution
  pub are : distributions is_plain rels ≡ head ∷ others
  pub one : list_all (is_one_component first head) others ≡ true
  pub none : list_any (is_loose first rels) rels ≡ false

pushes_by : (first : ℕ → ℕ) (rels : List Relation) (ls ps : List Distribution) (grouped : Bool) (keys outputs : List Expr) (limit : Option ℕ) (offset : ℕ) → distributions is_plain rels ≡ ps →
    is_some (pushable_over first rels ls ps grouped keys outputs limit offset) ≡ true → Pushes first rels
pushes_by first rels [] ps grouped keys outputs limit offset e h = cc
pushes_by first rels (l ∷ ls) [] grouped keys outputs limit offset e h = cc
pushes_by first rels (l ∷ ls) (p ∷ ps) grouped keys outputs limit offset e h =
    by_case (list_all (is_one_component first p) ps) (list_any (is_loose first rels) rels) (is_none limit && (nat_eq offset 0 && (not grouped || list_any (λ e. is_of_class first l.column (column_of e)) keys)))
    (pushable_by l grouped keys outputs (position (λ e. is_of_class first l.column (column_behind grouped keys (column_of e))) outputs)) refl refl h
  where
    by_case : (one loose more : Bool) (o : Option Pushable) → list_all (is_one_component first p) ps ≡ one → list_any (is_loose first rels) rels ≡ loose →
        is_some (if one && (not loose && more) then o else None) ≡ true → Pushes first rels
    by_case true false more o y n h = record { head = p; others = ps; are = e; one = y; none = n }
    by_case true true more o y n h = cc
    by_case false loose more o y n h = cc

module _ (c : Contents) where
  pushes : (q : Query) → is_some (pushable c q) ≡ true → Pushes (first_of_class (equalities_of q)) (relations_of c q)
  pushes (Query' cs ctes ss subs from filter_ grouped keys aggs having items shown distinct order limit offset names) h =
      let rels : List Relation = relations c from 0 None in
      pushes_by (first_of_class (equalities (conjuncts_of filter_ from))) rels (distributions (is_left_in_block rels) rels) (distributions is_plain rels) grouped keys (take shown items) limit offset refl h

  -- the two sides of a join
  joined : (leaving : Leaving) (rels : List Relation) (a b : FromTree) (start : ℕ) (outer : Option OuterJoin) (l : ℕ) →
      relations c (from_staying c leaving rels a start None l) start None ≡ map (settled leaving rels) (relations c a start None) →
      relations c (from_staying c leaving rels b (start + columns_in a) outer (l + leaves_in a)) (start + columns_in a) outer ≡ map (settled leaving rels) (relations c b (start + columns_in a) outer) →
      relations c (from_staying c leaving rels a start None l) start None
      ++ relations c (from_staying c leaving rels b (start + columns_in a) outer (l + leaves_in a)) (start + columns_in (from_staying c leaving rels a start None l)) outer
      ≡ map (settled leaving rels) (relations c a start None ++ relations c b (start + columns_in a) outer)
  joined leaving rels a b start outer l ea eb =
      (λ i. ea i ++ relations c (from_staying c leaving rels b (start + columns_in a) outer (l + leaves_in a)) (start + columns_stay c leaving rels a start None l i) outer)
      ∙ ap (λ (us : List Relation). map (settled leaving rels) (relations c a start None) ++ us) eb
      ∙ sym (map_append (settled leaving rels) (relations c a start None) (relations c b (start + columns_in a) outer))

  -- one relation
  module _ (rels : List Relation) (start : ℕ) (outer : Option OuterJoin) where
    abbrev sub_at : Option Pushable → Relation
    sub_at o = record { start = start; distribution = distribution_by start o; outer = outer }

    -- a subquery that can be pushed down as before if it stays
    sub_relation : (leaving : Leaving) {p : _} (q : Query) (l n : ℕ) (o : Option Pushable) → pushable c q ≡ o →
        relations c (result_if (leaves_subquery leaving rels (sub_at o)) l n (Sub' p (more_of-Query q end_of-Query))) start outer ≡ settled leaving rels (sub_at o) ∷ []
    sub_relation Nothing q l n o e = ap (λ (o : Option Pushable). sub_at o ∷ []) e
    sub_relation Alone q l n None e = refl
    sub_relation Alone {p} q l n (Some s) e = by_case (leaves Alone rels (sub_at (Some s)))
      where
        by_case : (b : Bool) → relations c (result_if b l n (Sub' p (more_of-Query q end_of-Query))) start outer ≡ (if b then result_for (sub_at (Some s)) else sub_at (Some s)) ∷ []
        by_case true = refl
        by_case false = ap (λ (o : Option Pushable). sub_at o ∷ []) e
    sub_relation Rights q l n None e = refl
    sub_relation Rights {p} q l n (Some s) e = by_case (leaves Rights rels (sub_at (Some s)))
      where
        by_case : (b : Bool) → relations c (result_if b l n (Sub' p (more_of-Query q end_of-Query))) start outer ≡ (if b then result_for (sub_at (Some s)) else sub_at (Some s)) ∷ []
        by_case true = refl
        by_case false = ap (λ (o : Option Pushable). sub_at o ∷ []) e

    bare_settled : (leaving : Leaving) → settled leaving rels (sub_at None) ≡ sub_at None
    bare_settled Nothing = refl
    bare_settled Alone = refl
    bare_settled Rights = refl

  pub inside_pushable : (leaving : Leaving) (q : Query) (l : ℕ) → pushable c (query_staying c Alone q l) ≡ pushable c q → pushable c (query_staying c (inside leaving) q l) ≡ pushable c q
  inside_pushable Nothing q l e = ap (pushable c) (all_stays c q l)
  inside_pushable Alone q l e = e
  inside_pushable Rights q l e = e

  mutual
    -- a subquery that stays can be pushed down as before
    pub pushable_stays : (q : Query) (l : ℕ) → IsFirm c q → pushable c (query_staying c Alone q l) ≡ pushable c q
    pushable_stays (Query' cs ctes ss subs from filter_ grouped keys aggs having items shown distinct order limit offset names) l firm =
        let rels : List Relation = relations c from 0 None in
        let first : ℕ → ℕ = first_of_class (equalities (conjuncts_of filter_ from)) in
        let f : FromTree = from_staying c Alone rels from 0 None (l + leaves_of_all ctes) in
        let e : relations c f 0 None ≡ settled_all Alone rels = from_relations Alone rels from 0 None (l + leaves_of_all ctes) firm.1 in
        (λ i. pushable_over (first_of_class (equalities (conjuncts_stay c Alone rels filter_ from (l + leaves_of_all ctes) i))) (e i) (distributions (is_left_in_block (e i)) (e i)) (distributions is_plain (e i)) grouped keys (take shown items) limit offset)
        ∙ over_settled first rels firm.0 grouped keys (take shown items) limit offset

    pub from_relations : (leaving : Leaving) (rels : List Relation) (f : FromTree) (start : ℕ) (outer : Option OuterJoin) (l : ℕ) → IsFirmFrom c f →
        relations c (from_staying c leaving rels f start outer l) start outer ≡ map (settled leaving rels) (relations c f start outer)
    from_relations leaving rels (Table t n) start outer l firm = by_case (leaves leaving rels r)
      where
        r : Relation
        r = record { start = start; distribution = distribution_at start (place_at c t); outer = outer }

        by_case : (b : Bool) → relations c (result_if b l n (Table t n)) start outer ≡ (if b then result_for r else r) ∷ []
        by_case true = refl
        by_case false = refl
    from_relations leaving rels (Sub' p (more_of-Query q end_of-Query)) start outer l firm =
        sub_relation rels start outer leaving {p = p} (query_staying c (inside leaving) q (l + 1)) l (outputs_of q) (pushable c q) (inside_pushable leaving q (l + 1) (pushable_stays q (l + 1) firm))
    from_relations leaving rels (Result i n) start outer l firm = ap (λ (r : Relation). r ∷ []) (sym (bare_settled rels start outer leaving))
    from_relations leaving rels (Cross' p (more_of-FromTree a end_of-FromTree) q (more_of-FromTree b end_of-FromTree)) start outer l firm =
        joined leaving rels a b start None l (from_relations leaving rels a start None l firm.0) (from_relations leaving rels b (start + columns_in a) None (l + leaves_in a) firm.1)
    from_relations leaving rels (Inner' p (more_of-FromTree a end_of-FromTree) q (more_of-FromTree b end_of-FromTree) on) start outer l firm =
        joined leaving rels a b start None l (from_relations leaving rels a start None l firm.0) (from_relations leaving rels b (start + columns_in a) None (l + leaves_in a) firm.1)
    from_relations leaving rels (Left' p (more_of-FromTree a end_of-FromTree) q (more_of-FromTree b end_of-FromTree) on) start outer l firm =
        joined leaving rels a b start (Some (record { left = start; equalities = equalities (conjuncts on) })) l (from_relations leaving rels a start None l firm.0) (from_relations leaving rels b (start + columns_in a) (Some (record { left = start; equalities = equalities (conjuncts on) })) (l + leaves_in a) firm.1)

  -- ---- what pushdown takes

  pub single_stays : (leaving : Leaving) (rels : List Relation) (f : FromTree) (start : ℕ) (outer : Option OuterJoin) (l : ℕ) → is_single f ≡ true → is_single (from_staying c leaving rels f start outer l) ≡ true
  single_stays leaving rels (Table t n) start outer l h = by_case (leaves leaving rels (record { start = start; distribution = distribution_at start (place_at c t); outer = outer }))
    where
      by_case : (b : Bool) → is_single (result_if b l n (Table t n)) ≡ true
      by_case true = refl
      by_case false = refl
  single_stays leaving rels (Sub' p (more_of-Query q end_of-Query)) start outer l h = by_case (leaves_subquery leaving rels (sub_at rels start outer (pushable c q)))
    where
      by_case : (b : Bool) → is_single (result_if b l (outputs_of q) (Sub' p (more_of-Query (query_staying c (inside leaving) q (l + 1)) end_of-Query))) ≡ true
      by_case true = refl
      by_case false = refl
  single_stays leaving rels (Result i n) start outer l h = refl
  single_stays leaving rels (Cross' p (more_of-FromTree a end_of-FromTree) q (more_of-FromTree b end_of-FromTree)) start outer l h = cc
  single_stays leaving rels (Inner' p (more_of-FromTree a end_of-FromTree) q (more_of-FromTree b end_of-FromTree) on) start outer l h = cc
  single_stays leaving rels (Left' p (more_of-FromTree a end_of-FromTree) q (more_of-FromTree b end_of-FromTree) on) start outer l h = cc

  -- where something leaves, a subquery that stays can be pushed down
  pub staying_pushable : (leaving : Leaving) (rels : List Relation) (start : ℕ) (outer : Option OuterJoin) (o : Option Pushable) → inside leaving ≡ Alone → leaves_subquery leaving rels (sub_at rels start outer o) ≡ false → is_some o ≡ true
  staying_pushable Nothing rels start outer o e h = cc
  staying_pushable Alone rels start outer None e h = cc
  staying_pushable Alone rels start outer (Some s) e h = refl
  staying_pushable Rights rels start outer None e h = cc
  staying_pushable Rights rels start outer (Some s) e h = refl

  -- the relations that stay of a query
  own_pushed : (filter_ : Cond) (from : FromTree) (l : ℕ) → AreFirm (first_of_class (equalities (conjuncts_of filter_ from))) (relations c from 0 None) → IsFirmFrom c from →
      Pushes (first_of_class (equalities (conjuncts_of filter_ from))) (relations c from 0 None) → let f = from_staying c Alone (relations c from 0 None) from 0 None l in
      are_pushed (first_of_class (equalities (conjuncts_of filter_ f))) (relations c f 0 None) (distributions is_plain (relations c f 0 None)) ≡ true
  own_pushed filter_ from l firm below u =
      (λ i. are_pushed (first_of_class (equalities (conjuncts_stay c Alone (relations c from 0 None) filter_ from l i))) (from_relations Alone (relations c from 0 None) from 0 None l below i)
      (distributions is_plain (from_relations Alone (relations c from 0 None) from 0 None l below i)))
      ∙ pushed_by (first_of_class (equalities (conjuncts_of filter_ from))) (relations c from 0 None) firm u.head u.others u.are u.one u.none

  mutual
    pub query_pushed : (q : Query) (l : ℕ) → IsFirm c q → Pushes (first_of_class (equalities_of q)) (relations_of c q) → is_pushed c (query_staying c Alone q l) ≡ true
    query_pushed (Query' cs ctes ss subs from filter_ grouped keys aggs having items shown distinct order limit offset names) l firm u =
        let f : FromTree = from_staying c Alone (relations c from 0 None) from 0 None (l + leaves_of_all ctes) in
        both_true (joins_pushed c f) (are_pushed (first_of_class (equalities (conjuncts_of filter_ f))) (relations c f 0 None) (distributions is_plain (relations c f 0 None)))
        (joins_stay Alone refl (relations c from 0 None) from 0 None (l + leaves_of_all ctes) firm.1) (own_pushed filter_ from (l + leaves_of_all ctes) firm.0 firm.1 u)

    pub joins_stay : (leaving : Leaving) → inside leaving ≡ Alone → (rels : List Relation) (f : FromTree) (start : ℕ) (outer : Option OuterJoin) (l : ℕ) → IsFirmFrom c f → joins_pushed c (from_staying c leaving rels f start outer l) ≡ true
    joins_stay leaving some rels (Table t n) start outer l firm = by_case (leaves leaving rels (record { start = start; distribution = distribution_at start (place_at c t); outer = outer }))
      where
        by_case : (b : Bool) → joins_pushed c (result_if b l n (Table t n)) ≡ true
        by_case true = refl
        by_case false = refl
    joins_stay leaving some rels (Sub' p (more_of-Query q end_of-Query)) start outer l firm =
        by_case (leaves_subquery leaving rels (sub_at rels start outer (pushable c q))) refl (λ h. query_pushed q (l + 1) firm (pushes q h))
      where
        by_case : (b : Bool) → leaves_subquery leaving rels (sub_at rels start outer (pushable c q)) ≡ b → (is_some (pushable c q) ≡ true → is_pushed c (query_staying c Alone q (l + 1)) ≡ true) →
            joins_pushed c (result_if b l (outputs_of q) (Sub' p (more_of-Query (query_staying c (inside leaving) q (l + 1)) end_of-Query))) ≡ true
        by_case true e h = refl
        by_case false e h =
            let can : is_some (pushable c q) ≡ true = staying_pushable leaving rels start outer (pushable c q) some e in
            let is : is_some (pushable c (query_staying c (inside leaving) q (l + 1))) ≡ true = ap is_some (inside_pushable leaving q (l + 1) (pushable_stays q (l + 1) firm)) ∙ can in
            ap (λ (b : Bool). if b then is_pushed c (query_staying c (inside leaving) q (l + 1)) else is_over_references c (query_staying c (inside leaving) q (l + 1))) is
            ∙ ap (λ (out : Leaving). is_pushed c (query_staying c out q (l + 1))) some ∙ h can
    joins_stay leaving some rels (Result i n) start outer l firm = refl
    joins_stay leaving some rels (Cross' p (more_of-FromTree a end_of-FromTree) q (more_of-FromTree b end_of-FromTree)) start outer l firm =
        both_true (joins_pushed c (from_staying c leaving rels a start None l)) (joins_pushed c (from_staying c leaving rels b (start + columns_in a) None (l + leaves_in a)))
        (joins_stay leaving some rels a start None l firm.0) (joins_stay leaving some rels b (start + columns_in a) None (l + leaves_in a) firm.1)
    joins_stay leaving some rels (Inner' p (more_of-FromTree a end_of-FromTree) q (more_of-FromTree b end_of-FromTree) on) start outer l firm =
        both_true (joins_pushed c (from_staying c leaving rels a start None l)) (joins_pushed c (from_staying c leaving rels b (start + columns_in a) None (l + leaves_in a)))
        (joins_stay leaving some rels a start None l firm.0) (joins_stay leaving some rels b (start + columns_in a) None (l + leaves_in a) firm.1)
    joins_stay leaving some rels (Left' p (more_of-FromTree a end_of-FromTree) q (more_of-FromTree b end_of-FromTree) on) start outer l firm =
        let o : Option OuterJoin = Some (record { left = start; equalities = equalities (conjuncts on) }) in
        let fa : FromTree = from_staying c leaving rels a start None l in
        let fb : FromTree = from_staying c leaving rels b (start + columns_in a) o (l + leaves_in a) in
        both_true (is_single fb) (joins_pushed c fa && joins_pushed c fb) (single_stays leaving rels b (start + columns_in a) o (l + leaves_in a) firm.2)
        (both_true (joins_pushed c fa) (joins_pushed c fb) (joins_stay leaving some rels a start None l firm.0) (joins_stay leaving some rels b (start + columns_in a) o (l + leaves_in a) firm.1))

-- ---- a block that pushdown takes

-- where no distributed relation is plain, none is co-located, and each right side that stays is loose
module _ (first : ℕ → ℕ) (rels : List Relation) (bare : distributions is_plain rels ≡ []) where
  never : (k : ℕ) (xs : List ℕ) → list_any (is_located first rels [] k) xs ≡ false
  never k [] = refl
  never k (x ∷ xs) = λ i. (list_any (λ (d : Distribution). nat_eq d.colocation k && is_one_class first d.column x) (bare i) || false) || never k xs i

  none_together : (rs : List Relation) → fold (with_colocated first rels) [] rs ≡ []
  none_together [] = refl
  none_together (r ∷ rs) = ap (λ (ds : List Distribution). fold (with_colocated first rels) ds rs) own ∙ none_together rs
    where
      own : with_colocated first rels [] r ≡ []
      own = ap (λ (b : Bool). if b then distribution_of r ∷ [] else []) (right_false (is_distributed r) _ (never (distribution_of r).colocation (partners r r.outer)))

  loose_each : (r : Relation) → is_plain r ≡ false → is_left_in_block rels r ≡ true → is_loose first rels r ≡ true
  loose_each r plain left =
      both_true (is_left_in_block rels r) _ left (both_true (is_right r) _ (right_is (is_distributed r) (is_right r) plain (and_left (is_distributed r) (not (is_right r) || has_distributed_left rels r.start r.outer) left))
      (ap (λ (ds : List Distribution). not (list_any (λ (d : Distribution). nat_eq d.column (distribution_of r).column) ds)) (none_together rels)))
    where
      right_is : (d o : Bool) → (d && not o) ≡ false → d ≡ true → o ≡ true
      right_is true true p h = refl
      right_is true false p h = cc
      right_is false o p h = cc

  loose_some : (rs : List Relation) → distributions is_plain rs ≡ [] → is_none_left (distributions (is_left_in_block rels) rs) ≡ false → list_any (is_loose first rels) rs ≡ true
  loose_some [] e h = cc
  loose_some (r ∷ rs) e h = by_case (is_plain r) (is_left_in_block rels r) (loose_each r) (loose_some rs) e h
    where
      by_case : (p s : Bool) → (p ≡ false → s ≡ true → is_loose first rels r ≡ true) → (distributions is_plain rs ≡ [] → is_none_left (distributions (is_left_in_block rels) rs) ≡ false → list_any (is_loose first rels) rs ≡ true) →
          map distribution_of (cond p (r ∷ filter is_plain rs) (filter is_plain rs)) ≡ [] → is_none_left (map distribution_of (cond s (r ∷ filter (is_left_in_block rels) rs) (filter (is_left_in_block rels) rs))) ≡ false →
          (is_loose first rels r || list_any (is_loose first rels) rs) ≡ true
      by_case true s own more e h = cc
      by_case false true own more e h = or_left (is_loose first rels r) (list_any (is_loose first rels) rs) (own refl refl)
      by_case false false own more e h = or_right (is_loose first rels r) (list_any (is_loose first rels) rs) (more e h)

taken_by_pushdown : (fast routed none several : Bool) → (if fast then FastPath else (if routed then Router else (if none then Coordinator else (if several then Repartition else Pushdown)))) ≡ Pushdown →
    ((fast || routed) ≡ false) × (none ≡ false) × (several ≡ false)
taken_by_pushdown true routed none several h = cc
taken_by_pushdown false true none several h = cc
taken_by_pushdown false false true several h = cc
taken_by_pushdown false false false true h = cc
taken_by_pushdown false false false false h = (refl, refl, refl)

-- a block that pushdown takes and that isn't refused
pub block_pushes : (c : Contents) (q : Query) → planner_of c q ≡ Pushdown → has_loose_join c q ≡ false → Pushes (first_of_class (equalities_of q)) (relations_of c q)
block_pushes c q h loose = by_plain (plain_in c q) refl (not_false (are_one_component first (plain_in c q)) took.2)
  where
    first : ℕ → ℕ
    first = first_of_class (equalities_of q)

    took : ((fits_fast_path c q || fits_router c q) ≡ false) × (is_none_left (distributions (is_left_in_block (relations_of c q)) (relations_of c q)) ≡ false) × (has_several_components c q ≡ false)
    took = taken_by_pushdown (fits_fast_path c q) (fits_router c q) (is_none_left (distributions (is_left_in_block (relations_of c q)) (relations_of c q))) (has_several_components c q) h

    not_false : (b : Bool) → not b ≡ false → b ≡ true
    not_false true h = refl
    not_false false h = cc

    none_loose : list_any (is_loose first (relations_of c q)) (relations_of c q) ≡ false
    none_loose = sym (ap (λ (b : Bool). not b && list_any (is_loose first (relations_of c q)) (relations_of c q)) took.0) ∙ loose

    by_plain : (ds : List Distribution) → plain_in c q ≡ ds → are_one_component first (plain_in c q) ≡ true → Pushes first (relations_of c q)
    by_plain [] e one = let bad : true ≡ false = sym (loose_some first (relations_of c q) e (relations_of c q) e took.1) ∙ none_loose in cc
    by_plain (d ∷ ds) e one = record { head = d; others = ds; are = e; one = sym (ap (are_one_component first) e) ∙ one; none = none_loose }

pub relations_stay : RelationsStay
relations_stay c leaving rels f start outer l firm = from_relations c leaving rels f start outer l firm

pub stays_are_pushed : StaysArePushed
stays_are_pushed c q l firm = (λ h. query_pushed c q l firm (pushes c q h), λ h loose. query_pushed c q l firm (block_pushes c q h loose))
