-- The co-location group of each distributed relation is the catalogue's.
use Rattle.std.proofs.Common.{◌≡◌, ◌<◌, ℕ, ◌+◌, Bool, true, false, cond, ◌&&◌, ◌||◌, not, List, [], ◌∷◌, ◌++◌, map, filter, take, length, Option, None, Some, is_some, refl, subst, if◌then◌else◌}
use Rattle.std.specs.Prelude.{⊤}
use Rattle.cq_value.proofs.Truths.{and_left}
use Rattle.cq_tree.specs.declared.expression.Expr.{Expr}
use Rattle.cq_tree.specs.declared.query.FromTree.{FromTree, Table, Sub', Result, Cross', Inner', Left', end_of-FromTree, more_of-FromTree, end_of-Query, more_of-Query}
use Rattle.cq_tree.specs.declared.query.Query.{Query, Query'}
use Rattle.cq_catalog.specs.Contents.{Contents}
use Rattle.cq_catalog.specs.Placement.{place_at}
use Rattle.cq_catalog.specs.Whole.{IsWhole}
use Rattle.cq_catalog.specs.declared.info.Place.{Place}
use Rattle.cq_catalog.specs.declared.info.Place.TheVariants.{Local, Distributed, Reference}
use Rattle.cq_meaning.specs.Queries.{columns_in}
use Rattle.cq_planning.specs.Classes.{first_of_class}
use Rattle.cq_planning.specs.Conjuncts.{conjuncts_of, equalities}
use Rattle.cq_planning.specs.Relations.{Distribution, OuterJoin, Relation, distribution_at, or_column_0, distribution_of, distributions, is_distributed, is_right, is_plain, is_left_in_block, has_distributed_left}
use Rattle.cq_planning.specs.Pushable.{Pushable, distribution_by, pushable_by, pushable_over, relations, pushable}
use Rattle.cq_planning.specs.Joins.{next_start}
use Rattle.cq_plan.proofs.PlaceLaws.{colocation_there}
use Rattle.cq_outline.specs.Joining.{Component, alone, put_component, components_with}
use Rattle.cq_strategies.specs.Components.{IsThere, AreThere, united}

module _ (c : Contents) where
  abbrev IsOf : Option Distribution → Type 0
  IsOf None = ⊤
  IsOf (Some d) = d.colocation < length c.colocations

  abbrev pub AreOf : List Relation → Type 0
  AreOf [] = ⊤
  AreOf (r ∷ rs) = IsOf r.distribution × AreOf rs

  both_of : (rs ss : List Relation) → AreOf rs → AreOf ss → AreOf (rs ++ ss)
  both_of [] ss a b = b
  both_of (r ∷ rs) ss a b = (a.0, both_of rs ss a.1 b)

  of_some : (o : Option Distribution) → is_some o ≡ true → IsOf o → (or_column_0 o).colocation < length c.colocations
  of_some None y h = cc
  of_some (Some d) y h = h

  -- ---- distribution columns

  module _ (test : Relation → Bool) (are : (r : Relation) → test r ≡ true → is_distributed r ≡ true) where
    first_if : (b : Bool) (r : Relation) (rs : List Relation) (d : Distribution) (ds : List Distribution) → test r ≡ b → IsOf r.distribution → (map distribution_of rs ≡ d ∷ ds → d.colocation < length c.colocations) →
        map distribution_of (cond b (r ∷ rs) rs) ≡ d ∷ ds → d.colocation < length c.colocations
    first_if true r rs d ds y h later e =
        let is : distribution_of r ≡ d = cc in
        subst (λ (d : Distribution). d.colocation < length c.colocations) is (of_some r.distribution (are r y) h)
    first_if false r rs d ds y h later e = later e

    first_there : (rs : List Relation) (d : Distribution) (ds : List Distribution) → AreOf rs → distributions test rs ≡ d ∷ ds → d.colocation < length c.colocations
    first_there [] d ds h e = cc
    first_there (r ∷ rs) d ds h e = first_if (test r) r (filter test rs) d ds refl h.0 (first_there rs d ds h.1) e

  -- ---- subqueries

  by_there : (d : Distribution) (grouped : Bool) (keys outputs : List Expr) (o : Option ℕ) (p : Pushable) → d.colocation < length c.colocations → pushable_by d grouped keys outputs o ≡ Some p → p.colocation < length c.colocations
  by_there d grouped keys outputs None p h e = cc
  by_there d grouped keys outputs (Some n) p h e = let is : d.colocation ≡ p.colocation = cc in subst (λ (n : ℕ). n < length c.colocations) is h

  if_there : (b : Bool) (o : Option Pushable) (p : Pushable) → (o ≡ Some p → p.colocation < length c.colocations) → (if b then o else None) ≡ Some p → p.colocation < length c.colocations
  if_there true o p h e = h e
  if_there false o p h e = cc

  over_there : (first : ℕ → ℕ) (rels : List Relation) (ls ps : List Distribution) (grouped : Bool) (keys outputs : List Expr) (limit : Option ℕ) (offset : ℕ) (p : Pushable) →
      ((d : Distribution) (ds : List Distribution) → ls ≡ d ∷ ds → d.colocation < length c.colocations) → pushable_over first rels ls ps grouped keys outputs limit offset ≡ Some p → p.colocation < length c.colocations
  over_there first rels [] ps grouped keys outputs limit offset p h e = cc
  over_there first rels (r ∷ rs) [] grouped keys outputs limit offset p h e = cc
  over_there first rels (r ∷ rs) (q ∷ ps) grouped keys outputs limit offset p h e = if_there _ _ p (by_there r grouped keys outputs _ p (h r rs refl)) e

  of_subquery : (start : ℕ) (o : Option Pushable) → ((p : Pushable) → o ≡ Some p → p.colocation < length c.colocations) → IsOf (distribution_by start o)
  of_subquery start None h = tt
  of_subquery start (Some p) h = h p refl

  of_query : (first : ℕ → ℕ) (rels : List Relation) (grouped : Bool) (keys outputs : List Expr) (limit : Option ℕ) (offset : ℕ) (p : Pushable) → AreOf rels →
      pushable_over first rels (distributions (is_left_in_block rels) rels) (distributions is_plain rels) grouped keys outputs limit offset ≡ Some p → p.colocation < length c.colocations
  of_query first rels grouped keys outputs limit offset p h e =
      over_there first rels (distributions (is_left_in_block rels) rels) (distributions is_plain rels) grouped keys outputs limit offset p
      (λ d ds f. first_there (is_left_in_block rels) (λ r y. and_left (is_distributed r) (not (is_right r) || has_distributed_left rels r.start r.outer) y) rels d ds h f) e

  module _ (whole : IsWhole c) where
    of_table : (start t : ℕ) → IsOf (distribution_at start (place_at c t))
    of_table start t = look (place_at c t) refl
      where
        look : (p : Place) → place_at c t ≡ p → IsOf (distribution_at start p)
        look Local e = tt
        look (Distributed at colocation first_shard) e = colocation_there c t at colocation first_shard whole e
        look (Reference group shard) e = tt

    mutual
      pub relations_there : (from : FromTree) (start : ℕ) (outer : Option OuterJoin) → AreOf (relations c from start outer)
      relations_there (Table t n) start outer = (of_table start t, tt)
      relations_there (Sub' p (more_of-Query q end_of-Query)) start outer = (of_subquery start (pushable c q) (pushable_there q), tt)
      relations_there (Result i n) start outer = (tt, tt)
      relations_there (Cross' p (more_of-FromTree a end_of-FromTree) q (more_of-FromTree b end_of-FromTree)) start outer =
          both_of _ _ (relations_there a start None) (relations_there b (start + columns_in a) None)
      relations_there (Inner' p (more_of-FromTree a end_of-FromTree) q (more_of-FromTree b end_of-FromTree) on) start outer =
          both_of _ _ (relations_there a start None) (relations_there b (start + columns_in a) None)
      relations_there (Left' p (more_of-FromTree a end_of-FromTree) q (more_of-FromTree b end_of-FromTree) on) start outer =
          both_of _ _ (relations_there a start None) (relations_there b (start + columns_in a) _)

      pushable_there : (q : Query) (p : Pushable) → pushable c q ≡ Some p → p.colocation < length c.colocations
      pushable_there (Query' cs ctes ss subs from filter_ grouped keys aggs having items shown distinct order limit offset names) p e =
          of_query (first_of_class (equalities (conjuncts_of filter_ from))) (relations c from 0 None) grouped keys (take shown items) limit offset p (relations_there from 0 None) e

  -- ---- components

  module _ (first : ℕ → ℕ) where
    put_if : (b : Bool) (q p : Component) (qs more : List Component) → IsThere c q → AreThere c qs → AreThere c more → AreThere c (if b then united q p ∷ qs else q ∷ more)
    put_if true q p qs more h hs ms = (h, hs)
    put_if false q p qs more h hs ms = (h, ms)

    put_there : (qs : List Component) (p : Component) → AreThere c qs → IsThere c p → AreThere c (put_component first qs p)
    put_there [] p hs h = (h, tt)
    put_there (q ∷ qs) p hs h = put_if _ q p qs (put_component first qs p) hs.0 hs.1 (put_there qs p hs.1 h)

    with_if : (b : Bool) (found : List Component) (r : Relation) (end : ℕ) → is_plain r ≡ b → AreThere c found → IsOf r.distribution → AreThere c (if b then put_component first found (alone r end) else found)
    with_if true found r end y hs h = put_there found (alone r end) hs (of_some r.distribution (and_left (is_distributed r) (not (is_right r)) y) h)
    with_if false found r end y hs h = hs

    pub components_there : (width : ℕ) (rs : List Relation) (found : List Component) → AreThere c found → AreOf rs → AreThere c (components_with first width found rs)
    components_there width [] found hs os = hs
    components_there width (r ∷ rs) found hs os = components_there width rs _ (with_if (is_plain r) found r (next_start width rs) refl hs os.0) os.1
