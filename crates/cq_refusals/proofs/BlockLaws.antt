-- The blocks of a query, as code sees them, and their flaws.
use Rattle.std.proofs.Common.{◌≡◌, Bool, true, false, List, ◌∷◌, ◌++◌, map, refl, sym, ap, ◌∙◌, ◌||◌, is_some, if◌then◌else◌}
use Rattle.std.specs.List.{flat_map}
use Rattle.std.proofs.lemmas.List.{map-append}
use denote.Hole.Carrier.{hidden}
use Rattle.cq_tree.specs.declared.expression.Cond.{Cond}
use Rattle.cq_tree.specs.declared.query.FromTree.{FromTree, Sub, Cross, Inner, Left}
use Rattle.cq_tree.specs.declared.query.FromTree.TheBlock.{hidden-the_row-FromTree-1, hidden-the_row-Query-0, hidden-the_row-Query-2}
use Rattle.cq_tree.specs.declared.query.FromTree.TheOpen.{Query-F}
use Rattle.cq_tree.specs.declared.query.Query.{Query, out-Query, roll-Query, roll-out-Query, Row_of-Query, end_of-Query, more_of-Query, items-the_row-Query, items_hidden-the_row-Query-2}
use Rattle.cq_catalog.specs.Contents.{Contents}
use Rattle.cq_planning.specs.Pushable.{pushable}
use Rattle.cq_planning.specs.Blocks.{is_taken_whole, blocks_in, blocks_in_all, blocks_below, blocks_inside}
use Rattle.cq_refusals.specs.declared.flaws.Flaws.{Flaws}
use Rattle.cq_refusals.specs.Flaws.{flaws_of, flaws_within}

module _ (repartition : Bool) (c : Contents) where
  abbrev flaws : List Query → List Flaws
  flaws = map (flaws_of repartition c)

  all_row : {n : _} (qs : Row_of-Query n) → flaws (blocks_in_all c qs) ≡ flat_map (flaws_within repartition c) (items-the_row-Query _ qs)
  all_row end_of-Query = refl
  all_row (more_of-Query q more) = map-append (flaws_of repartition c) (blocks_in c q) (blocks_in_all c more) ∙ ap (λ (rest : List Flaws). flaws_within repartition c q ++ rest) (all_row more)

  all_hidden : (qs : List Query) → flaws (blocks_in_all c (hidden-the_row-Query-2 qs)) ≡ flat_map (flaws_within repartition c) qs
  all_hidden qs = all_row (hidden-the_row-Query-2 qs) ∙ ap (flat_map (flaws_within repartition c)) (items_hidden-the_row-Query-2 qs)

  both : (xs ys : List Query) (fs gs : List Flaws) → flaws xs ≡ fs → flaws ys ≡ gs → flaws (xs ++ ys) ≡ fs ++ gs
  both xs ys fs gs e f = map-append (flaws_of repartition c) xs ys ∙ (λ i. e i ++ f i)

  within_rolled : (x : Query-F FromTree Query) → flaws_within repartition c (roll-Query x) ≡ flaws_of repartition c (roll-Query x)
      ∷ (flat_map (flaws_within repartition c) x.ctes ++ (flaws (blocks_below c (is_taken_whole c (roll-Query x)) x.from) ++ flat_map (flaws_within repartition c) x.subs))
  unfolding roll-Query denote.Hole.Carrier.roll
  within_rolled x = ap (λ (rest : List Flaws). flaws_of repartition c (roll-Query x) ∷ rest)
      (both (blocks_in_all c (hidden-the_row-Query-2 x.ctes)) _ _ _ (all_hidden x.ctes)
      (both (blocks_below c (is_taken_whole c (roll-Query x)) x.from) (blocks_in_all c (hidden-the_row-Query-2 x.subs)) _ _ refl (all_hidden x.subs)))

  -- those of a query that is planned by itself
  pub within_is : (q : Query) → flaws_within repartition c q ≡ flaws_of repartition c q
      ∷ (flat_map (flaws_within repartition c) (out-Query q).ctes ++ (flaws (blocks_below c (is_taken_whole c q) (out-Query q).from) ++ flat_map (flaws_within repartition c) (out-Query q).subs))
  within_is q = ap (flaws_within repartition c) (sym (roll-out-Query q)) ∙ (within_rolled (out-Query q)
      ∙ ap (λ (r : Query). flaws_of repartition c r ∷ (flat_map (flaws_within repartition c) (out-Query q).ctes ++ (flaws (blocks_below c (is_taken_whole c r) (out-Query q).from) ++ flat_map (flaws_within repartition c) (out-Query q).subs))) (roll-out-Query q))

  module _ (whole : Bool) where
    inside_rolled : (x : Query-F FromTree Query) → flaws (blocks_inside c whole (roll-Query x)) ≡ flaws (blocks_below c whole x.from) ++ flat_map (flaws_within repartition c) x.subs
    unfolding roll-Query denote.Hole.Carrier.roll
    inside_rolled x = both (blocks_below c whole x.from) (blocks_in_all c (hidden-the_row-Query-2 x.subs)) _ _ refl (all_hidden x.subs)

    -- those of a subquery that stays in its block
    pub inside_is : (q : Query) → flaws (blocks_inside c whole q) ≡ flaws (blocks_below c whole (out-Query q).from) ++ flat_map (flaws_within repartition c) (out-Query q).subs
    inside_is q = ap (λ (r : Query). flaws (blocks_inside c whole r)) (sym (roll-out-Query q)) ∙ inside_rolled (out-Query q)

    below_sub : (q : Query) → blocks_below c whole (Sub q) ≡ (if whole || is_some (pushable c q) then blocks_inside c whole q else blocks_in c q)
    unfolding hidden-the_row-Query-0 hidden
    below_sub q = refl

    pub below_staying : (q : Query) → (whole || is_some (pushable c q)) ≡ true → flaws (blocks_below c whole (Sub q)) ≡ flaws (blocks_inside c whole q)
    below_staying q y = ap flaws (below_sub q ∙ ap (λ (b : Bool). if b then blocks_inside c whole q else blocks_in c q) y)

    pub below_alone : (q : Query) → (whole || is_some (pushable c q)) ≡ false → flaws (blocks_below c whole (Sub q)) ≡ flaws_within repartition c q
    below_alone q n = ap flaws (below_sub q ∙ ap (λ (b : Bool). if b then blocks_inside c whole q else blocks_in c q) n)

    pub below_cross : (a b : FromTree) → flaws (blocks_below c whole (Cross a b)) ≡ flaws (blocks_below c whole a) ++ flaws (blocks_below c whole b)
    unfolding hidden-the_row-FromTree-1 hidden
    below_cross a b = map-append (flaws_of repartition c) (blocks_below c whole a) (blocks_below c whole b)

    pub below_inner : (a b : FromTree) (on : Cond) → flaws (blocks_below c whole (Inner a b on)) ≡ flaws (blocks_below c whole a) ++ flaws (blocks_below c whole b)
    unfolding hidden-the_row-FromTree-1 hidden
    below_inner a b on = map-append (flaws_of repartition c) (blocks_below c whole a) (blocks_below c whole b)

    pub below_left : (a b : FromTree) (on : Cond) → flaws (blocks_below c whole (Left a b on)) ≡ flaws (blocks_below c whole a) ++ flaws (blocks_below c whole b)
    unfolding hidden-the_row-FromTree-1 hidden
    below_left a b on = map-append (flaws_of repartition c) (blocks_below c whole a) (blocks_below c whole b)

    -- of a subquery as code finds it, by whether it stays
    pub inside_is_below : (from : FromTree) (q seen inner : Query) (b : Bool) → from ≡ Sub q → seen ≡ q → inner ≡ q → b ≡ (whole || is_some (pushable c seen)) → b ≡ true →
        flaws (blocks_inside c whole inner) ≡ flaws (blocks_below c whole from)
    inside_is_below from q seen inner b is s i e y =
        ap (λ (r : Query). flaws (blocks_inside c whole r)) i
        ∙ (sym (below_staying q (ap (λ (r : Query). whole || is_some (pushable c r)) (sym s) ∙ (sym e ∙ y))) ∙ ap (λ (f : FromTree). flaws (blocks_below c whole f)) (sym is))

    pub within_is_below : (from : FromTree) (q seen inner : Query) (b : Bool) → from ≡ Sub q → seen ≡ q → inner ≡ q → b ≡ (whole || is_some (pushable c seen)) → b ≡ false →
        flaws_within repartition c inner ≡ flaws (blocks_below c whole from)
    within_is_below from q seen inner b is s i e n =
        ap (flaws_within repartition c) i
        ∙ (sym (below_alone q (ap (λ (r : Query). whole || is_some (pushable c r)) (sym s) ∙ (sym e ∙ n))) ∙ ap (λ (f : FromTree). flaws (blocks_below c whole f)) (sym is))
