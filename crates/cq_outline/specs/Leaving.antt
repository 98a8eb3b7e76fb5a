-- Which relations of a FROM are planned by themselves.
use Rattle.std.specs.Prelude.{List, Bool, false, not, ◌&&◌, ◌||◌}
use Rattle.cq_planning.specs.Relations.{Relation, is_distributed, is_right, is_left_in_block}
use Rattle.cq_outline.specs.declared.outline.Leaving.{Leaving}
use Rattle.cq_outline.specs.declared.outline.Leaving.TheVariants.{Nothing, Alone, Rights}

-- a distributed relation that doesn't stay in its block: a right side of a LEFT JOIN whose left side has no distributed relation, and in a
-- repartition each right side
abbrev pub leaves : Leaving → List Relation → Relation → Bool
leaves Nothing rels r = false
leaves Alone rels r = is_distributed r && not (is_left_in_block rels r)
leaves Rights rels r = is_distributed r && is_right r

-- a subquery that doesn't: it can't be pushed down, or is such a relation
abbrev pub leaves_subquery : Leaving → List Relation → Relation → Bool
leaves_subquery Nothing rels r = false
leaves_subquery Alone rels r = not (is_distributed r) || leaves Alone rels r
leaves_subquery Rights rels r = not (is_distributed r) || leaves Rights rels r

-- what doesn't stay of the FROM of a subquery that stays
abbrev pub inside : Leaving → Leaving
inside Nothing = Nothing
inside Alone = Alone
inside Rights = Alone
