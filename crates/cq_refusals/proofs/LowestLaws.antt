-- The lowest refusal of a query by the flaws of its blocks.
use Rattle.std.proofs.Common.{◌≡◌, Bool, List, [], ◌∷◌, map, Option, None, Some, refl, ap, ◌||◌, if◌then◌else◌}
use Rattle.std.specs.List.{list_any}
use Rattle.cq_value.proofs.Lists.{any_map}
use Rattle.cq_tree.specs.declared.query.Query.{Query}
use Rattle.cq_tree.specs.declared.unsupported.Unsupported.{Unsupported}
use Rattle.cq_tree.specs.declared.unsupported.Unsupported.TheVariants.{NeedsRepartition, NoEquality, OuterJoin, LimitWithoutOrder}
use Rattle.cq_catalog.specs.Contents.{Contents}
use Rattle.cq_planning.specs.Blocks.{blocks_in, subqueries_in}
use Rattle.cq_planning.specs.Refusals.{refusal_of_query, is_cut_loosely}
use Rattle.cq_refusals.specs.declared.flaws.Flaws.{Flaws}
use Rattle.cq_refusals.specs.Flaws.{flaws_of, flaws_within, lowest}

-- by the tests of three lists and one more
abbrev by_tests : Bool → Bool → Bool → Bool → Option Unsupported
by_tests a b d e = if a then Some NeedsRepartition else (if b then Some NoEquality else (if d then Some OuterJoin else (if e then Some LimitWithoutOrder else None)))

pub lowest_is : (repartition : Bool) (c : Contents) (q : Query) → lowest (flaws_within repartition c q) (list_any is_cut_loosely (subqueries_in q)) ≡ refusal_of_query repartition c q
lowest_is repartition c q =
    λ i. by_tests (any_map (λ (f : Flaws). f.needs_repartition) (flaws_of repartition c) (blocks_in c q) i) (any_map (λ (f : Flaws). f.lacks_equality) (flaws_of repartition c) (blocks_in c q) i)
    (any_map (λ (f : Flaws). f.has_loose_join) (flaws_of repartition c) (blocks_in c q) i) (list_any is_cut_loosely (subqueries_in q))
